-- Events, the bytes of their kinds, and their order in a plan. Assumes nothing.
use Rattle.std.proofs.Common.{◌≡◌, ℕ, ◌+◌, ◌≤◌, Bool, true, false, eqb, cond, ◌∷◌, drop, Some, None, refl, arith}
use Rattle.std.specs.Option.{ok_or}
use Rattle.std.specs.Result.{result_unwrap_or}
use Rattle.plan.specs.declared.event.Event.{Event}
use Rattle.plan.specs.declared.event.Event.TheVariants as event
use Rattle.plan.specs.declared.event.Kind.TheVariants.{Request, Step, Leave}
use Rattle.plan.specs.declared.event.UnknownKind.{UnknownKind}
use Rattle.plan.specs.Kinds.{kind_of, made}
use Rattle.plan.specs.Plans.{event_of, event_at, model}
use Rattle.plan.specs.declared.plan.Plan.{Plan}
use Rattle.numbers.specs.Names.{named}
use Rattle.numbers.proofs.NameLaws.{length_listed, named_next}

by_test : (e : UnknownKind) (k : ℕ) (one two three : Bool) → made (result_unwrap_or (ok_or (cond one (Some Request) (cond two (Some Step) (cond three (Some Leave) None))) e) Leave) k ≡ cond one (event.Request k) (cond two (event.Step k) (event.Leave k))
by_test e k true two three = refl
by_test e k false true three = refl
by_test e k false false true = refl
by_test e k false false false = refl

-- an event made of the kind that a byte stands for, or of a leave
pub made_event : (e : UnknownKind) (n k : ℕ) → made (result_unwrap_or (ok_or (kind_of n) e) Leave) k ≡ event_of n k
made_event e n k = by_test e k (eqb n 1) (eqb n 2) (eqb n 3)

-- an event that a plan has begins what is left before it
pub event_next : (p : Plan) (i : ℕ) (e : Event) → named (model p).events (i + 1) ≡ Some e → (i + 1 ≤ p.draft.header.count) × (drop i (model p).events ≡ e ∷ drop (i + 1) (model p).events)
event_next p i e is =
    let next = named_next (model p).events i e is in
    let long = length_listed (event_at p.draft.header p.draft.file.now) p.draft.header.count in
    (omega (arith, next.0, long), next.1)

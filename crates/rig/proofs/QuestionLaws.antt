-- What the questions answer of an agent that is there, and of one that is not. Assumes nothing.
use Rattle.std.proofs.Common.{◌≡◌, ℕ, ◌+◌, Bool, not, List, map, length, refl, Some, None, Ok, Err, Option, Result, MatchOption, sym, ap, ◌∙◌, arith}
use Rattle.std.specs.Option.{option_map, ok_or}
use Rattle.std.specs.Result.{result_ok}
use Rattle.std.specs.List.{position, count_by}
use Rattle.std.proofs.lemmas.List.{length-map}
use Rattle.numbers.specs.First.{first_of}
use Rattle.numbers.specs.Names.{named}
use Rattle.tally.specs.Counts.{count_names}
use Rattle.refusal.specs.Checks.{◌then◌, Check, refuse_if}
use Rattle.refusal.specs.declared.Refusal.{Refusal}
use Rattle.refusal.specs.declared.Refusal.TheVariants.{NoSuchAgent}
use Rattle.model.specs.Rigs.{Rig, Seat, agent_check, section_in, section_answer, figures_answer, figure_in, is_holding, is_asking, holder, asking_now}
use Rattle.rules.specs.declared.agent.Section.{Section}
use Rattle.rules.specs.declared.agent.Section.TheVariants.{Idle}
use Rattle.rig.specs.Worlds.{seat_over}
use Rattle.rig.specs.declared.seat.Seat as code
use Rattle.rig.proofs.NameChains.{named_as, first_placed, count_placed}
use Rattle.rig.proofs.SeatLaws.{within_some, within_none, named_map_some, named_map_none}

-- after a check that passed, and after one that refused
pub then_passed : {A : Type 0} (c : Check) (r : Result A Refusal) → c ≡ Ok tt → (c then r) ≡ r
then_passed c r e = ap (λ d. d then r) e

pub then_refused : {A : Type 0} (c : Check) (r : Result A Refusal) (x : Refusal) → c ≡ Err x → (c then r) ≡ Err x
then_refused c r x e = ap (λ d. d then r) e

module _ {P : Type 0} (g : Rig P) (k : ℕ) where
  pub agent_there : (s : Seat P) → named g.seats k ≡ Some s → agent_check g k ≡ Ok tt
  agent_there s e = ap (λ b. refuse_if (not b) (NoSuchAgent k)) (within_some g.seats k s e)

  pub agent_missing : named g.seats k ≡ None → agent_check g k ≡ Err (NoSuchAgent k)
  agent_missing e = ap (λ b. refuse_if (not b) (NoSuchAgent k)) (within_none g.seats k e)

  pub section_there : (s : Seat P) → named g.seats k ≡ Some s → section_answer g k ≡ Ok s.agent.section
  section_there s e = then_passed (agent_check g k) _ (agent_there s e) ∙ ap (λ o. Ok (section_in o)) e

  pub section_missing : named g.seats k ≡ None → section_answer g k ≡ Err (NoSuchAgent k)
  section_missing e = then_refused (agent_check g k) _ _ (agent_missing e)

  pub figures_there : (s : Seat P) → named g.seats k ≡ Some s → figures_answer g k ≡ Ok (record { steps = s.steps; entries = s.entries; refused = s.refused; heard = g.heard; crowd = g.crowd })
  figures_there s e =
      then_passed (agent_check g k) _ (agent_there s e)
      ∙ ap (λ o. Ok (record { steps = figure_in (λ t. t.steps) o; entries = figure_in (λ t. t.entries) o; refused = figure_in (λ t. t.refused) o; heard = g.heard; crowd = g.crowd })) e

  pub figures_missing : named g.seats k ≡ None → figures_answer g k ≡ Err (NoSuchAgent k)
  figures_missing e = then_refused (agent_check g k) _ _ (agent_missing e)

-- the section of an agent that is lent, and idle where none is
pub section_lent : {P Q : Type 0} (now' : Q → code.Seat P) (xs : List (code.Seat P)) (m k : ℕ) (o : Option Q) (r : Section) → option_map now' o ≡ named xs k → MatchOption o (r ≡ Idle) (λ x. r ≡ (now' x).agent.section) → r ≡ section_in (named (map (seat_over m) xs) k)
section_lent now' xs m k None r e h = h ∙ sym (ap section_in (named_map_none (seat_over m) xs k e))
section_lent now' xs m k (Some x) r e h = h ∙ sym (ap section_in (named_map_some (seat_over m) xs k (now' x) e))

-- a seat that is asked for: lent, or refused since there is none
module _ {P Q : Type 0} (now' : Q → code.Seat P) (xs : List (code.Seat P)) (k : ℕ) where
  pub seat_there : (o : Option Q) (r : Result Q Refusal) (x : Q) → option_map now' o ≡ named xs k → o ≡ result_ok r → r ≡ Ok x → Some (now' x) ≡ named xs k
  seat_there o r x found kept is = ap (λ q. option_map now' (result_ok q)) (sym is) ∙ ap (option_map now') (sym kept) ∙ found

  pub seat_missing : (o : Option Q) (r : Result Q Refusal) (e : Refusal) → option_map now' o ≡ named xs k → r ≡ ok_or o (NoSuchAgent k) → r ≡ Err e → (None ≡ named xs k) × (e ≡ NoSuchAgent k)
  seat_missing None r e found asked is = (found, cc)
  seat_missing (Some x) r e found asked is = let z : ◌≡◌ {A = ℕ} 0 1 = cc (asked, is) in absurd (omega arith)

-- the agents, tested one after another
module _ {P : Type 0} (m : ℕ) (xs : List (code.Seat P)) (g : Rig P) (same : map (seat_over m) xs ≡ g.seats) where
  pub holder_placed : option_map (λ i. i + 1) (position (λ s. is_holding s.agent.section) xs) ≡ holder g
  holder_placed =
      let test : List (Seat P) → ℕ → Bool = λ ys k. is_holding (section_in (named ys k)) in
      first_placed (λ s. is_holding s.agent.section) (test (map (seat_over m) xs)) xs (named_as (seat_over m) (λ s. is_holding s.agent.section) (λ o. is_holding (section_in o)) xs (λ x. refl))
      ∙ ap (first_of (test (map (seat_over m) xs)) 1) (sym (length-map xs (seat_over m)))
      ∙ ap (λ ys. first_of (test ys) 1 (length ys)) same

  pub asking_placed : count_by (λ s. is_asking s.agent.section) xs ≡ asking_now g
  asking_placed =
      let test : List (Seat P) → ℕ → Bool = λ ys k. is_asking (section_in (named ys k)) in
      sym (count_placed (λ s. is_asking s.agent.section) (test (map (seat_over m) xs)) xs (named_as (seat_over m) (λ s. is_asking s.agent.section) (λ o. is_asking (section_in o)) xs (λ x. refl)))
      ∙ ap (count_names (test (map (seat_over m) xs))) (sym (length-map xs (seat_over m)))
      ∙ ap (λ ys. count_names (test ys) (length ys)) same

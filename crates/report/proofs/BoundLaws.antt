-- Figures and the holder's number are small. Assumes nothing.
use Rattle.std.proofs.Common.{◌≡◌, ℕ, ◌+◌, ◌<◌, ◌≤◌, Bool, Some, None, Ok, Option, sym, refl, subst, ⊎_elim, arith}
use Rattle.numbers.specs.First.{first_of}
use Rattle.numbers.specs.Names.{named}
use Rattle.numbers.proofs.FirstLaws.{first_cases}
use Rattle.rules.specs.declared.rule.Rule.{Ghosts}
use Rattle.model.specs.Rigs.{figures_answer}
use Rattle.model.specs.declared.Figures.{Figures}
use Rattle.rig.specs.Seating.{seated_in}
use Rattle.rig.specs.Worlds.{rig_of, seat_over}
use Rattle.rig.specs.declared.rig.Rig.{Rig}
use Rattle.rig.specs.declared.seat.Seat.{Seat}
use Rattle.rig.proofs.BoundLaws.{peak_below}
use Rattle.rig.proofs.QuestionLaws.{figures_there, figures_missing}
use Rattle.rig.proofs.SeatLaws.{named_map_some, named_map_none}
use Rattle.report.specs.Lines.{holder_number}

-- no figure of an agent is larger than the calls that a rig hears
pub record Small (f : Figures) : Type 0 where
  pub steps : f.steps ≤ 1000000
  pub entries : f.entries ≤ 1000000
  pub refused : f.refused ≤ 1000000

module _ {S R P : Type 0} {r : Ghosts R P} (g : Rig S R P r) (k : ℕ) (f : Figures) (told : Ok f ≡ figures_answer (rig_of g) k) where
  small_of : (o : Option (Seat P)) → o ≡ named (seated_in g.seats) k → Small f
  small_of None e =
      let missing = figures_missing (rig_of g) k (named_map_none (seat_over g.cells) (seated_in g.seats) k e) in
      let z : ◌≡◌ {A = ℕ} 0 1 = cc (told, missing) in
      absurd (omega arith)
  small_of (Some s) e =
      let there = figures_there (rig_of g) k (seat_over g.cells s) (named_map_some (seat_over g.cells) (seated_in g.seats) k s e) in
      let few = peak_below (seated_in g.seats) k s e in
      let steps : f.steps ≡ s.steps = cc (told, there) in
      let entries : f.entries ≡ s.entries = cc (told, there) in
      let refused : f.refused ≡ s.refused = cc (told, there) in
      record {
        steps = omega (arith, g.counted, g.heard_few);
        entries = omega (arith, g.counted, g.heard_few);
        refused = omega (arith, g.counted, g.heard_few);
      }

  pub figures_small : Small f
  figures_small = small_of (named (seated_in g.seats) k) refl

-- the first of n names is no larger than n
pub first_small : (test : ℕ → Bool) (n : ℕ) → n ≤ 16 → holder_number (first_of test 1 n) < 100
first_small test n few =
    ⊎_elim
    (λ none. subst (λ o. holder_number o < 100) (sym none.0) (omega arith))
    (λ some. subst (λ o. holder_number o < 100) (sym some.1) (omega (arith, some.2.below)))
    (first_cases test 1 n (1 + n) refl)

use Rattle.std.proofs.Common.{◌≡◌, ℕ, ◌+◌, ◌-◌, ◌<◌, ◌≤◌, List, [], ◌∷◌, ◌++◌, length, get_or, ap, ◌∙◌, ⊎_elim, arith, rules}
use Rattle.std.proofs.lemmas.Bool.{cases_eq}
use Rattle.std.proofs.lemmas.List.{get_or_append_left}
use Rattle.std.proofs.Math.Seq.{get_or-append_seam}
use Rattle.renumbered.specs.Renumberings.{entry}
use Rattle.renumbered.proofs.TableLaws.{table_arranged}
use Rattle.renumbered.proofs.numbering.Numbering.from_row.Goals as goal
use Rattle.renumbered.proofs.numbering.Numbering.from_row.Goals.{else-loop-name-test, then-loop-name-test+else-name-name-end}

-- one number more that is stored
one_more : (row : ℕ → ℕ) (names : List ℕ) (i x : ℕ) → length names + 1 ≡ i → x ≡ row i → ((y : ℕ) → 1 ≤ y → y < i → entry names y ≡ row y) → (y : ℕ) → 1 ≤ y → y ≤ i → entry (names ++ x ∷ []) y ≡ row y
one_more row names i x long is before y a b =
    ⊎_elim
    (λ last. let end : y - 1 ≡ length names = omega arith in ap (λ k. get_or (names ++ x ∷ []) k 0) end ∙ get_or-append_seam names x [] 0 ∙ is ∙ ap row (omega (arith, last)))
    (λ other. get_or_append_left names (x ∷ []) 0 (y - 1) (omega arith) ∙ before y a (omega arith))
    (cases_eq i y)

pub invariant_of-result : goal.invariant_of-result
invariant_of-result g c =
    let row = g.R.Row.numbers c.args.row.now in
    let ns = c.loop-name-test.names.items in
    let inv = c.loop-name.invariant in
    let full : length ns ≡ c.args.count =
    elim c.loop-name-test.branch [ else-loop-name-test w ↦ search rules | then-loop-name-test+else-name-name-end w ↦ search rules ]
    in
    let same : (y : ℕ) → 1 ≤ y → y ≤ c.args.count → entry ns y ≡ row y =
    elim c.loop-name-test.branch [
      | else-loop-name-test w ↦ λ y a b. search rules
      | then-loop-name-test+else-name-name-end w ↦ λ y a b.
          rw (w.names-is, w.push.ensures.items) (one_more row c.loop-name.names.items c.loop-name.name w.number_at.result inv.0 w.number_at.ensures.value inv.2 y a (omega arith))
    ]
    in
    table_arranged ns c.args.count row full same c.requires.distinct

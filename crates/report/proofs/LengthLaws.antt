-- How long the lines of a report are. Assumes nothing.
use Rattle.std.proofs.Common.{◌≡◌, ℕ, zero, suc, ◌+◌, ◌-◌, ◌*◌, ◌^◌, ◌<◌, ◌≤◌, List, ◌++◌, length, codes, decimal, Ok, Err, Result, Option, mul-suc, refl, ap, ◌∙◌, subst, arith}
use Rattle.std.proofs.lemmas.Fmt.{length-decimal-le}
use Rattle.std.proofs.lemmas.List.{length-append}
use Rattle.refusal.specs.Refusals.{layer_word, layer_of, number_of, first_place, second_place, refusal_line}
use Rattle.refusal.specs.declared.Layer.{Layer}
use Rattle.refusal.specs.declared.Layer.TheVariants.{File, Plan, Store, Rig as RigLayer, Report}
use Rattle.refusal.specs.declared.Refusal.{Refusal}
use Rattle.cells.specs.Marks.{mark_words}
use Rattle.cells.specs.declared.mark.Mark.{Mark}
use Rattle.cells.specs.declared.mark.Mark.TheVariants.{Owner, Rung}
use Rattle.rules.specs.declared.agent.Section.{Section}
use Rattle.rules.specs.declared.agent.Section.TheVariants.{Idle, Asking, Holding, Leaving}
use Rattle.rules.specs.declared.rule.Rule.{Ghosts}
use Rattle.model.specs.Rigs.{section_answer, figures_answer}
use Rattle.model.specs.declared.Figures.{Figures}
use Rattle.rig.specs.Worlds.{rig_of}
use Rattle.rig.specs.declared.rig.Rig.{Rig}
use Rattle.report.specs.Lines.{line_end, section_word, holder_number, counted, sizes_line, agent_line, cell_line, last_line}
use Rattle.report.specs.Reports.{lines, agent_told, agent_lines}
use Rattle.report.proofs.BoundLaws.{Small, figures_small}
use Rattle.report.proofs.LineLaws.{lines_more}

-- how many digits there are
two_digits : (n : ℕ) → n < 100 → length (decimal n) ≤ 2
two_digits n h = length-decimal-le 2 n (omega arith) h (omega arith)

three_digits : (n : ℕ) → n < 2 ^ 8 → length (decimal n) ≤ 3
three_digits n h = length-decimal-le 3 n (omega arith) (omega arith) (omega arith)

five_digits : (n : ℕ) → n < 2 ^ 16 → length (decimal n) ≤ 5
five_digits n h = length-decimal-le 5 n (omega arith) (omega arith) (omega arith)

seven_digits : (n : ℕ) → n ≤ 1000000 → length (decimal n) ≤ 7
seven_digits n h = length-decimal-le 7 n (omega arith) (omega arith) (omega arith)

place_digits : (n : ℕ) → n < 2 ^ 64 → length (decimal n) ≤ 20
place_digits n h = length-decimal-le 20 n (omega arith) (omega arith) (omega arith)

-- the words of a mark
pub owner_short : (i : ℕ) → i < 2 ^ 16 → length (mark_words (Owner i)) ≤ 11
owner_short i h = let long = five_digits i h in omega arith

pub rung_short : (r : ℕ) → r < 2 ^ 8 → length (mark_words (Rung r)) ≤ 11
rung_short r h = let long = three_digits r h in omega arith

word_short : (s : Section) → length (section_word s) ≤ 7
word_short Idle = omega arith
word_short Asking = omega arith
word_short Holding = omega arith
word_short Leaving = omega arith

-- the lines
pub sizes_short : (n m rule : ℕ) → n < 100 → m < 100 → rule < 2 ^ 8 → length (sizes_line n m rule) ≤ 28
sizes_short n m rule p q r = omega (arith, length-append {A = ℕ}, two_digits n p, two_digits m q, three_digits rule r)

pub cell_short : (y : ℕ) (k : Mark) → y < 100 → length (mark_words k) ≤ 11 → length (cell_line y k) ≤ 20
cell_short y k p q = omega (arith, length-append {A = ℕ}, two_digits y p, q)

pub last_short : (crowd : ℕ) (holder : Option ℕ) → crowd < 2 ^ 8 → holder_number holder < 100 → length (last_line crowd holder) ≤ 20
last_short crowd holder p q = omega (arith, length-append {A = ℕ}, three_digits crowd p, two_digits (holder_number holder) q)

layer_short : (l : Layer) → length (layer_word l) ≤ 6
layer_short File = omega arith
layer_short Plan = omega arith
layer_short Store = omega arith
layer_short RigLayer = omega arith
layer_short Report = omega arith

described_short : (n : ℕ) (l : Layer) (a b : ℕ) → n < 2 ^ 8 → a < 2 ^ 64 → b < 2 ^ 64 → length (codes "refused " ++ (decimal n ++ (codes " " ++ (layer_word l ++ (codes " place " ++ (decimal a ++ (codes " " ++ decimal b))))))) ≤ 66
described_short n l a b p q r = omega (arith, length-append {A = ℕ}, three_digits n p, layer_short l, place_digits a q, place_digits b r)

pub refusal_short : (e : Refusal) → number_of e < 2 ^ 8 → first_place e < 2 ^ 64 → second_place e < 2 ^ 64 → length (refusal_line e ++ line_end) ≤ 67
refusal_short e p q r = omega (arith, length-append (refusal_line e) line_end, described_short (number_of e) (layer_of e) (first_place e) (second_place e) p q r)

figure_short : (label : List ℕ) (n : ℕ) → n ≤ 1000000 → length (counted label n) ≤ length label + 7
figure_short label n few = omega (arith, length-append label (decimal n), seven_digits n few)

agent_short : (k : ℕ) (s : Section) (f : Figures) → k < 100 → Small f → length (agent_line k s f) ≤ 63
agent_short k s f p small =
    let steps = figure_short (codes " steps ") f.steps small.steps in
    let entries = figure_short (codes " entries ") f.entries small.entries in
    let refused = figure_short (codes " refused ") f.refused small.refused in
    grind (arith, length-append {A = ℕ}, two_digits k p, word_short s, steps, entries, refused)

-- the lines of the names below k, and one more
pub lines_none_short : (line : ℕ → List ℕ) → length (lines line 0) ≤ 0
unfolding lines
lines_none_short line = omega arith

pub lines_all_short : (line : ℕ → List ℕ) (k n each : ℕ) → k ≡ n + 1 → length (lines line (k - 1)) ≤ each * (k - 1) → length (lines line n) ≤ each * n
lines_all_short line k n each past short = let same : k - 1 ≡ n = omega arith in subst (λ m. length (lines line m) ≤ each * m) same short

pub lines_longer : (line : ℕ → List ℕ) (k n each : ℕ) → 1 ≤ k → k ≡ n → length (lines line (k - 1)) ≤ each * (k - 1) → length (line k) ≤ each → length (lines line n) ≤ each * n
lines_longer line k n each low same below one =
    let more : each * k ≡ each * (k - 1) + each = ap (λ m. each * m) (suc_before k low) ∙ mul-suc each (k - 1) in
    let both : length (lines line (k - 1) ++ line k) ≤ each * k = omega (arith, length-append (lines line (k - 1)) (line k)) in
    subst (λ m. length (lines line m) ≤ each * m) same (subst (λ t. length t ≤ each * k) (lines_more line k low) both)
  where
    suc_before : (k : ℕ) → 1 ≤ k → k ≡ suc (k - 1)
    suc_before k low = omega arith

-- n lines
lines_short : (line : ℕ → List ℕ) (n each : ℕ) → ((k : ℕ) → k ≤ n → length (line k) ≤ each) → length (lines line n) ≤ each * n
unfolding lines
lines_short line zero each h = omega arith
lines_short line (suc n) each h =
    let below = lines_short line n each (λ k p. h k (omega (arith, p))) in
    let last = h (suc n) (omega arith) in
    omega (arith, below, last, length-append (lines line n) (line (suc n)))

-- the whole report, where each of its parts is short
pub report_short : (first agents cells last : List ℕ) → length first ≤ 28 → length agents ≤ 1008 → length cells ≤ 1280 → length last ≤ 20 → length (first ++ (agents ++ (cells ++ last))) ≤ 2336
report_short first agents cells last a b c d = omega (arith, length-append first (agents ++ (cells ++ last)), length-append agents (cells ++ last), length-append cells last)

module _ {S R P : Type 0} {r : Ghosts R P} (g : Rig S R P r) where
  told_short : (k : ℕ) → k < 100 → (s : Result Section Refusal) (f : Result Figures Refusal) → f ≡ figures_answer (rig_of g) k → length (agent_told k s f) ≤ 63
  told_short k p (Ok s) (Ok f) e = agent_short k s f p (figures_small g k f e)
  told_short k p (Ok s) (Err d) e = omega arith
  told_short k p (Err d) (Ok f) e = omega arith
  told_short k p (Err d) (Err c) e = omega arith

  pub agents_short : (n : ℕ) → n ≤ 16 → length (agent_lines (rig_of g) n) ≤ 1008
  agents_short n few =
      let short = lines_short (λ k. agent_told k (section_answer (rig_of g) k) (figures_answer (rig_of g) k)) n 63 (λ k p. told_short k (omega (arith, p, few)) (section_answer (rig_of g) k) (figures_answer (rig_of g) k) refl) in
      omega (arith, short, few)

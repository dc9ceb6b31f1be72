-- Lists that are filled from the front, and counts over them. Assumes nothing.
use Rattle.std.proofs.Common.{◌≡◌, ℕ, zero, suc, ◌+◌, ◌-◌, ◌<◌, ◌≤◌, Bool, true, false, cond, leb, List, length, get_or, take, set, replicate, sym, ap, ◌∙◌, ⊎_elim, add-one, arith, length-take-le, get_or-take}
use Rattle.std.proofs.lemmas.List.{length-set, length-replicate, get_or-set_same, get_or-set_other}
use Rattle.std.proofs.lemmas.Bool.{cases_eq, cases_lt, le-leb, lt-leb, cond-true, cond-false, cond_both}
use Rattle.numbers.specs.Names.{listed}
use Rattle.numbers.proofs.NameLaws.{getD_listed, listed_same, listed_set}
use Rattle.cells.specs.Marks.{same_mark, mark_at, put}
use Rattle.cells.specs.declared.mark.Mark.{Mark}
use Rattle.cells.specs.declared.mark.Mark.TheVariants.{Empty}
use Rattle.rules.specs.Lawful.{Name}
use Rattle.tally.specs.Counts.{count_names, largest, has, times, times_at, most_of_one, is_owner}
use Rattle.tally.proofs.CountLaws.{count_at_most}
use Rattle.runs.proofs.Effects.{equal_same}

-- counts

-- the first j of n names pass
pub count_front : (test : ℕ → Bool) (n j : ℕ) → j ≤ n → ((y : ℕ) → 1 ≤ y → y ≤ j → test y ≡ true) → ((y : ℕ) → j < y → y ≤ n → test y ≡ false) → count_names test n ≡ j
unfolding count_names
count_front test zero j less pass fail = omega arith
count_front test (suc n) j less pass fail =
    ⊎_elim
    (λ same.
    let before = count_front test n n (omega arith) (λ y a b. pass y a (omega arith)) (λ y a b. absurd (omega arith)) in
    let here = pass (suc n) (omega arith) (omega arith) in
    (λ i. before i + cond (here i) 1 0) ∙ omega arith)
    (λ other.
    let before = count_front test n j (omega arith) pass (λ y a b. fail y a (omega arith)) in
    let here = fail (suc n) (omega arith) (omega arith) in
    (λ i. before i + cond (here i) 1 0) ∙ omega arith)
    (cases_eq j (suc n))

pub count_all : (test : ℕ → Bool) (n : ℕ) → ((y : ℕ) → 1 ≤ y → y ≤ n → test y ≡ true) → count_names test n ≡ n
count_all test n pass = count_front test n n (omega arith) pass (λ y a b. absurd (omega arith))

largest_at_most : (number : ℕ → ℕ) (n most : ℕ) → ((y : ℕ) → number y ≤ most) → largest number n ≤ most
unfolding largest
largest_at_most number zero most low = omega arith
largest_at_most number (suc n) most low =
    let before = largest_at_most number n most low in
    let here = low (suc n) in
    omega arith

-- no identity has more marks than there are
pub most_at_most : (ms : List Mark) → most_of_one ms ≤ length ms
most_at_most ms =
    largest_at_most (times_at ms) (length ms) (length ms)
    (λ y. cond_both (is_owner (mark_at ms y)) (times ms (mark_at ms y)) 0 (λ t. t ≤ length ms) (λ _. count_at_most (has ms (mark_at ms y)) (length ms)) (λ _. omega arith))

-- marks of which the first j are new

abbrev pub front : ℕ → Mark → Mark → ℕ → Mark
front j new old y = cond (leb y j) new old

pub front_new : (j : ℕ) (new old : Mark) (y : ℕ) → y ≤ j → front j new old y ≡ new
front_new j new old y less = cond-true (leb y j) new old (le-leb y j less)

pub front_old : (j : ℕ) (new old : Mark) (y : ℕ) → j < y → front j new old y ≡ old
front_old j new old y more = cond-false (leb y j) new old (lt-leb y j more)

pub front_met : (m j : ℕ) (new old : Mark) → j < m → mark_at (listed (front j new old) m) (j + 1) ≡ old
front_met m j new old less = getD_listed (front j new old) m (j + 1) Empty (omega arith) (omega arith) ∙ front_old j new old (j + 1) (omega arith)

pub front_put : (m j : ℕ) (new old : Mark) → j < m → put (listed (front j new old) m) (j + 1) new ≡ listed (front (j + 1) new old) m
front_put m j new old less =
    sym
    (listed_set (front j new old) (front (j + 1) new old) m (j + 1) new (omega arith) (omega arith)
    (front_new (j + 1) new old (j + 1) (omega arith))
    (λ z a b other.
    ⊎_elim
    (λ low. front_new (j + 1) new old z (omega arith) ∙ sym (front_new j new old z (omega arith)))
    (λ high. front_old (j + 1) new old z (omega arith) ∙ sym (front_old j new old z (omega arith)))
    (cases_lt z (j + 1))))

pub front_none : (m : ℕ) (new old : Mark) → listed (front 0 new old) m ≡ listed (λ _. old) m
front_none m new old = listed_same (front 0 new old) (λ _. old) m (λ z a b. front_old 0 new old z a)

pub front_all : (m j : ℕ) (new old : Mark) → j ≡ m → listed (front j new old) m ≡ listed (λ _. new) m
front_all m j new old e = listed_same (front j new old) (λ _. new) m (λ z a b. front_new j new old z (omega arith))

pub same_met : (m x : ℕ) (c : Mark) → Name m x → mark_at (listed (λ _. c) m) x ≡ c
same_met m x c name = getD_listed (λ _. c) m x Empty name.0 name.1

-- of 64 places the first j are filled

module _ {A : Type 0} (blank full : A) where
  abbrev pub filled : ℕ → List A
  filled zero = replicate 64 blank
  filled (suc j) = set (filled j) (j + 1 - 1) full

  pub filled_more : (j : ℕ) → set (filled j) (j + 1 - 1) full ≡ filled (j + 1)
  filled_more j = ap filled (sym (add-one j))

  pub length_filled : (j : ℕ) → length (filled j) ≡ 64
  length_filled zero = length-replicate 64 blank
  length_filled (suc j) = length-set (filled j) (j + 1 - 1) full ∙ length_filled j

  pub filled_at : (j y : ℕ) (d : A) → j ≤ 64 → 1 ≤ y → y ≤ j → get_or (filled j) (y - 1) d ≡ full
  filled_at zero y d fits a b = absurd (omega arith)
  filled_at (suc j) y d fits a b =
      let long = length_filled j in
      ⊎_elim
      (λ same.
      let back : j + 1 - 1 ≡ y - 1 = omega arith in
      ap (λ i. get_or (set (filled j) i full) (y - 1) d) back ∙ get_or-set_same (filled j) (y - 1) full d (omega arith))
      (λ other. get_or-set_other (filled j) (j + 1 - 1) (y - 1) full d (λ e. other (omega arith)) ∙ filled_at j y d (omega arith) a (omega arith))
      (cases_eq y (suc j))

-- the front of such a list
module _ (m : ℕ) (fits : m ≤ 64) where
  pub length_front : {A : Type 0} (blank full : A) → length (take m (filled blank full m)) ≡ m
  length_front blank full = let long = length_filled blank full m in length-take-le m (filled blank full m) (omega arith)

  pub at_front : {A : Type 0} (blank full d : A) (y : ℕ) → 1 ≤ y → y ≤ m → get_or (take m (filled blank full m)) (y - 1) d ≡ full
  at_front blank full d y a b = get_or-take m (filled blank full m) (y - 1) d (omega arith) ∙ filled_at blank full m y d fits a b

  pub times_front : (blank full : Mark) → times (take m (filled blank full m)) full ≡ m
  times_front blank full =
      ap (count_names (has (take m (filled blank full m)) full)) (length_front blank full)
      ∙ count_all (has (take m (filled blank full m)) full) m (λ y a b. ap (λ c. same_mark c full) (at_front blank full Empty y a b) ∙ equal_same full)

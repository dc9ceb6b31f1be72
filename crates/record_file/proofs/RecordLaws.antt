-- Laws of records: how they are read, and what a write to one changes. Assumes nothing.
use Rattle.std.proofs.Common.{◌≡◌, ℕ, ◌+◌, ◌*◌, ◌<◌, ◌≤◌, Bool, true, false, cond, ◌≢◌, ◌⊎◌, List, [], ◌∷◌, ◌++◌, length, get_or, take, drop, set, replicate, Ok, sym, refl, ap, ◌∙◌, subst, inl, inr, ⊎_elim, arith, take-append-drop, length-take-le}
use Rattle.std.proofs.lemmas.Bool.{cond-true, cases_order}
use Rattle.std.proofs.lemmas.List.{length-set, length-append, length-drop, length-replicate, get_or-set_same, get_or-set_other, get_or_append_left, get_or-replicate, drop_more, set_at, append_assoc}
use lib.Seq.{drop-drop}
use Rattle.numbers.specs.Rows.{within}
use Rattle.numbers.specs.Names.{listed}
use Rattle.numbers.proofs.NameLaws.{length_listed, getD_listed, listed_same, listed_set, listed_constant}
use Rattle.cells.specs.Marks.{lawful, same_mark, name_check, mark_check, mark_at, put, after_write, swap_answer, says_yes, after_swap}
use Rattle.cells.proofs.StoreLaws.{accepted_name, accepted_mark, write_put, swap_accepted, swap_put}
use Rattle.cells.specs.declared.mark.Mark.{Mark}
use Rattle.cells.specs.declared.mark.Mark.TheVariants.{Empty, Owner, Rung}
use Rattle.record_file.specs.Records.{value_of, mark_by, mark_of, encoded, four, record_at, put_record, record_count, start, records, emptied, bytes_swapped}

-- four numbers are equal one by one
pub four_same : {a b c d e f g h : ℕ} → a ≡ e → b ≡ f → c ≡ g → d ≡ h → ◌≡◌ {A = List ℕ} (a ∷ b ∷ c ∷ d ∷ []) (e ∷ f ∷ g ∷ h ∷ [])
four_same p q r s = λ i. p i ∷ q i ∷ r i ∷ s i ∷ []

-- a lawful mark is read back as it was written
pub read_back : (k : Mark) → lawful k ≡ true → mark_of (encoded k) ≡ k
read_back Empty good = refl
read_back (Owner i) good =
    let whole : value_of (encoded (Owner i)) ≡ i = omega arith in
    ap (mark_by 1) whole ∙ cond-true (within 1 65535 i) (Owner i) _ good
read_back (Rung r) good =
    let whole : value_of (encoded (Rung r)) ≡ r = omega arith in
    ap (mark_by 2) whole ∙ cond-true (within 1 16 r) (Rung r) _ good

module _ (f : List ℕ) (at : ℕ) (bytes : List ℕ) where
  abbrev one : List ℕ
  one = set f at (get_or bytes 0 0)

  abbrev two : List ℕ
  two = set one (at + 1) (get_or bytes 1 0)

  abbrev three : List ℕ
  three = set two (at + 2) (get_or bytes 2 0)

  pub put_length : length (put_record f at bytes) ≡ length f
  put_length = simp length-set

  -- bytes before and after the record stay
  pub put_other : (i : ℕ) → (i < at) ⊎ (at + 4 ≤ i) → get_or (put_record f at bytes) i 0 ≡ get_or f i 0
  put_other i h =
      let a : i ≢ at = λ e. ⊎_elim (λ l. omega arith) (λ g. omega arith) h in
      let b : i ≢ at + 1 = λ e. ⊎_elim (λ l. omega arith) (λ g. omega arith) h in
      let c : i ≢ at + 2 = λ e. ⊎_elim (λ l. omega arith) (λ g. omega arith) h in
      let d : i ≢ at + 3 = λ e. ⊎_elim (λ l. omega arith) (λ g. omega arith) h in
      get_or-set_other three (at + 3) i _ 0 d ∙ get_or-set_other two (at + 2) i _ 0 c ∙ get_or-set_other one (at + 1) i _ 0 b ∙ get_or-set_other f at i _ 0 a

  -- the record's bytes are those that were put
  pub put_here : at + 4 ≤ length f → four (put_record f at bytes) at ≡ four bytes 0
  put_here room =
      let long1 : length one ≡ length f = length-set f at _ in
      let long2 : length two ≡ length f = length-set one (at + 1) _ ∙ long1 in
      let long3 : length three ≡ length f = length-set two (at + 2) _ ∙ long2 in
      four_same
      (get_or-set_other three (at + 3) at _ 0 (λ e. omega arith) ∙ get_or-set_other two (at + 2) at _ 0 (λ e. omega arith) ∙ get_or-set_other one (at + 1) at _ 0 (λ e. omega arith) ∙ get_or-set_same f at _ 0 (omega arith))
      (get_or-set_other three (at + 3) (at + 1) _ 0 (λ e. omega arith) ∙ get_or-set_other two (at + 2) (at + 1) _ 0 (λ e. omega arith) ∙ get_or-set_same one (at + 1) _ 0 (omega arith))
      (get_or-set_other three (at + 3) (at + 2) _ 0 (λ e. omega arith) ∙ get_or-set_same two (at + 2) _ 0 (omega arith))
      (get_or-set_same three (at + 3) _ 0 (omega arith))

-- one byte put where a file is written anew up to it
put_one : (xs f : List ℕ) (i j x : ℕ) → length xs ≡ i → i < length f → j ≡ i + 1 → set (xs ++ drop i f) i x ≡ (xs ++ x ∷ []) ++ drop j f
put_one xs f i j x long less next =
    ap (λ r. set (xs ++ r) i x) (drop_more f i 0 less)
    ∙ set_at xs (get_or f i 0) (drop (i + 1) f) x i long
    ∙ sym (append_assoc xs (x ∷ []) (drop (i + 1) f))
    ∙ ap (λ n. (xs ++ x ∷ []) ++ drop n f) (sym next)

-- four bytes that stand between what is before and after them
put_four : (f : List ℕ) (at a b c d : ℕ) → at + 4 ≤ length f → take at f ++ (a ∷ b ∷ c ∷ d ∷ drop (at + 4) f) ≡ put_record f at (a ∷ b ∷ c ∷ d ∷ [])
put_four f at a b c d room =
    let T = take at f in
    let long : length T ≡ at = length-take-le at f (omega arith) in
    let long1 : length (T ++ a ∷ []) ≡ at + 1 = length-append T (a ∷ []) ∙ ap (λ n. n + 1) long in
    let long2 : length ((T ++ a ∷ []) ++ b ∷ []) ≡ at + 2 = length-append (T ++ a ∷ []) (b ∷ []) ∙ ap (λ n. n + 1) long1 ∙ omega arith in
    let long3 : length (((T ++ a ∷ []) ++ b ∷ []) ++ c ∷ []) ≡ at + 3 = length-append ((T ++ a ∷ []) ++ b ∷ []) (c ∷ []) ∙ ap (λ n. n + 1) long2 ∙ omega arith in
    sym
    (ap (λ g. set (set (set (set g at a) (at + 1) b) (at + 2) c) (at + 3) d) (sym (take-append-drop at f))
    ∙ ap (λ g. set (set (set g (at + 1) b) (at + 2) c) (at + 3) d) (put_one T f at (at + 1) a long (omega arith) refl)
    ∙ ap (λ g. set (set g (at + 2) c) (at + 3) d) (put_one (T ++ a ∷ []) f (at + 1) (at + 2) b long1 (omega arith) (omega arith))
    ∙ ap (λ g. set g (at + 3) d) (put_one ((T ++ a ∷ []) ++ b ∷ []) f (at + 2) (at + 3) c long2 (omega arith) (omega arith))
    ∙ put_one (((T ++ a ∷ []) ++ b ∷ []) ++ c ∷ []) f (at + 3) (at + 4) d long3 (omega arith) (omega arith)
    ∙ simp append_assoc)

-- a mark's bytes there are its record put
pub put_between : (f : List ℕ) (at : ℕ) (k : Mark) → at + 4 ≤ length f → take at f ++ (encoded k ++ drop 4 (drop at f)) ≡ put_record f at (encoded k)
put_between f at Empty room = rw (drop-drop 4 at f) (put_four f at _ _ _ _ room)
put_between f at (Owner i) room = rw (drop-drop 4 at f) (put_four f at _ _ _ _ room)
put_between f at (Rung r) room = rw (drop-drop 4 at f) (put_four f at _ _ _ _ room)

-- as many cells as the file's records
pub count_is : (f : List ℕ) → record_count (length f) ≡ length (records f)
count_is f = sym (length_listed (λ y. record_at f (start y)) (record_count (length f)))

-- the record of an accepted name lies in the file
pub room_for : (f : List ℕ) (y : ℕ) → 1 ≤ y → y ≤ record_count (length f) → start y + 4 ≤ length f
room_for f y a b = omega arith

module _ (f : List ℕ) (y : ℕ) (low : 1 ≤ y) (high : y ≤ record_count (length f)) where
  pub there : record_at f (start y) ≡ mark_at (records f) y
  there = sym (getD_listed (λ z. record_at f (start z)) (record_count (length f)) y Empty low high)

  -- a record that is put is a mark that is put
  pub changes : (k : Mark) → lawful k ≡ true → records (put_record f (start y) (encoded k)) ≡ put (records f) y k
  changes k good =
      let g = put_record f (start y) (encoded k) in
      let same : record_count (length g) ≡ record_count (length f) = ap record_count (put_length f (start y) (encoded k)) in
      ap (λ n. listed (λ z. record_at g (start z)) n) same
      ∙ listed_set (λ z. record_at f (start z)) (λ z. record_at g (start z)) (record_count (length f)) y k low high
      (ap mark_of (put_here f (start y) (encoded k) (room_for f y low high) ∙ whole k) ∙ read_back k good)
      (λ z a b apart.
      let other : (j : ℕ) → j < 4 → get_or g (start z + j) 0 ≡ get_or f (start z + j) 0 =
      λ j less. put_other f (start y) (encoded k) (start z + j) (⊎_elim (λ e. absurd (apart e)) (⊎_elim (λ l. inl (omega arith)) (λ m. inr (omega arith))) (cases_order z y))
      in
      let first : get_or g (start z) 0 ≡ get_or f (start z) 0 = put_other f (start y) (encoded k) (start z) (⊎_elim (λ e. absurd (apart e)) (⊎_elim (λ l. inl (omega arith)) (λ m. inr (omega arith))) (cases_order z y)) in
      ap mark_of (four_same first (other 1 (omega arith)) (other 2 (omega arith)) (other 3 (omega arith))))
    where
      whole : (k : Mark) → four (encoded k) 0 ≡ encoded k
      whole Empty = refl
      whole (Owner i) = refl
      whole (Rung r) = refl

-- a call whose name was accepted
module _ (f : List ℕ) (n y : ℕ) (counted : n ≡ length (records f)) (name : Ok tt ≡ name_check n y) where
  pub inside : (1 ≤ y) × (y ≤ record_count (length f))
  inside = let w = accepted_name n y name in (w.0, subst (λ c. y ≤ c) (counted ∙ sym (count_is f)) w.1)

  pub room : start y + 4 ≤ length f
  room = room_for f y inside.0 inside.1

  pub read : record_at f (start y) ≡ mark_at (records f) y
  read = there f y inside.0 inside.1

  -- the marks after a write
  pub written : (k : Mark) (g : List ℕ) → Ok tt ≡ mark_check k → g ≡ put_record f (start y) (encoded k) → records g ≡ after_write (records f) y k
  written k g good is = write_put (records f) n y counted name k (records g) good (ap records is ∙ changes f y inside.0 inside.1 k (accepted_mark k good))

  -- all that a swap says
  pub record Swapped (old new : Mark) (b : Bool) (g : List ℕ) : Type 0 where
    pub value : Ok b ≡ swap_answer (records f) y old new
    pub after : records g ≡ after_swap (records f) y old new
    pub bytes : g ≡ bytes_swapped f y old new

  pub swapped : (old new : Mark) (b : Bool) (g : List ℕ) → Ok tt ≡ mark_check old → Ok tt ≡ mark_check new → b ≡ same_mark (record_at f (start y)) old → g ≡ cond b (put_record f (start y) (encoded new)) f → Swapped old new b g
  swapped old new b g Good_old Good_new is stored =
      let found = is ∙ ap (λ k. same_mark k old) read in
      let value = swap_accepted (records f) n y counted name old new b Good_old Good_new found in
      record {
        value = value;
        after = swap_put (records f) n y counted name old new b Good_old Good_new found (records g) (ap records stored ∙ both b);
        bytes = stored ∙ ap (λ a. cond (says_yes a) (put_record f (start y) (encoded new)) f) value;
      }
    where
      both : (b : Bool) → records (cond b (put_record f (start y) (encoded new)) f) ≡ cond b (put (records f) y new) (records f)
      both true = changes f y inside.0 inside.1 new (accepted_mark new Good_new)
      both false = refl

-- the bytes that were cleared
zero_at : (f : List ℕ) (n i : ℕ) → i < n → get_or (emptied f n) i 0 ≡ 0
zero_at f n i less =
    get_or_append_left (replicate n 0) (drop n f) 0 i (subst (λ k. i < k) (sym (length-replicate n 0)) less) ∙ get_or-replicate n i 0 0 less

-- a cleared file has as many records, and all are empty
pub cleared : (f : List ℕ) → records (emptied f (4 * record_count (length f))) ≡ replicate (record_count (length f)) Empty
cleared f =
    let c = record_count (length f) in
    let g = emptied f (4 * c) in
    let long : length g ≡ length f = length-append (replicate (4 * c) 0) (drop (4 * c) f) ∙ ap (λ n. n + length (drop (4 * c) f)) (length-replicate (4 * c) 0) ∙ ap (λ n. 4 * c + n) (length-drop (4 * c) f) ∙ omega arith in
    ap (λ n. listed (λ y. record_at g (start y)) n) (ap record_count long)
    ∙ listed_same (λ y. record_at g (start y)) (λ _. Empty) c (λ z a b. ap mark_of (four_same (zero_at f (4 * c) (start z) (omega arith)) (zero_at f (4 * c) (start z + 1) (omega arith)) (zero_at f (4 * c) (start z + 2) (omega arith)) (zero_at f (4 * c) (start z + 3) (omega arith))))
    ∙ listed_constant Empty c

-- What std reads of a word without a sign is the number that it writes. Assumes nothing.
use Rattle.std.proofs.Common.{◌≡◌, ◌≢◌, ℕ, ◌^◌, ◌<◌, true, ltb, List, length, get_or, Some, None, Ok, Err, Result, sym, refl, ap, ◌∙◌, rules}
use Rattle.std.proofs.lemmas.Str.Parse.{IsNumeralModel, numerals_by_fold, tells_all_ascii_digits, parse_plain}
use Rattle.std.proofs.lemmas.Bool.{and_from, and_parts, cond-true, cond_both, lt-ltb, ltb-true}
use Rattle.std.specs.Result.{OkIff, result_ok}
use Rattle.std.specs.Str.Parse.{ParsesUnsigned}
use Rattle.std.specs.Str.{all_ascii_digits}
use Rattle.standoffs.specs.Numerals.{read_on, is_number, number_of}

own : IsNumeralModel (λ ds. all_ascii_digits ds ≡ true) (read_on 0)
own = numerals_by_fold _ tells_all_ascii_digits read_on (search rules)

abbrev Writes : List ℕ → Type 0
Writes bs = (all_ascii_digits bs ≡ true) × (0 < length bs) × (read_on 0 bs < 2 ^ 64)

to_test : (bs : List ℕ) → Writes bs → is_number bs ≡ true
to_test bs (d, some, small) = and_from (all_ascii_digits bs) _ d (and_from (ltb 0 (length bs)) _ (lt-ltb 0 (length bs) some) (lt-ltb (read_on 0 bs) (2 ^ 64) small))

from_test : (bs : List ℕ) → is_number bs ≡ true → Writes bs
from_test bs t =
    let p = and_parts (all_ascii_digits bs) _ t in
    let q = and_parts (ltb 0 (length bs)) _ p.1 in
    (p.0, ltb-true 0 (length bs) q.0, ltb-true (read_on 0 bs) (2 ^ 64) q.1)

converted_number : {E : Type 0} (bs : List ℕ) (r : Result ℕ E) → OkIff r (Writes bs) (read_on 0 bs) → result_ok r ≡ number_of bs
converted_number bs (Ok x) (w, is) = ap Some is ∙ sym (cond-true (is_number bs) (Some (read_on 0 bs)) None (to_test bs w))
converted_number bs (Err e) never = cond_both (is_number bs) (Some (read_on 0 bs)) None (λ o. None ≡ o) (λ t. absurd (never (from_test bs t))) (λ f. refl)

pub number_plain : {E : Type 0} (bs : List ℕ) (r : Result ℕ E) → ParsesUnsigned 64 10 bs r → get_or bs 0 0 ≢ 43 → result_ok r ≡ number_of bs
number_plain bs r h plain = converted_number bs r (parse_plain own 64 bs r h plain)

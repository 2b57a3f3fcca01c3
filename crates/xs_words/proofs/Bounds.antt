use Rattle.std.proofs.Common.{◌≡◌, ℕ, ◌+◌, ◌≤◌, ◌<◌, List, length, true, arith, decimal}
use Rattle.std.proofs.lemmas.Bool.{and_parts, and_from, leb-true, le-leb}
use Rattle.std.proofs.lemmas.Fmt.{digits_decimal, digits_value-decimal, decimal_nonempty, length-decimal-le}
use Rattle.std.proofs.lemmas.Str.Parse.{digits_value_short}
use Rattle.xs_words.specs.Grammar.{is_number, number_in, is_within, is_last_row, is_base}
use Rattle.xs_words.specs.Commands.{IsRange, IsBase}
use Rattle.xs_words.proofs.Numbers.{numerals}

-- what each test of a word says, and that what is in range passes it

pub within_from_test : (least most n : ℕ) → is_within least most n ≡ true → (least ≤ n) × (n ≤ most)
unfolding is_within
within_from_test least most n e = let both = and_parts _ _ e in (leb-true least n both.0, leb-true n most both.1)

pub within_passes : (least most n : ℕ) → least ≤ n → n ≤ most → is_within least most n ≡ true
unfolding is_within
within_passes least most n low high = and_from _ _ (le-leb least n low) (le-leb n most high)

pub range_from_tests : (from span to : ℕ) → is_within 1 9999 from ≡ true → is_last_row from span to ≡ true → IsRange from span to
unfolding is_last_row
range_from_tests from span to first last =
    let low = within_from_test 1 9999 from first in
    let both = and_parts _ _ last in
    let upper = and_parts _ _ both.0 in
    ((low.0, low.1), leb-true from to upper.0, leb-true to 9999 upper.1, leb-true to (from + span) both.1)

pub last_row_passes : (from span to : ℕ) → from ≤ to → to ≤ 9999 → to ≤ from + span → is_last_row from span to ≡ true
unfolding is_last_row
last_row_passes from span to after last near =
    and_from _ _ (and_from _ _ (le-leb from to after) (le-leb to 9999 last)) (le-leb to (from + span) near)

pub base_from_test : (text : List ℕ) → is_base text ≡ true → IsBase text
unfolding is_base
base_from_test text e = let both = and_parts _ _ e in (both.0, leb-true (length text) 180 both.1)

pub base_passes : (text : List ℕ) → IsBase text → is_base text ≡ true
unfolding is_base
base_passes text base = and_from _ _ base.0 (le-leb (length text) 180 base.1)

pub small_number : (text : List ℕ) → is_number text ≡ true → number_in text < 1000000000
unfolding is_number number_in is_within
small_number text e =
    let both = and_parts _ _ e in
    let bounds = and_parts _ _ both.1 in
    digits_value_short numerals text 9 both.0 (leb-true (length text) 9 bounds.1)

pub decimal_passes : (n : ℕ) → n < 1000000000 → is_number (decimal n) ≡ true
unfolding is_number
decimal_passes n small =
    and_from _ _ (digits_decimal numerals n (omega arith))
    (within_passes 1 9 (length (decimal n)) (decimal_nonempty n (omega arith)) (length-decimal-le 9 n (omega arith) (omega arith) (omega arith)))

pub number_in-decimal : (n : ℕ) → n < 1000000000 → number_in (decimal n) ≡ n
unfolding number_in
number_in-decimal n small = digits_value-decimal numerals n (omega arith)

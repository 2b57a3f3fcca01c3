use Rattle.std.proofs.Common.{◌≡◌, ℕ, List, length, Result, Ok, true, rules, arith}
use Rattle.std.specs.List.{list_all}
use Rattle.std.specs.Char.{is_ascii_digit}
use Rattle.std.specs.Str.Parse.{digits_value, ParsesUnsigned}
use Rattle.std.proofs.lemmas.Bool.{and_parts, leb-true}
use Rattle.std.proofs.lemmas.Str.Parse.{IsNumeralModel, IsDigitsTest, numerals_by_value, parse_gives, digits_value_short}
use Rattle.xs_words.specs.Grammar.{is_number, number_in, is_within}

digits_test : IsDigitsTest (λ ds. list_all is_ascii_digit ds ≡ true)
digits_test = search rules

-- the digits of a number write its value
pub numerals : IsNumeralModel (λ ds. list_all is_ascii_digit ds ≡ true) (digits_value 10)
numerals = numerals_by_value _ digits_test

-- a number has at most nine digits, so it fits 32 bits, and `parse` reads it
pub parse_number : {E : Type 0} (text : List ℕ) (r : Result ℕ E) → ParsesUnsigned 32 10 text r → is_number text ≡ true → r ≡ Ok (number_in text)
unfolding is_number number_in is_within
parse_number text r parses e =
    let both = and_parts _ _ e in
    let bounds = and_parts _ _ both.1 in
    let small = digits_value_short numerals text 9 both.0 (leb-true (length text) 9 bounds.1) in
    parse_gives numerals 32 text r parses both.0 (leb-true 1 (length text) bounds.0) (omega (arith, small))

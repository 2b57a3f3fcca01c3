use Rattle.std.proofs.Common.{◌≡◌, ℕ, List, [], ◌∷◌, length, Bool, true, false, cond, Result, Ok, Err, IfOk, refl, subst, ◌==◌}
use Rattle.xs_words.specs.declared.command.Command.{Command}
use Rattle.xs_words.specs.declared.fault.Usage.{Usage}
use Rattle.xs_words.specs.declared.fault.Usage.TheVariants.{Count}
use Rattle.xs_words.specs.declared.fault.WordsFault.{WordsFault}
use Rattle.xs_words.specs.declared.fault.WordsFault.TheVariants as outcome
use Rattle.xs_words.specs.Grammar.{Words, Check, passing, counted, render_checks, dry_checks, show_checks, make_checks, again_checks, render_reading, dry_reading, show_reading, make_reading, again_reading, reading_of, Reads}
use Rattle.xs_words.specs.Commands.{IsCommand}
use Rattle.xs_words.proofs.Bounds.{within_from_test, range_from_tests, base_from_test, small_number}

-- each check is passed
abbrev AllPassed : List Check → Type 0
AllPassed [] = Unit {0}
AllPassed (check ∷ rest) = (check.passes ≡ true) × AllPassed rest

passed_from_ok :
    (test : Bool) (reading : Result Command Usage) (fault : Usage) (command : Command)
    → cond test reading (Err fault) ≡ Ok command → (test ≡ true) × (reading ≡ Ok command)
passed_from_ok true reading fault command e = (refl, e)
passed_from_ok false reading fault command e = absurd cc

all_passed : (checks : List Check) (meant command : Command) → passing checks meant ≡ Ok command → AllPassed checks × (meant ≡ command)
all_passed [] meant command e = (tt, cc)
all_passed (check ∷ rest) meant command e =
    let here = passed_from_ok check.passes (passing rest meant) check.fault command e in
    let there = all_passed rest meant command here.1 in
    ((here.0, there.0), there.1)

counted_passed :
    (words : Words) (count : ℕ) (checks : List Check) (meant command : Command)
    → counted words count (passing checks meant) ≡ Ok command → AllPassed checks × (meant ≡ command)
counted_passed words count checks meant command e =
    let there = passed_from_ok (length words == count) (passing checks meant) Count command e in
    all_passed checks meant command there.1

one_of : (test : Bool) (first second : Result Command Usage) (P : Result Command Usage → Type 0) → P first → P second → P (cond test first second)
one_of true first second P p q = p
one_of false first second P p q = q

-- what a reading gives is in range
abbrev GivesInRange : Result Command Usage → Type 0
GivesInRange reading = (command : Command) → reading ≡ Ok command → IsCommand command

refused : (fault : Usage) → GivesInRange (Err fault)
refused fault command e = absurd cc

render_in_range : (words : Words) → GivesInRange (render_reading words)
render_in_range words command e =
    let all = counted_passed words 6 (render_checks words) _ command e in
    let t = all.0 in
    subst IsCommand all.1 (
      t.1.1.1.1.1.1.0,
      range_from_tests _ 4095 _ t.1.1.1.0 t.1.1.1.1.0,
      within_from_test 1 64 _ t.1.1.1.1.1.0,
      base_from_test _ t.1.1.1.1.1.1.1.0,
    )

dry_in_range : (words : Words) → GivesInRange (dry_reading words)
dry_in_range words command e =
    let all = counted_passed words 4 (dry_checks words) _ command e in
    let t = all.0 in
    subst IsCommand all.1 (t.1.1.1.1.0, range_from_tests _ 4095 _ t.1.1.0 t.1.1.1.0)

show_in_range : (words : Words) → GivesInRange (show_reading words)
show_in_range words command e =
    let all = counted_passed words 2 (show_checks words) _ command e in
    subst IsCommand all.1 all.0.0

make_in_range : (words : Words) → GivesInRange (make_reading words)
make_in_range words command e =
    let all = counted_passed words 4 (make_checks words) _ command e in
    let t = all.0 in
    let rows = within_from_test 1 240 _ t.1.1.1.0 in
    subst IsCommand all.1 (small_number _ t.0, rows.0, rows.1, within_from_test 1 64 _ t.1.1.1.1.0)

again_in_range : (words : Words) → GivesInRange (again_reading words)
again_in_range words command e =
    let all = counted_passed words 7 (again_checks words) _ command e in
    let t = all.0 in
    subst IsCommand all.1 (
      t.1.1.1.1.1.1.0,
      t.1.1.1.1.1.1.1.0,
      range_from_tests _ 2047 _ t.1.1.1.0 t.1.1.1.1.0,
      within_from_test 1 64 _ t.1.1.1.1.1.0,
      base_from_test _ t.1.1.1.1.1.1.1.1.0,
    )

reading_in_range : (words : Words) → GivesInRange (reading_of words)
unfolding reading_of
reading_in_range words =
    one_of _ _ _ GivesInRange (refused _)
    (one_of _ _ _ GivesInRange (render_in_range words)
    (one_of _ _ _ GivesInRange (dry_in_range words)
    (one_of _ _ _ GivesInRange (show_in_range words)
    (one_of _ _ _ GivesInRange (make_in_range words)
    (one_of _ _ _ GivesInRange (again_in_range words) (refused _))))))

-- a result that tells a reading is in range
pub result_in_range : (words : Words) (result : Result Command WordsFault) → Reads result (reading_of words) → IfOk result IsCommand
result_in_range words (Ok command) e = reading_in_range words command e
result_in_range words (Err (outcome.Usage usage)) e = tt
result_in_range words (Err outcome.Memory) e = tt

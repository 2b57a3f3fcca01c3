use Rattle.std.proofs.Common.{◌≡◌, ℕ, List, [], ◌∷◌, length, Bool, true, false, cond, Result, Err, inl, inr, refl, ◌==◌, ◌&&◌, subst, arith}
use Rattle.std.specs.List.{list_all}
use Rattle.std.proofs.lemmas.Bool.{and_parts, le-leb}
use Rattle.xs_words.specs.declared.command.Command.{Command}
use Rattle.xs_words.specs.declared.command.Command.TheVariants.{Show}
use Rattle.xs_words.specs.declared.fault.Usage.{Usage}
use Rattle.xs_words.specs.declared.fault.Usage.TheVariants.{NoCommand, Unknown, Count, Number, Range, Name}
use Rattle.xs_words.specs.Grammar.{Words, Check, passing, render_checks, dry_checks, show_checks, make_checks, again_checks, reading_of}
use Rattle.xs_words.specs.FirstFault.{precedes, failing, checks_of, HasFault, IsFirstFault, TellsFirstFault}

-- no check has a fault that precedes the fault of an earlier one
abbrev is_rising : List Check → Bool
is_rising [] = true
is_rising (check ∷ rest) = list_all (λ later. precedes check.fault later.fault) rest && is_rising rest

precedes_itself : (fault : Usage) → precedes fault fault ≡ true
precedes_itself NoCommand = refl
precedes_itself Unknown = refl
precedes_itself Count = refl
precedes_itself (Number place) = le-leb place place (omega arith)
precedes_itself (Range place) = le-leb place place (omega arith)
precedes_itself (Name place) = le-leb place place (omega arith)

precedes_later :
    (fault other : Usage) (checks : List Check) → list_all (λ later. precedes fault later.fault) checks ≡ true
    → HasFault checks other → precedes fault other ≡ true
precedes_later fault other [] all has = absurd has
precedes_later fault other (check ∷ rest) all has =
    let both = and_parts _ _ all in
    elim has [
      | inl here ↦ subst (λ (f : Usage). precedes fault f ≡ true) here.1 both.0
      | inr there ↦ precedes_later fault other rest both.1 there
    ]

told_by_test :
    (test : Bool) (of : Usage) (rest : List Check) (meant : Command) (fault : Usage)
    → (passing rest meant ≡ Err fault → IsFirstFault rest fault) → list_all (λ later. precedes of later.fault) rest ≡ true
    → cond test (passing rest meant) (Err of) ≡ Err fault
    → IsFirstFault (record { passes = test; fault = of } ∷ rest) fault
told_by_test true of rest meant fault told all e =
    let first = told e in
    (inr first.0, λ other has. elim has [ inl here ↦ absurd (let odd : true ≡ false = here.0 in cc) | inr there ↦ first.1 other there ])
told_by_test false of rest meant fault told all e =
    let same : of ≡ fault = cc in (
      inl (refl, same),
      λ other has.
          subst (λ (f : Usage). precedes f other ≡ true) same
          (elim has [
            | inl here ↦ subst (λ (f : Usage). precedes of f ≡ true) here.1 (precedes_itself of)
            | inr there ↦ precedes_later of other rest all there
          ]),
    )

-- the first check that fails has the first fault
first_is_told : (checks : List Check) (meant : Command) (fault : Usage) → is_rising checks ≡ true → passing checks meant ≡ Err fault → IsFirstFault checks fault
first_is_told [] meant fault rising e = absurd cc
first_is_told (check ∷ rest) meant fault rising e =
    let both = and_parts (list_all (λ later. precedes check.fault later.fault) rest) (is_rising rest) rising in
    told_by_test check.passes check.fault rest meant fault (first_is_told rest meant fault both.1) both.0 e

abbrev TellsFirst : Result Command Usage → List Check → Type 0
TellsFirst reading checks = (fault : Usage) → reading ≡ Err fault → IsFirstFault checks fault

one_of_both :
    (test : Bool) (first second : Result Command Usage) (these those : List Check) → TellsFirst first these
    → TellsFirst second those → TellsFirst (cond test first second) (cond test these those)
one_of_both true first second these those p q = p
one_of_both false first second these those p q = q

refused : (of : Usage) → TellsFirst (Err of) (failing of)
refused of fault e = first_is_told (failing of) (Show []) fault refl e

counted_told :
    (words : Words) (count : ℕ) (checks : List Check) (meant : Command) → is_rising checks ≡ true
    → TellsFirst (cond (length words == count) (passing checks meant) (Err Count)) (cond (length words == count) checks (failing Count))
counted_told words count checks meant rising =
    one_of_both (length words == count) (passing checks meant) (Err Count) checks (failing Count)
    (λ fault e. first_is_told checks meant fault rising e) (refused Count)

pub tells_first_fault : (words : Words) → TellsFirstFault words
unfolding reading_of checks_of
tells_first_fault words =
    one_of_both _ _ _ _ _ (refused NoCommand)
    (one_of_both _ _ _ _ _ (counted_told words 6 (render_checks words) _ refl)
    (one_of_both _ _ _ _ _ (counted_told words 4 (dry_checks words) _ refl)
    (one_of_both _ _ _ _ _ (counted_told words 2 (show_checks words) _ refl)
    (one_of_both _ _ _ _ _ (counted_told words 4 (make_checks words) _ refl)
    (one_of_both _ _ _ _ _ (counted_told words 7 (again_checks words) _ refl) (refused Unknown))))))

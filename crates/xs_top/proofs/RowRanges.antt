-- Ranges of rows, one row after another.
use Rattle.std.proofs.Common.{◌≡◌, ℕ, zero, suc, ◌+◌, ◌-◌, ◌<◌, ◌≤◌, length, [], ◌∷◌, ◌++◌, refl, sym, ap, ◌∙◌, arith}
use Rattle.std.specs.List.{range_with_len}
use Rattle.std.proofs.lemmas.Grind.{flat_map-append}
use Rattle.std.proofs.lemmas.List.{append-nil}
use Rattle.xs_meaning.specs.Expressions.{drawings_of, root_of}
use Rattle.xs_scene.specs.Records.{SceneRecord}
use Rattle.xs_meaning.specs.Expressions.{needed}

pub range_next : (first rows : ℕ) (i : ℕ) → i < rows → range_with_len (first + i) (rows - i) ≡ (first + i) ∷ range_with_len (first + (i + 1)) (rows - (i + 1))
range_next first rows i within =
    let count : rows - i ≡ suc (rows - (i + 1)) = omega arith in
    let place : (first + i) + 1 ≡ first + (i + 1) = omega arith in
    ap (range_with_len (first + i)) count ∙ ap (λ from. (first + i) ∷ range_with_len from (rows - (i + 1))) place

pub range_over : (first rows i : ℕ) → rows ≤ i → range_with_len (first + i) (rows - i) ≡ []
range_over first rows i past =
    let none : rows - i ≡ 0 = omega arith in ap (range_with_len (first + i)) none

pub range-append : (first n m : ℕ) → range_with_len first n ++ range_with_len (first + n) m ≡ range_with_len first (n + m)
range-append first zero m =
    let here : first + 0 ≡ first = omega arith in
    let all : 0 + m ≡ m = omega arith in
    ap (λ from. range_with_len from m) here ∙ sym (ap (range_with_len first) all)
range-append first (suc n) m =
    let place : first + suc n ≡ (first + 1) + n = omega arith in
    let count : suc n + m ≡ suc (n + m) = omega arith in
    ap (λ rest. first ∷ rest) (ap (λ from. range_with_len (first + 1) n ++ range_with_len from m) place ∙ range-append (first + 1) n m)
    ∙ sym (ap (range_with_len first) count)

-- what the rows up to the next one need
pub needed_more : (s : SceneRecord) (first i : ℕ)
    → needed s (range_with_len first (i + 1)) ≡ needed s (range_with_len first i) ++ drawings_of (root_of s (first + i))
needed_more s first i =
    ap (needed s) (sym (range-append first i 1))
    ∙ (flat_map-append (λ row. drawings_of (root_of s row)) (range_with_len first i) ((first + i) ∷ [])
    ∙ ap (λ rest. needed s (range_with_len first i) ++ rest) (append-nil _))

-- what a row needs, and then what those behind it need
pub needed_next : (s : SceneRecord) (first rows i : ℕ) → i < rows
    → needed s (range_with_len (first + i) (rows - i)) ≡ drawings_of (root_of s (first + i)) ++ needed s (range_with_len (first + (i + 1)) (rows - (i + 1)))
needed_next s first rows i within = ap (needed s) (range_next first rows i within)

pub range_length : (first rows : ℕ) → length (range_with_len first rows) ≡ rows
range_length first zero = refl
range_length first (suc rows) = let rest = range_length (first + 1) rows in omega arith

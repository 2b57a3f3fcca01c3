-- The rows of a range by sections, and the drawings that they need
use Rattle.std.proofs.Common.{◌≡◌, ℕ, zero, suc, ◌+◌, ◌-◌, ◌*◌, min, List, [], ◌∷◌, ◌++◌, map, flat_map, take, drop, refl, sym, ap, ap₂, ◌∙◌, inl, inr, ◌⊎◌, ◌<◌, ◌≤◌, arith}
use Rattle.std.specs.List.{range_with_len}
use Rattle.std.proofs.lemmas.Bool.{cases_lt}
use Rattle.std.proofs.lemmas.Grind.{flat_map-append}
use Rattle.std.proofs.lemmas.List.{append-nil, take-map, drop-map}
use Rattle.xs_base.specs.declared.limits.TheConstants.{SECTION_ROWS}
use Rattle.xs_base.specs.Sections.{rows_of, rows_before, section_rows}
use Rattle.xs_scene.specs.Records.{SceneRecord}
use Rattle.xs_meaning.specs.Expressions.{drawings_of, needed, root_of}
use Rattle.xs_demand.specs.Images.{drawings_in}
use Rattle.xs_demand.proofs.Picked.{range-append}

flat_map-map : {X Y Z : Type 0} (f : Y → List Z) (g : X → Y) (xs : List X) → flat_map f (map g xs) ≡ flat_map (λ x. f (g x)) xs
flat_map-map f g [] = refl
flat_map-map f g (x ∷ xs) = ap (λ ys. f (g x) ++ ys) (flat_map-map f g xs)

take-range : (k a n : ℕ) → take k (range_with_len a n) ≡ range_with_len a (min k n)
take-range zero a n = ap (range_with_len a) (let least : 0 ≡ min 0 n = omega arith in least)
take-range (suc k) a zero = ap (range_with_len a) (let least : 0 ≡ min (suc k) 0 = omega arith in least)
take-range (suc k) a (suc n) =
    ap (λ xs. a ∷ xs) (take-range k (a + 1) n)
    ∙ ap (range_with_len a) (let least : suc (min k n) ≡ min (suc k) (suc n) = omega arith in least)

drop-range : (k a n : ℕ) → drop k (range_with_len a n) ≡ range_with_len (a + k) (n - k)
drop-range zero a n = ap₂ range_with_len (omega arith) (omega arith)
drop-range (suc k) a zero = ap (range_with_len (a + suc k)) (let none : 0 ≡ 0 - suc k = omega arith in none)
drop-range (suc k) a (suc n) =
    drop-range k (a + 1) n ∙ ap₂ range_with_len (omega arith) (omega arith)

-- a section of the rows is its part of them
section-is : (from to n : ℕ) → take SECTION_ROWS (drop (SECTION_ROWS * n) (rows_of from to)) ≡ section_rows from to n
section-is from to n =
    ap (take SECTION_ROWS) (drop-range (SECTION_ROWS * n) from (to + 1 - from))
    ∙ take-range SECTION_ROWS (from + SECTION_ROWS * n) (to + 1 - from - SECTION_ROWS * n)
    ∙ ap (range_with_len (from + SECTION_ROWS * n)) (omega arith)

-- and the rows before it are those of the earlier sections
before-are : (from to n : ℕ) → rows_before from to n ≡ range_with_len from (min (SECTION_ROWS * n) (to + 1 - from))
before-are from to zero = ap (range_with_len from) (let none : 0 ≡ min (SECTION_ROWS * 0) (to + 1 - from) = omega arith in none)
before-are from to (suc n) =
    ap (λ m. flat_map (section_rows from to) (range_with_len 0 m)) (let sum : suc n ≡ n + 1 = omega arith in sum)
    ∙ ap (flat_map (section_rows from to)) (range-append 0 n 1)
    ∙ flat_map-append (section_rows from to) (range_with_len 0 n) (range_with_len (0 + n) 1)
    ∙ ap₂ (λ xs ys. xs ++ ys) (before-are from to n)
    (append-nil (section_rows from to (0 + n)) ∙ ap (section_rows from to) (let sum : 0 + n ≡ n = omega arith in sum))
    ∙ joined (cases_lt (to + 1 - from) (SECTION_ROWS * n))
  where
    joined :
        (to + 1 - from < SECTION_ROWS * n) ⊎ (SECTION_ROWS * n ≤ to + 1 - from)
        → range_with_len from (min (SECTION_ROWS * n) (to + 1 - from)) ++ section_rows from to n
        ≡ range_with_len from (min (SECTION_ROWS * suc n) (to + 1 - from))
    joined (inl past) =
        ap (λ m. range_with_len from (min (SECTION_ROWS * n) (to + 1 - from)) ++ range_with_len (from + SECTION_ROWS * n) m)
        (let none : min (to + 1 - (from + SECTION_ROWS * n)) SECTION_ROWS ≡ 0 = omega arith in none)
        ∙ append-nil (range_with_len from (min (SECTION_ROWS * n) (to + 1 - from)))
        ∙ ap (range_with_len from) (omega arith)
    joined (inr within) =
        ap (λ m. range_with_len from m ++ section_rows from to n)
        (let all : min (SECTION_ROWS * n) (to + 1 - from) ≡ SECTION_ROWS * n = omega arith in all)
        ∙ sym (range-append from (SECTION_ROWS * n) (min (to + 1 - (from + SECTION_ROWS * n)) SECTION_ROWS))
        ∙ ap (range_with_len from) (omega arith)

drawings-of_rows : (s : SceneRecord) (rows : List ℕ) → drawings_in (map (root_of s) rows) ≡ needed s rows
drawings-of_rows s rows = flat_map-map drawings_of (root_of s) rows

pub drawings-before :
    (s : SceneRecord) (from to n : ℕ)
    → drawings_in (take (SECTION_ROWS * n) (map (root_of s) (rows_of from to))) ≡ needed s (rows_before from to n)
drawings-before s from to n =
    ap drawings_in (take-map (root_of s) (SECTION_ROWS * n) (rows_of from to))
    ∙ drawings-of_rows s (take (SECTION_ROWS * n) (rows_of from to))
    ∙ ap (needed s) (take-range (SECTION_ROWS * n) from (to + 1 - from) ∙ sym (before-are from to n))

pub drawings-in_section :
    (s : SceneRecord) (from to n : ℕ)
    → drawings_in (take SECTION_ROWS (drop (SECTION_ROWS * n) (map (root_of s) (rows_of from to)))) ≡ needed s (section_rows from to n)
drawings-in_section s from to n =
    ap (λ es. drawings_in (take SECTION_ROWS es)) (drop-map (root_of s) (SECTION_ROWS * n) (rows_of from to))
    ∙ ap drawings_in (take-map (root_of s) SECTION_ROWS (drop (SECTION_ROWS * n) (rows_of from to)))
    ∙ drawings-of_rows s (take SECTION_ROWS (drop (SECTION_ROWS * n) (rows_of from to)))
    ∙ ap (needed s) (section-is from to n)

-- The columns that are not off, from either end
use Rattle.std.proofs.Common.{◌≡◌, ℕ, suc, ◌+◌, Bool, true, false, not, cond, length, List, [], ◌∷◌, ◌++◌, filter, map, refl, ap, ◌∙◌, append-nil, arith}
use Rattle.std.specs.List.{enumerate_from}
use Rattle.std.proofs.lemmas.List.{map-append}
use Rattle.std.proofs.lemmas.List.Elements.{filter-append}
use Rattle.xs_scene.specs.declared.node.Ref.{Ref}
use Rattle.xs_scene.specs.declared.node.Ref.TheVariants.{Column as ToColumn}
use Rattle.xs_scene.specs.Records.{ColumnRecord}
use Rattle.xs_step.specs.Terminals.{columns_on}

abbrev number_in : ℕ × ColumnRecord → Ref
number_in e = ToColumn e.0

abbrev is_on : ℕ × ColumnRecord → Bool
is_on e = not e.1.off

pub columns_on-first :
    (n : ℕ) (column : ColumnRecord) (columns : List ColumnRecord) → not column.off ≡ true
    → columns_on n (column ∷ columns) ≡ ToColumn n ∷ columns_on (n + 1) columns
columns_on-first n column columns on =
    let rest = filter is_on (enumerate_from (n + 1) columns) in
    ap (λ b. map number_in (cond b ((n, column) ∷ rest) rest)) on

pub columns_on-off_first :
    (n : ℕ) (column : ColumnRecord) (columns : List ColumnRecord) → not column.off ≡ false
    → columns_on n (column ∷ columns) ≡ columns_on (n + 1) columns
columns_on-off_first n column columns off =
    let rest = filter is_on (enumerate_from (n + 1) columns) in
    ap (λ b. map number_in (cond b ((n, column) ∷ rest) rest)) off

enumerate_from-push :
    {X : Type 0} (n : ℕ) (xs : List X) (x : X) → enumerate_from n (xs ++ x ∷ []) ≡ enumerate_from n xs ++ (n + length xs, x) ∷ []
enumerate_from-push n [] x = ap (λ m. (m, x) ∷ []) (let e : n ≡ n + 0 = omega arith in e)
enumerate_from-push n (y ∷ ys) x =
    ap (λ xs. (n, y) ∷ xs)
    (enumerate_from-push (n + 1) ys x
    ∙ ap (λ m. enumerate_from (n + 1) ys ++ (m, x) ∷ []) (let e : n + 1 + length ys ≡ n + suc (length ys) = omega arith in e))

pub columns_on-push :
    (n : ℕ) (columns : List ColumnRecord) (column : ColumnRecord)
    → columns_on n (columns ++ column ∷ [])
    ≡ columns_on n columns ++ cond (not column.off) (ToColumn (n + length columns) ∷ []) []
columns_on-push n columns column =
    let last : List (ℕ × ColumnRecord) = (n + length columns, column) ∷ [] in
    ap (λ es. map number_in (filter is_on es)) (enumerate_from-push n columns column)
    ∙ ap (map number_in) (filter-append is_on (enumerate_from n columns) last)
    ∙ map-append number_in (filter is_on (enumerate_from n columns)) (cond (not column.off) last [])
    ∙ ap (λ ts. columns_on n columns ++ ts) (numbered (not column.off))
  where
    numbered : (b : Bool) → map number_in (cond b ((n + length columns, column) ∷ []) []) ≡ cond b (ToColumn (n + length columns) ∷ []) []
    numbered true = refl
    numbered false = refl

pub columns_on-last :
    (n : ℕ) (columns : List ColumnRecord) (column : ColumnRecord) → not column.off ≡ true
    → columns_on n (columns ++ column ∷ []) ≡ columns_on n columns ++ ToColumn (n + length columns) ∷ []
columns_on-last n columns column on =
    columns_on-push n columns column
    ∙ ap (λ b. columns_on n columns ++ cond b (ToColumn (n + length columns) ∷ []) []) on

pub columns_on-off_last :
    (n : ℕ) (columns : List ColumnRecord) (column : ColumnRecord) → not column.off ≡ false
    → columns_on n (columns ++ column ∷ []) ≡ columns_on n columns
columns_on-off_last n columns column off =
    columns_on-push n columns column
    ∙ ap (λ b. columns_on n columns ++ cond b (ToColumn (n + length columns) ∷ []) []) off
    ∙ append-nil (columns_on n columns)

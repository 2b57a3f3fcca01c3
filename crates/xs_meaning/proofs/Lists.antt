-- Lemmas on lists and options that std lacks
use Rattle.std.proofs.Common.{ℕ, zero, suc, ◌≡◌, List, [], ◌∷◌, slice_get, get_or, All, IfSome, arith, ◌*◌, ◌∙◌, length, flat_map, length-append, suc-mul}
use Rattle.std.proofs.lemmas.List.Elements.{All-tail}

-- what holds of each element holds of one by its index
pub All-slice_get : {X : Type 0} (P : X → Type 0) (xs : List X) (i : ℕ) → All P xs → IfSome (slice_get xs i) P
All-slice_get P [] i all = tt
All-slice_get P (x ∷ xs) zero all = all 0 x (omega arith)
All-slice_get P (x ∷ xs) (suc i) all = All-slice_get P xs i (All-tail P x xs all)

-- and of one by its index, where it holds of the default
pub All-slice_index_or : {X : Type 0} (P : X → Type 0) (xs : List X) (i : ℕ) (d : X) → P d → All P xs → P (get_or xs i d)
All-slice_index_or P [] i d default all = default
All-slice_index_or P (x ∷ xs) zero d default all = all 0 x (omega arith)
All-slice_index_or P (x ∷ xs) (suc i) d default all = All-slice_index_or P xs i d default (All-tail P x xs all)

-- lists of one length, one after another
pub length-flat_map_even :
    {X A : Type 0} (f : X → List A) (n : ℕ) → ((x : X) → length (f x) ≡ n)
    → (xs : List X) → length (flat_map f xs) ≡ length xs * n
length-flat_map_even f n long [] = omega arith
length-flat_map_even f n long (x ∷ xs) =
    let rest = length-flat_map_even f n long xs in
    length-append (f x) (flat_map f xs) ∙ omega (arith, long x, rest, suc-mul (length xs) n)

-- Numbers that are drawn one after another
use Rattle.std.proofs.Common.{◌≡◌, ℕ, zero, suc, ◌+◌, ◌≤◌, ◌<◌, List, [], ◌∷◌, ◌++◌, map, refl, sym, ap, ap₂, ◌∙◌, arith}
use Rattle.std.proofs.lemmas.Grind.{flat_map-append}
use Rattle.std.proofs.lemmas.List.{append-nil, map-id}
use Rattle.std.proofs.lemmas.List.FromFn.{map-range_with_len_more}
use Rattle.std.specs.List.{range_with_len, flat_map}
use Rattle.xs_make.specs.Draws.{drawn, next_state, number_of, state_after}

pub none_drawn : (x : ℕ) → x ≡ state_after x 0
unfolding state_after
none_drawn x = refl

-- draws go on where others ended
pub state_after_more : (x n m : ℕ) → state_after (state_after x n) m ≡ state_after x (n + m)
unfolding state_after
state_after_more x n zero = let same : n ≡ n + 0 = omega arith in ap (state_after x) same
state_after_more x n (suc m) =
    let same : suc (n + m) ≡ n + suc m = omega arith in
    ap next_state (state_after_more x n m) ∙ ap (state_after x) same

pub drawn_more : (x n draw bound : ℕ) → drawn (state_after x n) draw bound ≡ drawn x (n + draw) bound
drawn_more x n draw bound =
    let same : n + suc draw ≡ suc (n + draw) = omega arith in
    ap (λ state. number_of state bound) (state_after_more x n (suc draw) ∙ ap (state_after x) same)

-- the next draw
pub drawn_next : (x n bound : ℕ) → drawn (state_after x n) 0 bound ≡ drawn x n bound
unfolding state_after
drawn_next x n bound = refl

pub drawn_below : (x draw bound : ℕ) → 1 ≤ bound → drawn x draw bound < bound
unfolding number_of
drawn_below x draw bound least = omega arith

-- ---- what numbers from one on give, and one more

pub map_more : {A : Type 0} (f : ℕ → A) (xs : List A) (a n j : ℕ) (y : A) → a + n ≡ j → xs ≡ map f (range_with_len a n) → y ≡ f j
    → xs ++ y ∷ [] ≡ map f (range_with_len a (n + 1))
map_more f xs a n j y last before is =
    ap₂ (λ zs z. zs ++ z ∷ []) before is ∙ sym (map-range_with_len_more f a n j last)

range_more : (n : ℕ) → range_with_len 0 (n + 1) ≡ range_with_len 0 n ++ n ∷ []
range_more n =
    sym (map-id (range_with_len 0 (n + 1))) ∙ map-range_with_len_more (λ k. k) 0 n n (omega arith)
    ∙ ap (λ xs. xs ++ n ∷ []) (map-id (range_with_len 0 n))

pub flat_map_more :
    {A : Type 0} (f : ℕ → List A) (xs : List A) (n : ℕ) (ys : List A) → xs ≡ flat_map f (range_with_len 0 n) → ys ≡ f n
    → xs ++ ys ≡ flat_map f (range_with_len 0 (n + 1))
flat_map_more f xs n ys before is =
    ap₂ (λ zs z. zs ++ z) before is
    ∙ sym (ap (flat_map f) (range_more n) ∙ flat_map-append f (range_with_len 0 n) (n ∷ [])
    ∙ ap (λ zs. flat_map f (range_with_len 0 n) ++ zs) (append-nil (f n)))

-- Points of a drawing's box, and words of its bytes.
use Rattle.std.proofs.Common.{◌≡◌, ℕ, zero, suc, ◌+◌, ◌*◌, ◌≤◌, ℤ, Bool, true, false, if◌then◌else◌, List, [], ◌∷◌, length, get_or, map, refl, arith}
use Rattle.xs_cm32.specs.WordRows.{words}
use Rattle.xs_pixel.specs.Picture.{Picture, is_in_box, place_in_box, at_point}

-- what is made of a word is that word's item among what is made of all
pub mapped_word :
    {B : Type 0} (f : ℕ → B) (outside : B) (k : ℕ) (xs : List ℕ) → 4 * k + 4 ≤ length xs
    → get_or (map f (words xs)) k outside ≡ f (get_or (words xs) k 0)
mapped_word f outside zero (a ∷ b ∷ c ∷ d ∷ xs) room = refl
mapped_word f outside (suc k) (a ∷ b ∷ c ∷ d ∷ xs) room = mapped_word f outside k xs (omega arith)
mapped_word f outside k [] room = absurd (omega arith)
mapped_word f outside k (a ∷ []) room = absurd (omega arith)
mapped_word f outside k (a ∷ b ∷ []) room = absurd (omega arith)
mapped_word f outside k (a ∷ b ∷ c ∷ []) room = absurd (omega arith)

-- the item at a point of the box, and beyond it
pub item_inside :
    {A : Type 0} (p : Picture) (items : List A) (outside : A) (x y : ℤ)
    → is_in_box p.x0 p.y0 p.w p.h x y ≡ true
    → at_point p items outside x y ≡ get_or items (place_in_box p.x0 p.y0 p.w x y) outside
unfolding at_point
item_inside p items outside x y inside = rw inside refl

chosen_second : {A : Type 0} (b : Bool) (first second : A) → (b ≡ true → false ≡ true) → (if b then first else second) ≡ second
chosen_second true first second h = let no = h refl in absurd cc
chosen_second false first second h = refl

pub item_outside :
    {A : Type 0} (p : Picture) (items : List A) (outside : A) (x y : ℤ)
    → (is_in_box p.x0 p.y0 p.w p.h x y ≡ true → false ≡ true) → at_point p items outside x y ≡ outside
unfolding at_point
item_outside p items outside x y beyond =
    chosen_second (is_in_box p.x0 p.y0 p.w p.h x y) (get_or items (place_in_box p.x0 p.y0 p.w x y) outside) outside beyond

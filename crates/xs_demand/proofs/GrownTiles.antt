-- The tiles of a frame, grown by any numbers, are equal only where tile and growth are
use Rattle.std.proofs.Common.{◌≡◌, ℕ, suc, ◌+◌, ◌-◌, ◌*◌, ◌/◌, ◌%◌, ◌<◌, min, pos, ◌-ℤ◌, Some, List, ◌∷◌, length, slice_get, refl, sym, ap, ◌∙◌, arith, zero-add}
use Rattle.std.proofs.lemmas.Int.{ints}
use Rattle.std.proofs.lemmas.List.FromFn.{length-map-range_with_len, get_or-map-range_with_len}
use Rattle.std.proofs.lemmas.Nat.{div-add-mod'}
use Rattle.std.proofs.lemmas.Option.{slice_get_within, get_or_from_slice_get}
use Rattle.xs_rect.specs.Area.{Area, area, grown}
use Rattle.xs_rect.specs.Tiles.{tiles_along, tile_area, tile_areas}
use Rattle.xs_demand.specs.Blocks.{GrowApart}

-- a part of a side, grown on both ends, tells its number and by how much it grew
part_and_growth :
    (side c d g h : ℕ) → (pos (c * 64) -ℤ pos g) ≡ (pos (d * 64) -ℤ pos h)
    → min (side - c * 64) 64 + 2 * g ≡ min (side - d * 64) 64 + 2 * h → (c ≡ d) × (g ≡ h)
part_and_growth side c d g h from long = let part : c ≡ d = omega (arith, ints) in (part, omega (arith, ints))

-- what stands at a place among the tiles of a frame
tile_at : (w h k : ℕ) (a : Area) → slice_get (tile_areas w h) k ≡ Some a → tile_area w h k ≡ a
tile_at w h k a at =
    let count = tiles_along w * tiles_along h in
    let within : k < length (tile_areas w h) = slice_get_within (tile_areas w h) k a at in
    let counted : length (tile_areas w h) ≡ count = length-map-range_with_len (tile_area w h) 0 count in
    sym (get_or-map-range_with_len (tile_area w h) 0 count k k a (omega arith) (zero-add k))
    ∙ get_or_from_slice_get (tile_areas w h) k a a at

tiles_apart :
    (w h j k g m : ℕ) → grown (tile_area w h j) g ≡ grown (tile_area w h k) m → (j ≡ k) × (g ≡ m)
unfolding tile_area
tiles_apart w h j k g m same =
    let n = tiles_along w in
    let across = part_and_growth w (j % n) (k % n) g m (ap (λ (a : Area). a.x) same) (ap (λ (a : Area). a.w) same) in
    let up = part_and_growth h (j / n) (k / n) g m (ap (λ (a : Area). a.y) same) (ap (λ (a : Area). a.h) same) in
    (sym (div-add-mod' j n) ∙ (λ i. up.0 i * n + across.0 i) ∙ div-add-mod' k n, across.1)

pub tile_areas_apart : (w h : ℕ) → GrowApart (tile_areas w h)
tile_areas_apart w h =
    λ j k a b g m at_j at_k same.
    tiles_apart w h j k g m
    (ap (λ r. grown r g) (tile_at w h j a at_j) ∙ same ∙ ap (λ r. grown r m) (sym (tile_at w h k b at_k)))

-- ---- tiles that grow apart

-- a tile grown twice
pub grown_twice : (a : Area) (g n : ℕ) → grown (grown a g) n ≡ grown a (g + n)
grown_twice a g n =
    let x : ((a.x -ℤ pos g) -ℤ pos n) ≡ (a.x -ℤ pos (g + n)) = omega (arith, ints) in
    let y : ((a.y -ℤ pos g) -ℤ pos n) ≡ (a.y -ℤ pos (g + n)) = omega (arith, ints) in
    let w : a.w + 2 * g + 2 * n ≡ a.w + 2 * (g + n) = omega arith in
    let h : a.h + 2 * g + 2 * n ≡ a.h + 2 * (g + n) = omega arith in
    λ i. area (x i) (y i) (w i) (h i)

pub not_grown : (a : Area) → grown a 0 ≡ a
not_grown a =
    let x : (a.x -ℤ pos 0) ≡ a.x = omega (arith, ints) in
    let y : (a.y -ℤ pos 0) ≡ a.y = omega (arith, ints) in
    let w : a.w + 2 * 0 ≡ a.w = omega arith in
    let h : a.h + 2 * 0 ≡ a.h = omega arith in
    λ i. area (x i) (y i) (w i) (h i)

-- one tile is the same only with the same growth
pub same_growth : (a : Area) (g m : ℕ) → grown a g ≡ grown a m → g ≡ m
same_growth a g m same = let wide : a.w + 2 * g ≡ a.w + 2 * m = ap (λ (r : Area). r.w) same in omega arith

-- a rectangle, grown, is never another one, grown
abbrev pub StaysApart : Area → Area → Type 0
StaysApart a b = (g m : ℕ) → grown a g ≡ grown b m → ⊥

pub tail_apart : (tile : Area) (tiles : List Area) → GrowApart (tile ∷ tiles) → GrowApart tiles
tail_apart tile tiles apart =
    λ j k a b g m at_j at_k same.
    let both = apart (suc j) (suc k) a b g m at_j at_k same in
    (omega arith, both.1)

pub head_apart :
    (tile : Area) (tiles : List Area) → GrowApart (tile ∷ tiles) → (j : ℕ) (a : Area) → slice_get tiles j ≡ Some a
    → StaysApart a tile × StaysApart tile a
head_apart tile tiles apart j a at = (
  λ g m same. let both = apart (suc j) 0 a tile g m at refl same in absurd (omega arith),
  λ g m same. let both = apart 0 (suc j) tile a g m refl at same in absurd (omega arith),
)

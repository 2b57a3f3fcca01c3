use Rattle.std.proofs.Common.{◌≡◌, ℕ, ◌+◌, ◌-◌, ◌*◌, ◌/◌, ◌%◌, ◌<◌, ◌≤◌, min, ℤ, pos, ◌⊎◌, inl, inr, ap, sym, arith, zero-add}
use Rattle.std.proofs.Math.Nat.{eq-or-lt_of_le, mul-le-mul_right}
use Rattle.std.proofs.lemmas.Bool.{cases_lt}
use Rattle.std.proofs.lemmas.Int.{ints}
use Rattle.std.proofs.lemmas.List.FromFn.{length-map-range_with_len, get_or-map-range_with_len}
use Rattle.std.proofs.lemmas.Nat.{mul-add-lt, div-mul-add, mod-mul-add, mod_below, div-add-mod'}
use Rattle.xs_rect.specs.Area.{Lies, Holds}
use Rattle.xs_rect.specs.Tiles.{tiles_along, tile_of, frame, tile_area, tile_areas, IsBefore, nth, IsCut}

-- how many tiles the frame is cut into
abbrev count_of : ℕ → ℕ → ℕ
count_of w h = tiles_along w * tiles_along h

nth_tile : (w h k : ℕ) → k < count_of w h → nth (tile_areas w h) k ≡ tile_area w h k
nth_tile w h k within = get_or-map-range_with_len (tile_area w h) 0 (count_of w h) k k (frame 0 0) within (zero-add k)

-- the places of the part with number c are those whose quotient by 64 is c
lies_in_part : (side x : ℕ) → x < side → Lies (pos (x / 64 * 64)) (min (side - x / 64 * 64) 64) (pos x)
lies_in_part side x within = record { least = omega (arith, ints); below = omega (arith, ints) }

part_of : (side x c : ℕ) → Lies (pos (c * 64)) (min (side - c * 64) 64) (pos x) → x / 64 ≡ c
part_of side x c l = omega (arith, ints)

part_inside : (side c : ℕ) (z : ℤ) → Lies (pos (c * 64)) (min (side - c * 64) 64) z → Lies (pos 0) side z
part_inside side c z l = record { least = omega (arith, ints); below = omega (arith, ints) }

-- the number of a place's part is among the numbers of parts
part_below : (side x : ℕ) → x < side → x / 64 < tiles_along side
part_below side x within = omega arith

tile_of_below : (w h x y : ℕ) → x < w → y < h → tile_of w x y < count_of w h
unfolding tile_of
tile_of_below w h x y inx iny = mul-add-lt (y / 64) (tiles_along w) (x / 64) (tiles_along h) (part_below h y iny) (part_below w x inx)

own_tile : (w h x y : ℕ) → x < w → y < h → Holds (tile_area w h (tile_of w x y)) (pos x) (pos y)
unfolding tile_of tile_area
own_tile w h x y inx iny =
    let column = mod-mul-add (y / 64) (tiles_along w) (x / 64) (part_below w x inx) in
    let row = div-mul-add (y / 64) (tiles_along w) (x / 64) (part_below w x inx) in
    rw (column, row) (record { across = lies_in_part w x inx; up = lies_in_part h y iny })

only_tile : (w h k x y : ℕ) → Holds (tile_area w h k) (pos x) (pos y) → tile_of w x y ≡ k
unfolding tile_of tile_area
only_tile w h k x y held =
    rw (part_of w x (k % tiles_along w) held.across, part_of h y (k / tiles_along w) held.up) (div-add-mod' k (tiles_along w))

tile_inside : (w h k : ℕ) (x y : ℤ) → Holds (tile_area w h k) x y → Holds (frame w h) x y
unfolding tile_area
tile_inside w h k x y held = record { across = part_inside w _ x held.across; up = part_inside h _ y held.up }

tile_side : (w h k : ℕ) → ((tile_area w h k).w ≤ 64) × ((tile_area w h k).h ≤ 64)
unfolding tile_area
tile_side w h k = (omega arith, omega arith)

-- of two places in a grid with rows of n, the one that comes first is lower, or further left
earlier_place : (n r c r' c' : ℕ) → c < n → r * n + c < r' * n + c' → c' < n → (r < r') ⊎ ((r ≡ r') × (c < c'))
earlier_place n r c r' c' in_row less in_row' =
    elim (cases_lt r r') [
      | inl lower ↦ inl lower
      | inr not_lower ↦ elim (eq-or-lt_of_le not_lower) [
        | inl same ↦ inr (sym same, let rows = ap (λ (i : ℕ). i * n) same in omega arith)
        | inr higher ↦ let rows : (r' + 1) * n ≤ r * n = mul-le-mul_right n (omega arith) in absurd (omega arith)
      ]
    ]

tile_before : (w h j k : ℕ) → 0 < tiles_along w → j < k → IsBefore (tile_area w h j) (tile_area w h k)
unfolding tile_area
tile_before w h j k some less =
    let n = tiles_along w in
    let at_j = div-add-mod' j n in
    let at_k = div-add-mod' k n in
    elim (earlier_place n (j / n) (j % n) (k / n) (k % n) (mod_below j n some) (omega arith) (mod_below k n some)) [
      | inl lower ↦ inl (omega (arith, ints))
      | inr beside ↦ inr (ap (λ (r : ℕ). pos (r * 64)) beside.0, omega (arith, ints))
    ]

-- the tiles by their numbers cut the frame
pub tile_areas_cut : (w h : ℕ) → 1 ≤ w → IsCut w h (tile_areas w h)
tile_areas_cut w h some =
    let counted = length-map-range_with_len (tile_area w h) 0 (count_of w h) in
    record {
      count = counted;
      own = λ x y inx iny. let below = tile_of_below w h x y inx iny in
          (rw counted below, rw (nth_tile w h (tile_of w x y) below) (own_tile w h x y inx iny));
      only = λ k x y within held. only_tile w h k x y (rw (nth_tile w h k (rw counted at within)) at held);
      inside = λ k x y within held. tile_inside w h k x y (rw (nth_tile w h k (rw counted at within)) at held);
      order = λ j k less within. let k_in : k < count_of w h = rw counted at within in
          rw (nth_tile w h j (omega arith), nth_tile w h k k_in) (tile_before w h j k (omega arith) less);
      side = λ k within. rw (nth_tile w h k (rw counted at within)) (tile_side w h k);
    }

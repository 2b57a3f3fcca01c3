-- The tiles of a frame stay rectangles as far as rows may look
use Rattle.std.proofs.Common.{◌≡◌, ◌<◌, ◌≤◌, ◌-◌, ◌*◌, ◌/◌, ◌%◌, min, ℕ, pos, length, sym, ◌∙◌, subst, arith}
use Rattle.std.proofs.lemmas.Int.{ints}
use Rattle.std.proofs.lemmas.List.FromFn.{length-map-range_with_len, get_or-map-range_with_len}
use Rattle.std.proofs.lemmas.Nat.{div_below, mod_below, mul-add-lt, mul-le}
use Rattle.std.proofs.lemmas.Option.{slice_get_within, get_or_from_slice_get}
use Rattle.xs_rect.specs.Area.{Area, IsRect, area, grown}
use Rattle.xs_rect.specs.Tiles.{tiles_along, tile_area, tile_areas}
use Rattle.xs_plan.specs.Valid.{HasSides}
use Rattle.xs_demand.proofs.GrownTiles.{tile_areas_apart}
use Rattle.xs_dryrun.specs.Filling.{IsFrame}

grown_place :
    (x y w h g : ℕ) → x ≤ 4096 → y ≤ 4096 → 1 ≤ w → w ≤ 64 → 1 ≤ h → h ≤ 64 → g ≤ 64
    → IsRect (grown (area (pos x) (pos y) w h) g) × HasSides (grown (area (pos x) (pos y) w h) g)
grown_place x y w h g left low wide narrow high flat near = (
  record {
    near_x = (omega (arith, ints), omega (arith, ints));
    near_y = (omega (arith, ints), omega (arith, ints));
    side_w = (omega arith, omega arith);
    side_h = (omega arith, omega arith);
  },
  (omega arith, omega arith),
)

grown_tile :
    (w h k g : ℕ) → 1 ≤ w → w ≤ 4096 → 1 ≤ h → h ≤ 4096 → k < tiles_along w * tiles_along h → g ≤ 64
    → IsRect (grown (tile_area w h k) g) × HasSides (grown (tile_area w h k) g)
unfolding tile_area
grown_tile w h k g wide narrow high low within near =
    let column : k % tiles_along w < tiles_along w = mod_below k (tiles_along w) (omega arith) in
    let row : k / tiles_along w < tiles_along h = div_below k (tiles_along w) (tiles_along h) (omega arith) (omega (arith, within)) in
    let x : k % tiles_along w * 64 < w = omega (arith, column) in
    let y : k / tiles_along w * 64 < h = omega (arith, row) in
    grown_place (k % tiles_along w * 64) (k / tiles_along w * 64) (min (w - k % tiles_along w * 64) 64) (min (h - k / tiles_along w * 64) 64) g
    (omega (arith, x)) (omega (arith, y)) (omega (arith, x)) (omega arith) (omega (arith, y)) (omega arith) near

pub is_frame : (w h : ℕ) → 1 ≤ w → w ≤ 4096 → 1 ≤ h → h ≤ 4096 → IsFrame (tile_areas w h)
is_frame w h wide narrow high low =
    record {
      apart = tile_areas_apart w h;
      near = λ t growth a at near.
          let within : t < tiles_along w * tiles_along h =
          omega (arith, slice_get_within (tile_areas w h) t a at, length-map-range_with_len (tile_area w h) 0 (tiles_along w * tiles_along h)) in
          let same : tile_area w h t ≡ a =
          sym (get_or-map-range_with_len (tile_area w h) 0 (tiles_along w * tiles_along h) t t a within (omega arith))
          ∙ get_or_from_slice_get (tile_areas w h) t a a at in
          subst (λ (z : Area). IsRect (grown z growth) × HasSides (grown z growth)) same
          (grown_tile w h t growth wide narrow high low within near);
    }

pub some_tiles : (w h : ℕ) → 1 ≤ w → 1 ≤ h → 1 ≤ length (tile_areas w h)
some_tiles w h wide high =
    omega (
      arith,
      mul-add-lt 0 (tiles_along w) 0 (tiles_along h) (omega arith) (omega arith),
      length-map-range_with_len (tile_area w h) 0 (tiles_along w * tiles_along h),
    )

pub few_tiles : (w h : ℕ) → w ≤ 4096 → h ≤ 4096 → length (tile_areas w h) ≤ 4096
few_tiles w h narrow low =
    let most : tiles_along w * tiles_along h ≤ 64 * 64 = mul-le (tiles_along w) (tiles_along h) 64 64 (omega arith) (omega arith) in
    omega (arith, most, length-map-range_with_len (tile_area w h) 0 (tiles_along w * tiles_along h))

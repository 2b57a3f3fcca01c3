-- A frame after one more tile was put
use Rattle.std.proofs.Common.{◌≡◌, ◌≢◌, ◌<◌, ℕ, ◌+◌, ℤ, pos, inl, inr, Option, Some, None, List, length, get_or, set, refl, sym, ap, subst, ◌∙◌, arith}
use Rattle.std.specs.Prelude.{unsigned_abs}
use Rattle.std.proofs.lemmas.Bool.{cases_eq}
use Rattle.std.proofs.lemmas.Int.{ints}
use Rattle.std.proofs.lemmas.List.{length-set, get_or-set_same, get_or-set_other}
use Rattle.std.proofs.lemmas.Option.{get_or_from_slice_get}
use Rattle.xs_pixel.specs.Picture.{Pictures}
use Rattle.xs_rect.specs.Area.{Area, Holds}
use Rattle.xs_rect.specs.Tiles.{IsCut, frame, nth}
use Rattle.xs_raster.specs.Bitmap.{Bitmap}
use Rattle.xs_raster.specs.Changes.{Pastes}
use Rattle.xs_raster.specs.declared.tile.Tile.{Tile}
use Rattle.xs_plan.specs.Record.{PlanRecord, root_at, rows_in}
use Rattle.xs_plan.specs.Valid.{IsPlan}
use Rattle.xs_core.specs.Calls.{HoldsTile}
use Rattle.xs_frames.specs.Frames.{FrameRecord, frame_of, alias_on, Shows, ShowsRow, IsPainted, IsFrame, Stands, GatherRecord, gather_of, IsGather, Gains}

some_is : {A : Type 0} (a b : A) → Some a ≡ Some b → a ≡ b
some_is a b same = cc

-- no point lies in two tiles
tiles_apart :
    (w h : ℕ) (tiles : List Area) → IsCut w h tiles → (j k : ℕ) → j < length tiles → k < length tiles
    → (x y : ℤ) → Holds (nth tiles j) x y → Holds (nth tiles k) x y → j ≡ k
tiles_apart w h tiles cut j k jin kin x y on_j on_k =
    let inside = cut.inside j x y jin on_j in
    let across : x ≡ pos (unsigned_abs x) = omega (arith, ints, inside.across.least) in
    let up : y ≡ pos (unsigned_abs y) = omega (arith, ints, inside.up.least) in
    let at_j = subst (λ (z : ℤ). Holds (nth tiles j) (pos (unsigned_abs x)) z) up (subst (λ (z : ℤ). Holds (nth tiles j) z y) across on_j) in
    let at_k = subst (λ (z : ℤ). Holds (nth tiles k) (pos (unsigned_abs x)) z) up (subst (λ (z : ℤ). Holds (nth tiles k) z y) across on_k) in
    sym (cut.only j (unsigned_abs x) (unsigned_abs y) jin at_j) ∙ cut.only k (unsigned_abs x) (unsigned_abs y) kin at_k

-- the area of a row's tile
tile_rect :
    (told : Option Pictures) (p : PlanRecord) (t : Tile) (row tile : ℕ) → IsPlan p → row < rows_in p → tile < length p.tiles
    → HoldsTile told p (root_at p row tile) t → nth p.tiles tile ≡ t.raster.area
tile_rect told p t row tile valid rin tin holds =
    get_or_from_slice_get p.tiles tile _ (frame 0 0) (valid.roots row tile rin tin).rect ∙ sym holds.area_is

-- a point of a tile is one of the frame
in_frame :
    (p : PlanRecord) (image : Bitmap) (tile : ℕ) → IsPainted p image → tile < length p.tiles
    → (x y : ℤ) → Holds (nth p.tiles tile) x y → Holds image.area x y
in_frame p image tile is there x y held = subst (λ (a : Area). Holds a x y) (sym is.area) (is.cut.inside tile x y there held)

-- a tile that is pasted shows its alias
pub shows_here :
    (told : Option Pictures) (p : PlanRecord) (old new : Bitmap) (t : Tile) (row tile : ℕ)
    → IsPlan p → IsPainted p old → row < rows_in p → tile < length p.tiles
    → HoldsTile told p (root_at p row tile) t → Pastes old new t.raster → Shows told p new tile (root_at p row tile)
shows_here told p old new t row tile valid is rin tin holds pastes = λ pictures shown x y held.
    let its = subst (λ (a : Area). Holds a x y) (tile_rect told p t row tile valid rin tin holds) held in
    pastes.pasted x y (in_frame p old tile is tin x y held) its ∙ holds.pixels_are pictures shown x y its

-- and the others show what they showed
pub shows_there :
    (told : Option Pictures) (p : PlanRecord) (old new : Bitmap) (t : Tile) (row tile : ℕ)
    → IsPlan p → IsPainted p old → row < rows_in p → tile < length p.tiles
    → HoldsTile told p (root_at p row tile) t → Pastes old new t.raster
    → (j k : ℕ) → j < length p.tiles → j ≢ tile → Shows told p old j k → Shows told p new j k
shows_there told p old new t row tile valid is rin tin holds pastes j k jin differ shows = λ pictures shown x y held.
    let rect = tile_rect told p t row tile valid rin tin holds in
    pastes.kept x y (in_frame p old j is jin x y held)
    (λ its. differ (tiles_apart _ _ p.tiles is.cut j tile jin tin x y held (subst (λ (a : Area). Holds a x y) (sym rect) its)))
    ∙ shows pictures shown x y held

pub painted_more : (p : PlanRecord) (old new tile : Bitmap) → IsPainted p old → Pastes old new tile → IsPainted p new
painted_more p old new tile is pastes = record {
  area = subst (λ (a : Area). a ≡ frame a.w a.h) (sym pastes.same_area) is.area;
  cut = subst (λ (a : Area). IsCut a.w a.h p.tiles) (sym pastes.same_area) is.cut;
}

pub painted :
    (told : Option Pictures) (p : PlanRecord) (old new : Bitmap) (there : List (Option ℕ)) (t : Tile) (row tile : ℕ)
    → IsPlan p → IsFrame told (frame_of p old there) → row < rows_in p → tile < length p.tiles
    → HoldsTile told p (root_at p row tile) t → Pastes old new t.raster
    → IsFrame told (frame_of p new (set there tile (Some t.alias)))
painted told p old new there t row tile valid is rin tin holds pastes = record {
  painted = painted_more p old new t.raster is.painted pastes;
  many = length-set there tile (Some t.alias) ∙ is.many;
  shows = λ j k jin on.
      elim (cases_eq j tile) [
        | inl same ↦
            let here : get_or (set there tile (Some t.alias)) tile None ≡ Some k =
            subst (λ (i : ℕ). get_or (set there tile (Some t.alias)) i None ≡ Some k) same on in
            let alias : root_at p row tile ≡ k =
            sym holds.alias_is
            ∙ some_is t.alias k (sym (get_or-set_same there tile (Some t.alias) None (subst (λ (n : ℕ). tile < n) (sym is.many) tin)) ∙ here) in
            subst (λ (i : ℕ). Shows told p new i k) (sym same)
            (subst (λ (i : ℕ). Shows told p new tile i) alias (shows_here told p old new t row tile valid is.painted rin tin holds pastes))
        | inr differ ↦
            let there_is : get_or there j None ≡ Some k = sym (get_or-set_other there tile j (Some t.alias) None differ) ∙ on in
            shows_there told p old new t row tile valid is.painted rin tin holds pastes j k jin differ (is.shows j k jin there_is)
      ];
}

pub stands :
    (p q : PlanRecord) (old new : Bitmap) (there : List (Option ℕ)) (tile alias k : ℕ) → q ≡ p → new.area ≡ old.area → tile < length there → alias ≡ k
    → Stands (frame_of p old there) tile k (frame_of q new (set there tile (Some alias)))
stands p q old new there tile alias k plan area within is = record {
  plan = plan;
  area = area;
  here = get_or-set_same there tile (Some alias) None within ∙ ap (λ (i : ℕ). Some i) is;
  others = λ other differ. get_or-set_other there tile other (Some alias) None differ;
}

pub stood : (f : FrameRecord) (tile k : ℕ) → alias_on f tile ≡ Some k → Stands f tile k f
stood f tile k here = record { plan = refl; area = refl; here = here; others = λ other differ. refl }

-- all tiles show the row
pub shown :
    (told : Option Pictures) (p : PlanRecord) (f : FrameRecord) (row : ℕ) → IsFrame told f → f.plan ≡ p
    → ((tile : ℕ) → tile < length p.tiles → alias_on f tile ≡ Some (root_at p row tile)) → ShowsRow told p row f.image
shown told p f row is plan all = λ tile there.
    subst (λ (q : PlanRecord). Shows told q f.image tile (root_at p row tile)) plan
    (is.shows tile (root_at p row tile) (subst (λ (q : PlanRecord). tile < length q.tiles) (sym plan) there) (all tile there))

-- one more tile stands
pub stands_more :
    (p : PlanRecord) (row tile : ℕ) (old new : FrameRecord)
    → ((t : ℕ) → t < tile → alias_on old t ≡ Some (root_at p row t)) → Stands old tile (root_at p row tile) new
    → (t : ℕ) → t < tile + 1 → alias_on new t ≡ Some (root_at p row t)
stands_more p row tile old new before now t less = elim (cases_eq t tile) [
  | inl same ↦ subst (λ (i : ℕ). alias_on new i ≡ Some (root_at p row i)) (sym same) now.here
  | inr differ ↦ now.others t differ ∙ before t (omega (arith, less, differ))
]

-- ---- a raster that gains tiles

pub gains :
    (told : Option Pictures) (p q : PlanRecord) (old new : Bitmap) (t : Tile) (row tile : ℕ) → p ≡ q
    → IsPlan p → IsGather (gather_of q row old) → tile < length p.tiles → HoldsTile told p (root_at p row tile) t → Pastes old new t.raster
    → Gains told (gather_of q row old) tile (gather_of q row new)
gains told p q old new t row tile same valid is tin holds pastes =
    let valid_q = subst IsPlan same valid in
    let there = subst (λ (r : PlanRecord). tile < length r.tiles) same tin in
    let holds_q = subst (λ (r : PlanRecord). HoldsTile told r (root_at r row tile) t) same holds in
    record {
      plan = refl;
      row = refl;
      area = pastes.same_area;
      here = shows_here told q old new t row tile valid_q is.painted is.within there holds_q pastes;
      others = λ j k jin differ. shows_there told q old new t row tile valid_q is.painted is.within there holds_q pastes j k jin differ;
    }

pub gathered_more : (p : PlanRecord) (row : ℕ) (old new tile : Bitmap) → IsGather (gather_of p row old) → Pastes old new tile
    → IsGather (gather_of p row new)
gathered_more p row old new tile is pastes = record {
  painted = painted_more p old new tile is.painted pastes;
  bytes = pastes.same_kind ∙ is.bytes;
  within = is.within;
}

-- one more tile of the row
pub gained_more :
    (told : Option Pictures) (p : PlanRecord) (row tile : ℕ) (old new : GatherRecord) → old.plan ≡ p → old.row ≡ row → tile < length p.tiles
    → ((t : ℕ) → t < tile → Shows told p old.image t (root_at p row t)) → Gains told old tile new
    → (t : ℕ) → t < tile + 1 → Shows told p new.image t (root_at p row t)
gained_more told p row tile old new plan row_is there before now t less = elim (cases_eq t tile) [
  | inl same ↦ subst (λ (i : ℕ). Shows told p new.image i (root_at p row i)) (sym same)
      (subst (λ (r : ℕ). Shows told p new.image tile (root_at p r tile)) row_is
      (subst (λ (q : PlanRecord). Shows told q new.image tile (root_at q old.row tile)) plan now.here))
  | inr differ ↦
      let others = subst (λ (q : PlanRecord). (j k : ℕ) → j < length q.tiles → j ≢ tile → Shows told q old.image j k → Shows told q new.image j k)
      plan now.others in
      others t (root_at p row t) (omega (arith, less, there)) differ (before t (omega (arith, less, differ)))
]

-- What a step of the walk through a scene is read as
use Rattle.std.proofs.Common.{ℕ, zero, suc, ◌≡◌, ◌+◌, ◌-◌, ◌<◌, Bor, Option, Some, None, List, [], ◌∷◌, length, slice_get, fold, map, refl, sym, ap, ◌∙◌, arith}
use Rattle.xs_pixel.specs.Channels.{Channels, clear}
use Rattle.xs_pixel.specs.Operations.{over_of}
use Rattle.xs_pixel.specs.declared.operation.Op.TheVariants.{Over as OverOp}
use Rattle.xs_pixel.specs.Images.{Image}
use Rattle.xs_pixel.specs.Picture.{Pictures}
use Rattle.xs_pixel.specs.Points.{Point}
use Rattle.xs_scene.specs.declared.seen.Seen.{Seen}
use Rattle.xs_scene.specs.declared.seen.Seen.TheVariants.{Empty, Drawing as SeenDrawing, Row as SeenRow}
use Rattle.xs_scene.specs.declared.node.Ref.{Ref}
use Rattle.xs_scene.specs.declared.node.Ref.TheVariants.{Column as ToColumn, Node as ToNode}
use Rattle.xs_scene.specs.declared.node.Node.{Node}
use Rattle.xs_scene.specs.declared.node.Node.TheVariants.{Pair, Card, Shuffle, Blur, Keep, Delete}
use Rattle.xs_scene.specs.Records.{SceneRecord, SheetRecord}
use Rattle.xs_meaning.specs.Cells.{cell_at}
use Rattle.xs_meaning.specs.Palettes.{Dropped}
use Rattle.xs_meaning.specs.Places.{place_of}
use Rattle.xs_meaning.specs.RowValues.{by_points}
use Rattle.xs_meaning.specs.Walk.{Interpretation, sheet_at, column_at, seen_by, listed_by, node_by, above_by, composed_by, walk, row_walk}
use Rattle.xs_step.specs.declared.spot.At.{At}
use Rattle.xs_step.specs.declared.spot.At.TheVariants.{Row, Input}
use Rattle.xs_step.specs.declared.spot.Spot.{Spot}
use Rattle.xs_step.specs.declared.step.Step.{Step}
use Rattle.xs_step.specs.Readings.{SpotAnswers, step_by}
use Rattle.xs_step.specs.Spots.{spot}
use Rattle.xs_step.specs.Steps.{step_of_seen, step_of_listed, step_of_node, step_in, step_of}
use Rattle.xs_direct.specs.Filters.{dropped_of}
use Rattle.xs_direct.specs.Steps.{IsFurther, IsFurtherFrom, IsAtEnd, IsEndFrom}
use Rattle.xs_direct.specs.Values.{sheet_in, dropped_in, points_in, answer_within, answers_in, image_in, stack_of}
use Rattle.xs_direct.specs.declared.filters.Filters.{Filters}
use Rattle.xs_direct.specs.declared.walk.Walk.{Walk}

-- ---- over the answers as far as a walk may still go

abbrev within : Interpretation Image → List SheetRecord → (depth below : ℕ) → SpotAnswers Image
within R sheets depth below p f = answer_within R sheets depth below p.sheet p.at p.row f

abbrev IsUnmoved : Interpretation Image → Type 0
IsUnmoved R = (q : Point) → R.moved q R.nothing ≡ R.nothing

seen-step :
    (R : Interpretation Image) (sheets : List SheetRecord) → IsUnmoved R
    → (depth below k : ℕ) (at : At) (row : ℕ) (f : Dropped) (offset : Point) (seen : Seen)
    → step_by R (within R sheets depth below) (spot k at row) f (step_of_seen offset seen)
    ≡ R.moved offset (seen_by R (row_walk R sheets depth) seen row f)
seen-step R sheets unmoved depth below k at row f offset Empty = sym (unmoved offset)
seen-step R sheets unmoved depth below k at row f offset (SeenDrawing level index) = refl
seen-step R sheets unmoved depth below k at row f offset (SeenRow sheet inner) = refl

listed-step :
    (R : Interpretation Image) (sheets : List SheetRecord) (depth below k : ℕ) (at : At) (row : ℕ) (f : Dropped) (input : Ref) (listed : Option ℕ)
    → step_by R (within R sheets depth below) (spot k at row) f (step_of_listed k input listed)
    ≡ listed_by R (walk R (row_walk R sheets depth) (sheet_at sheets k) below input) listed f
listed-step R sheets depth below k at row f input None = refl
listed-step R sheets depth below k at row f input (Some listed) = refl

node-step :
    (R : Interpretation Image) (sheets : List SheetRecord) (depth below k : ℕ) (at : At) (row : ℕ) (f : Dropped) (node : Option Node)
    → step_by R (within R sheets depth below) (spot k at row) f (step_of_node k row node)
    ≡ node_by R (walk R (row_walk R sheets depth) (sheet_at sheets k) below) node row f
node-step R sheets depth below k at row f None = refl
node-step R sheets depth below k at row f (Some (Pair op first second)) = refl
node-step R sheets depth below k at row f (Some (Card style)) = refl
node-step R sheets depth below k at row f (Some (Shuffle input list)) = listed-step R sheets depth below k at row f input (slice_get list (row - 1))
node-step R sheets depth below k at row f (Some (Blur input radius)) = refl
node-step R sheets depth below k at row f (Some (Keep input styles)) = refl
node-step R sheets depth below k at row f (Some (Delete input styles)) = refl

input-step :
    (R : Interpretation Image) (s : SceneRecord) → IsUnmoved R → (depth below k : ℕ) (n : Ref) (row : ℕ) (f : Dropped) → 0 < below
    → step_by R (within R s.sheets depth (below - 1)) (spot k (Input n) row) f (step_in s k (Input n) row)
    ≡ walk R (row_walk R s.sheets depth) (sheet_at s.sheets k) below n row f
unfolding walk
input-step R s unmoved depth zero k n row f some = absurd (omega arith)
input-step R s unmoved depth (suc m) k (ToColumn c) row f some =
    let e : suc m - 1 ≡ m = omega arith in
    rw e
    (seen-step R s.sheets unmoved depth m k (Input (ToColumn c)) row f
    (place_of (sheet_at s.sheets k) (column_at (sheet_at s.sheets k) c).peg row) (cell_at (column_at (sheet_at s.sheets k) c) row))
input-step R s unmoved depth (suc m) k (ToNode n) row f some =
    let e : suc m - 1 ≡ m = omega arith in
    rw e (node-step R s.sheets depth m k (Input (ToNode n)) row f (slice_get (sheet_at s.sheets k).nodes n))

row-step :
    (R : Interpretation Image) (s : SceneRecord) (depth k row : ℕ) (f : Dropped) → 0 < depth
    → step_by R (within R s.sheets (depth - 1) (length (sheet_at s.sheets k).nodes + 1)) (spot k Row row) f (step_in s k Row row)
    ≡ row_walk R s.sheets depth k row f
unfolding row_walk
row-step R s zero k row f some = absurd (omega arith)
row-step R s (suc d) k row f some =
    let e : suc d - 1 ≡ d = omega arith in
    let b : length (sheet_at s.sheets k).nodes + 1 ≡ suc (length (sheet_at s.sheets k).nodes) = omega arith in
    rw (e, b) refl

-- ---- where a walk stands

read-from :
    {K : Type 0} (w v : Walk K) (at : At) → IsFurtherFrom at w v
    → step_by (points_in w) (answers_in v) (spot w.spot.sheet at w.spot.row) (dropped_in w) (step_in w.scene.now w.spot.sheet at w.spot.row)
    ≡ answer_within (points_in w) w.scene.now.sheets w.depth w.below w.spot.sheet at w.spot.row (dropped_in w)
read-from w v Row inside =
    ap (λ v. step_by (points_in w) (answers_in v) (spot w.spot.sheet Row w.spot.row) (dropped_in w) (step_in w.scene.now w.spot.sheet Row w.spot.row)) inside.2
    ∙ row-step (points_in w) w.scene.now w.depth w.spot.sheet w.spot.row (dropped_in w) inside.0
read-from w v (Input n) below =
    ap (λ v. step_by (points_in w) (answers_in v) (spot w.spot.sheet (Input n) w.spot.row) (dropped_in w)
    (step_in w.scene.now w.spot.sheet (Input n) w.spot.row)) below.1
    ∙ input-step (points_in w) w.scene.now (λ q. unfold by_points in refl) w.depth w.below w.spot.sheet n w.spot.row (dropped_in w) below.0

-- the image of a spot is what the step from there is read as
pub read :
    {K : Type 0} (w v : Walk K) (step : Step) (p : Point) → IsFurther w v → step ≡ step_of w.scene.now w.spot
    → step_by (points_in w) (answers_in v) w.spot (dropped_in w) step p ≡ image_in w p
unfolding image_in step_of
read w v step p further is =
    ap (λ step. step_by (points_in w) (answers_in v) w.spot (dropped_in w) step p) is
    ∙ ap (λ (image : Image). image p) (read-from w v w.spot.at further)

end-from :
    {K : Type 0} (w : Walk K) (at : At) (p : Point) → IsEndFrom at w
    → clear ≡ answer_within (points_in w) w.scene.now.sheets w.depth w.below w.spot.sheet at w.spot.row (dropped_in w) p
unfolding walk row_walk by_points
end-from w Row p none = rw none refl
end-from w (Input n) p none = rw none refl

-- nothing is seen where a walk may make no step more
pub at_end : {K : Type 0} (w : Walk K) (p : Point) → IsAtEnd w → clear ≡ image_in w p
unfolding image_in
at_end w p ends = end-from w w.spot.at p ends

-- a step changes only how far the walk may still go
pub kept :
    {K B : Type 0} (w v : Walk K) (part : Walk K → B) → ((depth below : ℕ) → part (record w { depth = depth; below = below }) ≡ part w)
    → IsFurther w v → part v ≡ part w
kept w v part same further = from w.spot.at further
  where
    from : (at : At) → IsFurtherFrom at w v → part v ≡ part w
    from Row inside = ap part inside.2 ∙ same (w.depth - 1) (length (sheet_in w).nodes + 1)
    from (Input n) below = ap part below.1 ∙ same w.depth (w.below - 1)

-- the image of another spot, and of the next one, under the same filters and under nearer ones
pub image-at :
    {K : Type 0} (w u : Walk K) (next : Spot) → u ≡ record w { spot = next } → image_in u ≡ answers_in w next (dropped_in w)
unfolding image_in
image-at w u next is = ap (λ u. image_in u) is

pub next-image :
    {K : Type 0} (w v u : Walk K) (next : Spot) → IsFurther w v → u ≡ record v { spot = next }
    → image_in u ≡ answers_in v next (dropped_in w)
next-image w v u next further is =
    image-at v u next is ∙ ap (answers_in v next) (kept w v (λ v. dropped_in v) (λ depth below. refl) further)

pub next-under :
    {K : Type 0} (v u x : Walk K) (next : Spot) (nearer : Bor Filters) (f : Dropped) → u ≡ record v { spot = next }
    → x ≡ record u { filters = nearer } → dropped_of nearer.now ≡ f → image_in x ≡ answers_in v next f
unfolding image_in
next-under v u x next nearer f is under drops =
    ap (λ x. image_in x) (under ∙ ap (λ (u : Walk _). record u { filters = nearer }) is) ∙ ap (answers_in v next) drops

-- ---- terminals

above-fold :
    (R : Interpretation Image) (val : Ref → Image) (p : Point) (ts : List Ref) (was : Image)
    → ((upper lower : Image) → R.pair OverOp upper lower p ≡ over_of (upper p) (lower p))
    → above_by R was (map val ts) p ≡ fold (λ w t. over_of (val t p) w) (was p) ts
above-fold R val p [] was lays = refl
above-fold R val p (t ∷ ts) was lays =
    above-fold R val p ts (R.pair OverOp (val t) was) lays
    ∙ ap (λ lowest. fold (λ w t. over_of (val t p) w) lowest ts) (lays (val t) was)

-- a pixel over a clear one is that pixel
pub composed-stack :
    (s : SceneRecord) (px : Pictures) (val : Ref → Image) (p : Point) (ts : List Ref) → ((q : Channels) → over_of q clear ≡ q)
    → stack_of (λ t. val t p) ts ≡ composed_by (by_points s px) (map val ts) p
unfolding by_points
composed-stack s px val p [] over_clear = refl
composed-stack s px val p (t ∷ ts) over_clear =
    ap (λ was. fold (λ w t. over_of (val t p) w) was ts) (over_clear (val t p))
    ∙ sym (above-fold (by_points s px) val p ts (val t) (λ upper lower. refl))

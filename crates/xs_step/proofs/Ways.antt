-- Where every way through a scene ends, so do the ways from spot to spot
use Rattle.std.proofs.Common.{◌≡◌, ◌≤◌, ◌+◌, ◌-◌, ◌*◌, ℕ, zero, suc, Option, Some, None, length, slice_get, sym, subst, ⊎_elim, arith}
use Rattle.std.proofs.lemmas.Bool.{cases_lt}
use Rattle.std.proofs.lemmas.Option.{slice_get_past}
use Rattle.xs_scene.specs.declared.seen.Seen.{Seen}
use Rattle.xs_scene.specs.declared.seen.Seen.TheVariants.{Empty, Drawing, Row as SeenRow}
use Rattle.xs_scene.specs.declared.node.Ref.{Ref}
use Rattle.xs_scene.specs.declared.node.Ref.TheVariants.{Column as ToColumn, Node as ToNode}
use Rattle.xs_scene.specs.declared.node.Node.{Node}
use Rattle.xs_scene.specs.declared.node.Node.TheVariants.{Pair, Card, Shuffle, Blur, Keep, Delete}
use Rattle.xs_scene.specs.Records.{SceneRecord}
use Rattle.xs_meaning.specs.Cells.{cell_at}
use Rattle.xs_meaning.specs.Ends.{AllEnd, InputsHave, NodesEnd, SeenHas, SheetsEnd}
use Rattle.xs_meaning.specs.Places.{place_of}
use Rattle.xs_meaning.specs.Walk.{sheet_at, column_at}
use Rattle.xs_meaning.proofs.Depth.{seen-ends}
use Rattle.xs_pixel.specs.Points.{Point}
use Rattle.xs_step.specs.declared.spot.At.TheVariants.{Row}
use Rattle.xs_step.specs.declared.spot.Spot.{Spot}
use Rattle.xs_step.specs.Spots.{spot, input_spot}
use Rattle.xs_step.specs.Steps.{step_of, step_of_seen, step_of_listed, step_of_node}
use Rattle.xs_step.specs.Ways.{LeadsTo, WaysEnd}

seen-leads :
    (P : Spot → Type 0) (Q : ℕ → Type 0) (p : Spot) (offset : Point) → ((j inner : ℕ) → Q j → P (spot j Row inner))
    → (seen : Seen) → SeenHas Q seen → LeadsTo P p (step_of_seen offset seen)
seen-leads P Q p offset leads Empty has = tt
seen-leads P Q p offset leads (Drawing level index) has = tt
seen-leads P Q p offset leads (SeenRow sheet inner) has = leads sheet inner has

listed-leads :
    (P : Spot → Type 0) (p : Spot) (k : ℕ) (input : Ref) → ((row : ℕ) → P (input_spot k input row))
    → (listed : Option ℕ) → LeadsTo P p (step_of_listed k input listed)
listed-leads P p k input each None = tt
listed-leads P p k input each (Some listed) = each listed

node-leads :
    (P : Spot → Type 0) (Q : Ref → Type 0) (p : Spot) (k row : ℕ) → ((t : Ref) (row : ℕ) → Q t → P (input_spot k t row))
    → (node : Option Node) → InputsHave Q node → LeadsTo P p (step_of_node k row node)
node-leads P Q p k row leads None has = tt
node-leads P Q p k row leads (Some (Pair op first second)) has = (leads first row has.0, leads second row has.1)
node-leads P Q p k row leads (Some (Card style)) has = tt
node-leads P Q p k row leads (Some (Shuffle input list)) has =
    listed-leads P p k input (λ r. leads input r has) (slice_get list (row - 1))
node-leads P Q p k row leads (Some (Blur input radius)) has = leads input row has
node-leads P Q p k row leads (Some (Keep input styles)) has = leads input row has
node-leads P Q p k row leads (Some (Delete input styles)) has = leads input row has

-- the ways from each row of a sheet end, in so many steps or more
abbrev RowsEnd : SceneRecord → ℕ → ℕ → Type 0
RowsEnd s least j = (inner n : ℕ) → least ≤ n → WaysEnd s n (spot j Row inner)

-- the ways from each column of a sheet end, in one step more
abbrev ColumnsEnd : SceneRecord → ℕ → ℕ → Type 0
ColumnsEnd s least k = (c row n : ℕ) → least + 1 ≤ n → WaysEnd s n (input_spot k (ToColumn c) row)

column-ends :
    (s : SceneRecord) (d least k : ℕ) → ((j : ℕ) → SheetsEnd s.sheets d j → RowsEnd s least j)
    → SheetsEnd s.sheets (suc d) k → ColumnsEnd s least k
unfolding WaysEnd step_of
column-ends s d least k below ends c row zero le = absurd (omega arith)
column-ends s d least k below ends c row (suc n) le =
    seen-leads (WaysEnd s n) (SheetsEnd s.sheets d) (input_spot k (ToColumn c) row)
    (place_of (sheet_at s.sheets k) (column_at (sheet_at s.sheets k) c).peg row)
    (λ j inner has. below j has inner n (omega arith))
    (cell_at (column_at (sheet_at s.sheets k) c) row)
    (seen-ends s.sheets d k c row
    (subst (λ (m : ℕ). SheetsEnd s.sheets m k) (let e : suc d ≡ d + 1 = omega arith in e) ends))

input-ends :
    (s : SceneRecord) (least k : ℕ) → ColumnsEnd s least k
    → (m : ℕ) (t : Ref) → NodesEnd (sheet_at s.sheets k) m t
    → (row n : ℕ) → least + 1 + m ≤ n → WaysEnd s n (input_spot k t row)
unfolding WaysEnd NodesEnd step_of
input-ends s least k columns m (ToColumn c) ends row n le = columns c row n (omega arith)
input-ends s least k columns zero (ToNode i) ends row n le = absurd ends
input-ends s least k columns (suc m) (ToNode i) ends row zero le = absurd (omega arith)
input-ends s least k columns (suc m) (ToNode i) ends row (suc n) le =
    node-leads (WaysEnd s n) (NodesEnd (sheet_at s.sheets k) m) (input_spot k (ToNode i) row) k row
    (λ t r has. input-ends s least k columns m t has r n (omega arith))
    (slice_get (sheet_at s.sheets k).nodes i) ends

-- a node that the sheet lacks leads nowhere
absent-ends :
    (s : SceneRecord) (k i row n : ℕ) → length (sheet_at s.sheets k).nodes ≤ i → 1 ≤ n
    → WaysEnd s n (input_spot k (ToNode i) row)
unfolding WaysEnd step_of
absent-ends s k i row zero past le = absurd (omega arith)
absent-ends s k i row (suc n) past le =
    subst (λ (node : Option Node). LeadsTo (WaysEnd s n) (input_spot k (ToNode i) row) (step_of_node k row node))
    (sym (slice_get_past (sheet_at s.sheets k).nodes i past)) tt

terminal-ends :
    (s : SceneRecord) → AllEnd s.sheets → (least k : ℕ) → ColumnsEnd s least k
    → (t : Ref) (row n : ℕ) → least + 1 + length (sheet_at s.sheets k).nodes ≤ n → WaysEnd s n (input_spot k t row)
terminal-ends s ends least k columns (ToColumn c) row n le = columns c row n (omega arith)
terminal-ends s ends least k columns (ToNode i) row n le =
    ⊎_elim
    (λ there.
    input-ends s least k columns (length (sheet_at s.sheets k).nodes) (ToNode i) (ends.nodes k i there) row n le)
    (λ past. absent-ends s k i row n past (omega arith))
    (cases_lt i (length (sheet_at s.sheets k).nodes))

rows-end :
    (s : SceneRecord) → AllEnd s.sheets → ((k : ℕ) → length (sheet_at s.sheets k).nodes ≤ 256)
    → (d k : ℕ) → SheetsEnd s.sheets d k → RowsEnd s (d * 258) k
unfolding WaysEnd SheetsEnd step_of
rows-end s ends few zero k sheets inner n le = absurd sheets
rows-end s ends few (suc d) k sheets inner zero le = absurd (omega arith)
rows-end s ends few (suc d) k sheets inner (suc n) le =
    λ i t lt.
    terminal-ends s ends (d * 258) k
    (column-ends s d (d * 258) k (rows-end s ends few d) sheets)
    _ inner n (omega (arith, few k))

-- 16 nested sheets of at most 256 nodes
pub row-ends :
    (s : SceneRecord) → AllEnd s.sheets → ((k : ℕ) → length (sheet_at s.sheets k).nodes ≤ 256)
    → (k row : ℕ) → WaysEnd s 4128 (spot k Row row)
row-ends s ends few k row = rows-end s ends few 16 k (ends.sheets_end k) row 4128 (omega arith)

-- ---- one step

pub WaysEnd-positive : (s : SceneRecord) (n : ℕ) (p : Spot) → WaysEnd s n p → 1 ≤ n
unfolding WaysEnd
WaysEnd-positive s zero p ends = absurd ends
WaysEnd-positive s (suc n) p ends = omega arith

pub WaysEnd-step : (s : SceneRecord) (n : ℕ) (p : Spot) → WaysEnd s n p → LeadsTo (WaysEnd s (n - 1)) p (step_of s p)
unfolding WaysEnd
WaysEnd-step s zero p ends = absurd ends
WaysEnd-step s (suc n) p ends =
    subst (λ (m : ℕ). LeadsTo (WaysEnd s m) p (step_of s p)) (let e : n ≡ suc n - 1 = omega arith in e) ends

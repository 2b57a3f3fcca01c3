-- The plan of a list of roots, and the plans that show one
use Rattle.std.specs.Prelude.{◌≡◌, ◌+◌, ℕ, Option, Some, None, List, [], ◌∷◌, ◌++◌, length, map, flat_map, filter_map, fold, count_by, slice_get, if◌then◌else◌}
use Rattle.std.specs.List.{list_any, position_or_len, AllZip}
use Rattle.xs_pixel.specs.Channels.{Channels}
use Rattle.xs_rect.specs.Area.{Area}
use Rattle.xs_meaning.specs.Expressions.{Expr, Clear, Leaf, Tinted, Card, Pair, Blur}
use Rattle.xs_meaning.specs.Palettes.{same_pixels}
use Rattle.xs_tint.specs.Tints.{tint_of}
use Rattle.xs_plan.specs.declared.job.Job.{Job}
use Rattle.xs_plan.specs.declared.job.Job.TheVariants as job
use Rattle.xs_plan.specs.Record.{Entry, PlanRecord}
use Rattle.xs_demand.specs.Aliases.{Alias, same_alias, inputs_of, on_tiles, visit_tiles, aliases_of}

-- ---- tints

-- the tint of an expression, where it is a tinted drawing
abbrev pub tint_in : Expr → Option (List Channels)
tint_in (Tinted d at tint) = Some tint
tint_in _ = None

abbrev pub with_tint : List (List Channels) → List Channels → List (List Channels)
with_tint tints tint = if list_any (same_pixels tint) tints then tints else tints ++ tint ∷ []

-- the tints of expressions, each at its first place
abbrev pub tints_in : List Expr → List (List Channels)
tints_in exprs = fold with_tint [] (filter_map tint_in exprs)

abbrev pub tints_of : List Alias → List (List Channels)
tints_of l = tints_in (map (λ x. x.expr) l)

-- ---- the plan as a function

-- the number of an alias in a list: its first place
abbrev pub number_in : List Alias → Alias → ℕ
number_in l x = position_or_len (same_alias x) l

abbrev pub tint_number : List (List Channels) → List Channels → ℕ
tint_number tints tint = position_or_len (same_pixels tint) tints

abbrev pub job_of : List (List Channels) → Expr → Job
job_of tints Clear = job.Clear
job_of tints (Leaf d at) = job.Leaf d at.x at.y
job_of tints (Tinted d at tint) = job.Tinted d at.x at.y (tint_number tints tint)
job_of tints (Card pixel) = job.Card pixel
job_of tints (Pair op a b) = job.Pair op
job_of tints (Blur n a) = job.Blur n

abbrev pub entry_of : List Alias → List (List Channels) → Alias → Entry
entry_of l tints x =
    record { job = job_of tints x.expr; rect = x.rect; inputs = map (number_in l) (inputs_of x) }

-- the aliases of all rows and tiles
abbrev pub root_aliases : List Area → List Expr → List Alias
root_aliases tiles roots = flat_map (on_tiles tiles) roots

-- how many aliases there are after each row, behind a list
abbrev pub ends_of : List Area → List Expr → List Alias → List ℕ
ends_of tiles [] l = []
ends_of tiles (e ∷ roots) l = length (visit_tiles e tiles l) ∷ ends_of tiles roots (visit_tiles e tiles l)

-- the plan of the roots of rows on the tiles of a frame, with so many drawings
unfoldable pub plan_of : List Area → List Expr → ℕ → PlanRecord
plan_of tiles roots drawings =
    let l = aliases_of tiles roots in
    record {
      tiles = tiles;
      entries = map (entry_of l (tints_of l)) l;
      roots = map (number_in l) (root_aliases tiles roots);
      ends = ends_of tiles roots [];
      tints = tints_of l;
      drawings = drawings;
    }

-- ---- the plans that show a list of roots, by place

-- an alias stands at a place of the list
abbrev pub StandsAt : List Alias → Alias → ℕ → Type 0
StandsAt l x k = slice_get l k ≡ Some x

-- the drawing that an expression shows by itself, where it is one
abbrev pub drawing_in : Expr → Option ℕ
drawing_in (Leaf d at) = Some d
drawing_in (Tinted d at tint) = Some d
drawing_in _ = None

-- a job is that of an expression, where the tints have these numbers
abbrev pub ShowsJob : List (List Channels) → Expr → Job → Type 0
ShowsJob tints Clear j = j ≡ job.Clear
ShowsJob tints (Leaf d at) j = j ≡ job.Leaf d at.x at.y
ShowsJob tints (Tinted d at tint) j = (t : ℕ) × (j ≡ job.Tinted d at.x at.y t) × (slice_get tints t ≡ Some tint)
ShowsJob tints (Card pixel) j = j ≡ job.Card pixel
ShowsJob tints (Pair op a b) j = j ≡ job.Pair op
ShowsJob tints (Blur n a) j = j ≡ job.Blur n

-- an entry is that of an alias: its job, its rectangle, and its inputs by their places
pub record ShowsAlias (l : List Alias) (tints : List (List Channels)) (x : Alias) (e : Entry) : Type 0 where
  pub job : ShowsJob tints x.expr e.job
  pub rect : e.rect ≡ x.rect
  pub inputs : AllZip (StandsAt l) (inputs_of x) e.inputs

-- the tints of a plan in their one canonical form
abbrev pub tints_shown : PlanRecord → List (List Channels)
tints_shown p = map tint_of p.tints

-- a plan shows the roots of rows on tiles
pub record ShowsRoots (tiles : List Area) (roots : List Expr) (p : PlanRecord) : Type 0 where
  pub frame : p.tiles ≡ tiles
  pub entries : AllZip (ShowsAlias (aliases_of tiles roots) (tints_shown p)) (aliases_of tiles roots) p.entries
  pub rows : AllZip (StandsAt (aliases_of tiles roots)) (root_aliases tiles roots) p.roots
  pub ends : p.ends ≡ ends_of tiles roots []
  pub tints : tints_shown p ≡ tints_of (aliases_of tiles roots)

-- how often an alias is used: as an input, as often as others read it, and by rows and tiles whose root it is
abbrev pub uses_of : List Area → List Expr → Alias → ℕ
uses_of tiles roots x =
    count_by (same_alias x) (flat_map inputs_of (aliases_of tiles roots)) + count_by (same_alias x) (root_aliases tiles roots)

-- Plans of three drawings whose rows have an alias each, before a camera of one tile
use Rattle.std.specs.Prelude.{◌≡◌, ◌<◌, ℕ, IfSome, [], ◌∷◌, All, length}
use Rattle.xs_rect.specs.Area.{Area}
use Rattle.xs_plan.specs.declared.job.Job.{Job}
use Rattle.xs_plan.specs.Record.{Entry, drawing_of, ports_of}
use Rattle.xs_plan.specs.Draft.{Draft}
use Rattle.xs_plan.specs.Valid.{IsJob}

-- a job that reads no alias, and needs one of three drawings or none
pub record IsShown (job : Job) : Type 0 where
  pub reads : ports_of job ≡ 0
  pub numbers : (tints : ℕ) → IsJob tints job
  pub drawing : IfSome (drawing_of job) (λ d. d < 3)

-- the alias of a row
abbrev pub alias_on : Area → Job → Entry
alias_on tile job = record { job = job; rect = tile; inputs = [] }

-- a plan that is being built has a tile, and an alias for each of its rows so far
pub record HasRows (tile : Area) (rows given : ℕ) (d : Draft) : Type 0 where
  pub tiles : d.plan.tiles ≡ tile ∷ []
  pub many : d.rows ≡ rows
  pub roots : length d.plan.roots ≡ given
  pub entries : length d.plan.entries ≡ given
  pub rooted : d.rooted ≡ given
  pub drawings : All (λ e. IfSome (drawing_of e.job) (λ drawing. drawing < 3)) d.plan.entries

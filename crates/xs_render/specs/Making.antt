-- What making a section does
use Rattle.std.specs.Prelude.{◌≡◌, ◌≢◌, ◌<◌, ◌≤◌, ℕ, ◌+◌, List, ◌++◌, length}
use Rattle.xs_plan.specs.Record.{PlanRecord}
use Rattle.xs_plan.specs.Sections.{first_section}
use Rattle.xs_core.specs.Views.{DeskView, times, entries}
use Rattle.xs_worker.specs.Sections.{IsMadeIn}
use Rattle.xs_render.specs.Progress.{IsRendered}
use Rattle.xs_render.specs.Computed.{IsRecorded}

-- a seat made all that comes first in a section, and the bench computed the same: each alias once, and no others
pub record MakesSection (p : PlanRecord) (s : ℕ) (v w : DeskView) (before now : List ℕ) : Type 0 where
  pub rendered : IsRendered p s 0 w
  pub made : IsMadeIn p s v w
  pub computed : List ℕ
  pub grew : now ≡ before ++ computed
  pub here : (k : ℕ) → k < length p.entries → first_section p k ≡ s → times k computed ≡ 1
  pub others : (k : ℕ) → (k < length p.entries → first_section p k ≢ s) → times k computed ≡ 0
  pub recorded : IsRecorded v before → IsRecorded w now

-- a seat made a part of it, and the bench computed the same and at most one alias more; none twice, and none that the
-- seat had made before
pub record MakesPart (v w : DeskView) (before now : List ℕ) : Type 0 where
  pub made : List ℕ
  pub more : List ℕ
  pub grew : now ≡ before ++ (made ++ more)
  pub entered : (k : ℕ) → entries k w.made ≡ entries k v.made + times k made
  pub one : length more ≤ 1
  pub once : (k : ℕ) → entries k v.made + times k (made ++ more) ≤ 1
  pub recorded : IsRecorded v before → (k : ℕ) → times k now ≤ 1

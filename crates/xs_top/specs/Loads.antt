-- The drawings that rows of a scene ask for, in order
use Rattle.std.specs.Prelude.{◌≡◌, ◌≤◌, ◌+◌, ℕ, List, [], ◌∷◌, ◌++◌, All, flat_map}
use Rattle.std.specs.List.{range_with_len}
use Rattle.xs_base.specs.Once.{fresh}
use Rattle.xs_base.specs.Sections.{section_rows, sections_in, rows_before}
use Rattle.xs_meaning.specs.Expressions.{needed}
use Rattle.xs_scene.specs.Records.{SceneRecord}
use Rattle.xs_levels.specs.Films.{Files}
use Rattle.xs_top.specs.declared.limits.TheConstants.{MOST_SECTION_BYTES}
use Rattle.xs_top.specs.Demand.{plan_in}
use Rattle.xs_top.specs.Drawings.{bytes_of, bytes_held_over}
use Rattle.xs_top.specs.Finished.{IsAccepted}

-- drawings, each with the bytes that are held once it is loaded too, where so many are held already
abbrev pub loads_over : Files → SceneRecord → ℕ → List ℕ → List (ℕ × ℕ)
loads_over files s over [] = []
loads_over files s over (d ∷ ds) = (d, over + bytes_of files s d) ∷ loads_over files s (over + bytes_of files s d) ds

-- those that a section is the first to need, over the ones that are held from sections before it
abbrev pub loads_in : Files → SceneRecord → (from to section : ℕ) → List (ℕ × ℕ)
loads_in files s from to section =
    loads_over files s (bytes_held_over files s (plan_in s from to) section)
    (fresh (needed s (rows_before from to section)) (needed s (section_rows from to section)))

-- those of all rows
abbrev pub loads : Files → SceneRecord → (from to : ℕ) → List (ℕ × ℕ)
loads files s from to = flat_map (loads_in files s from to) (range_with_len 0 (sections_in from to))

-- a drawing is loaded: its file is accepted, and its section may hold its bytes too
pub record IsLoaded (files : Files) (s : SceneRecord) (load : ℕ × ℕ) : Type 0 where
  pub accepted : IsAccepted files s load.0
  pub fits : load.1 ≤ MOST_SECTION_BYTES

-- rows stop at a drawing, where each one before it is loaded
pub record StopsAt (files : Files) (s : SceneRecord) (from to : ℕ) (load : ℕ × ℕ) : Type 0 where
  pub before : List (ℕ × ℕ)
  pub behind : List (ℕ × ℕ)
  pub place : loads files s from to ≡ before ++ load ∷ behind
  pub loaded : All (IsLoaded files s) before

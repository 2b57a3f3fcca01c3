use Rattle.std.specs.Prelude.{ℕ, ◌+◌, List, [], ◌∷◌, ◌++◌, length, nat_le, if◌then◌else◌, codes, Option, None, Some, Result, Ok, Err}
use Rattle.serde_json.specs.Written.{compact_text}
use Rattle.xs_outside.specs.declared.object.Object.{Object}
use Rattle.xs_fault.specs.declared.code.SceneCode.{SceneCode}
use Rattle.xs_fault.specs.declared.code.SceneCode.TheVariants as scene_code
use Rattle.xs_fault.specs.declared.fault.SceneFault.{SceneFault}
use Rattle.xs_scene.specs.Records.{SceneRecord}
use Rattle.xs_scene_json.specs.SceneData.{scene_data}
use Rattle.xs_scene_json.specs.SceneText.{scene_of}
use Rattle.xs_rawfile.specs.declared.fault.LevelCode.{LevelCode}
use Rattle.xs_pixel.specs.Picture.{Pictures}
use Rattle.xs_base.specs.Once.{fresh}
use Rattle.xs_check.specs.Passes.{first_fault as scene_fault}
use Rattle.xs_words.specs.declared.command.Command.{Command}
use Rattle.xs_words.specs.declared.command.Command.TheVariants as command
use Rattle.xs_words.specs.declared.fault.Usage.{Usage}
use Rattle.xs_words.specs.Grammar.{reading_of}
use Rattle.xs_top.specs.declared.status.Status.{Status}
use Rattle.xs_top.specs.declared.status.Status.TheVariants as answers
use Rattle.xs_base.specs.declared.limits.TheConstants.{SCENE_LIMIT}
use Rattle.xs_top.specs.Trace.{Ask, Place, Line, Outcome, ended, after, unasked}
use Rattle.xs_levels.specs.Films.{Files}
use Rattle.xs_make.specs.Scenes.{scene_from}
use Rattle.xs_top.specs.Frames.{frame_at}
use Rattle.xs_top.specs.Generated.{made_files, made_base, made_line, made_sum}
use Rattle.xs_top.specs.Drawings.{file_of, pictures_of, fault_of, bytes_of, bytes_held_over}
use Rattle.xs_top.specs.declared.limits.TheConstants.{MOST_SECTION_BYTES}
use Rattle.xs_meaning.specs.Expressions.{needed}
use Rattle.xs_base.specs.Sections.{sections_of}
use Rattle.xs_plan.specs.Record.{PlanRecord}
use Rattle.xs_demand.specs.Limits.{Limit}
use Rattle.xs_dryrun.specs.declared.limits.What.TheVariants as what
use Rattle.xs_dryrun.specs.Passing.{what_of, greatest_of}
use Rattle.xs_top.specs.Demand.{limit_in, plan_in, totals_line, demand_lines}

-- ---- the steps of a run, each with what follows it

-- what follows the bytes of a file, where it is there and no longer than the limit; the two answers where
-- it is not
abbrev pub found : Option (List ℕ) → ℕ → Status → Status → (List ℕ → Outcome) → Outcome
found None limit absent too_long next = ended absent
found (Some bytes) limit absent too_long next =
    if nat_le (length bytes) limit then next bytes else ended too_long

-- a file is asked for
unfoldable pub asking : Files → List ℕ → ℕ → Status → Status → (List ℕ → Outcome) → Outcome
asking files name limit absent too_long next =
    after (Ask name ∷ []) (found (files name) limit absent too_long next)

-- a finished file is put on the shelf
unfoldable pub placing : Object → Outcome → Outcome
placing object next = after (Place object ∷ []) next

-- a line is written
unfoldable pub noting : List ℕ → Outcome → Outcome
noting line next = after (Line line ∷ []) next

-- lines are written in order
abbrev pub noting_lines : List (List ℕ) → Outcome → Outcome
noting_lines [] next = next
noting_lines (line ∷ lines) next = noting line (noting_lines lines next)

-- ---- the scene

-- the answer where there is no scene file that can be read
abbrev pub no_scene : SceneCode → Status
no_scene code = answers.Scene (record { code = code; path = [] })

-- what checking finds
abbrev pub if_faultless : Option SceneFault → Outcome → Outcome
if_faultless (Some fault) next = ended (answers.Scene fault)
if_faultless None next = next

-- what the text of a scene says, and what checking finds in it
abbrev pub decoded : Result SceneRecord SceneFault → (SceneRecord → Outcome) → Outcome
decoded (Err fault) next = ended (answers.Scene fault)
decoded (Ok s) next = if_faultless (scene_fault s) (next s)

-- the scene is loaded
unfoldable pub loading_scene : Files → List ℕ → (SceneRecord → Outcome) → Outcome
loading_scene files name next =
    asking files name SCENE_LIMIT (no_scene scene_code.NoScene) (no_scene scene_code.TooLong)
    (λ bytes. decoded (scene_of bytes) next)

-- ---- the demand

-- what follows where no limit is passed
abbrev pub within_limits : Option Limit → Outcome → Outcome
within_limits (Some limit) next = ended (answers.Limit (what_of limit) (greatest_of (what_of limit)))
within_limits None next = next

-- ---- the drawings

-- what follows where no more bytes are held than a section may hold
abbrev pub counted : ℕ → Outcome → Outcome
counted bytes next =
    if nat_le bytes MOST_SECTION_BYTES then next else ended (answers.Limit what.SectionBytes MOST_SECTION_BYTES)

-- what follows the file of a drawing, where it has no fault and its bytes may be held too
abbrev pub accepted : ℕ → Option LevelCode → ℕ → Outcome → Outcome
accepted d (Some code) bytes next = ended (answers.Level d code)
accepted d None bytes next = counted bytes next

-- drawings are loaded in order, where so many bytes are held already: each is asked for, read and counted before the
-- next
unfoldable pub loading : Files → SceneRecord → ℕ → List ℕ → Outcome → Outcome
loading files s over [] next = next
loading files s over (d ∷ ds) next =
    after (Ask (file_of s d) ∷ [])
    (accepted d (fault_of files s d) (over + bytes_of files s d) (loading files s (over + bytes_of files s d) ds next))

-- ---- the rows

-- the frames of rows are put on the shelf in order
unfoldable pub placing_rows : SceneRecord → Pictures → List ℕ → List ℕ → Outcome → Outcome
placing_rows s pictures base [] next = next
placing_rows s pictures base (row ∷ rows) next =
    placing (frame_at s pictures base row) (placing_rows s pictures base rows next)

-- a section of the rows of a plan: over the drawings that are held from sections before it, those are loaded that its
-- rows need and no earlier row needs, and then its frames are put on the shelf
unfoldable pub rendering_section : Files → SceneRecord → List ℕ → PlanRecord → ℕ → (earlier rows : List ℕ) → Outcome → Outcome
rendering_section files s base p section earlier rows next =
    loading files s (bytes_held_over files s p section) (fresh (needed s earlier) (needed s rows))
    (placing_rows s (pictures_of files s) base rows next)

-- sections are rendered in order, from one on and after earlier rows
unfoldable pub rendering_sections : Files → SceneRecord → List ℕ → PlanRecord → ℕ → List ℕ → List (List ℕ) → Outcome → Outcome
rendering_sections files s base p section earlier [] next = next
rendering_sections files s base p section earlier (rows ∷ sections) next =
    rendering_section files s base p section earlier rows
    (rendering_sections files s base p (section + 1) (earlier ++ rows) sections next)

-- the line at the end of the rows of a plan
abbrev pub rendered_line : PlanRecord → List ℕ
rendered_line p = codes "rendered " ++ totals_line p

unfoldable pub closing : PlanRecord → Outcome
closing p = noting (rendered_line p) (ended answers.Ok)

-- the line at the end of the rows of a generated scene, with the sum of the pixels of their frames
unfoldable pub summing : ℕ → ℕ → PlanRecord → Outcome
summing seed rows p = noting (made_line seed p (made_sum seed rows)) (ended answers.Ok)

-- ---- the commands

-- the rows of a scene are rendered, where they pass no limit, and then what follows their plan
abbrev pub rendering_rows : Files → SceneRecord → ℕ → ℕ → List ℕ → (PlanRecord → Outcome) → Outcome
rendering_rows files s from to base next =
    within_limits (limit_in s from to)
    (rendering_sections files s base (plan_in s from to) 0 [] (sections_of from to) (next (plan_in s from to)))

-- the rows of a scene are rendered, and their line is written
abbrev pub rendering_scene : Files → ℕ → ℕ → List ℕ → SceneRecord → Outcome
rendering_scene files from to base s = rendering_rows files s from to base closing

unfoldable pub rendering : Files → List ℕ → ℕ → ℕ → List ℕ → Outcome
rendering files name from to base = loading_scene files name (rendering_scene files from to base)

-- the text of a scene in format 2 is written
abbrev pub showing_scene : SceneRecord → Outcome
showing_scene s = noting (compact_text (scene_data (record s { format = 2 }))) (ended answers.Ok)

unfoldable pub showing : Files → List ℕ → Outcome
showing files name = loading_scene files name showing_scene

-- the demand of rows of a scene is written, line by line
abbrev pub demanding_scene : ℕ → ℕ → SceneRecord → Outcome
demanding_scene from to s =
    within_limits (limit_in s from to) (noting_lines (demand_lines (plan_in s from to)) (ended answers.Ok))

unfoldable pub demanding : Files → List ℕ → ℕ → ℕ → Outcome
demanding files name from to = loading_scene files name (demanding_scene from to)

-- the rows of a generated scene are rendered over its own files, which no library is asked for, and their line is written
unfoldable pub making_rows : ℕ → ℕ → Outcome
making_rows seed rows = rendering_rows (made_files seed) (scene_from seed rows) 1 rows made_base (summing seed rows)

unfoldable pub making : ℕ → ℕ → Outcome
making seed rows = unasked (making_rows seed rows)

-- a command is carried out
unfoldable pub commanding : Files → Command → Outcome
commanding files (command.Render scene from to workers base) = rendering files scene from to base
commanding files (command.Dry scene from to) = demanding files scene from to
commanding files (command.Show scene) = showing files scene
commanding files (command.Make seed rows workers) = making seed rows
commanding files (command.Again old new from to workers base) = ended answers.NotYet

-- words are a command, or none
abbrev pub obeying : Files → Result Command Usage → Outcome
obeying files (Err usage) = ended (answers.Usage usage)
obeying files (Ok command) = commanding files command

-- the outcome of these words over a library of these files
unfoldable pub outcome : Files → List (List ℕ) → Outcome
outcome files words = obeying files (reading_of words)

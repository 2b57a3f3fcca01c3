-- What ends well has a line, so that the notes tell where it was not done.
use Rattle.std.proofs.Common.{◌≡◌, ℕ, ◌+◌, ◌-◌, List, [], ◌∷◌, ◌++◌, Option, Some, None, Result, length, Ok, Err, sym, ap, ◌∙◌}
use Rattle.std.proofs.lemmas.List.{append-nil, append_cancel_left}
use Rattle.serde_json.specs.Written.{compact_text}
use Rattle.xs_fault.specs.declared.fault.SceneFault.{SceneFault}
use Rattle.xs_outside.specs.Told.{more}
use Rattle.xs_scene.specs.Records.{SceneRecord}
use Rattle.xs_scene_json.specs.SceneData.{scene_data}
use Rattle.xs_demand.specs.Limits.{Limit}
use Rattle.xs_lines.specs.Lines.{alias_lines}
use Rattle.xs_top.specs.Demand.{limit_in, plan_in, totals_line}
use Rattle.xs_words.specs.declared.command.Command.{Command}
use Rattle.xs_words.specs.declared.command.Command.TheVariants as command
use Rattle.xs_words.specs.declared.fault.Usage.{Usage}
use Rattle.xs_words.specs.Grammar.{reading_of}
use Rattle.xs_top.specs.declared.status.Status.{Status}
use Rattle.xs_top.specs.declared.status.Status.TheVariants as answers
use Rattle.xs_top.specs.Trace.{lines, Outcome, ended}
use Rattle.xs_top.specs.Seen.{Seen}
use Rattle.xs_top.specs.Causes.{is_noting}
use Rattle.xs_top.specs.Leaves.{Quiet}
use Rattle.xs_top.specs.Runs.{Undone}
use Rattle.xs_levels.specs.Films.{Files}
use Rattle.xs_top.specs.Outcome.{noting, noting_lines, rendered_line, closing, rendering, rendering_scene, within_limits, demanding, demanding_scene, showing, showing_scene, summing, making_rows, making, commanding, obeying, outcome}
use Rattle.xs_plan.specs.Record.{PlanRecord}
use Rattle.xs_make.specs.Scenes.{scene_from}
use Rattle.xs_top.specs.Generated.{made_files, made_base, made_line, made_sum}
use Rattle.xs_top.proofs.Unasked.{lines-without}
use Rattle.xs_top.proofs.Endings.{Stays, rows_in_scene, scene_in, scene_loaded_in}

-- ---- what ends well has a line

abbrev pub HasLine : Outcome → Type 0
HasLine o = o.status ≡ answers.Ok → lines o.work ≡ [] → ⊥

lines_stay : Stays HasLine
lines_stay = record {
  told = λ d code ends none. cc;
  limited = λ w limit ends none. cc;
  asked = λ name next p. p;
  placed = λ object next p. p;
}

line_there : (line rest : List ℕ) → line ++ 10 ∷ rest ≡ [] → ⊥
line_there [] rest e = cc
line_there (x ∷ line) rest e = cc

closing_line : (p : PlanRecord) → HasLine (closing p)
unfolding closing noting
closing_line p ends none = line_there (rendered_line p) [] none

showing_line : (s : SceneRecord) → HasLine (showing_scene s)
unfolding noting
showing_line s ends none = line_there (compact_text (scene_data (record s { format = 2 }))) [] none

demand_line : (lines : List (List ℕ)) (last : List ℕ) → HasLine (noting_lines (lines ++ last ∷ []) (ended answers.Ok))
unfolding noting
demand_line [] last ends none = line_there last [] none
demand_line (line ∷ rest) last ends none = line_there line _ none

limited_line : (found : Option Limit) (lines : List (List ℕ)) (last : List ℕ)
    → HasLine (within_limits found (noting_lines (lines ++ last ∷ []) (ended answers.Ok)))
limited_line None lines last = demand_line lines last
limited_line (Some limit) lines last = λ ends none. cc

demanding_line : (from to : ℕ) (s : SceneRecord) → HasLine (demanding_scene from to s)
demanding_line from to s =
    limited_line (limit_in s from to) (alias_lines (plan_in s from to) 0 (length (plan_in s from to).entries)) (totals_line (plan_in s from to))

scene_line : (fault : SceneFault) → HasLine (ended (answers.Scene fault))
scene_line fault ends none = cc

not_yet_line : HasLine (ended answers.NotYet)
not_yet_line ends none = cc

usage_line : (usage : Usage) → HasLine (ended (answers.Usage usage))
usage_line usage ends none = cc

pub demanding_line_there : (files : Files) (name : List ℕ) (from to : ℕ) → HasLine (demanding files name from to)
unfolding demanding
demanding_line_there files name from to =
    scene_loaded_in HasLine lines_stay scene_line (demanding_scene from to) (demanding_line from to) files name

pub rendering_line : (files : Files) (name : List ℕ) (from to : ℕ) (base : List ℕ) → HasLine (rendering files name from to base)
unfolding rendering
rendering_line files name from to base =
    scene_loaded_in HasLine lines_stay scene_line (rendering_scene files from to base)
    (λ s. scene_in HasLine lines_stay files s base from to (closing_line (plan_in s from to))) files name

pub showing_line_there : (files : Files) (name : List ℕ) → HasLine (showing files name)
unfolding showing
showing_line_there files name = scene_loaded_in HasLine lines_stay scene_line showing_scene showing_line files name

pub making_line : (seed rows : ℕ) → HasLine (making seed rows)
unfolding making making_rows summing noting
making_line seed rows ends none =
    rows_in_scene HasLine lines_stay (made_files seed) (scene_from seed rows) made_base 1 rows (summing seed rows)
    (λ over left. line_there (made_line seed (plan_in (scene_from seed rows) 1 rows) (made_sum seed rows)) [] left)
    ends (sym (lines-without (making_rows seed rows).work) ∙ none)

pub command_line : (files : Files) (words : Command) → HasLine (commanding files words)
unfolding commanding
command_line files (command.Render scene from to workers base) = rendering_line files scene from to base
command_line files (command.Dry scene from to) = demanding_line_there files scene from to
command_line files (command.Show scene) = showing_line_there files scene
command_line files (command.Make seed rows workers) = making_line seed rows
command_line files (command.Again old new from to workers base) = not_yet_line

obeying_line : (files : Files) (reading : Result Command Usage) → HasLine (obeying files reading)
obeying_line files (Err usage) = usage_line usage
obeying_line files (Ok command) = command_line files command

pub outcome_line : (files : Files) (words : List (List ℕ)) → HasLine (outcome files words)
unfolding outcome
outcome_line files words = obeying_line files (reading_of words)

-- so the notes tell where it was not done
nothing_more : (written line : List ℕ) → more (Some written) line ≡ Some written → line ≡ []
unfolding more
nothing_more written line e =
    let same : written ++ line ≡ written ++ [] = cc (append-nil written) in append_cancel_left written line [] same

pub undone_quietly : (all : Files → Outcome) → ((files : Files) → HasLine (all files)) → (before now : Seen) (answer : Status) → Quiet before now answer
    → Undone all before now answer
undone_quietly all ending before now answer quiet files e written told memory ends whole =
    let still : now.told.notes ≡ before.told.notes = quiet (ap is_noting memory) in
    let same : more before.told.notes (lines (all files).work) ≡ before.told.notes = sym (ap (λ seen. seen.notes) whole) ∙ still in
    ending files ends (nothing_more written (lines (all files).work) (rw told at same))

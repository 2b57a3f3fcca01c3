-- What rendering rows of a generated scene does.
use Rattle.std.proofs.Common.{◌≡◌, ℕ, ◌+◌, ◌-◌, ◌*◌, ◌^◌, ◌<◌, ◌≤◌, true, false, List, [], ◌∷◌, ◌++◌, length, Option, Some, None, Result, Ok, Err, inl, inr, refl, sym, ap, ◌∙◌, subst, arith}
use Rattle.std.proofs.lemmas.List.{append-nil}
use Rattle.std.proofs.lemmas.List.FromFn.{length-range_with_len}
use Rattle.xs_base.specs.declared.limits.TheConstants.{MOST_GENERATED_ROWS}
use Rattle.xs_base.specs.Sections.{rows_of, sections_of}
use Rattle.xs_levels.specs.Films.{Files}
use Rattle.xs_make.specs.Scenes.{scene_from}
use Rattle.xs_meaning.specs.RowValues.{frame_pixel}
use Rattle.xs_outside.specs.Told.{Rose, more}
use Rattle.xs_pixel.specs.Channels.{IsPixel}
use Rattle.xs_pixel.specs.Points.{Point}
use Rattle.xs_scene.specs.Names.{is_name}
use Rattle.xs_top.specs.declared.status.Status.{Status}
use Rattle.xs_top.specs.declared.status.Status.TheVariants as answers
use Rattle.xs_top.specs.Causes.{answer_of, is_of_words}
use Rattle.xs_check.specs.Good.{files_of}
use Rattle.xs_demand.specs.Shown.{ShowsRoots}
use Rattle.xs_dryrun.specs.declared.limits.PlanFault.{PlanFault}
use Rattle.xs_dryrun.specs.declared.limits.PlanFault.TheVariants as plan_fault
use Rattle.xs_dryrun.specs.declared.limits.What.{What}
use Rattle.xs_dryrun.specs.Passing.{what_of, greatest_of}
use Rattle.xs_plan.specs.Record.{PlanRecord}
use Rattle.std.specs.Option.{option_map}
use Rattle.xs_top.specs.Demand.{tiles_of, roots_in, limit_in, plan_in}
use Rattle.xs_top.specs.Drawings.{pictures_of}
use Rattle.xs_top.specs.Finished.{AreAccepted}
use Rattle.xs_top.specs.Generated.{made_files, made_base, made_frames, made_line, made_sum}
use Rattle.xs_top.specs.Leaves.{Leaves, Quiet}
use Rattle.xs_top.specs.Outcome.{noting, rendering_sections, making_rows, making, summing}
use Rattle.xs_top.specs.Texts.{plan_status}
use Rattle.xs_top.specs.Writes.{Writes}
use Rattle.xs_top.specs.Ran.{is_of_making, RanMaking}
use Rattle.xs_top.specs.Rendered.{AreWithin, IsMade, RendersWhole}
use Rattle.xs_top.specs.Runs.{Did, Runs, Stopped, is_broken, IsRun}
use Rattle.xs_top.specs.Seen.{Seen}
use Rattle.xs_top.specs.Trace.{asks, puts, lines, without_asks, Outcome, ended, after, Contents, grown, summed}
use Rattle.xs_top.proofs.Finishing.{frames_events, frames_puts, frames_lines, rows_through}
use Rattle.xs_top.proofs.FrameSums.{frames_sum, summed_whole}
use Rattle.xs_top.proofs.Listings.{TakenOnce}
use Rattle.xs_top.proofs.Parts.{more-nothing, puts-append, lines-append, stopped_here, leaves_nothing}
use Rattle.xs_top.proofs.Unasked.{asks-without, puts-without, lines-without, beside, runs_beside, leaves_beside}
use Rattle.xs_top.proofs.LastLines.{making_line, undone_quietly}
use Rattle.xs_top.proofs.Demanding.{PlanLaw, plan_shown, plan_stopped, rows_shown}
use Rattle.xs_top.proofs.Wholes.{result_run}
use Rattle.xs_top.proofs.Writing.{writes_run}

pub base_is_a_name : is_name made_base ≡ true
unfolding is_name
base_is_a_name = refl

-- ---- the whole

module _ (once : TakenOnce) (seed rows : ℕ) (least : 1 ≤ rows) (most : rows ≤ MOST_GENERATED_ROWS)
    (within : AreWithin (made_files seed) (scene_from seed rows) 1 rows)
    (ok : AreAccepted (made_files seed) (scene_from seed rows) (rows_of 1 rows))
    (pixels : (row : ℕ) (p : Point) → IsPixel (frame_pixel (scene_from seed rows) (pictures_of (made_files seed) (scene_from seed rows)) row p)) where
  made_through : making_rows seed rows
      ≡ after (frames_events (made_files seed) (scene_from seed rows) made_base 1 rows) (summing seed rows (plan_in (scene_from seed rows) 1 rows))
  unfolding making_rows
  made_through = rows_through once (made_files seed) made_base (scene_from seed rows) 1 rows least within ok (summing seed rows)

  made_ends : (making seed rows).status ≡ answers.Ok
  unfolding making summing noting
  made_ends = ap (λ o. o.status) made_through

  made_placed : puts (making seed rows).work ≡ made_frames seed rows
  unfolding making summing noting made_frames
  made_placed =
      puts-without (making_rows seed rows).work
      ∙ (ap (λ o. puts o.work) made_through
      ∙ (puts-append (frames_events (made_files seed) (scene_from seed rows) made_base 1 rows) _
      ∙ (append-nil _ ∙ frames_puts (made_files seed) (scene_from seed rows) made_base 1 rows least)))

  made_noted : lines (making seed rows).work ≡ made_line seed (plan_in (scene_from seed rows) 1 rows) (made_sum seed rows) ++ 10 ∷ []
  unfolding making summing noting
  made_noted =
      lines-without (making_rows seed rows).work
      ∙ (ap (λ o. lines o.work) made_through
      ∙ (lines-append (frames_events (made_files seed) (scene_from seed rows) made_base 1 rows) _
      ∙ ap (λ l. l ++ lines (summing seed rows (plan_in (scene_from seed rows) 1 rows)).work) (frames_lines (made_files seed) (scene_from seed rows) made_base 1 rows)))

  sum_small : made_sum seed rows < 2 ^ 64
  unfolding made_frames
  sum_small =
      let sum = frames_sum (scene_from seed rows) (pictures_of (made_files seed) (scene_from seed rows)) pixels made_base (rows_of 1 rows) in
      let count : length (rows_of 1 rows) ≡ rows = length-range_with_len 1 (rows + 1 - 1) ∙ omega arith in
      omega (arith, sum, count, most)

  pub renders_whole : RendersWhole seed rows
  renders_whole = record { ends = made_ends; frames = made_placed; line = made_noted; small = sum_small }

-- ---- a run

pub made_whole : (seed rows : ℕ) → RendersWhole seed rows → (before now : Contents) → now ≡ grown before (making seed rows).work → IsMade seed rows before now
unfolding making
made_whole seed rows whole before now told = record {
  asked = ap (λ seen. seen.asked) told ∙ (ap (more before.asked) (asks-without (making_rows seed rows).work) ∙ more-nothing before.asked);
  frames = ap (λ seen. seen.shelf) told ∙ ap (more before.shelf) whole.frames;
  line = ap (λ seen. seen.notes) told ∙ ap (more before.notes) whole.line;
}

-- behind the frames their sum is told
pub made_total : (seed rows : ℕ) → RendersWhole seed rows → (before now : Contents)
    → Did (making_rows seed rows) (summing seed rows (plan_in (scene_from seed rows) 1 rows)) before now → before.sum ≡ Some 0
    → now.sum ≡ Some (made_sum seed rows)
unfolding making summing noting
made_total seed rows whole before now did none =
    let placed : puts did.done ≡ made_frames seed rows =
    sym (append-nil (puts did.done)) ∙ (sym (puts-append did.done _)
    ∙ (ap (λ o. puts o.work) (sym did.split) ∙ (sym (puts-without (making_rows seed rows).work) ∙ whole.frames))) in
    ap (λ seen. seen.sum) did.told
    ∙ (ap (λ frames. summed before.sum frames) placed
    ∙ (ap (λ told. summed told (made_frames seed rows)) none
    ∙ (summed_whole (made_frames seed rows) 0 (let small = whole.small in omega (arith, small)) ∙ ap Some (omega arith))))

-- it ends well unless writing fails or memory is wanted, where the library at hand has no faults
rose_never : Rose 0 0 → ⊥
rose_never (inl more) = omega (arith, more)
rose_never (inr last) = omega (arith, last)

unbroken_ends : (status : Status) → (is_broken status ≡ false → status ≡ answers.Ok) → (status ≡ answers.ReadFault → ⊥) → is_of_making status ≡ true
unbroken_ends answers.Ok ends never = refl
unbroken_ends answers.WriteFault ends never = refl
unbroken_ends answers.Memory ends never = refl
unbroken_ends answers.ReadFault ends never = absurd (never refl)
unbroken_ends (answers.Usage usage) ends never = absurd (let same = ends refl in cc)
unbroken_ends (answers.Scene fault) ends never = absurd (let same = ends refl in cc)
unbroken_ends (answers.Level drawing code) ends never = absurd (let same = ends refl in cc)
unbroken_ends (answers.Limit what limit) ends never = absurd (let same = ends refl in cc)
unbroken_ends answers.NotYet ends never = absurd (let same = ends refl in cc)

pub making_answers : {A : Type 0} (seed rows : ℕ) → RendersWhole seed rows → (before now : Seen) (result : Result A Status)
    → Runs (making_rows seed rows) (λ _. ended answers.Ok) before now result → Leaves before now (answer_of result)
    → before.faults.library ≡ 0 → now.faults.library ≡ 0 → is_of_making (answer_of result) ≡ true
unfolding making
making_answers seed rows whole before now result ran left none still =
    let run = result_run (making_rows seed rows) before now result ran in
    unbroken_ends (answer_of result) (λ unbroken. run.answer unbroken ∙ whole.ends)
    (λ read. rose_never (rw (none, still) at (left.read read)))

-- where memory was wanted before anything was done
pub making_wanted : (seed rows : ℕ) (seen : Seen) → RanMaking seed rows seen seen answers.Memory
making_wanted seed rows seen = record {
  told = result_run {A = Unit {0}} (making seed rows) seen seen (Err answers.Memory) (stopped_here (making seed rows) seen);
  made = λ ends. absurd cc;
  undone = undone_quietly (λ _. making seed rows) (λ _. making_line seed rows) seen seen answers.Memory (λ silent. refl);
  ends = refl;
  left = leaves_nothing seen answers.Memory refl refl;
  quiet = λ silent. refl;
  library = refl;
}

-- no answer of making is one of the words
pub making_beside : (status : Status) → is_of_making status ≡ true → is_of_words status ≡ false
making_beside answers.Ok ends = refl
making_beside answers.WriteFault ends = refl
making_beside answers.Memory ends = refl
making_beside answers.ReadFault ends = absurd cc
making_beside (answers.Usage usage) ends = absurd cc
making_beside (answers.Scene fault) ends = absurd cc
making_beside (answers.Level drawing code) ends = absurd cc
making_beside (answers.Limit what limit) ends = absurd cc
making_beside answers.NotYet ends = absurd cc

-- what is seen beside any library
pub ran_beside : {A : Type 0} (seed rows : ℕ) → RendersWhole seed rows → (before now : Seen) (result : Result A Status)
    → Runs (making_rows seed rows) (λ _. ended answers.Ok) before now result → Leaves before now (answer_of result)
    → Quiet before now (answer_of result) → before.faults.library ≡ 0 → now.faults.library ≡ 0
    → (files : Option Files) (asked : Option (List (List ℕ))) (faults : ℕ)
    → RanMaking seed rows (beside files asked faults before) (beside files asked faults now) (answer_of result)
unfolding making
ran_beside seed rows whole before now result did left quiet none still files asked faults =
    let ends = making_answers seed rows whole before now result did left none still in
    let ran = runs_beside files asked faults (making_rows seed rows) before now result ends did in
    let run = result_run (making seed rows) (beside files asked faults before) (beside files asked faults now) result ran in
    record {
      told = run;
      made = λ ok. made_whole seed rows whole _ _ (run.whole (ap is_broken ok));
      undone = undone_quietly (λ _. making seed rows) (λ _. making_line seed rows) (beside files asked faults before) (beside files asked faults now) (answer_of result) quiet;
      ends = ends;
      left = leaves_beside files asked faults before now (answer_of result) ends left;
      quiet = quiet;
      library = refl;
    }

-- ---- the parts of rendering the rows

-- where there is no plan
pub making_unplanned : (seed rows : ℕ) (seen : Seen) (fault : PlanFault)
    → ((what : What) (limit : ℕ) → fault ≡ plan_fault.Limit what limit
    → (option_map what_of (limit_in (scene_from seed rows) 1 rows) ≡ Some what) × (limit ≡ greatest_of what))
    → Stopped (making_rows seed rows) seen seen (plan_status fault)
unfolding making_rows
making_unplanned seed rows seen fault limited = plan_stopped (scene_from seed rows) 1 rows _ seen fault limited

module _ (law : PlanLaw) (seed rows : ℕ) (p : PlanRecord)
    (shows : ShowsRoots (tiles_of (scene_from seed rows)) (roots_in (scene_from seed rows) 1 rows) p)
    (drawings : p.drawings ≡ length (files_of (scene_from seed rows).levels)) where
  -- where there is one, the rows are rendered by it
  pub making_shown : limit_in (scene_from seed rows) 1 rows ≡ None
      → making_rows seed rows
      ≡ rendering_sections (made_files seed) (scene_from seed rows) made_base p 0 [] (sections_of 1 rows) (summing seed rows (plan_in (scene_from seed rows) 1 rows))
  unfolding making_rows
  making_shown none = rows_shown law (made_files seed) (scene_from seed rows) made_base 1 rows p (summing seed rows) shows drawings none

  line_shown : (total : ℕ) → made_line seed p total ≡ made_line seed (plan_in (scene_from seed rows) 1 rows) total
  unfolding made_line
  line_shown total = ap (λ (q : PlanRecord). made_line seed q total) (plan_shown law (scene_from seed rows) 1 rows p shows drawings)

  -- and their line is written
  pub making_noted : (total : ℕ) (s t : Seen) (result : Result (Unit {0}) Status) → total ≡ made_sum seed rows
      → Writes (made_line seed p total ∷ []) s t result
      → Runs (summing seed rows (plan_in (scene_from seed rows) 1 rows)) (λ _. ended answers.Ok) s t result
  unfolding summing
  making_noted total s t result count wrote =
      writes_run (Unit {0}) (made_line seed (plan_in (scene_from seed rows) 1 rows) (made_sum seed rows) ∷ []) (ended answers.Ok) s t result refl
      (subst (λ (line : List ℕ). Writes (line ∷ []) s t result) (ap (made_line seed p) count ∙ line_shown (made_sum seed rows)) wrote)

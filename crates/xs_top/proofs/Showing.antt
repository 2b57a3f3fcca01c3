-- What a scene that is shown has done; and what a whole run has, without its steps.
use Rattle.std.proofs.Common.{◌≡◌, ℕ, ◌-◌, ◌≤◌, Bool, true, false, Err, List, [], ◌∷◌, Option, Some, None, Result, Ok, inl, inr, refl, sym, ap, ◌∙◌, subst}
use Rattle.serde_json.specs.Written.{compact_text}
use Rattle.xs_fault.specs.declared.fault.SceneFault.{SceneFault}
use Rattle.xs_outside.specs.Told.{more}
use Rattle.xs_check.specs.Passes.{first_fault}
use Rattle.xs_scene.specs.Records.{SceneRecord}
use Rattle.xs_scene_json.specs.SceneData.{scene_data}
use Rattle.xs_word_desk.specs.declared.closing.Closed.{Closed}
use Rattle.xs_words.specs.declared.command.Command.{Command}
use Rattle.xs_words.specs.declared.command.Command.TheVariants as command
use Rattle.xs_words.specs.declared.fault.WordsFault.{WordsFault}
use Rattle.xs_words.specs.declared.fault.WordsFault.TheVariants as words_fault
use Rattle.xs_words.specs.Grammar.{reading_of, Reads}
use Rattle.xs_top.specs.declared.status.Status.{Status}
use Rattle.xs_top.specs.declared.status.Status.TheVariants as answers
use Rattle.xs_top.specs.Trace.{Ask, Line, puts, Outcome, ended, after, Contents, grown}
use Rattle.xs_top.specs.Seen.{Seen}
use Rattle.xs_top.specs.Causes.{answer_of, is_of_words}
use Rattle.xs_top.specs.Words.{Heeds, answer_to, is_make, says_dry}
use Rattle.xs_top.specs.Texts.{words_status}
use Rattle.xs_top.specs.Leaves.{Leaves, Quiet, QuietUnless}
use Rattle.xs_top.specs.Runs.{Runs, GainedFront, Undone, is_broken, IsRun}
use Rattle.xs_levels.specs.Films.{Files}
use Rattle.xs_top.specs.Finished.{Says}
use Rattle.xs_top.specs.Rendered.{IsShown}
use Rattle.xs_top.specs.Ran.{RanScene, RanMake, RanMaking, Obeyed, RanCall, RanRendering, RanShowing, RanDryRun, LeftUndone, Ran}
use Rattle.xs_top.specs.Outcome.{if_faultless, noting, rendering, showing, showing_scene, demanding, commanding, outcome}
use Rattle.xs_top.proofs.Parts.{more-nothing}
use Rattle.xs_top.proofs.Wholes.{result_run}
use Rattle.xs_top.proofs.Commands.{command_obeyed, words_stopped, words_leave, words_heeded, command_heeded, command_quiet, command_undone, built_heeded}
use Rattle.xs_top.proofs.Listings.{TakenOnce}
use Rattle.xs_top.proofs.Finishing.{scene_through}
use Rattle.xs_top.proofs.Fronts.{says_or_not}
use Rattle.xs_top.proofs.Rendering.{checked_good, take_none, run_rows, is_rendering}
use Rattle.xs_top.proofs.LastLines.{rendering_line, showing_line_there, outcome_line, undone_quietly}
use Rattle.xs_top.proofs.Making.{making_wanted, making_beside}
use Rattle.xs_top.proofs.Demanding.{run_demand, is_demanding}

-- ---- a scene that is shown

abbrev shown_text : SceneRecord → List ℕ
shown_text s = compact_text (scene_data (record s { format = 2 }))

module _ (files : Files) (name : List ℕ) where
  checked_shows : (fault : Option SceneFault) (s : SceneRecord) → puts (if_faultless fault (showing_scene s)).work ≡ []
  unfolding noting
  checked_shows None s = refl
  checked_shows (Some fault) s = refl

  nothing_placed : puts (showing files name).work ≡ []
  unfolding showing
  nothing_placed =
      elim (says_or_not files name showing_scene) [
        | inl said ↦ ap (λ o. puts o.work) (scene_through files name said.0 showing_scene said.1) ∙ checked_shows (first_fault said.0) said.0
        | inr none ↦ ap (λ o. puts o.work) none.ends
      ]

  shown_work : (s : SceneRecord) → Says files name s → first_fault s ≡ None → (showing files name).work ≡ Ask name ∷ Line (shown_text s) ∷ []
  unfolding showing noting
  shown_work s says good =
      ap (λ o. o.work) (scene_through files name s showing_scene says)
      ∙ ap (λ fault. (after (Ask name ∷ []) (if_faultless fault (showing_scene s))).work) good

  shown_whole : (before now : Contents) → now ≡ grown before (showing files name).work → (showing files name).status ≡ answers.Ok
      → IsShown files name before now
  unfolding showing
  shown_whole before now whole ends =
      elim (says_or_not files name showing_scene) [
        | inl said ↦
            let s = said.0 in
            let good = checked_good (first_fault s) (showing_scene s) (ap (λ o. o.status) (sym (scene_through files name s showing_scene said.1)) ∙ ends) in
            let done = whole ∙ ap (grown before) (shown_work s said.1 good) in
            record {
              scene = s;
              says = said.1;
              faultless = good;
              asked = ap (λ seen. seen.asked) done;
              line = ap (λ seen. seen.notes) done;
            }
        | inr none ↦ absurd (let other : answers.Scene none.fault ≡ answers.Ok = ap (λ o. o.status) (sym none.ends) ∙ ends in cc)
      ]

-- the words that show a scene tell it
is_showing : (files : Files) (words : List (List ℕ)) (name : List ℕ) → reading_of words ≡ Ok (command.Show name)
    → outcome files words ≡ showing files name
unfolding commanding
is_showing files words name reads = command_obeyed files words (command.Show name) reads

module _ (files : Files) (name : List ℕ) (all : Outcome) (is : all ≡ showing files name) (before now : Seen) (result : Status)
    (run : IsRun all before now result) where
  scene_shown : result ≡ answers.Ok → IsShown files name before.told now.told
  scene_shown ends =
      let unbroken : is_broken result ≡ false = ap is_broken ends in
      shown_whole files name before.told now.told
      (run.whole unbroken ∙ ap (λ o. grown before.told o.work) is)
      (ap (λ o. o.status) (sym is) ∙ (sym (run.answer unbroken) ∙ ends))

  shelf_left : now.told.shelf ≡ before.told.shelf
  shelf_left =
      let front = subst (λ (whole : Outcome). GainedFront whole before.told now.told) is run.front in
      front.shelf.1 ∙ (ap (more before.told.shelf) (take_none front.shelf.0 _ (nothing_placed files name)) ∙ more-nothing _)

  pub run_scene : Quiet before now result → RanScene files name before now result
  run_scene quiet = record { whole = scene_shown; shelf = shelf_left; nothing = quiet }

-- ---- a whole run

pub ran : {A : Type 0} → TakenOnce → (words : List (List ℕ)) (before now : Seen) (result : Result A Status)
    → ((files : Files) → before.files ≡ Some files → Runs (outcome files words) (λ _. ended answers.Ok) before now result)
    → Heeds (answer_to (reading_of words)) before now (answer_of result)
    → Leaves before now (answer_of result) → QuietUnless (says_dry (reading_of words)) before now (answer_of result)
    → LeftUndone words before now (answer_of result) → RanMake words before now (answer_of result) → Ran words before now (answer_of result)
ran once words before now result did heeds leaves quiet undone made =
    let run = λ (files : Files) (e : before.files ≡ Some files). result_run _ _ _ result (did files e) in
    record {
      told = run;
      rendered = λ files e scene base from to workers ordered reads.
          run_rows files scene base from to ordered _ (is_rendering files words scene base from to workers reads) before now (answer_of result) (run files e) once;
      made = made;
      demanded = λ files e scene from to reads.
          run_demand files scene from to _ (is_demanding files words scene from to reads) before now (answer_of result) (run files e);
      shown = λ files e scene reads.
          run_scene files scene _ (is_showing files words scene reads) before now (answer_of result) (run files e) (quiet (λ memory. ap says_dry reads));
      undone = undone;
      heeds = heeds;
      left = leaves;
      quiet = quiet;
    }

-- words that are no command, or for which there was no memory
pub ran_not : TakenOnce → (words : List (List ℕ)) (seen : Seen) (fault : WordsFault) → Reads (Err fault) (reading_of words)
    → Ran words seen seen (words_status fault)
ran_not once words seen fault reads =
    ran {A = Unit {0}} once words seen seen (Err (words_status fault)) (λ files e. words_stopped files words seen fault reads) (words_heeded words seen fault reads)
    (words_leave seen fault) (λ many silent. refl)
    (undone_quietly (λ files. outcome files words) (λ files. outcome_line files words) seen seen (words_status fault) (λ silent. refl))
    (made_not fault reads)
  where
    made_not : (fault : WordsFault) → Reads (Err fault) (reading_of words) → RanMake words seen seen (words_status fault)
    made_not (words_fault.Usage usage) reads seed rows workers is = absurd (cc (is, reads))
    made_not words_fault.Memory reads seed rows workers is = making_wanted seed rows seen

-- a command over the files of a library
pub ran_over : TakenOnce → (words : List (List ℕ)) (said : Command) (before now : Seen) (result : Result (Option Closed) Status)
    → reading_of words ≡ Ok said → is_make said ≡ false → Obeyed said before now result → Ran words before now (answer_of result)
ran_over once words said before now result reads library obeyed =
    ran once words before now result
    (λ files e. subst (λ (all : Outcome). Runs all (λ _. ended answers.Ok) before now result) (sym (command_obeyed files words said reads)) (obeyed.did files e))
    (command_heeded words said before now (answer_of result) reads obeyed.heeds) obeyed.leaves
    (command_quiet words said before now (answer_of result) reads obeyed.quiet)
    (command_undone words said before now (answer_of result) reads obeyed.undone)
    (λ seed rows workers is. absurd (let same : said ≡ command.Make seed rows workers = cc (reads, is) in cc (ap is_make same, library)))

-- the rows of a generated scene
pub ran_making : TakenOnce → (words : List (List ℕ)) (seed rows workers : ℕ) (before now : Seen) (answer : Status)
    → reading_of words ≡ Ok (command.Make seed rows workers) → RanMaking seed rows before now answer → Ran words before now answer
unfolding commanding
ran_making once words seed rows workers before now answer reads made =
    let same = λ (files : Files). command_obeyed files words (command.Make seed rows workers) reads in
    record {
      told = λ files e. subst (λ (all : Outcome). IsRun all before now answer) (sym (same files)) made.told;
      rendered = λ files e scene base from to workers ordered is. absurd (cc (reads, is));
      made = λ other many workers is.
          let seeds : seed ≡ other = cc (reads, is) in
          let counts : rows ≡ many = cc (reads, is) in
          rw (← seeds, ← counts) made;
      demanded = λ files e scene from to is. absurd (cc (reads, is));
      shown = λ files e scene is. absurd (cc (reads, is));
      undone = λ files e written told memory ends whole.
          made.undone files e written told memory (ap (λ o. o.status) (sym (same files)) ∙ ends) (whole ∙ ap (λ o. grown before.told o.work) (same files));
      heeds = command_heeded words (command.Make seed rows workers) before now answer reads
          (built_heeded before now answer (making_beside answer made.ends));
      left = made.left;
      quiet = λ _. made.quiet;
    }

-- ---- calls, without words

module _ {A : Type 0} (before now : Seen) (result : Result A Status) where
  abbrev Told : (Files → Outcome) → Type 0
  Told all = (files : Files) → before.files ≡ Some files → Runs (all files) (λ _. ended answers.Ok) before now result

  ran_call : (all : Files → Outcome) (many : Bool) → Told all → Undone all before now (answer_of result) → is_of_words (answer_of result) ≡ false
      → Leaves before now (answer_of result) → QuietUnless many before now (answer_of result) → RanCall all many before now (answer_of result)
  ran_call all many did undone words leaves quiet = record {
    told = λ files e. result_run _ _ _ result (did files e);
    undone = undone;
    words = words;
    left = leaves;
    quiet = quiet;
  }

  pub ran_rendering : TakenOnce → (scene base : List ℕ) (from to : ℕ) → from ≤ to → Told (λ files. rendering files scene from to base)
      → is_of_words (answer_of result) ≡ false → Leaves before now (answer_of result) → Quiet before now (answer_of result)
      → RanRendering scene base from to before now (answer_of result)
  ran_rendering once scene base from to ordered did words leaves quiet = record {
    call = ran_call (λ files. rendering files scene from to base) false did
        (undone_quietly (λ files. rendering files scene from to base) (λ files. rendering_line files scene from to base) before now _ quiet)
        words leaves (λ _. quiet);
    rendered = λ files e. run_rows files scene base from to ordered _ refl before now (answer_of result) (result_run _ _ _ result (did files e)) once;
  }

  pub ran_showing : (scene : List ℕ) → Told (λ files. showing files scene) → is_of_words (answer_of result) ≡ false
      → Leaves before now (answer_of result) → Quiet before now (answer_of result) → RanShowing scene before now (answer_of result)
  ran_showing scene did words leaves quiet = record {
    call = ran_call (λ files. showing files scene) false did
        (undone_quietly (λ files. showing files scene) (λ files. showing_line_there files scene) before now _ quiet) words leaves (λ _. quiet);
    shown = λ files e. run_scene files scene _ refl before now (answer_of result) (result_run _ _ _ result (did files e)) quiet;
  }

  pub ran_dry : (scene : List ℕ) (from to : ℕ) → Told (λ files. demanding files scene from to)
      → Undone (λ files. demanding files scene from to) before now (answer_of result) → is_of_words (answer_of result) ≡ false
      → Leaves before now (answer_of result) → QuietUnless true before now (answer_of result) → RanDryRun scene from to before now (answer_of result)
  ran_dry scene from to did undone words leaves quiet = record {
    call = ran_call (λ files. demanding files scene from to) true did undone words leaves quiet;
    demanded = λ files e. run_demand files scene from to _ refl before now (answer_of result) (result_run _ _ _ result (did files e));
  }

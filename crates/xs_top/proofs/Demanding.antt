-- What the demand of a range of rows has done, without its steps.
use Rattle.std.proofs.Common.{◌≡◌, ℕ, ◌+◌, ◌-◌, false, List, [], ◌∷◌, ◌++◌, length, take, Option, Some, None, Result, Ok, inl, inr, refl, sym, ap, ◌∙◌, subst}
use Rattle.std.specs.Option.{option_map}
use Rattle.std.proofs.Math.Seq.{take-nil}
use Rattle.std.proofs.lemmas.List.{append-nil, append_cancel_left}
use Rattle.xs_outside.specs.Told.{more}
use Rattle.xs_fault.specs.declared.fault.SceneFault.{SceneFault}
use Rattle.xs_scene.specs.Records.{SceneRecord}
use Rattle.xs_check.specs.Good.{files_of}
use Rattle.xs_check.specs.Passes.{first_fault}
use Rattle.xs_plan.specs.Record.{PlanRecord}
use Rattle.xs_lines.specs.Lines.{alias_line, with_ends}
use Rattle.xs_demand.specs.Limits.{Limit}
use Rattle.xs_demand.specs.Shown.{ShowsRoots, plan_of, tints_shown}
use Rattle.xs_dryrun.specs.declared.limits.PlanFault.{PlanFault}
use Rattle.xs_dryrun.specs.declared.limits.PlanFault.TheVariants as plan_fault
use Rattle.xs_dryrun.specs.declared.limits.What.{What}
use Rattle.xs_dryrun.specs.Passing.{what_of, greatest_of}
use Rattle.xs_words.specs.declared.command.Command.TheVariants as command
use Rattle.xs_words.specs.Grammar.{reading_of}
use Rattle.xs_top.specs.declared.status.Status.{Status}
use Rattle.xs_top.specs.declared.status.Status.TheVariants as answers
use Rattle.xs_top.specs.Trace.{Ask, puts, lines, Outcome, ended, after, Contents, grown}
use Rattle.xs_top.specs.Seen.{Seen}
use Rattle.xs_top.specs.Causes.{answer_of, is_of_words}
use Rattle.xs_top.specs.Runs.{Did, Runs, Stopped, GainedFront, is_broken, IsRun}
use Rattle.xs_top.specs.Leaves.{Leaves}
use Rattle.xs_top.specs.Texts.{plan_status}
use Rattle.xs_top.specs.Writes.{Writes}
use Rattle.xs_levels.specs.Films.{Files}
use Rattle.xs_top.specs.Finished.{Says}
use Rattle.xs_top.specs.Demand.{demand_lines, tiles_of, roots_in, limit_in, plan_in}
use Rattle.xs_top.specs.Rendered.{IsDemanded, PassesLimit, GainedLines}
use Rattle.xs_top.specs.Ran.{RanDemand}
use Rattle.xs_top.specs.Outcome.{if_faultless, noting_lines, within_limits, closing, rendering_section, rendering_sections, rendering_rows, rendering_scene, demanding_scene, demanding, commanding, outcome}
use Rattle.xs_render.specs.Computed.{HasEachOnce}
use Rattle.xs_word_desk.specs.declared.closing.Closed.{Closed}
use Rattle.xs_top.specs.Once.{ComputedRows, ComputedOnce, IsClosedOf}
use Rattle.xs_top.specs.Drawings.{bytes_held_over}
use Rattle.xs_plan.specs.Needed.{last_section_of}
use Rattle.xs_pixel.specs.Channels.{Channels}
use Rattle.xs_base.specs.Sections.{sections_of}
use Rattle.xs_top.proofs.Parts.{more-nothing, lines-append, did_nothing, did_to, stopped_whole, stopped_here, leaves_nothing}
use Rattle.xs_top.proofs.Writing.{events, noting_are, asks_none, lines_are, puts_noting, writes_run, writes_undone}
use Rattle.xs_top.proofs.Commands.{command_obeyed}
use Rattle.xs_top.proofs.Finishing.{scene_through}
use Rattle.xs_top.proofs.Fronts.{says_or_not}
use Rattle.xs_top.proofs.Rendering.{checked_good, take_none}

-- ---- the plan that is made, and the limit that is told

abbrev pub PlanLaw : Type 0
PlanLaw = (tiles : List _) (roots : List _) (p : PlanRecord) → ShowsRoots tiles roots p
    → record p { tints = tints_shown p } ≡ plan_of tiles roots p.drawings

-- the plan that is made is the plan of the rows, but for how it tells its tints
pub plan_shown : PlanLaw → (s : SceneRecord) (from to : ℕ) (p : PlanRecord) → ShowsRoots (tiles_of s) (roots_in s from to) p
    → p.drawings ≡ length (files_of s.levels) → record p { tints = tints_shown p } ≡ plan_in s from to
plan_shown law s from to p shows drawings =
    law (tiles_of s) (roots_in s from to) p shows ∙ ap (plan_of (tiles_of s) (roots_in s from to)) drawings

tints_apart : (p q : PlanRecord) → record p { tints = tints_shown p } ≡ q → demand_lines p ≡ demand_lines q
unfolding alias_line
tints_apart p q same = ap demand_lines same

-- a plan that shows the rows has their lines
pub lines_shown : PlanLaw → (s : SceneRecord) (from to : ℕ) (p : PlanRecord) → ShowsRoots (tiles_of s) (roots_in s from to) p
    → p.drawings ≡ length (files_of s.levels) → demand_lines p ≡ demand_lines (plan_in s from to)
lines_shown law s from to p shows drawings = tints_apart p _ (plan_shown law s from to p shows drawings)

pub limit_told : (found : Option Limit) (what : What) (limit : ℕ) (next : Outcome) → option_map what_of found ≡ Some what → limit ≡ greatest_of what
    → within_limits found next ≡ ended (answers.Limit what limit)
limit_told None what limit next is greatest = absurd cc
limit_told (Some passed) what limit next is greatest =
    let same : what_of passed ≡ what = cc in
    ap (λ w. ended (answers.Limit w (greatest_of w))) same ∙ ap (λ n. ended (answers.Limit what n)) (sym greatest)

pub none_told : (found : Option Limit) (next : Outcome) → found ≡ None → within_limits found next ≡ next
none_told found next none = ap (λ f. within_limits f next) none

-- ---- where memory was wanted

-- behind a part that noted nothing, lines that are not all written are not all told
pub undone_behind : (all next : Outcome) (ls : List (List ℕ)) (s t u : Seen) (result : Result (Unit {0}) Status) → Did all next s.told t.told
    → t.told.notes ≡ s.told.notes → lines next.work ≡ with_ends ls → Writes ls t u result → (written : List ℕ) → s.told.notes ≡ Some written
    → answer_of result ≡ answers.Memory → u.told ≡ grown s.told all.work → ⊥
unfolding more
undone_behind all next ls s t u result did quiet are wrote written told memory whole =
    let noted : t.told.notes ≡ more s.told.notes (lines did.done) = ap (λ seen. seen.notes) did.told in
    let texts : written ++ lines did.done ≡ written ++ [] = cc (append-nil written, rw told at (sym noted ∙ quiet)) in
    let none : lines did.done ≡ [] = append_cancel_left written _ [] texts in
    let same : lines all.work ≡ with_ends ls =
    ap (λ o. lines o.work) did.split ∙ (lines-append did.done next.work ∙ (ap (λ bytes. bytes ++ lines next.work) none ∙ are)) in
    writes_undone (Unit {0}) ls t u result wrote memory written (quiet ∙ told)
    (ap (λ seen. seen.notes) whole ∙ (ap (more s.told.notes) same ∙ ap (λ notes. more notes (with_ends ls)) (sym quiet)))

pub noting_lines_tell : (ls : List (List ℕ)) → lines (noting_lines ls (ended answers.Ok)).work ≡ with_ends ls
noting_lines_tell ls =
    ap (λ o. lines o.work) (noting_are ls (ended answers.Ok)) ∙ (ap lines (append-nil (events ls)) ∙ lines_are ls)

-- ---- where there is no plan

pub plan_stopped : (s : SceneRecord) (from to : ℕ) (next : Outcome) (seen : Seen) (fault : PlanFault)
    → ((what : What) (limit : ℕ) → fault ≡ plan_fault.Limit what limit
    → (option_map what_of (limit_in s from to) ≡ Some what) × (limit ≡ greatest_of what))
    → Stopped (within_limits (limit_in s from to) next) seen seen (plan_status fault)
plan_stopped s from to next seen (plan_fault.Limit what limit) limited =
    let told = limited what limit refl in
    stopped_whole _ seen seen _ refl (did_to _ _ _ _ _ (did_nothing _ _) (limit_told (limit_in s from to) what limit next told.0 told.1))
plan_stopped s from to next seen plan_fault.Memory limited = stopped_here _ seen

pub plan_leaves : (seen : Seen) (fault : PlanFault) → Leaves seen seen (plan_status fault)
plan_leaves seen (plan_fault.Limit what limit) = leaves_nothing seen _ refl refl
plan_leaves seen plan_fault.Memory = leaves_nothing seen _ refl refl

pub plan_inside : (fault : PlanFault) → is_of_words (plan_status fault) ≡ false
plan_inside (plan_fault.Limit what limit) = refl
plan_inside plan_fault.Memory = refl

-- ---- a render of a plan that shows the rows

module _ (files : Files) (s : SceneRecord) (base : List ℕ) (p : PlanRecord) (tints : List (List Channels)) where
  sections_apart : (sections : List (List ℕ)) (section : ℕ) (earlier : List ℕ) (next : Outcome)
      → rendering_sections files s base p section earlier sections next
      ≡ rendering_sections files s base (record p { tints = tints }) section earlier sections next
  unfolding rendering_sections rendering_section bytes_held_over last_section_of
  sections_apart [] section earlier next = refl
  sections_apart (rows ∷ sections) section earlier next =
      ap (rendering_section files s base p section earlier rows) (sections_apart sections (section + 1) (earlier ++ rows) next)

-- it goes as the render of the plan of the rows
pub rows_shown : PlanLaw → (files : Files) (s : SceneRecord) (base : List ℕ) (from to : ℕ) (p : PlanRecord) (next : PlanRecord → Outcome)
    → ShowsRoots (tiles_of s) (roots_in s from to) p → p.drawings ≡ length (files_of s.levels) → limit_in s from to ≡ None
    → rendering_rows files s from to base next ≡ rendering_sections files s base p 0 [] (sections_of from to) (next (plan_in s from to))
rows_shown law files s base from to p next shows drawings none =
    let same = plan_shown law s from to p shows drawings in
    none_told (limit_in s from to) _ none
    ∙ (ap (λ q. rendering_sections files s base q 0 [] (sections_of from to) (next (plan_in s from to))) (sym same)
    ∙ sym (sections_apart files s base p (tints_shown p) (sections_of from to) 0 [] (next (plan_in s from to))))

pub rendering_shown : PlanLaw → (files : Files) (s : SceneRecord) (base : List ℕ) (from to : ℕ) (p : PlanRecord) → ShowsRoots (tiles_of s) (roots_in s from to) p
    → p.drawings ≡ length (files_of s.levels) → limit_in s from to ≡ None
    → rendering_scene files from to base s ≡ rendering_sections files s base p 0 [] (sections_of from to) (closing p)
unfolding closing
rendering_shown law files s base from to p shows drawings none =
    rows_shown law files s base from to p closing shows drawings none
    ∙ ap (rendering_sections files s base p 0 [] (sections_of from to)) (ap closing (sym (plan_shown law s from to p shows drawings)))

-- each alias of the demand was computed once, where each alias of the plan was
pub computed_rows : PlanLaw → (s : SceneRecord) (from to : ℕ) (p : PlanRecord) (computed : List ℕ) (c : Closed)
    → ShowsRoots (tiles_of s) (roots_in s from to) p → p.drawings ≡ length (files_of s.levels) → HasEachOnce p computed → IsClosedOf p c
    → ComputedRows s from to computed c
computed_rows law s from to p computed c shows drawings each closed =
    let same = plan_shown law s from to p shows drawings in
    let once : HasEachOnce (record p { tints = tints_shown p }) computed = record { each = each.each; others = each.others } in
    record { each = subst (λ (q : PlanRecord). HasEachOnce q computed) same once; plan = p; shown = same; closed = closed }

pub computed_once : PlanLaw → (files : Option Files) (name : List ℕ) (from to : ℕ) (s : SceneRecord) (p : PlanRecord) (computed : List ℕ) (c : Closed)
    → ShowsRoots (tiles_of s) (roots_in s from to) p → p.drawings ≡ length (files_of s.levels) → limit_in s from to ≡ None
    → ((told : Files) → files ≡ Some told → Says told name s) → first_fault s ≡ None → HasEachOnce p computed → IsClosedOf p c
    → ComputedOnce files name from to computed c
computed_once law files name from to s p computed c shows drawings none says faultless each closed = record {
  scene = s;
  says = says;
  faultless = faultless;
  within = none;
  rows = computed_rows law s from to p computed c shows drawings each closed;
}

-- ---- where there is one

module _ (law : PlanLaw) (s : SceneRecord) (from to : ℕ) (p : PlanRecord) (shows : ShowsRoots (tiles_of s) (roots_in s from to) p)
    (drawings : p.drawings ≡ length (files_of s.levels)) (none : limit_in s from to ≡ None) where
  scene_noted : demanding_scene from to s ≡ noting_lines (demand_lines p) (ended answers.Ok)
  scene_noted =
      none_told (limit_in s from to) _ none
      ∙ ap (λ ls. noting_lines ls (ended answers.Ok)) (sym (lines_shown law s from to p shows drawings))

  pub demand_run : (t u : Seen) (result : Result (Unit {0}) Status) → Writes (demand_lines p) t u result
      → Runs (demanding_scene from to s) (λ _. ended answers.Ok) t u result
  demand_run t u result wrote = rw scene_noted (writes_run (Unit {0}) (demand_lines p) (ended answers.Ok) t u result refl wrote)

  pub demand_undone : (all : Outcome) (s' t u : Seen) (result : Result (Unit {0}) Status) → Did all (demanding_scene from to s) s'.told t.told
      → t.told.notes ≡ s'.told.notes → Writes (demand_lines p) t u result → (written : List ℕ) → s'.told.notes ≡ Some written
      → answer_of result ≡ answers.Memory → u.told ≡ grown s'.told all.work → ⊥
  demand_undone all s' t u result did quiet wrote =
      undone_behind all (demanding_scene from to s) (demand_lines p) s' t u result did quiet
      (ap (λ o. lines o.work) scene_noted ∙ noting_lines_tell (demand_lines p)) wrote

-- ---- a demand, whole

module _ (files : Files) (name : List ℕ) (from to : ℕ) where
  abbrev demand_of : SceneRecord → List (List ℕ)
  demand_of s = demand_lines (plan_in s from to)

  limited_puts : (found : Option Limit) (ls : List (List ℕ)) → puts (within_limits found (noting_lines ls (ended answers.Ok))).work ≡ []
  limited_puts None ls = puts_noting ls (ended answers.Ok) refl
  limited_puts (Some limit) ls = refl

  checked_puts : (fault : Option SceneFault) (s : SceneRecord) → puts (if_faultless fault (demanding_scene from to s)).work ≡ []
  checked_puts None s = limited_puts (limit_in s from to) (demand_of s)
  checked_puts (Some fault) s = refl

  nothing_placed : puts (demanding files name from to).work ≡ []
  unfolding demanding
  nothing_placed =
      elim (says_or_not files name (demanding_scene from to)) [
        | inl said ↦
            ap (λ o. puts o.work) (scene_through files name said.0 (demanding_scene from to) said.1) ∙ checked_puts (first_fault said.0) said.0
        | inr none ↦ ap (λ o. puts o.work) none.ends
      ]

  -- the outcome where a file says the scene
  said_ends : (s : SceneRecord) → Says files name s
      → demanding files name from to ≡ after (Ask name ∷ []) (if_faultless (first_fault s) (demanding_scene from to s))
  unfolding demanding
  said_ends s says = scene_through files name s (demanding_scene from to) says

  within_ends : (found : Option Limit) (next : Outcome) → (within_limits found next).status ≡ answers.Ok → found ≡ None
  within_ends None next ends = refl
  within_ends (Some limit) next ends = absurd cc

  told_limit : (found : Option Limit) (ls : List (List ℕ)) (what : What) (limit : ℕ)
      → (within_limits found (noting_lines ls (ended answers.Ok))).status ≡ answers.Limit what limit
      → (option_map what_of found ≡ Some what) × (limit ≡ greatest_of what)
  told_limit None ls what limit ends =
      absurd (let ok : answers.Ok ≡ answers.Limit what limit = ap (λ o. o.status) (sym (noting_are ls (ended answers.Ok))) ∙ ends in cc)
  told_limit (Some passed) ls what limit ends =
      let same : what_of passed ≡ what = cc in (ap Some same, sym (let is : greatest_of (what_of passed) ≡ limit = cc in ap greatest_of (sym same) ∙ is))

  checked_limit : (fault : Option SceneFault) (s : SceneRecord) (what : What) (limit : ℕ)
      → (if_faultless fault (demanding_scene from to s)).status ≡ answers.Limit what limit
      → (fault ≡ None) × (option_map what_of (limit_in s from to) ≡ Some what) × (limit ≡ greatest_of what)
  checked_limit None s what limit ends =
      let told = told_limit (limit_in s from to) (demand_of s) what limit ends in (refl, told.0, told.1)
  checked_limit (Some fault) s what limit ends = absurd cc

  pub demand_whole : (before now : Contents) → now ≡ grown before (demanding files name from to).work → (demanding files name from to).status ≡ answers.Ok
      → IsDemanded files name from to before now
  unfolding demanding
  demand_whole before now whole ends =
      elim (says_or_not files name (demanding_scene from to)) [
        | inl said ↦
            let s = said.0 in
            let status = ap (λ o. o.status) (sym (said_ends s said.1)) ∙ ends in
            let good = checked_good (first_fault s) (demanding_scene from to s) status in
            let within = within_ends (limit_in s from to) _ (ap (λ fault. (if_faultless fault (demanding_scene from to s)).status) (sym good) ∙ status) in
            let work : (demanding files name from to).work ≡ Ask name ∷ events (demand_of s) =
            ap (λ o. o.work) (said_ends s said.1)
            ∙ (ap (λ fault. Ask name ∷ (if_faultless fault (demanding_scene from to s)).work) good
            ∙ ap (λ o. Ask name ∷ o.work) (none_told (limit_in s from to) _ within ∙ noting_are (demand_of s) (ended answers.Ok))
            ∙ ap (λ es. Ask name ∷ es) (append-nil (events (demand_of s)))) in
            let done = whole ∙ ap (grown before) work in
            record {
              scene = s;
              says = said.1;
              faultless = good;
              within = within;
              asked = ap (λ seen. seen.asked) done ∙ ap (λ names. more before.asked (name ∷ names)) (asks_none (demand_of s));
              lines = ap (λ seen. seen.notes) done ∙ ap (more before.notes) (lines_are (demand_of s));
            }
        | inr none ↦ absurd (let other : answers.Scene none.fault ≡ answers.Ok = ap (λ o. o.status) (sym none.ends) ∙ ends in cc)
      ]

  pub demand_limited : (what : What) (limit : ℕ) → (demanding files name from to).status ≡ answers.Limit what limit → PassesLimit files name from to what limit
  unfolding demanding
  demand_limited what limit ends =
      elim (says_or_not files name (demanding_scene from to)) [
        | inl said ↦
            let found = checked_limit (first_fault said.0) said.0 what limit (ap (λ o. o.status) (sym (said_ends said.0 said.1)) ∙ ends) in
            record { scene = said.0; says = said.1; faultless = found.0; passed = found.1; greatest = found.2 }
        | inr none ↦ absurd (let other : answers.Scene none.fault ≡ answers.Limit what limit = ap (λ o. o.status) (sym none.ends) ∙ ends in cc)
      ]

  -- ---- the lines that were gained

  limited_lines : (found : Option Limit) (ls : List (List ℕ)) (n : ℕ) → (m : ℕ)
      × (take n (lines (within_limits found (noting_lines ls (ended answers.Ok))).work) ≡ take m (with_ends ls))
  limited_lines None ls n = (n, ap (take n) (noting_lines_tell ls))
  limited_lines (Some limit) ls n = (0, take-nil n)

  checked_lines : (fault : Option SceneFault) (s : SceneRecord) (n : ℕ) → (m : ℕ)
      × (take n (lines (if_faultless fault (demanding_scene from to s)).work) ≡ take m (with_ends (demand_of s)))
  checked_lines None s n = limited_lines (limit_in s from to) (demand_of s) n
  checked_lines (Some fault) s n = (0, take-nil n)

  said_lines : (s : SceneRecord) → Says files name s → (n : ℕ) (before now : Option (List ℕ))
      → now ≡ more before (take n (lines (demanding files name from to).work))
      → (bytes : ℕ) × (now ≡ more before (take bytes (with_ends (demand_of s))))
  said_lines s says n before now told =
      let found = checked_lines (first_fault s) s n in
      (found.0, told ∙ ap (more before) (ap (λ o. take n (lines o.work)) (said_ends s says) ∙ found.1))

  no_lines : ((s : SceneRecord) → Says files name s → ⊥) → lines (demanding files name from to).work ≡ []
  unfolding demanding
  no_lines nothing =
      elim (says_or_not files name (demanding_scene from to)) [
        | inl said ↦ absurd (nothing said.0 said.1)
        | inr none ↦ ap (λ o. lines o.work) none.ends
      ]

  pub lines_gained : (before now : Contents) → GainedFront (demanding files name from to) before now
      → GainedLines files name from to before.notes now.notes
  lines_gained before now gained = record {
    some = λ s says. said_lines s says gained.notes.0 before.notes now.notes gained.notes.1;
    none = λ nothing. gained.notes.1 ∙ (ap (more before.notes) (take_none gained.notes.0 _ (no_lines nothing)) ∙ more-nothing _);
  }

module _ (files : Files) (name : List ℕ) (from to : ℕ) (all : Outcome) (is : all ≡ demanding files name from to)
    (before now : Seen) (result : Status) (run : IsRun all before now result) where
  ends_so : is_broken result ≡ false → (demanding files name from to).status ≡ result
  ends_so unbroken = ap (λ o. o.status) (sym is) ∙ sym (run.answer unbroken)

  told_whole : result ≡ answers.Ok → IsDemanded files name from to before.told now.told
  told_whole ends =
      let unbroken : is_broken result ≡ false = ap is_broken ends in
      demand_whole files name from to before.told now.told
      (run.whole unbroken ∙ ap (λ o. grown before.told o.work) is) (ends_so unbroken ∙ ends)

  gained : GainedFront (demanding files name from to) before.told now.told
  gained = subst (λ (whole : Outcome). GainedFront whole before.told now.told) is run.front

  pub run_demand : RanDemand files name from to before now result
  run_demand = record {
    whole = told_whole;
    limited = λ what limit told. demand_limited files name from to what limit (ends_so (ap is_broken told) ∙ told);
    shelf = gained.shelf.1
        ∙ (ap (more before.told.shelf) (take_none gained.shelf.0 _ (nothing_placed files name from to)) ∙ more-nothing _);
    lines = lines_gained files name from to before.told now.told gained;
  }

-- the words of a dry run tell it
pub is_demanding : (files : Files) (words : List (List ℕ)) (name : List ℕ) (from to : ℕ) → reading_of words ≡ Ok (command.Dry name from to)
    → outcome files words ≡ demanding files name from to
unfolding commanding
is_demanding files words name from to reads = command_obeyed files words (command.Dry name from to) reads

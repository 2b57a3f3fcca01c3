-- What the benches of a run computed.
use Rattle.std.proofs.Common.{◌≡◌, ℕ, zero, suc, ◌+◌, false, true, List, [], ◌∷◌, ◌++◌, All, map, flat_map, length, get_or, set, Option, Some, None, Result, Ok, Err, refl, ap, ◌∙◌, arith}
use Rattle.std.proofs.lemmas.List.{append-nil}
use Rattle.std.proofs.lemmas.List.Elements.{All-head, All-tail}
use Rattle.xs_base.specs.declared.limits.TheConstants.{MOST_WORKERS}
use Rattle.xs_levels.specs.Films.{Files}
use Rattle.xs_make.specs.Scenes.{scene_from}
use Rattle.xs_word_desk.specs.declared.closing.Closed.{Closed}
use Rattle.xs_words.specs.declared.command.Command.{Command}
use Rattle.xs_words.specs.declared.command.Command.TheVariants as command
use Rattle.xs_top.specs.declared.status.Status.{Status}
use Rattle.xs_top.specs.declared.status.Status.TheVariants as answers
use Rattle.xs_top.specs.Causes.{is_ok}
use Rattle.xs_words.specs.declared.fault.Usage.{Usage}
use Rattle.xs_words.specs.declared.fault.WordsFault.{WordsFault}
use Rattle.xs_words.specs.declared.fault.WordsFault.TheVariants as words_fault
use Rattle.xs_top.specs.Texts.{words_status}
use Rattle.xs_top.specs.Once.{ComputedRows, ComputedOnce, GeneratedOnce, RenderedOnce, RendersOnce, RunsOnce, AreIdleFrom, NoneTwice, workers_of, workers_in}
use Rattle.xs_top.proofs.Progressing.{recorded_none}

-- where all benches but the first have computed nothing, what all computed is what the first did
pub first_computes : {B : Type 0} (made : B → List ℕ) (bench : B) (benches : List B) → All (λ b. made b ≡ []) benches
    → flat_map made (bench ∷ benches) ≡ made bench
first_computes made bench benches idle = ap (λ l. made bench ++ l) (none_computes benches idle) ∙ append-nil _
  where
    none_computes : (rest : List _) → All (λ b. made b ≡ []) rest → flat_map made rest ≡ []
    none_computes [] all = refl
    none_computes (b ∷ rest) all =
        ap (λ l. l ++ flat_map made rest) (All-head (λ b. made b ≡ []) b rest all) ∙ none_computes rest (All-tail (λ b. made b ≡ []) b rest all)

idle_at : {B : Type 0} (made : B → List ℕ) (benches : List B) (n : ℕ) → All (λ b. made b ≡ []) benches → get_or (map made benches) n [] ≡ []
idle_at made [] n all = refl
idle_at made (b ∷ benches) zero all = All-head (λ b. made b ≡ []) b benches all
idle_at made (b ∷ benches) (suc n) all = idle_at made benches n (All-tail (λ b. made b ≡ []) b benches all)

-- the benches from the number of workers on are idle, where only the first computes, and that only if there is a worker
pub idle_from : {B : Type 0} (made : B → List ℕ) (bench : B) (benches : List B) (workers : ℕ) → All (λ b. made b ≡ []) benches
    → (workers ≡ 0 → made bench ≡ []) → AreIdleFrom workers (map made (bench ∷ benches))
idle_from made bench benches zero all none zero few = none refl
idle_from made bench benches (suc workers) all none zero few = absurd (omega arith)
idle_from made bench benches workers all none (suc n) few = idle_at made benches n all

-- so it is of all benches, of which the first one may have computed more
pub all_computed : {B : Type 0} (made : B → List ℕ) (bench : B) (benches : List B) → length benches ≡ MOST_WORKERS → All (λ b. made b ≡ []) benches
    → flat_map made (set benches 0 bench) ≡ made bench
all_computed made bench [] count all = absurd cc
all_computed made bench (b ∷ benches) count all = first_computes made bench benches (All-tail (λ b. made b ≡ []) b benches all)

pub others_idle : {B : Type 0} (made : B → List ℕ) (bench : B) (benches : List B) (workers : ℕ) → length benches ≡ MOST_WORKERS
    → All (λ b. made b ≡ []) benches → (workers ≡ 0 → made bench ≡ []) → AreIdleFrom workers (map made (set benches 0 bench))
others_idle made bench [] workers count all none = absurd cc
others_idle made bench (b ∷ benches) workers count all none = idle_from made bench benches workers (All-tail (λ b. made b ≡ []) b benches all) none

-- ---- a render

pub rendered_once : (files : Option Files) (name base : List ℕ) (from to workers : ℕ) (computed : List ℕ) (closed : Closed)
    → ComputedOnce files name from to computed closed → NoneTwice computed
    → RendersOnce files (command.Render name from to workers base) computed (Some closed) answers.Ok
rendered_once files name base from to workers computed closed once twice = record {
  rendered = λ scene other first last many is ends.
      let same : name ≡ scene = cc in
      let same_from : from ≡ first = cc in
      let same_to : to ≡ last = cc in
      (closed, refl, rw (← same, ← same_from, ← same_to) once);
  made = λ seed rows other is ends. absurd cc;
  shown = λ scene is. absurd cc;
  dry = λ scene first last is. absurd cc;
  failed = λ ends. absurd cc;
  twice = twice;
}

pub rendered_not : (files : Option Files) (said : Command) (computed : List ℕ) (answer : Status) → is_ok answer ≡ false → NoneTwice computed
    → RendersOnce files said computed None answer
rendered_not files said computed answer fails twice = record {
  rendered = λ scene base from to workers is ends. absurd (let same : is_ok answer ≡ true = ap is_ok ends in cc);
  made = λ seed rows workers is ends. absurd (let same : is_ok answer ≡ true = ap is_ok ends in cc);
  shown = λ scene is. refl;
  dry = λ scene from to is. refl;
  failed = λ ends. refl;
  twice = twice;
}

-- a render alone
pub alone_once : (files : Option Files) (name : List ℕ) (from to : ℕ) (computed : List ℕ) (closed : Closed)
    → ComputedOnce files name from to computed closed → NoneTwice computed
    → RenderedOnce files name from to computed (Some closed) answers.Ok
alone_once files name from to computed closed once twice =
    record { whole = λ ends. (closed, refl, once); failed = λ fails. absurd cc; twice = twice }

pub alone_not : (files : Option Files) (name : List ℕ) (from to : ℕ) (computed : List ℕ) (end : Option Closed) (answer : Status)
    → end ≡ None → is_ok answer ≡ false → NoneTwice computed → RenderedOnce files name from to computed end answer
alone_not files name from to computed end answer none fails twice = record {
  whole = λ ends. absurd (let same : is_ok answer ≡ true = ap is_ok ends in cc);
  failed = λ _. none;
  twice = twice;
}

-- a generated scene
pub making_once : (files : Option Files) (seed rows workers : ℕ) (computed : List ℕ) (closed : Closed)
    → ComputedRows (scene_from seed rows) 1 rows computed closed → NoneTwice computed
    → RendersOnce files (command.Make seed rows workers) computed (Some closed) answers.Ok
making_once files seed rows workers computed closed once twice = record {
  rendered = λ scene base from to other is ends. absurd cc;
  made = λ first many other is ends.
      let same : seed ≡ first = cc in
      let count : rows ≡ many = cc in
      (closed, refl, rw (← same, ← count) once);
  shown = λ scene is. absurd cc;
  dry = λ scene from to is. absurd cc;
  failed = λ ends. absurd cc;
  twice = twice;
}

-- it alone
pub alone_made : (seed rows : ℕ) (computed : List ℕ) (closed : Closed) → ComputedRows (scene_from seed rows) 1 rows computed closed
    → NoneTwice computed → GeneratedOnce seed rows computed (Some closed) answers.Ok
alone_made seed rows computed closed once twice = record { whole = λ ends. (closed, refl, once); failed = λ fails. absurd cc; twice = twice }

pub alone_made_not : (seed rows : ℕ) (computed : List ℕ) (end : Option Closed) (answer : Status) → end ≡ None → is_ok answer ≡ false
    → NoneTwice computed → GeneratedOnce seed rows computed end answer
alone_made_not seed rows computed end answer none fails twice = record {
  whole = λ ends. absurd (let same : is_ok answer ≡ true = ap is_ok ends in cc);
  failed = λ _. none;
  twice = twice;
}

-- ---- words

-- where words are no command, or memory was wanted for them, nothing is computed
pub nothing_once : (files : Option Files) (reading : Result Command Usage) (computed : List ℕ) (answer : Status) → computed ≡ [] → is_ok answer ≡ false
    → RunsOnce files reading computed None answer
nothing_once files (Err usage) computed answer none fails = (none, refl)
nothing_once files (Ok command) computed answer none fails = rendered_not files command computed answer fails (recorded_none computed none)

pub words_fail : (fault : WordsFault) → is_ok (words_status fault) ≡ false
words_fail (words_fault.Usage usage) = refl
words_fail words_fault.Memory = refl

pub command_once : (files : Option Files) (reading : Result Command Usage) (said : Command) (computed : List ℕ) (end : Option Closed) (answer : Status)
    → reading ≡ Ok said → RendersOnce files said computed end answer → RunsOnce files reading computed end answer
command_once files reading said computed end answer e once = rw e once

pub command_idle : {X : Type 0} (reading : Result Command Usage) (said : Command) → reading ≡ Ok said → (workers_of said ≡ 0 → X) → workers_in reading ≡ 0 → X
command_idle reading said e idle = rw e idle

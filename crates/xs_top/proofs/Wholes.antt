-- What a whole run has done, from the part that it did.
use Rattle.std.proofs.Common.{◌≡◌, ℕ, List, [], ◌∷◌, ◌++◌, length, take, drop, refl, sym, ap, ◌∙◌, inl, inr, ◌⊎◌, Option, Result, Ok, Err, true, false, append_assoc}
use Rattle.std.proofs.Math.Seq.{take-append_seam}
use Rattle.std.proofs.lemmas.Bool.{false≢true}
use Rattle.std.proofs.lemmas.List.{append-nil, take-append-drop}
use Rattle.xs_outside.specs.Told.{Rose, more}
use Rattle.xs_top.specs.declared.status.Status.{Status}
use Rattle.xs_top.specs.declared.status.Status.TheVariants as answers
use Rattle.xs_top.specs.Trace.{Ask, asks, puts, lines, Outcome, ended, Contents, grown}
use Rattle.xs_top.specs.Seen.{Seen}
use Rattle.xs_top.specs.Causes.{answer_of}
use Rattle.xs_top.specs.Runs.{Runs, Did, Stopped, StoppedAsking, StoppedNoting, GainedFront, is_broken, IsRun}
use Rattle.xs_top.proofs.Parts.{more-more, asks-append, puts-append, lines-append, did_then, stopped_whole}

-- a list that came to what is told is a front part of a longer one
pub front : {A : Type 0} (before now : Option (List A)) (part rest all : List A) → now ≡ more before part → all ≡ part ++ rest
    → (n : ℕ) × (now ≡ more before (take n all))
front before now part rest all told split =
    (length part, rw (split, take-append_seam) told)

did_front : (all left : Outcome) (before now : Contents) → Did all left before now → GainedFront all before now
did_front all left before now did = record {
  asked = front _ _ (asks did.done) (asks left.work) _ (ap (λ seen. seen.asked) did.told) (ap (λ o. asks o.work) did.split ∙ asks-append did.done left.work);
  shelf = front _ _ (puts did.done) (puts left.work) _ (ap (λ seen. seen.shelf) did.told) (ap (λ o. puts o.work) did.split ∙ puts-append did.done left.work);
  notes =
      front _ _ (lines did.done) (lines left.work) _ (ap (λ seen. seen.notes) did.told)
      (ap (λ o. lines o.work) did.split ∙ lines-append did.done left.work);
}

-- where nothing is left, all the work was done
did_whole : (all : Outcome) (status : Status) (before now : Contents) → Did all (ended status) before now → now ≡ grown before all.work
did_whole all status before now did =
    did.told ∙ ap (grown before) (sym (ap (λ o. o.work) did.split ∙ append-nil did.done))

whole_run : (all : Outcome) (status : Status) (before now : Seen) → is_broken status ≡ false → Did all (ended status) before.told now.told
    → IsRun all before now status
whole_run all status before now unbroken did = record {
  answer = λ _. sym (ap (λ o. o.status) did.split);
  whole = λ _. did_whole all status before.told now.told did;
  front = did_front all (ended status) before.told now.told did;
  stopped = stopped_whole all before now status unbroken did;
  placed = λ e. absurd (false≢true (sym unbroken ∙ ap is_broken e));
}

-- the file that was asked for in vain was asked for
asked_part : (all : Outcome) (before now : Contents) (stopped : StoppedAsking all before now) → Did all stopped.left before now
asked_part all before now stopped =
    did_then stopped.did (record { done = Ask stopped.name ∷ []; split = refl; told = stopped.asked })

-- a line that broke off
line_front : (before whole now : Option (List ℕ)) (done line rest all : List ℕ) (n : ℕ) → whole ≡ more before done → now ≡ more whole (take n line)
    → all ≡ done ++ (line ++ rest) → (n : ℕ) × (now ≡ more before (take n all))
line_front before whole now done line rest all n told broke split =
    front before now (done ++ take n line) (drop n line ++ rest) all
    (broke ∙ (ap (λ notes. more notes (take n line)) told ∙ more-more before done (take n line)))
    (split ∙ (ap (λ l. done ++ (l ++ rest)) (sym (take-append-drop n line)) ∙ simp append_assoc))

noting_front : (all : Outcome) (before now : Contents) → StoppedNoting all before now → GainedFront all before now
noting_front all before now stopped =
    let whole = did_front all _ before stopped.whole stopped.did in
    record {
      asked = (whole.asked.0, ap (λ seen. seen.asked) stopped.broke.told ∙ whole.asked.1);
      shelf = (whole.shelf.0, ap (λ seen. seen.shelf) stopped.broke.told ∙ whole.shelf.1);
      notes = line_front _ stopped.whole.notes _ (lines stopped.did.done) (stopped.line ++ 10 ∷ []) (lines stopped.left.work) _ stopped.broke.written
          (ap (λ seen. seen.notes) stopped.did.told) (ap (λ seen. seen.notes) stopped.broke.told)
          (ap (λ o. lines o.work) stopped.did.split ∙ (lines-append stopped.did.done _ ∙ ap (λ bytes. lines stopped.did.done ++ bytes) (simp append_assoc)));
    }

-- where no file is left to be put on the shelf, all stand there
all_placed : (all left : Outcome) (before now : Contents) → Did all left before now → puts left.work ≡ [] → now.shelf ≡ more before.shelf (puts all.work)
all_placed all left before now did none =
    ap (λ seen. seen.shelf) did.told ∙ ap (more before.shelf)
    (sym (ap (λ o. puts o.work) did.split ∙ (puts-append did.done left.work ∙ (ap (λ objects. puts did.done ++ objects) none ∙ append-nil (puts did.done)))))

-- so they do where a line was not taken
noting_placed : (all : Outcome) (before now : Contents) (stopped : StoppedNoting all before now) → now.shelf ≡ more before.shelf (puts all.work)
noting_placed all before now stopped =
    ap (λ seen. seen.shelf) stopped.broke.told ∙ all_placed all _ before stopped.whole stopped.did stopped.last

abbrev Placed : Outcome → Seen → Seen → Status → Type 0
Placed all before now status =
    status ≡ answers.WriteFault
    → (now.told.shelf ≡ more before.told.shelf (puts all.work)) ⊎ Rose before.faults.shelf now.faults.shelf

broken_run : (all : Outcome) (before now : Seen) (status : Status) → is_broken status ≡ true → GainedFront all before.told now.told
    → Stopped all before now status → Placed all before now status → IsRun all before now status
broken_run all before now status broken front stopped placed = record {
  answer = λ e. absurd (false≢true (sym e ∙ broken));
  whole = λ e. absurd (false≢true (sym e ∙ broken));
  front = front;
  stopped = stopped;
  placed = placed;
}

stopped_run : (all : Outcome) (before now : Seen) (status : Status) → Stopped all before now status → IsRun all before now status
unfolding Stopped
stopped_run all before now answers.ReadFault stopped =
    broken_run all before now _ refl (did_front all _ before.told now.told (asked_part all before.told now.told stopped)) stopped (λ e. absurd cc)
stopped_run all before now answers.WriteFault (inl stopped) =
    broken_run all before now _ refl (did_front all _ before.told now.told stopped.0.did) (inl stopped) (λ e. inr stopped.1)
stopped_run all before now answers.WriteFault (inr stopped) =
    broken_run all before now _ refl (noting_front all before.told now.told stopped.0) (inr stopped)
    (λ e. inl (noting_placed all before.told now.told stopped.0))
stopped_run all before now answers.Memory stopped =
    broken_run all before now _ refl (did_front all _ before.told now.told stopped.1) stopped (λ e. absurd cc)
stopped_run all before now answers.Ok did = whole_run all _ before now refl did
stopped_run all before now (answers.Usage usage) did = whole_run all _ before now refl did
stopped_run all before now (answers.Scene fault) did = whole_run all _ before now refl did
stopped_run all before now (answers.Level drawing code) did = whole_run all _ before now refl did
stopped_run all before now (answers.Limit what limit) did = whole_run all _ before now refl did
stopped_run all before now answers.NotYet did = whole_run all _ before now refl did

pub result_run : {A : Type 0} (all : Outcome) (before now : Seen) (result : Result A Status) → Runs all (λ _. ended answers.Ok) before now result
    → IsRun all before now (answer_of result)
result_run all before now (Ok done) did = whole_run all answers.Ok before now refl did
result_run all before now (Err status) stopped = stopped_run all before now status stopped

-- The drawings of a section, one after another.
use Rattle.std.proofs.Common.{◌≡◌, ℕ, zero, suc, ◌+◌, ◌<◌, ◌≤◌, inl, inr, true, false, List, [], ◌∷◌, ◌++◌, length, map, take, drop, slice_get, get_or, nat_le, Some, refl, sym, ap, ◌∙◌, arith}
use Rattle.std.specs.List.{sum_by}
use Rattle.std.proofs.lemmas.Bool.Decides.{nat_tests}
use Rattle.std.proofs.lemmas.List.{map-append, take_all, drop_all, take_more, drop_more}
use Rattle.std.proofs.lemmas.List.Sums.{sum_by-cons, sum_by_push}
use Rattle.xs_levels.specs.Films.{Files}
use Rattle.xs_levels.specs.Loading.{Passed, IsLoaded, IsLossOf, AsksFor, bytes_after, is_lost}
use Rattle.xs_levels.specs.Table.{table_of}
use Rattle.xs_levels.specs.declared.loaded.Loaded.TheVariants as loaded
use Rattle.xs_outside.specs.Told.{Rose, more}
use Rattle.xs_rawfile.specs.declared.fault.LevelCode.{LevelCode}
use Rattle.xs_rawfile.specs.declared.fault.LevelCode.TheVariants as level
use Rattle.xs_top.specs.Causes.{is_lost_level}
use Rattle.xs_top.specs.Leaves.{Keeps, OnlyReads, WroteNothing}
use Rattle.xs_top.specs.Seen.{OutsideRecord}
use Rattle.xs_dryrun.specs.declared.limits.What.TheVariants as what
use Rattle.xs_scene.specs.Records.{SceneRecord}
use Rattle.xs_top.specs.declared.limits.TheConstants.{MOST_SECTION_BYTES}
use Rattle.xs_top.specs.declared.status.Status.TheVariants as answers
use Rattle.xs_top.specs.Drawings.{file_of, fault_of, bytes_of}
use Rattle.xs_top.specs.Outcome.{counted, accepted, loading}
use Rattle.xs_top.specs.Runs.{Did, StoppedAsking}
use Rattle.xs_top.specs.Trace.{Event, Ask, Outcome, ended, after, Contents, grown}
use Rattle.xs_top.proofs.Drawn.{loading_none, loading_first, asked_of, told_asks}
use Rattle.xs_top.proofs.Parts.{after-after, grown-grown}

pub counted_within : (bytes : ℕ) (next : Outcome) → bytes ≤ MOST_SECTION_BYTES → counted bytes next ≡ next
counted_within bytes next within = let fits : nat_le bytes MOST_SECTION_BYTES ≡ true = grind (arith, nat_tests) in rw fits refl

pub counted_past : (bytes : ℕ) (next : Outcome) → MOST_SECTION_BYTES < bytes → counted bytes next ≡ ended (answers.Limit what.SectionBytes MOST_SECTION_BYTES)
counted_past bytes next past = let over : nat_le bytes MOST_SECTION_BYTES ≡ false = grind (arith, nat_tests) in rw over refl

-- the drawing at a place, those before it and those behind it
pub record At (news : List ℕ) (at d : ℕ) : Type 0 where
  pub within : at < length news
  pub behind : drop at news ≡ d ∷ drop (at + 1) news
  pub before : take (at + 1) news ≡ take at news ++ d ∷ []

at_place : (news : List ℕ) (at d : ℕ) → at < length news → get_or news at 0 ≡ d → At news at d
at_place news at d within e = record {
  within = within;
  behind = drop_more news at 0 within ∙ ap (λ n. n ∷ drop (at + 1) news) e;
  before = take_more news at 0 within ∙ ap (λ n. take at news ++ n ∷ []) e;
}

got : (news : List ℕ) (at d : ℕ) → slice_get news at ≡ Some d → (at < length news) × (get_or news at 0 ≡ d)
got [] at d e = absurd cc
got (x ∷ xs) zero d e = (omega arith, let same : x ≡ d = cc in same)
got (x ∷ xs) (suc at) d e = let rest = got xs at d e in (let within = rest.0 in omega arith, rest.1)

pub place_of : (news : List ℕ) (at d : ℕ) → slice_get news at ≡ Some d → At news at d
place_of news at d e = let there = got news at d e in at_place news at d there.0 there.1

module _ (files : Files) (s : SceneRecord) where
  after_asked : (d : ℕ) (events : List Event) (next : Outcome) → after (Ask (file_of s d) ∷ []) (after events next) ≡ after (asked_of s d ∷ events) next
  after_asked d events next = after-after (Ask (file_of s d) ∷ []) events next

  after_one : (events : List Event) (d : ℕ) (next : Outcome) → after events (after (Ask (file_of s d) ∷ []) next) ≡ after (events ++ asked_of s d ∷ []) next
  after_one events d next = after-after events (Ask (file_of s d) ∷ []) next

  map_one : (ds : List ℕ) (d : ℕ) → map (asked_of s) ds ++ asked_of s d ∷ [] ≡ map (asked_of s) (ds ++ d ∷ [])
  map_one ds d = sym (map-append (asked_of s) ds (d ∷ []))

  -- so many drawings pass
  passed_over : (news : List ℕ) (count over : ℕ) (next : Outcome) → Passed files (table_of s) MOST_SECTION_BYTES over news count → count ≤ length news
      → loading files s over news next
      ≡ after (map (asked_of s) (take count news)) (loading files s (bytes_after files (table_of s) over news count) (drop count news) next)
  passed_over news zero over next passed within = let none : over + 0 ≡ over = omega arith in rw none refl
  passed_over [] (suc count) over next passed within = absurd (omega arith)
  passed_over (d ∷ ds) (suc count) over next passed within =
      let more = over + bytes_of files s d in
      let rest = sum_by (bytes_of files s) (take count ds) in
      let sum : sum_by (bytes_of files s) (d ∷ take count ds) ≡ bytes_of files s d + rest = sum_by-cons (bytes_of files s) d (take count ds) in
      let all : bytes_after files (table_of s) over (d ∷ ds) (suc count) ≡ bytes_after files (table_of s) more ds count = omega (arith, sum) in
      let few = passed.within in
      let fits : more ≤ MOST_SECTION_BYTES = omega (arith, sum, few) in
      let tail : Passed files (table_of s) MOST_SECTION_BYTES more ds count = record {
        faultless = λ at e below is. passed.faultless (suc at) e (omega arith) is;
        within = omega (arith, all, few);
      } in
      let first : accepted d (fault_of files s d) more (loading files s more ds next) ≡ loading files s more ds next =
      ap (λ fault. accepted d fault more (loading files s more ds next)) (passed.faultless 0 d (omega arith) refl) ∙ counted_within more _ fits in
      loading_first files s over d ds next
      ∙ (ap (after (Ask (file_of s d) ∷ [])) (first ∙ passed_over ds count more next tail (omega arith))
      ∙ (after_asked d (map (asked_of s) (take count ds)) _
      ∙ ap (λ bytes. after (map (asked_of s) (d ∷ take count ds)) (loading files s bytes (drop count ds) next)) (sym all)))

  bytes_one : (over : ℕ) (news : List ℕ) (at d : ℕ) → take (at + 1) news ≡ take at news ++ d ∷ []
      → bytes_after files (table_of s) over news (at + 1) ≡ bytes_after files (table_of s) over news at + bytes_of files s d
  bytes_one over news at d e =
      let sum = sum_by_push (bytes_of files s) (take at news) d in
      ap (λ l. over + sum_by (bytes_of files s) l) e ∙ omega (arith, sum)

  grown_one : (before : Contents) (events : List Event) (d : ℕ) → grown (grown before events) (Ask (file_of s d) ∷ []) ≡ grown before (events ++ asked_of s d ∷ [])
  grown_one before events d = grown-grown before events (Ask (file_of s d) ∷ [])

  -- up to a drawing, and what is found of it
  reached : (news : List ℕ) (at d over : ℕ) (next : Outcome) → Passed files (table_of s) MOST_SECTION_BYTES over news at → At news at d
      → loading files s over news next
      ≡ after (map (asked_of s) (take (at + 1) news))
      (accepted d (fault_of files s d) (bytes_after files (table_of s) over news at + bytes_of files s d)
      (loading files s (bytes_after files (table_of s) over news at + bytes_of files s d) (drop (at + 1) news) next))
  reached news at d over next passed there =
      let bytes = bytes_after files (table_of s) over news at in
      passed_over news at over next passed (let within = there.within in omega arith)
      ∙ (ap (λ l. after (map (asked_of s) (take at news)) (loading files s bytes l next)) there.behind
      ∙ (ap (after (map (asked_of s) (take at news))) (loading_first files s bytes d (drop (at + 1) news) next)
      ∙ (after_one (map (asked_of s) (take at news)) d _
      ∙ ap (λ l. after l (accepted d (fault_of files s d) (bytes + bytes_of files s d) (loading files s (bytes + bytes_of files s d) (drop (at + 1) news) next)))
      (map_one (take at news) d ∙ ap (map (asked_of s)) (sym there.before)))))

  -- ---- the answers

  module _ (news : List ℕ) (over : ℕ) (next : Outcome) (before now : Contents) (wrote : WroteNothing before now) where
    abbrev all : Outcome
    all = loading files s over news next

    pub done_did : IsLoaded files (table_of s) MOST_SECTION_BYTES over news loaded.Done → AsksFor (table_of s) news before.asked now.asked loaded.Done → Did all next before now
    done_did passed asked =
        let whole : take (length news) news ≡ news = take_all (length news) news (omega arith) in
        let none : drop (length news) news ≡ [] = drop_all (length news) news (omega arith) in
        record {
          done = map (asked_of s) news;
          split =
              passed_over news (length news) over next passed (omega arith)
              ∙ (ap (λ l. after (map (asked_of s) l) (loading files s (bytes_after files (table_of s) over news (length news)) (drop (length news) news) next)) whole
              ∙ ap (after (map (asked_of s) news)) (ap (λ l. loading files s (bytes_after files (table_of s) over news (length news)) l next) none ∙ loading_none files s _ next));
          told = told_asks s before now news asked wrote;
        }

    pub level_did : (at d : ℕ) (code : LevelCode) → IsLoaded files (table_of s) MOST_SECTION_BYTES over news (loaded.Level at d code)
        → AsksFor (table_of s) news before.asked now.asked (loaded.Level at d code) → Did all (ended (answers.Level d code)) before now
    level_did at d code (passed, place, fault) asked = record {
      done = map (asked_of s) (take (at + 1) news);
      split =
          reached news at d over next passed (place_of news at d place)
          ∙ ap (λ f. after (map (asked_of s) (take (at + 1) news)) (accepted d f (bytes_after files (table_of s) over news at + bytes_of files s d) (loading files s (bytes_after files (table_of s) over news at + bytes_of files s d) (drop (at + 1) news) next))) fault;
      told = told_asks s before now (take (at + 1) news) asked wrote;
    }

    pub limit_did : (at d : ℕ) → IsLoaded files (table_of s) MOST_SECTION_BYTES over news (loaded.Limit at d)
        → AsksFor (table_of s) news before.asked now.asked (loaded.Limit at d)
        → Did all (ended (answers.Limit what.SectionBytes MOST_SECTION_BYTES)) before now
    limit_did at d (passed, place, none, past) asked =
        let there = place_of news at d place in
        let bytes = bytes_after files (table_of s) over news at in
        let sum : bytes_after files (table_of s) over news (at + 1) ≡ bytes + bytes_of files s d = bytes_one over news at d there.before in
        record {
          done = map (asked_of s) (take (at + 1) news);
          split =
              reached news at d over next passed there
              ∙ ap (after (map (asked_of s) (take (at + 1) news)))
              (ap (λ f. accepted d f (bytes + bytes_of files s d) (loading files s (bytes + bytes_of files s d) (drop (at + 1) news) next)) none
              ∙ counted_past (bytes + bytes_of files s d) _ (omega (arith, sum, past)));
          told = told_asks s before now (take (at + 1) news) asked wrote;
        }

    pub read_fault_stopped : (at : ℕ) → IsLoaded files (table_of s) MOST_SECTION_BYTES over news (loaded.ReadFault at)
        → AsksFor (table_of s) news before.asked now.asked (loaded.ReadFault at) → StoppedAsking all before now
    read_fault_stopped at (passed, within) asked =
        let d = get_or news at 0 in
        let there = at_place news at d within refl in
        let bytes = bytes_after files (table_of s) over news at in
        record {
          name = file_of s d;
          left = accepted d (fault_of files s d) (bytes + bytes_of files s d) (loading files s (bytes + bytes_of files s d) (drop (at + 1) news) next);
          whole = grown before (map (asked_of s) (take at news));
          did = record {
            done = map (asked_of s) (take at news);
            split =
                passed_over news at over next passed (let few = within in omega arith)
                ∙ (ap (λ l. after (map (asked_of s) (take at news)) (loading files s bytes l next)) there.behind
                ∙ ap (after (map (asked_of s) (take at news))) (loading_first files s bytes d (drop (at + 1) news) next));
            told = refl;
          };
          asked =
              told_asks s before now (take (at + 1) news) asked wrote
              ∙ (ap (λ l. grown before l) (ap (map (asked_of s)) there.before ∙ sym (map_one (take at news) d)) ∙ sym (grown_one before (map (asked_of s) (take at news)) d));
        }

    pub memory_did : (at : ℕ) → IsLoaded files (table_of s) MOST_SECTION_BYTES over news (loaded.Memory at)
        → AsksFor (table_of s) news before.asked now.asked (loaded.Memory at) → (left : Outcome) × Did all left before now
    memory_did at (passed, within) (inl asked) = (
      _,
      record {
        done = map (asked_of s) (take at news);
        split = passed_over news at over next passed (let few = within in omega arith);
        told = told_asks s before now (take at news) asked wrote;
      },
    )
    memory_did at (passed, within) (inr asked) = (
      _,
      record {
        done = map (asked_of s) (take (at + 1) news);
        split = reached news at (get_or news at 0) over next passed (at_place news at (get_or news at 0) within refl);
        told = told_asks s before now (take (at + 1) news) asked wrote;
      },
    )

-- ---- what is left

-- two ways to tell that a file is not there or too long
same_loss : (code : LevelCode) → is_lost code ≡ is_lost_level code
same_loss level.Absent = refl
same_loss level.TooLong = refl
same_loss level.Magic = refl
same_loss level.Kind = refl
same_loss level.KindDiffers = refl
same_loss level.Size = refl
same_loss level.Place = refl
same_loss level.Length = refl
same_loss (level.NotPremultiplied pixel) = refl

pub level_keeps : (before now : OutsideRecord) (d : ℕ) (code : LevelCode) → OnlyReads before now → before.seen.faults.library ≤ now.seen.faults.library
    → IsLossOf before.seen.files before.seen.faults.library now.seen.faults.library code → Keeps before now (answers.Level d code)
level_keeps before now d code reads later loss = record {
  left = record {
    files = reads.files;
    later = record { library = later; shelf = let still = reads.outputs.shelf in omega arith; notes = let still = reads.outputs.notes in omega arith };
    read = λ e. absurd cc;
    untold = λ none lost. loss.untold none (same_loss code ∙ lost);
    write = λ e. absurd cc;
    library = λ kept. loss.still (same_loss code ∙ kept);
    outputs = λ _. reads.outputs;
  };
  notes = reads.told.notes;
  words = refl;
  same = reads.same;
}

pub read_fault_keeps : (before now : OutsideRecord) → OnlyReads before now → before.seen.faults.library ≤ now.seen.faults.library
    → Rose before.seen.faults.library now.seen.faults.library → Keeps before now answers.ReadFault
read_fault_keeps before now reads later rose = record {
  left = record {
    files = reads.files;
    later = record { library = later; shelf = let still = reads.outputs.shelf in omega arith; notes = let still = reads.outputs.notes in omega arith };
    read = λ e. rose;
    untold = λ none lost. rose;
    write = λ e. absurd cc;
    library = λ kept. absurd cc;
    outputs = λ _. reads.outputs;
  };
  notes = reads.told.notes;
  words = refl;
  same = reads.same;
}

-- Lines that are written, one or many at a time.
use Rattle.std.proofs.Common.{◌≡◌, ℕ, List, [], ◌∷◌, ◌++◌, take, map, Option, Some, Result, Ok, Err, refl, sym, ap, ◌∙◌, subst, inl, inr, append_assoc, true, false}
use Rattle.std.proofs.lemmas.Bool.{false≢true}
use Rattle.std.proofs.lemmas.List.{append-nil, append_cancel_left}
use Rattle.std.proofs.lemmas.List.Concat.{flat_map-append}
use Rattle.xs_outside.specs.Told.{Rose, more}
use Rattle.xs_lines.specs.Lines.{with_ends, IsFront}
use Rattle.xs_top.specs.declared.status.Status.{Status}
use Rattle.xs_top.specs.declared.status.Status.TheVariants as answers
use Rattle.xs_top.specs.Trace.{Event, Line, asks, puts, lines, Outcome, ended, after, Contents, grown}
use Rattle.xs_top.specs.Seen.{Seen}
use Rattle.xs_top.specs.Causes.{answer_of, is_noting, is_of_words}
use Rattle.xs_top.specs.Leaves.{Quiet, QuietUnless}
use Rattle.xs_top.specs.Runs.{Runs, Did, BrokeOff, StoppedNoting, Stopped}
use Rattle.xs_top.specs.Writes.{with_bytes, WroteFront, WroteWhole, StopsWriting, Writes}
use Rattle.xs_top.specs.Outcome.{noting, noting_lines}
use Rattle.xs_top.proofs.Parts.{more-nothing, more-more, stopped_memory, stopped_noting}

with_ends-append : (first then : List (List ℕ)) → with_ends (first ++ then) ≡ with_ends first ++ with_ends then
with_ends-append first then = flat_map-append (λ line. line ++ 10 ∷ []) first then

with_bytes-nothing : (seen : Contents) → with_bytes seen [] ≡ seen
with_bytes-nothing seen = ap (λ (notes : _). record seen { notes = notes }) (more-nothing seen.notes)

with_bytes-more : (seen : Contents) (first then : List ℕ) → with_bytes (with_bytes seen first) then ≡ with_bytes seen (first ++ then)
with_bytes-more seen first then = ap (λ (notes : _). record seen { notes = notes }) (more-more seen.notes first then)

-- ---- fronts

front_longer : (lines then : List (List ℕ)) (bytes : List ℕ) → IsFront lines bytes → IsFront (lines ++ then) bytes
front_longer lines then bytes front = record {
  done = front.done;
  line = front.line;
  rest = front.rest ++ then;
  split = ap (λ ls. ls ++ then) front.split ∙ append_assoc front.done (front.line ∷ front.rest) then;
  written = front.written;
  are = front.are;
}

front_behind : (lines then : List (List ℕ)) (bytes : List ℕ) → IsFront then bytes → IsFront (lines ++ then) (with_ends lines ++ bytes)
front_behind lines then bytes front = record {
  done = lines ++ front.done;
  line = front.line;
  rest = front.rest;
  split = ap (λ ls. lines ++ ls) front.split ∙ sym (append_assoc lines front.done (front.line ∷ front.rest));
  written = front.written;
  are = ap (λ bs. with_ends lines ++ bs) front.are
      ∙ (sym (append_assoc (with_ends lines) (with_ends front.done) (take front.written (front.line ++ 10 ∷ [])))
      ∙ ap (λ bs. bs ++ take front.written (front.line ++ 10 ∷ [])) (sym (with_ends-append lines front.done)));
}

-- ---- some lines, and then others

longer : (lines then : List (List ℕ)) (before now : Contents) → WroteFront lines before now → WroteFront (lines ++ then) before now
longer lines then before now wrote =
    record { bytes = wrote.bytes; front = front_longer lines then wrote.bytes wrote.front; told = wrote.told }

stops_longer : (lines then : List (List ℕ)) (before now : Seen) (status : Status) → StopsWriting lines before now status
    → StopsWriting (lines ++ then) before now status
unfolding longer front_longer
stops_longer lines then before now status (inl (is, (wrote, whole))) = inl (is, (longer lines then _ _ wrote, whole))
stops_longer lines then before now status (inr (is, wrote, rose)) = inr (is, longer lines then _ _ wrote, rose)

wrote_behind : (lines then : List (List ℕ)) (s t u : Contents) → t ≡ with_bytes s (with_ends lines) → WroteFront then t u
    → WroteFront (lines ++ then) s u
wrote_behind lines then s t u first wrote = record {
  bytes = with_ends lines ++ wrote.bytes;
  front = front_behind lines then wrote.bytes wrote.front;
  told = wrote.told ∙ (ap (λ seen. with_bytes seen wrote.bytes) first ∙ with_bytes-more s (with_ends lines) wrote.bytes);
}

pub writes_longer : (A : Type 0) (lines then : List (List ℕ)) (before now : Seen) (status : Status)
    → Writes {A = A} lines before now (Err status) → Writes {A = A} (lines ++ then) before now (Err status)
writes_longer A lines then before now status stops = stops_longer lines then before now status stops

stops_behind : (lines then : List (List ℕ)) (s t u : Seen) (status : Status) → t.told ≡ with_bytes s.told (with_ends lines)
    → t.faults.notes ≡ s.faults.notes → StopsWriting then t u status → StopsWriting (lines ++ then) s u status
unfolding wrote_behind front_behind
stops_behind lines then s t u status first still (inl (is, (wrote, whole))) =
    inl (is, (wrote_behind lines then s.told t.told u.told first wrote, whole))
stops_behind lines then s t u status first still (inr (is, wrote, rose)) =
    inr (is, wrote_behind lines then s.told t.told u.told first wrote, rw (← still) rose)

pub writes_then : (A : Type 0) (lines then : List (List ℕ)) (s t u : Seen) (result : Result A Status)
    → t.told ≡ with_bytes s.told (with_ends lines) → t.faults.notes ≡ s.faults.notes
    → Writes {A = A} then t u result → Writes {A = A} (lines ++ then) s u result
writes_then A lines then s t u (Ok value) first still wrote =
    wrote
    ∙ (ap (λ seen. with_bytes seen (with_ends then)) first
    ∙ (with_bytes-more s.told (with_ends lines) (with_ends then) ∙ ap (with_bytes s.told) (sym (with_ends-append lines then))))
writes_then A lines then s t u (Err status) first still wrote = stops_behind lines then s t u status first still wrote

-- nothing is written yet
pub wrote_nothing : (seen : Contents) → seen ≡ with_bytes seen (with_ends [])
wrote_nothing seen = sym (with_bytes-nothing seen)

-- ---- a text of several lines that is written as one

line_behind : (done : List (List ℕ)) (line : List ℕ) (rest : List (List ℕ)) → [] ≡ done ++ line ∷ rest → ⊥
line_behind [] line rest is = cc
line_behind (first ∷ done) line rest is = cc

single : (text : List ℕ) (done : List (List ℕ)) (line : List ℕ) (rest : List (List ℕ)) → text ∷ [] ≡ done ++ line ∷ rest
    → (done ≡ []) × (line ≡ text)
single text [] line rest is = (refl, cc)
single text (first ∷ done) line rest is = absurd (line_behind done line rest cc)

-- what a front part of one text is
front_bytes : (text bytes : List ℕ) (front : IsFront (text ∷ []) bytes) → bytes ≡ take front.written (text ++ 10 ∷ [])
front_bytes text bytes front =
    let only = single text front.done front.line front.rest front.split in
    front.are ∙ ap (λ done. with_ends done ++ take front.written (front.line ++ 10 ∷ [])) only.0
    ∙ ap (λ line. take front.written (line ++ 10 ∷ [])) only.1

abbrev pub FrontLaw : Type 0
FrontLaw = (line : List ℕ) (lines : List (List ℕ)) (bytes : ℕ) → IsFront (line ∷ lines) (take bytes (with_ends (line ∷ lines)))

module _ (law : FrontLaw) (text line : List ℕ) (rest : List (List ℕ)) (is : text ++ 10 ∷ [] ≡ with_ends (line ∷ rest)) (before now : Seen) where
  wrote_text : (wrote : WroteFront (text ∷ []) before.told now.told) → WroteFront (line ∷ rest) before.told now.told
  wrote_text wrote = record {
    bytes = take wrote.front.written (with_ends (line ∷ rest));
    front = law line rest wrote.front.written;
    told = wrote.told ∙ ap (with_bytes before.told) (front_bytes text wrote.bytes wrote.front ∙ ap (take wrote.front.written) is);
  }

  no_bytes : (wrote : WroteFront (text ∷ []) before.told now.told) → wrote.front.written ≡ 0 → now.told ≡ with_bytes before.told []
  no_bytes wrote none =
      wrote.told ∙ ap (with_bytes before.told)
      (front_bytes text wrote.bytes wrote.front ∙ ap (λ n. take n (text ++ 10 ∷ [])) none)

  whole_text : WroteWhole (text ∷ []) before.told now.told → WroteWhole (line ∷ rest) before.told now.told
  whole_text (wrote, none) = (
    record {
      bytes = [];
      front = record { done = []; line = line; rest = rest; split = refl; written = 0; are = refl };
      told = no_bytes wrote none;
    },
    refl,
  )

  stops_text : (status : Status) → StopsWriting (text ∷ []) before now status → StopsWriting (line ∷ rest) before now status
  stops_text status (inl (is, whole)) = inl (is, whole_text whole)
  stops_text status (inr (is, wrote, rose)) = inr (is, wrote_text wrote, rose)

  pub writes_text : (A : Type 0) (result : Result A Status) → Writes {A = A} (text ∷ []) before now result → Writes {A = A} (line ∷ rest) before now result
  writes_text A (Ok value) wrote =
      wrote ∙ ap (with_bytes before.told) (append-nil (text ++ 10 ∷ []) ∙ is)
  writes_text A (Err status) stops = stops_text status stops

-- where memory is wanted before a line, none is written
pub wants_memory : (line : List ℕ) (rest : List (List ℕ)) (seen : Seen) → StopsWriting (line ∷ rest) seen seen answers.Memory
wants_memory line rest seen = inl (
  refl,
  (
    record {
      bytes = [];
      front = record { done = []; line = line; rest = rest; split = refl; written = 0; are = refl };
      told = sym (with_bytes-nothing seen.told);
    },
    refl,
  ),
)

pub wants_more : (lines : List (List ℕ)) (last : List ℕ) (seen : Seen) → StopsWriting (lines ++ last ∷ []) seen seen answers.Memory
wants_more [] last seen = wants_memory last [] seen
wants_more (line ∷ rest) last seen = wants_memory line (rest ++ last ∷ []) seen

-- ---- the events of lines

abbrev pub events : List (List ℕ) → List Event
events ls = map Line ls

pub noting_are : (ls : List (List ℕ)) (next : Outcome) → noting_lines ls next ≡ after (events ls) next
unfolding noting
noting_are [] next = refl
noting_are (line ∷ ls) next = ap (after (Line line ∷ [])) (noting_are ls next)

noting_append : (done rest : List (List ℕ)) (next : Outcome) → noting_lines (done ++ rest) next ≡ noting_lines done (noting_lines rest next)
noting_append [] rest next = refl
noting_append (line ∷ done) rest next = ap (noting line) (noting_append done rest next)

pub asks_none : (ls : List (List ℕ)) → asks (events ls) ≡ []
asks_none [] = refl
asks_none (line ∷ ls) = asks_none ls

puts_none : (ls : List (List ℕ)) → puts (events ls) ≡ []
puts_none [] = refl
puts_none (line ∷ ls) = puts_none ls

pub lines_are : (ls : List (List ℕ)) → lines (events ls) ≡ with_ends ls
lines_are [] = refl
lines_are (line ∷ ls) = ap (λ bytes. line ++ 10 ∷ bytes) (lines_are ls) ∙ sym (append_assoc line (10 ∷ []) (with_ends ls))

grown_lines : (seen : Contents) (ls : List (List ℕ)) → grown seen (events ls) ≡ with_bytes seen (with_ends ls)
grown_lines seen ls = simp (asks_none ls, puts_none ls, lines_are ls, more-nothing)

pub puts_noting : (ls : List (List ℕ)) (next : Outcome) → puts next.work ≡ [] → puts (noting_lines ls next).work ≡ []
unfolding noting
puts_noting [] next none = none
puts_noting (line ∷ ls) next none = puts_noting ls next none

did_lines : (all done rest : List (List ℕ)) (next : Outcome) (s t : Contents) → all ≡ done ++ rest → t ≡ with_bytes s (with_ends done)
    → Did (noting_lines all next) (noting_lines rest next) s t
did_lines all done rest next s t split told = record {
  done = events done;
  split = ap (λ ls. noting_lines ls next) split ∙ (noting_append done rest next ∙ noting_are done (noting_lines rest next));
  told = told ∙ sym (grown_lines s done);
}

wrote_part : (ls : List (List ℕ)) (next : Outcome) (s u : Contents) → puts next.work ≡ [] → WroteFront ls s u → StoppedNoting (noting_lines ls next) s u
unfolding noting
wrote_part ls next s u last wrote =
    let front = wrote.front in
    record {
      line = front.line;
      left = noting_lines front.rest next;
      last = puts_noting front.rest next last;
      whole = with_bytes s (with_ends front.done);
      did = did_lines ls front.done (front.line ∷ front.rest) next s _ front.split refl;
      broke = record {
        written = front.written;
        told = wrote.told ∙ (ap (with_bytes s) front.are ∙ sym (with_bytes-more s (with_ends front.done) (take front.written (front.line ++ 10 ∷ []))));
      };
    }

-- behind whole lines nothing of the next is written
whole_bytes : (ls : List (List ℕ)) (s u : Contents) (wrote : WroteFront ls s u) → wrote.front.written ≡ 0 → u ≡ with_bytes s (with_ends wrote.front.done)
whole_bytes ls s u wrote none =
    wrote.told ∙ ap (with_bytes s)
    (wrote.front.are
    ∙ (ap (λ n. with_ends wrote.front.done ++ take n (wrote.front.line ++ 10 ∷ [])) none ∙ append-nil (with_ends wrote.front.done)))

stops_runs : (ls : List (List ℕ)) (next : Outcome) (s u : Seen) (status : Status) → puts next.work ≡ [] → StopsWriting ls s u status
    → Stopped (noting_lines ls next) s u status
stops_runs ls next s u status last (inl (is, (wrote, none))) =
    rw is
    (stopped_memory _ _ s u
    (did_lines ls wrote.front.done (wrote.front.line ∷ wrote.front.rest) next s.told u.told wrote.front.split (whole_bytes ls s.told u.told wrote none)))
stops_runs ls next s u status last (inr (is, wrote, rose)) = rw is (stopped_noting _ s u (wrote_part ls next s.told u.told last wrote) rose)

-- so the lines are this part of a run
pub writes_run : (A : Type 0) (ls : List (List ℕ)) (next : Outcome) (s u : Seen) (result : Result A Status) → puts next.work ≡ []
    → Writes {A = A} ls s u result → Runs {A = A} (noting_lines ls next) (λ _. next) s u result
writes_run A ls next s u (Ok value) last wrote = did_lines ls ls [] next s.told u.told (sym (append-nil ls)) wrote
writes_run A ls next s u (Err status) last stops = stops_runs ls next s u status last stops

-- ---- what writing answers and leaves

stops_inside : (ls : List (List ℕ)) (s u : Seen) (status : Status) → StopsWriting ls s u status → is_of_words status ≡ false
stops_inside ls s u status (inl (is, wrote)) = ap is_of_words is
stops_inside ls s u status (inr (is, wrote, rose)) = ap is_of_words is

pub writes_inside : (A : Type 0) (ls : List (List ℕ)) (s u : Seen) (result : Result A Status) → Writes {A = A} ls s u result
    → is_of_words (answer_of result) ≡ false
writes_inside A ls s u (Ok value) wrote = refl
writes_inside A ls s u (Err status) stops = stops_inside ls s u status stops

stops_quietly : (line : List ℕ) (s u : Seen) (status : Status) → StopsWriting (line ∷ []) s u status → Quiet s u status
stops_quietly line s u status (inl (is, (wrote, none))) = λ silent.
    let only = single line wrote.front.done wrote.front.line wrote.front.rest wrote.front.split in
    ap (λ seen. seen.notes)
    (whole_bytes _ s.told u.told wrote none ∙ (ap (λ done. with_bytes s.told (with_ends done)) only.0 ∙ with_bytes-nothing s.told))
stops_quietly line s u status (inr (is, wrote, rose)) = λ silent. absurd (false≢true (sym silent ∙ ap is_noting is))

-- one line leaves the notes where it isn't written
pub line_quiet : (A : Type 0) (line : List ℕ) (s u : Seen) (result : Result A Status) → Writes {A = A} (line ∷ []) s u result
    → Quiet s u (answer_of result)
line_quiet A line s u (Ok value) wrote = λ silent. absurd cc
line_quiet A line s u (Err status) stops = stops_quietly line s u status stops

-- where memory was wanted, not all lines are told
nothing_ends : (line rest : List ℕ) → [] ≡ (line ++ 10 ∷ []) ++ rest → ⊥
nothing_ends [] rest e = cc
nothing_ends (x ∷ line) rest e = cc

front_short : (done : List (List ℕ)) (line : List ℕ) (rest : List (List ℕ)) → with_ends done ≡ with_ends (done ++ line ∷ rest) → ⊥
front_short done line rest same =
    let more : [] ≡ with_ends (line ∷ rest) =
    append_cancel_left (with_ends done) [] (with_ends (line ∷ rest)) (append-nil (with_ends done) ∙ (same ∙ with_ends-append done (line ∷ rest))) in
    nothing_ends line (with_ends rest) more

pub writes_undone : (A : Type 0) (ls : List (List ℕ)) (s u : Seen) (result : Result A Status) → Writes {A = A} ls s u result
    → answer_of result ≡ answers.Memory → (written : List ℕ) → s.told.notes ≡ Some written
    → u.told.notes ≡ more s.told.notes (with_ends ls) → ⊥
unfolding more
writes_undone A ls s u (Ok value) wrote memory written told all = absurd cc
writes_undone A ls s u (Err status) (inr (is, wrote, rose)) memory written told all = absurd cc
writes_undone A ls s u (Err status) (inl (is, (wrote, none))) memory written told all =
    let front = wrote.front in
    let same : more s.told.notes (with_ends front.done) ≡ more s.told.notes (with_ends ls) =
    ap (λ seen. seen.notes) (sym (whole_bytes ls s.told u.told wrote none)) ∙ all in
    let texts : written ++ with_ends front.done ≡ written ++ with_ends ls = cc (rw told at same) in
    front_short front.done front.line front.rest (append_cancel_left written _ _ texts ∙ ap with_ends front.split)

-- what stops at no want of memory leaves the notes where it isn't told to have written
pub writes_quiet : (A : Type 0) (ls : List (List ℕ)) (s u : Seen) (result : Result A Status) → Writes {A = A} ls s u result
    → QuietUnless true s u (answer_of result)
writes_quiet A ls s u (Ok value) wrote = λ many silent. absurd (false≢true (sym silent))
writes_quiet A ls s u (Err status) (inl (is, wrote)) = λ many silent. absurd (false≢true (sym (many is)))
writes_quiet A ls s u (Err status) (inr (is, wrote, rose)) = λ many silent. absurd (false≢true (sym silent ∙ ap is_noting is))

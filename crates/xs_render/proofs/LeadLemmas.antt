-- Lemmas on a worker that leads a section
use Rattle.std.proofs.Common.{◌≡◌, ◌<◌, ◌≤◌, ◌↔◌, ◌+◌, ℕ, List, [], ◌++◌, length, true, Option, Some, None, IfSome, IsSome, Result, Ok, Err, OnErr, refl, sym, ap, subst, ◌∙◌, inl, inr, arith}
use Rattle.std.specs.List.{Contains}
use Rattle.std.proofs.lemmas.Bool.{cases_lt}
use Rattle.std.proofs.lemmas.List.{append-nil, get_or_past}
use Rattle.xs_rawfile.specs.Held.{Held, slot_in}
use Rattle.xs_plan.specs.Record.{Entry, PlanRecord, entry_at, no_entry, drawing_of}
use Rattle.xs_plan.specs.Sections.{first_section}
use Rattle.xs_plan.specs.Needed.{needs}
use Rattle.xs_plan.specs.Valid.{IsPlan}
use Rattle.xs_bench.specs.Inputs.{HasDrawing}
use Rattle.xs_core.specs.Views.{DeskView, DeskOk, Unknown, times, entries}
use Rattle.xs_worker.specs.declared.advanced.Advanced.{Advanced}
use Rattle.xs_worker.specs.declared.advanced.Advanced.TheVariants.{Finished}
use Rattle.xs_worker.specs.Reading.{IsReached}
use Rattle.xs_worker.specs.Claims.{Grew, AreDrawn}
use Rattle.xs_worker.specs.Advances.{Standing, HasFinished, FellShort, AdvancedTells}
use Rattle.xs_worker.specs.Sections.{AreRoots, IsBegun, IsDone, AreUngathered, IsMadeIn, AreKnown, section_roots}
use Rattle.xs_render.specs.Progress.{AreHeld}
use Rattle.xs_render.specs.Computed.{IsRecorded}
use Rattle.xs_render.specs.Making.{MakesSection, MakesPart}
use Rattle.xs_render.proofs.EntryLemmas.{times-append, entries-more, times-few, none_past}
use Rattle.xs_render.proofs.RowLemmas.{rendered_none}

-- ---- the drawings that a worker wants are those that the section needs

-- a section needs the drawings of the aliases that come first in it
abbrev pub TellsNeeds : Type 0
TellsNeeds = (p : PlanRecord) (s d : ℕ) → Contains (needs p s) d
    ↔ ((k : ℕ) × (k < length p.entries) × (first_section p k ≡ s) × (drawing_of (entry_at p.entries k).job ≡ Some d))

-- what is won in a section comes first in it
abbrev pub TellsFirst : Type 0
TellsFirst = (p : PlanRecord) → IsPlan p → (s : ℕ) (targets : List ℕ) (v : DeskView) (k : ℕ) → AreRoots p s targets
    → IsBegun p s v → DeskOk p v → k < length p.entries → IsReached p targets k → Unknown v k
    → first_section p k ≡ s

has_drawing : (h : Held) (o : Option ℕ) → ((d : ℕ) → o ≡ Some d → IsSome (slot_in h d)) → IfSome o (λ d. IsSome (slot_in h d))
has_drawing h None held = tt
has_drawing h (Some d) held = held d refl

drawn : TellsNeeds → TellsFirst → (p : PlanRecord) (s : ℕ) (targets : List ℕ) (v : DeskView) (h : Held) → IsPlan p → AreRoots p s targets
    → IsBegun p s v → DeskOk p v → AreHeld h (needs p s) → AreDrawn p targets [] v h
drawn needed first p s targets v h valid roots begun ok held k reached unknown = elim (cases_lt k (length p.entries)) [
  | inl there ↦
      let new : Unknown v k = elim (cases_lt 0 (times k v.known)) [
        | inl some ↦ let none : 0 < 0 = unknown some in absurd (omega (arith, none))
        | inr none ↦ omega (arith, none)
      ] in
      let here = first p valid s targets v k roots begun ok there reached new in
      has_drawing h (drawing_of (entry_at p.entries k).job) (λ d is. held d ((needed p s d).1 (k, there, here, is)))
  | inr past ↦
      let none : entry_at p.entries k ≡ no_entry = get_or_past p.entries k no_entry (omega (arith, past)) in
      subst (λ (e : Entry). HasDrawing h e.job) (sym none) tt
]

pub its_drawings : TellsNeeds → TellsFirst → (p q : PlanRecord) (s : ℕ) (st : Standing) (v : DeskView) (h : Held) → q ≡ p → IsPlan p → DeskOk q v
    → st.targets ≡ section_roots p s → st.stack ≡ [] → AreRoots p s (section_roots p s) → IsBegun p s v → AreHeld h (needs p s)
    → AreDrawn p st.targets st.stack v h
its_drawings needed first p q s st v h same valid ok are none roots begun held =
    subst (λ (l : List ℕ). AreDrawn p st.targets l v h) (sym none)
    (drawn needed first p s st.targets v h valid (rw are roots) begun (subst (λ (o : PlanRecord). DeskOk o v) same ok) held)

-- ---- a worker came to the end

-- what a worker that came to the end of a section's targets leaves
pub record Led (p : PlanRecord) (s : ℕ) (targets : List ℕ) (v w : DeskView) (b c : List ℕ) : Type 0 where
  pub roots : AreRoots p s targets
  pub ok : DeskOk p v
  pub new_ok : DeskOk p w
  pub chief : w.number ≡ 0
  pub alone : w.solo ≡ true
  pub grew : Grew p targets v w b c [] []
  pub settled : (k : ℕ) → entries k w.won ≡ entries k w.made
  pub known : AreKnown w targets

pub led :
    (p q r : PlanRecord) (s : ℕ) (st new : Standing) (v w : DeskView) (b c : List ℕ) (a : Advanced) → q ≡ p → r ≡ p → DeskOk q v → DeskOk r w
    → v.number ≡ 0 → v.solo ≡ true → st.targets ≡ section_roots p s → AreRoots p s (section_roots p s) → a ≡ Finished
    → AdvancedTells p st v b a new w c
    → (DeskOk p v → HasFinished p st v b new w c → (k : ℕ) → entries k w.won ≡ entries k w.made) → Led p s st.targets v w b c
led p q r s st new v w b c a same still ok new_ok chief alone are roots is told settled =
    let done : HasFinished p st v b new w c = subst (λ (x : Advanced). AdvancedTells p st v b x new w c) is told in
    let old : DeskOk p v = subst (λ (o : PlanRecord). DeskOk o v) same ok in
    record {
      roots = rw are roots;
      ok = old;
      new_ok = subst (λ (o : PlanRecord). DeskOk o w) still new_ok;
      chief = done.grew.adds.number ∙ chief;
      alone = done.grew.adds.solo ∙ alone;
      grew = done.grew;
      settled = settled old done;
      known = done.ready;
    }

-- the bench computed what the seat made
made_more : (p : PlanRecord) (targets : List ℕ) (v w : DeskView) (b c more gone : List ℕ) → (g : Grew p targets v w b c more gone) → (k : ℕ)
    → entries k w.made ≡ entries k v.made + times k g.made
made_more p targets v w b c more gone g k = entries-more k v.number v.made w.made g.made g.adds.made

records_section : (p : PlanRecord) (s : ℕ) (targets : List ℕ) (v w : DeskView) (b c : List ℕ) → Led p s targets v w b c
    → IsRecorded v b → IsRecorded w c
records_section p s targets v w b c l before = record {
  made = same;
  once = λ k. omega (arith, same k, l.new_ok.apart k);
}
  where
    same : (k : ℕ) → times k c ≡ entries k w.made
    same k =
        let all = ap (λ (xs : List ℕ). times k xs) (l.grew.bench ∙ ap (λ (xs : List ℕ). b ++ xs) (append-nil l.grew.made))
        ∙ times-append k b l.grew.made in
        omega (arith, all, before.made k, made_more p targets v w b c [] [] l.grew k)

pub makes_section : (p : PlanRecord) (s : ℕ) (targets : List ℕ) (v w : DeskView) (b c : List ℕ) → Led p s targets v w b c
    → IsDone p s w → AreUngathered p s w → IsMadeIn p s v w → MakesSection p s v w b c
makes_section p s targets v w b c l done none made = record {
  rendered = rendered_none p s w l.chief l.alone done none;
  made = made;
  computed = l.grew.made;
  grew = l.grew.bench ∙ ap (λ (xs : List ℕ). b ++ xs) (append-nil l.grew.made);
  here = λ k there first. omega (arith, made.here k there first, made_more p targets v w b c [] [] l.grew k);
  others = λ k other. elim (cases_lt k (length p.entries)) [
    | inl there ↦ omega (arith, made.others k there (other there), made_more p targets v w b c [] [] l.grew k)
    | inr past ↦ omega (arith, none_past p w k l.new_ok (omega (arith, past)), made_more p targets v w b c [] [] l.grew k)
  ];
  recorded = records_section p s targets v w b c l;
}

-- ---- memory was wanting

recorded_part : (v w : DeskView) (b c made more : List ℕ) → c ≡ b ++ (made ++ more) → ((k : ℕ) → entries k v.made + times k (made ++ more) ≤ 1)
    → IsRecorded v b → (k : ℕ) → times k c ≤ 1
recorded_part v w b c made more grew once before k =
    let all = ap (λ (xs : List ℕ). times k xs) grew ∙ times-append k b (made ++ more) in
    omega (arith, all, before.made k, once k)

pub makes_part : (p q : PlanRecord) (st new : Standing) (v w : DeskView) (b c : List ℕ) → q ≡ p → DeskOk q w → FellShort p st v b new w c
    → MakesPart v w b c
makes_part p q st new v w b c still new_ok short = record {
  made = short.grew.made;
  more = short.more;
  grew = short.grew.bench;
  entered = λ k. made_more p st.targets v w b c short.more short.given short.grew k;
  one = short.one;
  once = once;
  recorded = recorded_part v w b c short.grew.made short.more short.grew.bench once;
}
  where
    ok : DeskOk p w
    ok = subst (λ (o : PlanRecord). DeskOk o w) still new_ok

    once : (k : ℕ) → entries k v.made + times k (short.grew.made ++ short.more) ≤ 1
    once k =
        let all = times-append k short.grew.made short.more in
        let made = made_more p st.targets v w b c short.more short.given short.grew k in
        let given = entries-more k v.number v.lost w.lost short.given short.grew.adds.lost in
        let few = times-few k short.more short.one in
        elim (cases_lt 0 (times k short.more)) [
          | inl some ↦ let lost = short.given_up k some in omega (arith, all, made, given, few, lost, ok.apart k)
          | inr none ↦ omega (arith, all, made, none, ok.apart k)
        ]

-- what holds whatever an answer is holds of an error
pub on_err : {A E : Type 0} → (P : Type 0) → P → (r : Result A E) → OnErr r P
on_err P holds (Ok x) = tt
on_err P holds (Err e) = holds

-- nothing was computed
pub makes_nothing : (p q : PlanRecord) (v : DeskView) (b : List ℕ) → q ≡ p → DeskOk q v → MakesPart v v b b
makes_nothing p q v b same ok = record {
  made = [];
  more = [];
  grew = sym (append-nil b);
  entered = λ k. omega (arith, none k);
  one = omega arith;
  once = once;
  recorded = recorded_part v v b b [] [] (sym (append-nil b)) once;
}
  where
    none : (k : ℕ) → times k [] ≡ 0
    none k = refl

    held : DeskOk p v
    held = subst (λ (o : PlanRecord). DeskOk o v) same ok

    once : (k : ℕ) → entries k v.made + times k [] ≤ 1
    once k = omega (arith, none k, held.apart k)

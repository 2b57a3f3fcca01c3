-- Each step keeps what holds of the view of its seat
use Rattle.std.proofs.Common.{◌≡◌, ◌<◌, ◌≤◌, ◌+◌, ℕ, Bool, true, false, ◌&&◌, ◌==◌, Option, Some, None, List, [], ◌∷◌, ◌++◌, length, refl, ap, subst, inl, inr, arith, eq-eqb}
use Rattle.std.proofs.lemmas.Bool.{cases_eq, ne_eqb, both_ways}
use Rattle.xs_plan.specs.declared.job.Reader.{Reader}
use Rattle.xs_plan.specs.declared.job.Reader.TheVariants.{Port, Root}
use Rattle.xs_plan.specs.Record.{PlanRecord}
use Rattle.xs_plan.specs.Reads.{reads_in}
use Rattle.xs_core.specs.Counts.{one_if}
use Rattle.xs_core.specs.States.{source_at, reader_at}
use Rattle.xs_core.specs.Views.{Signed, signed, Met, entries, under}
use Rattle.xs_word_desk.specs.declared.view.View.{View}
use Rattle.xs_word_desk.specs.Seen.{wins, makes, loses, knows, fills, serves, turns, is_this, owner, has_number}
use Rattle.xs_word_desk.specs.Rule.{ViewOk}
use Rattle.xs_word_desk.specs.Changes.{with_won, with_met, with_known, with_filling, with_made, with_lost, with_turn, with_served, with_cleared}
use Rattle.xs_word_desk.proofs.SumLemmas.{entries_push, under_push, times_push}

-- ---- 1 at a number and 0 at others

pub one_at : (a b : ℕ) → a ≡ b → one_if (a == b) ≡ 1
one_at a b same = ap one_if (eq-eqb a b same)

pub none_at : (a b : ℕ) → (a ≡ b → ⊥) → one_if (a == b) ≡ 0
none_at a b differ = ap one_if (ne_eqb a b differ)

pub some_at : (a b : ℕ) → 0 < one_if (a == b) → a ≡ b
some_at a b some =
    elim (cases_eq a b) [
      | inl same ↦ same
      | inr differ ↦ absurd (omega (arith, some, none_at a b differ))
    ]

pub one_if-most : (b : Bool) → one_if b ≤ 1
one_if-most true = omega arith
one_if-most false = omega arith

-- an entry under the number of a seat
pub under_own : (n k item : ℕ) (l : List Signed) → under n k l ≡ entries k l
    → under n k (l ++ signed n item ∷ []) ≡ entries k (l ++ signed n item ∷ [])
under_own n k item l same =
    let more = under_push n k n item l in
    let most = entries_push k n item l in
    let both : one_if ((n == n) && (item == k)) ≡ one_if (item == k) = ap (λ b. one_if (b && (item == k))) (eq-eqb n n refl) in
    omega (arith, more, most, both, same)

-- who may serve, where the seat has won more
pub owner_more : (r : Reader) (chief n k : ℕ) (l : List Signed) → owner r chief l ≤ owner r chief (l ++ signed n k ∷ [])
owner_more (Port alias port) chief n k l = omega (arith, entries_push alias n k l)
owner_more (Root row tile) chief n k l = omega arith

-- ---- the steps

pub ok_met : (p : PlanRecord) (v : View) (k : ℕ) (met : Met) → ViewOk p v → ViewOk p (with_met v k met)
ok_met p v k met ok = record {
  backed = ok.backed;
  owned = ok.owned;
  knows_made = ok.knows_made;
  knows_served = ok.knows_served;
  within = ok.within;
  reads_within = ok.reads_within;
  won_named = ok.won_named;
  made_named = ok.made_named;
  lost_named = ok.lost_named;
  served_named = ok.served_named;
  gone = ok.gone;
}

pub ok_won :
    (p : PlanRecord) (v : View) (k : ℕ) → v.live ≡ true → k < length p.entries → ViewOk p v → ViewOk p (with_won v k)
ok_won p v k live there ok = record {
  backed = λ j. omega (arith, ok.backed j, entries_push j v.number k v.won);
  owned = λ e. let more = owner_more (reader_at p e) (has_number 0 v) v.number k v.won in omega (arith, ok.owned e, more);
  knows_made = ok.knows_made;
  knows_served = ok.knows_served;
  within = λ j some. elim (cases_eq k j) [
    | inl same ↦ subst (λ (i : ℕ). i < length p.entries) same there
    | inr differ ↦ ok.within j (let none = none_at k j differ in omega (arith, some, entries_push j v.number k v.won, none))
  ];
  reads_within = ok.reads_within;
  won_named = λ named j. under_own v.number j k v.won (ok.won_named named j);
  made_named = ok.made_named;
  lost_named = ok.lost_named;
  served_named = ok.served_named;
  gone = λ dead. absurd (both_ways v.live dead live);
}

pub ok_known :
    (p : PlanRecord) (v : View) (k : ℕ) → v.live ≡ true → k < length p.entries → ViewOk p v → ViewOk p (with_known v k)
ok_known p v k live there ok = record {
  backed = ok.backed;
  owned = ok.owned;
  knows_made = λ j some. let before = ok.knows_made j some in omega (arith, before, times_push j k v.known);
  knows_served = λ e some.
      let before = ok.knows_served e some in omega (arith, before, times_push (source_at p e) k v.known);
  within = λ j some. elim (cases_eq k j) [
    | inl same ↦ subst (λ (i : ℕ). i < length p.entries) same there
    | inr differ ↦ ok.within j (let none = none_at k j differ in omega (arith, some, times_push j k v.known, none))
  ];
  reads_within = ok.reads_within;
  won_named = ok.won_named;
  made_named = ok.made_named;
  lost_named = ok.lost_named;
  served_named = ok.served_named;
  gone = λ dead. absurd (both_ways v.live dead live);
}

pub ok_filling :
    (p : PlanRecord) (v : View) (k : ℕ) → v.live ≡ true → v.filling ≡ None → makes k v + loses k v < wins k v
    → ViewOk p v → ViewOk p (with_filling v k)
ok_filling p v k live rests claimed ok = record {
  backed = λ j. elim (cases_eq k j) [
    | inl same ↦
        let here : makes j v + loses j v < wins j v = subst (λ (i : ℕ). makes i v + loses i v < wins i v) same claimed in
        omega (arith, here, one_if-most (k == j))
    | inr differ ↦ omega (arith, ok.backed j, none_at k j differ)
  ];
  owned = ok.owned;
  knows_made = ok.knows_made;
  knows_served = ok.knows_served;
  within = ok.within;
  reads_within = ok.reads_within;
  won_named = ok.won_named;
  made_named = ok.made_named;
  lost_named = ok.lost_named;
  served_named = ok.served_named;
  gone = ok.gone;
}

pub ok_made :
    (p : PlanRecord) (v : View) (k : ℕ) → v.live ≡ true → v.filling ≡ Some k → ViewOk p v → ViewOk p (with_made v k)
ok_made p v k live fills_k ok = record {
  backed = λ j.
      let before = ok.backed j in
      let filled : fills j v ≡ one_if (k == j) = ap (is_this j) fills_k in
      omega (arith, before, filled, entries_push j v.number k v.made);
  owned = ok.owned;
  knows_made = λ j some. elim (cases_eq k j) [
    | inl same ↦ omega (arith, times_push j k v.known, one_at k j same)
    | inr differ ↦
        let before = ok.knows_made j (omega (arith, some, entries_push j v.number k v.made, none_at k j differ)) in
        omega (arith, before, times_push j k v.known)
  ];
  knows_served = λ e some.
      let before = ok.knows_served e some in omega (arith, before, times_push (source_at p e) k v.known);
  within = λ j some. elim (cases_eq k j) [
    | inl same ↦
        let filled : fills j v ≡ one_if (k == j) = ap (is_this j) fills_k in
        ok.within j (omega (arith, ok.backed j, filled, one_at k j same))
    | inr differ ↦ ok.within j (omega (arith, some, times_push j k v.known, none_at k j differ))
  ];
  reads_within = ok.reads_within;
  won_named = ok.won_named;
  made_named = λ named j. under_own v.number j k v.made (ok.made_named named j);
  lost_named = ok.lost_named;
  served_named = ok.served_named;
  gone = λ dead. absurd (both_ways v.live dead live);
}

pub ok_lost :
    (p : PlanRecord) (v : View) (k : ℕ) → v.live ≡ true → fills k v ≡ 0 → makes k v + loses k v < wins k v
    → ViewOk p v → ViewOk p (with_lost v k)
ok_lost p v k live rests claimed ok = record {
  backed = λ j. elim (cases_eq k j) [
    | inl same ↦
        let here : makes j v + loses j v < wins j v = subst (λ (i : ℕ). makes i v + loses i v < wins i v) same claimed in
        let free : fills j v ≡ 0 = subst (λ (i : ℕ). fills i v ≡ 0) same rests in
        omega (arith, here, free, entries_push j v.number k v.lost, one_if-most (k == j))
    | inr differ ↦ omega (arith, ok.backed j, entries_push j v.number k v.lost, none_at k j differ)
  ];
  owned = ok.owned;
  knows_made = ok.knows_made;
  knows_served = ok.knows_served;
  within = ok.within;
  reads_within = ok.reads_within;
  won_named = ok.won_named;
  made_named = ok.made_named;
  lost_named = λ named j. under_own v.number j k v.lost (ok.lost_named named j);
  served_named = ok.served_named;
  gone = ok.gone;
}

pub ok_cleared : (p : PlanRecord) (v : View) → ViewOk p v → ViewOk p (with_cleared v)
ok_cleared p v ok = record {
  backed = ok.backed;
  owned = ok.owned;
  knows_made = ok.knows_made;
  knows_served = ok.knows_served;
  within = ok.within;
  reads_within = ok.reads_within;
  won_named = ok.won_named;
  made_named = ok.made_named;
  lost_named = ok.lost_named;
  served_named = ok.served_named;
  gone = λ dead j. let none = ok.gone dead j in omega (arith, none);
}

-- a read is in turn, or none: it is the seat's, and not served
pub ok_turn :
    (p : PlanRecord) (v : View) (e : ℕ) → v.live ≡ true → e < reads_in p → serves e v < owner (reader_at p e) (has_number 0 v) v.won
    → v.turn ≡ None → ViewOk p v → ViewOk p (with_turn v (Some e))
ok_turn p v e live there mine rests ok = record {
  backed = ok.backed;
  owned = λ i. elim (cases_eq e i) [
    | inl same ↦
        let here : serves i v < owner (reader_at p i) (has_number 0 v) v.won =
        subst (λ (j : ℕ). serves j v < owner (reader_at p j) (has_number 0 v) v.won) same mine in
        omega (arith, here, one_if-most (e == i))
    | inr differ ↦ omega (arith, ok.owned i, none_at e i differ)
  ];
  knows_made = ok.knows_made;
  knows_served = ok.knows_served;
  within = ok.within;
  reads_within = λ i some. elim (cases_eq e i) [
    | inl same ↦ subst (λ (j : ℕ). j < reads_in p) same there
    | inr differ ↦ ok.reads_within i (omega (arith, some, none_at e i differ))
  ];
  won_named = ok.won_named;
  made_named = ok.made_named;
  lost_named = ok.lost_named;
  served_named = ok.served_named;
  gone = λ dead. absurd (both_ways v.live dead live);
}

pub ok_given : (p : PlanRecord) (v : View) → ViewOk p v → ViewOk p (with_turn v None)
ok_given p v ok = record {
  backed = ok.backed;
  owned = λ e. omega (arith, ok.owned e);
  knows_made = ok.knows_made;
  knows_served = ok.knows_served;
  within = ok.within;
  reads_within = λ e some. ok.reads_within e (omega (arith, some));
  won_named = ok.won_named;
  made_named = ok.made_named;
  lost_named = ok.lost_named;
  served_named = ok.served_named;
  gone = λ dead j. let none = ok.gone dead j in omega (arith, none);
}

-- a read is served: it is the seat's, was not served, and its source is known
pub ok_served :
    (p : PlanRecord) (v : View) (e : ℕ) (leaving : Option ℕ) → v.live ≡ true → e < reads_in p
    → serves e v < owner (reader_at p e) (has_number 0 v) v.won → v.turn ≡ None → 0 < knows (source_at p e) v
    → ViewOk p v → ViewOk p (with_served v e leaving)
ok_served p v e leaving live there mine rests knows_it ok = record {
  backed = ok.backed;
  owned = λ i. let none : turns i v ≡ 0 = ap (is_this i) rests in elim (cases_eq e i) [
    | inl same ↦
        let here : serves i v < owner (reader_at p i) (has_number 0 v) v.won =
        subst (λ (j : ℕ). serves j v < owner (reader_at p j) (has_number 0 v) v.won) same mine in
        omega (arith, here, none, entries_push i v.number e v.served, one_if-most (e == i))
    | inr differ ↦ omega (arith, ok.owned i, entries_push i v.number e v.served, none_at e i differ)
  ];
  knows_made = ok.knows_made;
  knows_served = λ i some. elim (cases_eq e i) [
    | inl same ↦ subst (λ (j : ℕ). 0 < knows (source_at p j) v) same knows_it
    | inr differ ↦ ok.knows_served i (omega (arith, some, entries_push i v.number e v.served, none_at e i differ))
  ];
  within = ok.within;
  reads_within = λ i some. elim (cases_eq e i) [
    | inl same ↦ subst (λ (j : ℕ). j < reads_in p) same there
    | inr differ ↦
        ok.reads_within i (omega (arith, some, entries_push i v.number e v.served, none_at e i differ))
  ];
  won_named = ok.won_named;
  made_named = ok.made_named;
  lost_named = ok.lost_named;
  served_named = λ named i. under_own v.number i e v.served (ok.served_named named i);
  gone = λ dead. absurd (both_ways v.live dead live);
}

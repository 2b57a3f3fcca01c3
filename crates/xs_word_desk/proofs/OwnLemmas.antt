-- Each change of a seat's view keeps what holds of its entries with a number
use Rattle.std.proofs.Common.{◌≡◌, ◌≢◌, ◌<◌, ◌≤◌, ◌+◌, ℕ, Bool, true, false, ◌&&◌, ◌==◌, cond, Option, Some, None, List, [], ◌∷◌, ◌++◌, refl, ap, subst, inl, inr, arith, eq-eqb}
use Rattle.std.proofs.lemmas.Bool.{cases_eq, ne_eqb}
use Rattle.std.proofs.lemmas.List.Sums.{sum_by-cons}
use Rattle.xs_plan.specs.declared.job.Reader.{Reader}
use Rattle.xs_plan.specs.declared.job.Reader.TheVariants.{Port, Root}
use Rattle.xs_plan.specs.Record.{PlanRecord}
use Rattle.xs_core.specs.Counts.{one_if}
use Rattle.xs_core.specs.States.{reader_at}
use Rattle.xs_core.specs.Views.{Signed, signed, Met, entries, under}
use Rattle.xs_word_desk.specs.declared.view.View.{View}
use Rattle.xs_word_desk.specs.Seen.{wins, makes, loses, serves, owner, has_number}
use Rattle.xs_word_desk.specs.Changes.{with_won, with_met, with_known, with_filling, with_made, with_lost, with_turn, with_served, with_cleared, first_view, with_split, split_off, with_joined, joined_view}
use Rattle.xs_word_desk.specs.Rule.{ViewOk}
use Rattle.xs_word_desk.specs.Own.{Own, owner_under}
use Rattle.xs_word_desk.proofs.SumLemmas.{entries_push, entries_append, under_push, under_append, one_if-cond}
use Rattle.xs_word_desk.proofs.ViewLemmas.{one_at, none_at, one_if-most}

-- ---- entries under a number

and_most : (a b : Bool) → one_if (a && b) ≤ one_if b
and_most true b = omega arith
and_most false b = omega arith

-- are no more than all of them
pub under_le : (n k : ℕ) (l : List Signed) → under n k l ≤ entries k l
under_le n k [] = omega arith
under_le n k (s ∷ l) =
    let here = sum_by-cons (λ (s : Signed). cond {A = ℕ} ((s.number == n) && (s.item == k)) 1 0) s l in
    let all = sum_by-cons (λ (s : Signed). cond {A = ℕ} (s.item == k) 1 0) s l in
    omega (
      arith,
      here,
      all,
      one_if-cond ((s.number == n) && (s.item == k)),
      one_if-cond (s.item == k),
      and_most (s.number == n) (s.item == k),
      under_le n k l,
    )

-- one more counts for its number and item alone
pub pair_here : (m n a b : ℕ) → m ≡ n → a ≡ b → one_if ((m == n) && (a == b)) ≡ 1
pair_here m n a b number item =
    let both : one_if ((m == n) && (a == b)) ≡ one_if (a == b) = ap (λ t. one_if (t && (a == b))) (eq-eqb m n number) in
    omega (arith, both, one_at a b item)

pair_number : (m n : ℕ) (b : Bool) → m ≢ n → one_if ((m == n) && b) ≡ 0
pair_number m n b differ = ap (λ t. one_if (t && b)) (ne_eqb m n differ)

pair_item : (m n a b : ℕ) → a ≢ b → one_if ((m == n) && (a == b)) ≡ 0
pair_item m n a b differ = omega (arith, and_most (m == n) (a == b), none_at a b differ)

-- where an entry is won with a number and item, nothing stands yet of the two that it backs, one more may
one_more :
    (a b w : List Signed) (number item n k : ℕ) → under n k a + under n k b ≤ under n k w
    → entries item a + entries item b < entries item w → entries item w ≤ 1 → 0 < under number item w
    → under n k (a ++ signed number item ∷ []) + under n k b ≤ under n k w
one_more a b w number item n k before claimed once mine = elim (cases_eq item k) [
  | inr other ↦ omega (arith, before, under_push n k number item a, pair_item number n item k other)
  | inl same ↦ elim (cases_eq number n) [
    | inr other ↦ omega (arith, before, under_push n k number item a, pair_number number n (item == k) other)
    | inl it ↦
        let free : entries k a + entries k b < entries k w = subst (λ (i : ℕ). entries i a + entries i b < entries i w) same claimed in
        let few : entries k w ≤ 1 = subst (λ (i : ℕ). entries i w ≤ 1) same once in
        let its : 0 < under n item w = subst (λ (m : ℕ). 0 < under m item w) it mine in
        let won : 0 < under n k w = subst (λ (i : ℕ). 0 < under n i w) same its in
        omega (arith, free, few, won, under_push n k number item a, one_if-most ((number == n) && (item == k)), under_le n k a, under_le n k b)
  ]
]

owner_more : (r : Reader) (number n k : ℕ) (l : List Signed) → owner_under r number l ≤ owner_under r number (l ++ signed n k ∷ [])
owner_more (Port alias port) number n k l = omega (arith, under_push number alias n k l)
owner_more (Root row tile) number n k l = omega arith

-- ---- the changes

pub own_met : (p : PlanRecord) (v : View) (k : ℕ) (met : Met) → Own p v → Own p (with_met v k met)
own_met p v k met own = record {
  backed_under = own.backed_under;
  served_under = own.served_under;
  turn_under = own.turn_under;
  claims_own = own.claims_own;
}

pub own_known : (p : PlanRecord) (v : View) (k : ℕ) → Own p v → Own p (with_known v k)
own_known p v k own = record {
  backed_under = own.backed_under;
  served_under = own.served_under;
  turn_under = own.turn_under;
  claims_own = own.claims_own;
}

pub own_filling : (p : PlanRecord) (v : View) (k : ℕ) → Own p v → Own p (with_filling v k)
own_filling p v k own = record {
  backed_under = own.backed_under;
  served_under = own.served_under;
  turn_under = own.turn_under;
  claims_own = own.claims_own;
}

pub own_cleared : (p : PlanRecord) (v : View) → Own p v → Own p (with_cleared v)
own_cleared p v own = record {
  backed_under = own.backed_under;
  served_under = own.served_under;
  turn_under = own.turn_under;
  claims_own = own.claims_own;
}

pub own_split : (p : PlanRecord) (v : View) → Own p v → Own p (with_split v)
own_split p v own = record {
  backed_under = own.backed_under;
  served_under = own.served_under;
  turn_under = own.turn_under;
  claims_own = own.claims_own;
}

pub own_won : (p : PlanRecord) (v : View) (k : ℕ) → Own p v → Own p (with_won v k)
own_won p v k own = record {
  backed_under = λ n j. omega (arith, own.backed_under n j, under_push n j v.number k v.won);
  served_under = λ n e. let more = owner_more (reader_at p e) n v.number k v.won in omega (arith, own.served_under n e, more);
  turn_under = λ e has.
      let before = own.turn_under e has in
      let more = owner_more (reader_at p e) v.number v.number k v.won in omega (arith, before, more);
  claims_own = λ j claimed. elim (cases_eq k j) [
    | inl same ↦ omega (arith, under_push v.number j v.number k v.won, pair_here v.number v.number k j refl same)
    | inr differ ↦
        let before = own.claims_own j (omega (arith, claimed, entries_push j v.number k v.won, none_at k j differ)) in
        omega (arith, before, under_push v.number j v.number k v.won)
  ];
}

-- an alias that it has claimed
pub own_made :
    (p : PlanRecord) (v : View) (k : ℕ) → makes k v + loses k v < wins k v → wins k v ≤ 1 → Own p v → Own p (with_made v k)
own_made p v k claimed once own = record {
  backed_under = λ n j. one_more v.made v.lost v.won v.number k n j (own.backed_under n j) claimed once (own.claims_own k claimed);
  served_under = own.served_under;
  turn_under = own.turn_under;
  claims_own = λ j still. own.claims_own j (omega (arith, still, entries_push j v.number k v.made));
}

pub own_lost :
    (p : PlanRecord) (v : View) (k : ℕ) → makes k v + loses k v < wins k v → wins k v ≤ 1 → Own p v → Own p (with_lost v k)
own_lost p v k claimed once own = record {
  backed_under = λ n j.
      let more = one_more v.lost v.made v.won v.number k n j (omega (arith, own.backed_under n j)) (omega (arith, claimed)) once
      (own.claims_own k claimed) in
      omega (arith, more);
  served_under = own.served_under;
  turn_under = own.turn_under;
  claims_own = λ j still. own.claims_own j (omega (arith, still, entries_push j v.number k v.lost));
}

-- a read whose reader it won under its own number, or that is its own as the chief's
pub own_turn :
    (p : PlanRecord) (v : View) (e : ℕ) → 0 < owner_under (reader_at p e) v.number v.won → Own p v → Own p (with_turn v (Some e))
own_turn p v e mine own = record {
  backed_under = own.backed_under;
  served_under = own.served_under;
  turn_under = λ i has. subst (λ (j : ℕ). 0 < owner_under (reader_at p j) v.number v.won) (some_is e i has) mine;
  claims_own = own.claims_own;
}
  where
    some_is : (a b : ℕ) → Some a ≡ Some b → a ≡ b
    some_is a b same = cc

pub own_given : (p : PlanRecord) (v : View) → Own p v → Own p (with_turn v None)
own_given p v own = record {
  backed_under = own.backed_under;
  served_under = own.served_under;
  turn_under = λ e has. cc;
  claims_own = own.claims_own;
}

-- it serves such a read, which it had not served
pub own_served :
    (p : PlanRecord) (v : View) (e : ℕ) (leaving : Option ℕ) → 0 < owner_under (reader_at p e) v.number v.won → serves e v ≡ 0
    → Own p v → Own p (with_served v e leaving)
own_served p v e leaving mine unserved own = record {
  backed_under = own.backed_under;
  served_under = λ n i. elim (cases_eq e i) [
    | inr differ ↦ omega (arith, own.served_under n i, under_push n i v.number e v.served, pair_item v.number n e i differ)
    | inl same ↦ elim (cases_eq v.number n) [
      | inr other ↦ omega (arith, own.served_under n i, under_push n i v.number e v.served, pair_number v.number n (e == i) other)
      | inl it ↦
          let its : 0 < owner_under (reader_at p e) n v.won = subst (λ (m : ℕ). 0 < owner_under (reader_at p e) m v.won) it mine in
          let here : 0 < owner_under (reader_at p i) n v.won = subst (λ (j : ℕ). 0 < owner_under (reader_at p j) n v.won) same its in
          let none_yet : serves i v ≡ 0 = subst (λ (j : ℕ). serves j v ≡ 0) same unserved in
          omega (
            arith,
            here,
            none_yet,
            under_push n i v.number e v.served,
            one_if-most ((v.number == n) && (e == i)),
            under_le n i v.served,
          )
    ]
  ];
  turn_under = own.turn_under;
  claims_own = own.claims_own;
}

pub own_split_off : (p : PlanRecord) (v : View) → Own p (split_off v)
own_split_off p v = record {
  backed_under = λ n k. omega arith;
  served_under = λ n e. omega arith;
  turn_under = λ e has. cc;
  claims_own = λ k claimed. absurd (omega arith);
}

pub own_first : (p : PlanRecord) → Own p (first_view p)
own_first p = record {
  backed_under = λ n k. omega arith;
  served_under = λ n e. omega arith;
  turn_under = λ e has. cc;
  claims_own = λ k claimed. absurd (omega arith);
}

pub own_gone : (p : PlanRecord) → Own p joined_view
own_gone p = record {
  backed_under = λ n k. omega arith;
  served_under = λ n e. omega arith;
  turn_under = λ e has. cc;
  claims_own = λ k claimed. absurd (omega arith);
}

-- a seat that serves no read of a row's tile, and has nothing claimed, is joined
served_joined :
    (p : PlanRecord) (v w : View) (r : Reader) (n e : ℕ) → under n e v.served ≤ owner_under r n v.won
    → under n e w.served ≤ owner_under r n w.won → serves e w ≤ owner r (has_number 0 w) w.won → has_number 0 w ≡ 0
    → under n e v.served + under n e w.served ≤ owner_under r n (v.won ++ w.won)
served_joined p v w (Port alias port) n e mine its owned other = omega (arith, mine, its, under_append n alias v.won w.won)
served_joined p v w (Root row tile) n e mine its owned other = omega (arith, mine, owned, other, under_le n e w.served)

owner_joined : (r : Reader) (n : ℕ) (v w : List Signed) → owner_under r n v ≤ owner_under r n (v ++ w)
owner_joined (Port alias port) n v w = omega (arith, under_append n alias v w)
owner_joined (Root row tile) n v w = omega arith

pub own_joined :
    (p : PlanRecord) (v w : View) → has_number 0 w ≡ 0 → ViewOk p w → ((k : ℕ) → wins k w ≤ makes k w + loses k w)
    → Own p v → Own p w → Own p (with_joined v w)
own_joined p v w other ok settled own its = record {
  backed_under = λ n k. omega (
    arith,
    own.backed_under n k,
    its.backed_under n k,
    under_append n k v.won w.won,
    under_append n k v.made w.made,
    under_append n k v.lost w.lost,
  );
  served_under = λ n e.
      let both = served_joined p v w (reader_at p e) n e (own.served_under n e) (its.served_under n e)
      (owned_of e) other in
      omega (arith, both, under_append n e v.served w.served);
  turn_under = λ e has.
      let before = own.turn_under e has in
      let more = owner_joined (reader_at p e) v.number v.won w.won in omega (arith, before, more);
  claims_own = λ k claimed.
      let before = own.claims_own k (omega (
        arith,
        claimed,
        settled k,
        entries_append k v.won w.won,
        entries_append k v.made w.made,
        entries_append k v.lost w.lost,
      )) in
      omega (arith, before, under_append v.number k v.won w.won);
}
  where
    owned_of : (e : ℕ) → serves e w ≤ owner (reader_at p e) (has_number 0 w) w.won
    owned_of e = omega (arith, ok.owned e)

-- What the calls of a seat leave it in hand
use Rattle.std.proofs.Common.{Result, Ok, OnOk, inl, inr, ◌≡◌, ◌≢◌, ◌<◌, ◌≤◌, ◌+◌, ℕ, Bool, true, false, ◌&&◌, ◌==◌, cond, List, [], ◌∷◌, ◌++◌, refl, sym, ap, subst, ◌∙◌, arith}
use Rattle.std.proofs.lemmas.List.Sums.{sum_by_push, sum_by-append, sum_by-cons}
use Rattle.std.proofs.lemmas.Bool.{cases_eq, cases_lt, eq-eqb, ne_eqb}
use Rattle.xs_base.specs.declared.memory.Memory.{Memory}
use Rattle.xs_plan.specs.Record.{PlanRecord}
use Rattle.xs_plan.specs.Reads.{reads_in}
use Rattle.xs_plan.specs.declared.job.Reader.{Reader}
use Rattle.xs_plan.specs.declared.job.Reader.TheVariants.{Port, Root}
use Rattle.xs_core.specs.declared.answer.Claim.TheVariants as claim
use Rattle.xs_core.specs.States.{source_at, reader_at}
use Rattle.xs_core.specs.Views.{DeskView, Signed, signed, entries, under, HasClaimed, Knows, IsMine, IsFresh, DeskOk, MayRead}
use Rattle.xs_core.specs.Calls.{Adds, Stays, ClaimTells, FinishTells, AbandonTells, RetireTells}
use Rattle.xs_word_desk.specs.Desks.{SplitTells, JoinTells, HasNothing}
use Rattle.xs_word_tests.specs.Hands.{IsFree, HasOne, AreOpen, RootsAreOpen, IsSeat}

same : {A : Type 0} (xs : List A) → xs ++ [] ≡ xs
same [] = refl
same (x ∷ xs) = ap (λ l. x ∷ l) (same xs)

abbrev pub one_of : ℕ → ℕ → ℕ
one_of k j = cond {A = ℕ} (k == j) 1 0

one_here : (k j : ℕ) → k ≡ j → one_of k j ≡ 1
one_here k j is = ap (λ b. cond {A = ℕ} b 1 0) (eq-eqb k j is)

one_else : (k j : ℕ) → k ≢ j → one_of k j ≡ 0
one_else k j differ = ap (λ b. cond {A = ℕ} b 1 0) (ne_eqb k j differ)

push_entries : (j number k : ℕ) (l : List Signed) → entries j (l ++ signed number k ∷ []) ≡ entries j l + one_of k j
push_entries j number k l = sum_by_push (λ (s : Signed). cond {A = ℕ} (s.item == j) 1 0) l (signed number k)

push_under : (n j number k : ℕ) (l : List Signed) → number ≢ n → under n j (l ++ signed number k ∷ []) ≡ under n j l
push_under n j number k l other =
    sum_by_push (λ (s : Signed). cond {A = ℕ} ((s.number == n) && (s.item == j)) 1 0) l (signed number k)
    ∙ ap (λ m. under n j l + m) (ap (λ b. cond {A = ℕ} (b && (k == j)) 1 0) (ne_eqb number n other))
    ∙ zero_right (under n j l)
  where
    zero_right : (n : ℕ) → n + 0 ≡ n
    zero_right n = omega arith

cons_under : (n j : ℕ) (s : Signed) (l : List Signed) → under n j (s ∷ l) ≡ cond {A = ℕ} ((s.number == n) && (s.item == j)) 1 0 + under n j l
cons_under n j s l = sum_by-cons (λ (s : Signed). cond {A = ℕ} ((s.number == n) && (s.item == j)) 1 0) s l

cons_entries : (j : ℕ) (s : Signed) (l : List Signed) → entries j (s ∷ l) ≡ cond {A = ℕ} (s.item == j) 1 0 + entries j l
cons_entries j s l = sum_by-cons (λ (s : Signed). cond {A = ℕ} (s.item == j) 1 0) s l

pub seat_of : (v w : DeskView) (a b c d : List Signed) → Adds v w a b c d → IsSeat v w
seat_of v w a b c d adds = record { home = adds.home; number = adds.number; solo = adds.solo }

pub free_stays : (v w : DeskView) → Stays v w → IsFree v → IsFree w
free_stays v w stays free = record {
  settled = λ k.
      let won = ap (entries k) (stays.won ∙ same v.won) in
      let made = ap (entries k) (stays.made ∙ same v.made) in
      let lost = ap (entries k) (stays.lost ∙ same v.lost) in
      omega (arith, won, made, lost, free.settled k);
  clean = λ e. ap (under 0 e) (stays.served ∙ same v.served) ∙ free.clean e;
}

pub one_stays : (k : ℕ) (v w : DeskView) → Stays v w → HasOne k v → HasOne k w
one_stays k v w stays one = record {
  claimed =
      let won = ap (entries k) (stays.won ∙ same v.won) in
      let made = ap (entries k) (stays.made ∙ same v.made) in
      let lost = ap (entries k) (stays.lost ∙ same v.lost) in
      omega (arith, won, made, lost, one.claimed);
  others = λ j differ.
      let won = ap (entries j) (stays.won ∙ same v.won) in
      let made = ap (entries j) (stays.made ∙ same v.made) in
      let lost = ap (entries j) (stays.lost ∙ same v.lost) in
      let before = one.others j differ in
      omega (arith, won, made, lost, before);
  clean = λ e. ap (under 0 e) (stays.served ∙ same v.served) ∙ one.clean e;
}

pub open_stays : (p : PlanRecord) (k from : ℕ) (v w : DeskView) → Stays v w → AreOpen p k from v → AreOpen p k from w
open_stays p k from v w stays unserved e port past reader = ap (entries e) (stays.served ∙ same v.served) ∙ unserved e port past reader

-- a seat that wins an alias
pub one_won : (v w : DeskView) (k : ℕ) → IsFree v → ClaimTells v k claim.Won w → HasOne k w
one_won v w k free told = record {
  claimed =
      let won = ap (entries k) told.0.won ∙ push_entries k v.number k v.won in
      let made = ap (entries k) (told.0.made ∙ same v.made) in
      let lost = ap (entries k) (told.0.lost ∙ same v.lost) in
      omega (arith, won, made, lost, free.settled k, one_here k k refl);
  others = λ j differ.
      let won = ap (entries j) told.0.won ∙ push_entries j v.number k v.won in
      let made = ap (entries j) (told.0.made ∙ same v.made) in
      let lost = ap (entries j) (told.0.lost ∙ same v.lost) in
      omega (arith, won, made, lost, free.settled j, one_else k j (λ is. differ (sym is)));
  clean = λ e. ap (under 0 e) (told.0.served ∙ same v.served) ∙ free.clean e;
}

pub open_won : (p : PlanRecord) (v w : DeskView) (k : ℕ) → DeskOk p v → ClaimTells v k claim.Won w → AreOpen p k 0 w
open_won p v w k ok told e port past reader =
    let served = ap (entries e) (told.0.served ∙ same v.served) in
    omega (arith, served, ok.served_of_won e k port reader, told.1)

-- it finishes it, or gives it up
pub free_made : (p : PlanRecord) (v w : DeskView) (k : ℕ) → DeskOk p v → HasOne k v → FinishTells v k w → IsFree w
free_made p v w k ok one told = record {
  settled = λ j.
      let won = ap (entries j) (told.0.won ∙ same v.won) in
      let made = ap (entries j) told.0.made ∙ push_entries j v.number k v.made in
      let lost = ap (entries j) (told.0.lost ∙ same v.lost) in
      elim (cases_eq k j) [
        | inl is ↦
            let claimed : HasClaimed v j = subst (λ (i : ℕ). HasClaimed v i) is one.claimed in
            omega (arith, won, made, lost, claimed, ok.won_once j, one_here k j is)
        | inr differ ↦
            let before = one.others j (λ is. differ (sym is)) in
            omega (arith, won, made, lost, before, one_else k j differ)
      ];
  clean = λ e. ap (under 0 e) (told.0.served ∙ same v.served) ∙ one.clean e;
}

pub free_lost : (p : PlanRecord) (v w : DeskView) (k : ℕ) → DeskOk p v → HasOne k v → AbandonTells v k w → IsFree w
free_lost p v w k ok one told = record {
  settled = λ j.
      let won = ap (entries j) (told.won ∙ same v.won) in
      let made = ap (entries j) (told.made ∙ same v.made) in
      let lost = ap (entries j) told.lost ∙ push_entries j v.number k v.lost in
      elim (cases_eq k j) [
        | inl is ↦
            let claimed : HasClaimed v j = subst (λ (i : ℕ). HasClaimed v i) is one.claimed in
            omega (arith, won, made, lost, claimed, ok.won_once j, one_here k j is)
        | inr differ ↦
            let before = one.others j (λ is. differ (sym is)) in
            omega (arith, won, made, lost, before, one_else k j differ)
      ];
  clean = λ e. ap (under 0 e) (told.served ∙ same v.served) ∙ one.clean e;
}

-- it may read for it
mine_of : (p : PlanRecord) (v : DeskView) (k port : ℕ) (r : Reader) → DeskOk p v → HasOne k v → r ≡ Port k port → IsMine v r
mine_of p v k port r ok one is =
    subst (λ (x : Reader). IsMine v x) (sym is) (omega (
      arith,
      ok.claims_own k one.claimed,
      ok.won_once k,
      one.claimed,
      under_le v.number k v.lost,
    ))
  where
    both_le : (a b : Bool) → cond {A = ℕ} (a && b) 1 0 ≤ cond {A = ℕ} b 1 0
    both_le true true = omega arith
    both_le true false = omega arith
    both_le false true = omega arith
    both_le false false = omega arith

    under_le : (n j : ℕ) (l : List Signed) → under n j l ≤ entries j l
    under_le n j [] = omega arith
    under_le n j (s ∷ l) =
        omega (arith, both_le (s.number == n) (s.item == j), under_le n j l, cons_under n j s l, cons_entries j s l)

pub may_read :
    (p : PlanRecord) (v : DeskView) (k e port : ℕ) → DeskOk p v → HasOne k v → AreOpen p k e v → e < reads_in p
    → reader_at p e ≡ Port k port → Knows v (source_at p e) → MayRead p v e
may_read p v k e port ok one unserved there reader known = record {
  within = there;
  mine = mine_of p v k port (reader_at p e) ok one reader;
  unserved = unserved e port (omega arith) reader;
  known = known;
}

-- and serve a read
pub one_served :
    (p : PlanRecord) (v w : DeskView) (k e n : ℕ) → v.number ≢ 0 → HasOne k v → RetireTells p v e n w → HasOne k w
one_served p v w k e n other one told = record {
  claimed =
      let won = ap (entries k) (told.0.won ∙ same v.won) in
      let made = ap (entries k) (told.0.made ∙ same v.made) in
      let lost = ap (entries k) (told.0.lost ∙ same v.lost) in
      omega (arith, won, made, lost, one.claimed);
  others = λ j differ.
      let won = ap (entries j) (told.0.won ∙ same v.won) in
      let made = ap (entries j) (told.0.made ∙ same v.made) in
      let lost = ap (entries j) (told.0.lost ∙ same v.lost) in
      let before = one.others j differ in
      omega (arith, won, made, lost, before);
  clean = λ i. ap (under 0 i) told.0.served ∙ push_under 0 i v.number e v.served other ∙ one.clean i;
}

pub open_served :
    (p : PlanRecord) (v w : DeskView) (k e n : ℕ) → AreOpen p k e v → RetireTells p v e n w → AreOpen p k (e + 1) w
open_served p v w k e n unserved told i port past reader =
    let served = ap (entries i) told.0.served ∙ push_entries i v.number e v.served in
    omega (arith, served, unserved i port (omega arith) reader, one_else e i (λ is. absurd (omega (arith, is, past))))

-- ---- seats that are split off and joined

-- a seat that is split off has nothing
pub free_split : (v u w : DeskView) → SplitTells v u w → IsFree u
free_split v u w told = record {
  settled = λ k.
      let won = ap (entries k) told.won.0 in
      let made = ap (entries k) told.made.0 in
      let lost = ap (entries k) told.lost.0 in
      omega (arith, won, made, lost);
  clean = λ e. ap (under 0 e) told.served.0;
}

pub has_nothing : (v : DeskView) → IsFree v → HasNothing v
has_nothing v free k = omega (arith, free.settled k)

-- the chief that splits one off has nothing if it had nothing
pub free_left : (v u w : DeskView) → SplitTells v u w → IsFree v → IsFree w
free_left v u w told free = record {
  settled = λ k.
      let won = ap (entries k) told.won.1 in
      let made = ap (entries k) told.made.1 in
      let lost = ap (entries k) told.lost.1 in
      omega (arith, won, made, lost, free.settled k);
  clean = λ e. ap (under 0 e) told.served.1 ∙ free.clean e;
}

-- a fresh chief has nothing
pub free_fresh : (v : DeskView) → IsFresh v → IsFree v
free_fresh v fresh = record {
  settled = λ k.
      let won = ap (entries k) fresh.won in
      let made = ap (entries k) fresh.made in
      let lost = ap (entries k) fresh.lost in
      omega (arith, won, made, lost);
  clean = λ e. ap (under 0 e) fresh.served;
}

-- the chief that a seat is joined to
both_entries : (k : ℕ) (l m : List Signed) → entries k (l ++ m) ≡ entries k l + entries k m
both_entries k l m = sum_by-append (λ (s : Signed). cond {A = ℕ} (s.item == k) 1 0) l m

both_under : (n k : ℕ) (l m : List Signed) → under n k (l ++ m) ≡ under n k l + under n k m
both_under n k l m = sum_by-append (λ (s : Signed). cond {A = ℕ} ((s.number == n) && (s.item == k)) 1 0) l m

pub free_joined : (v o w : DeskView) → JoinTells v o w → IsFree v → IsFree o → IsFree w
free_joined v o w told mine free = record {
  settled = λ k.
      let won = ap (entries k) told.won ∙ both_entries k v.won o.won in
      let made = ap (entries k) told.made ∙ both_entries k v.made o.made in
      let lost = ap (entries k) told.lost ∙ both_entries k v.lost o.lost in
      omega (arith, won, made, lost, mine.settled k, free.settled k);
  clean = λ e.
      let served = ap (under 0 e) told.served ∙ both_under 0 e v.served o.served in
      omega (arith, served, mine.clean e, free.clean e);
}

-- ---- the reads of the rows' tiles

none_entered : (k : ℕ) (l : List Signed) → ((n : ℕ) → under n k l ≡ 0) → entries k l ≡ 0
none_entered k [] none = refl
none_entered k (s ∷ l) none = elim (cases_eq s.item k) [
  | inl is ↦
      let here : cond {A = ℕ} ((s.number == s.number) && (s.item == k)) 1 0 ≡ 1 =
      ap (λ b. cond {A = ℕ} (b && (s.item == k)) 1 0) (eq-eqb s.number s.number refl)
      ∙ ap (λ b. cond {A = ℕ} b 1 0) (eq-eqb s.item k is) in
      absurd (omega (arith, here, none s.number, cons_under s.number k s l))
  | inr differ ↦
      let rest = none_entered k l (λ n. omega (arith, none n, cons_under n k s l)) in
      let here : cond {A = ℕ} (s.item == k) 1 0 ≡ 0 = ap (λ b. cond {A = ℕ} b 1 0) (ne_eqb s.item k differ) in
      omega (arith, here, rest, cons_entries k s l)
]

pub roots_open : (p : PlanRecord) (v : DeskView) → DeskOk p v → IsFree v → RootsAreOpen p 0 v
roots_open p v ok free e row tile past reader = none_entered e v.served not_under
  where
    not_under : (n : ℕ) → under n e v.served ≡ 0
    not_under n = elim (cases_lt 0 (under n e v.served)) [
      | inl entered ↦
          subst (λ (m : ℕ). under m e v.served ≡ 0) (sym (ok.served_by_chief n e row tile reader entered)) (free.clean e)
      | inr least ↦ omega (arith, least)
    ]

pub roots_stay : (p : PlanRecord) (from : ℕ) (v w : DeskView) → Stays v w → RootsAreOpen p from v → RootsAreOpen p from w
roots_stay p from v w stays unserved e row tile past reader =
    ap (entries e) (stays.served ∙ same v.served) ∙ unserved e row tile past reader

pub roots_served :
    (p : PlanRecord) (v w : DeskView) (e n : ℕ) → RootsAreOpen p e v → RetireTells p v e n w → RootsAreOpen p (e + 1) w
roots_served p v w e n unserved told i row tile past reader =
    let served = ap (entries i) told.0.served ∙ push_entries i v.number e v.served in
    omega (arith, served, unserved i row tile (omega arith) reader, one_else e i (λ is. absurd (omega (arith, is, past))))

pub may_read_root :
    (p : PlanRecord) (v : DeskView) (e row tile : ℕ) → v.number ≡ 0 → RootsAreOpen p e v → e < reads_in p
    → reader_at p e ≡ Root row tile → Knows v (source_at p e) → MayRead p v e
may_read_root p v e row tile chief unserved there reader known = record {
  within = there;
  mine = subst (λ (x : Reader). IsMine v x) (sym reader) chief;
  unserved = unserved e row tile (omega arith) reader;
  known = known;
}

-- ---- calls that take memory

-- what a call promises where it has an answer holds where it had one
pub if_ok : (r : Result (Unit {0}) Memory) (u : Unit {0}) (P : Type 0) → r ≡ Ok u → OnOk r P → P
if_ok r u P is holds = subst (λ (s : Result (Unit {0}) Memory). OnOk s P) is holds

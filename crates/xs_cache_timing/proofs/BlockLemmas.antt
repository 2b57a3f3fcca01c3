-- What the calls of a seat do for its block
use Rattle.std.proofs.Common.{inl, inr, ◌≡◌, ◌≢◌, ◌<◌, ◌≤◌, ◌+◌, ℕ, Bool, true, false, ◌&&◌, ◌==◌, cond, List, [], ◌∷◌, ◌++◌, length, refl, sym, ap, subst, ◌∙◌, arith}
use Rattle.std.proofs.lemmas.List.Sums.{sum_by_push, sum_by-cons}
use Rattle.std.proofs.lemmas.Bool.{cases_lt, eq-eqb, ne_eqb}
use Rattle.std.proofs.lemmas.Option.{slice_get-get_or}
use Rattle.xs_plan.specs.declared.job.Reader.{Reader}
use Rattle.xs_plan.specs.Record.{PlanRecord, entry_at, no_entry}
use Rattle.xs_plan.specs.Reads.{reads_in}
use Rattle.xs_plan.specs.Valid.{IsPlan, HasSides}
use Rattle.xs_core.specs.declared.answer.Claim.TheVariants as claim
use Rattle.xs_core.specs.States.{source_at}
use Rattle.xs_core.specs.Views.{DeskView, Signed, signed, entries, under, HasClaimed, Knows, IsMine, MayRead, IsFresh}
use Rattle.xs_core.specs.Calls.{Adds, Stays, ClaimTells, FinishTells, RetireTells}
use Rattle.xs_word_desk.specs.Desks.{SplitTells}
use Rattle.xs_cache_timing.specs.declared.block.Block.{Block}
use Rattle.xs_cache_timing.specs.Blocks.{IsInside, IsBlock, Works, HasWon, HasMade, HasServed, MayLive}

-- ---- lists that grow by an entry

same : {A : Type 0} (xs : List A) → xs ++ [] ≡ xs
same [] = refl
same (x ∷ xs) = ap (λ l. x ∷ l) (same xs)

abbrev one_of : ℕ → ℕ → ℕ
one_of k j = cond {A = ℕ} (k == j) 1 0

one_here : (k j : ℕ) → k ≡ j → one_of k j ≡ 1
one_here k j is = ap (λ b. cond {A = ℕ} b 1 0) (eq-eqb k j is)

one_else : (k j : ℕ) → k ≢ j → one_of k j ≡ 0
one_else k j differ = ap (λ b. cond {A = ℕ} b 1 0) (ne_eqb k j differ)

push_entries : (j number k : ℕ) (l : List Signed) → entries j (l ++ signed number k ∷ []) ≡ entries j l + one_of k j
push_entries j number k l = sum_by_push (λ (s : Signed). cond {A = ℕ} (s.item == j) 1 0) l (signed number k)

push_under :
    (number j k : ℕ) (l : List Signed)
    → under number j (l ++ signed number k ∷ []) ≡ under number j l + cond {A = ℕ} ((number == number) && (k == j)) 1 0
push_under number j k l =
    sum_by_push (λ (s : Signed). cond {A = ℕ} ((s.number == number) && (s.item == j)) 1 0) l (signed number k)

-- one's own entry counts
own_here : (number j k : ℕ) → k ≡ j → cond {A = ℕ} ((number == number) && (k == j)) 1 0 ≡ 1
own_here number j k is =
    ap (λ b. cond {A = ℕ} (b && (k == j)) 1 0) (eq-eqb number number refl) ∙ ap (λ b. cond {A = ℕ} b 1 0) (eq-eqb k j is)

cons_under :
    (number j : ℕ) (s : Signed) (l : List Signed)
    → under number j (s ∷ l) ≡ cond {A = ℕ} ((s.number == number) && (s.item == j)) 1 0 + under number j l
cons_under number j s l = sum_by-cons (λ (s : Signed). cond {A = ℕ} ((s.number == number) && (s.item == j)) 1 0) s l

cons_entries : (j : ℕ) (s : Signed) (l : List Signed) → entries j (s ∷ l) ≡ cond {A = ℕ} (s.item == j) 1 0 + entries j l
cons_entries j s l = sum_by-cons (λ (s : Signed). cond {A = ℕ} (s.item == j) 1 0) s l

both_le : (a b : Bool) → cond {A = ℕ} (a && b) 1 0 ≤ cond {A = ℕ} b 1 0
both_le true true = omega arith
both_le true false = omega arith
both_le false true = omega arith
both_le false false = omega arith

-- an entry with a number is an entry
under_le : (number j : ℕ) (l : List Signed) → under number j l ≤ entries j l
under_le number j [] = omega arith
under_le number j (s ∷ l) =
    omega (
      arith,
      both_le (s.number == number) (s.item == j),
      under_le number j l,
      cons_under number j s l,
      cons_entries j s l,
    )

-- ---- the sides of an alias

pub has_sides : (p : PlanRecord) (k : ℕ) → IsPlan p → k < length p.entries → HasSides (entry_at p.entries k).rect
has_sides p k plan lt = (plan.entries k (entry_at p.entries k) (slice_get-get_or p.entries k no_entry lt)).sides

-- ---- a seat that begins

pub begins_fresh : (b : Block) (v : DeskView) → IsFresh v → HasWon b b.first v
begins_fresh b v fresh = record {
  wins = λ k from lt. absurd (omega arith);
  known = λ k from lt. absurd (omega arith);
  unmade = λ k past. ap (entries k) fresh.made;
  unlost = fresh.lost;
  unserved = λ e past. ap (entries e) fresh.served;
}

begins_split : (b : Block) (v u w : DeskView) → SplitTells v u w → HasWon b b.first u
begins_split b v u w told = record {
  wins = λ k from lt. absurd (omega arith);
  known = λ k from lt. absurd (omega arith);
  unmade = λ k past. ap (entries k) told.made.0;
  unlost = told.lost.0;
  unserved = λ e past. ap (entries e) told.served.0;
}

pub fresh_may_live :
    (p : PlanRecord) (b : Block) (here : PlanRecord) (v : DeskView) → here ≡ p → IsBlock p b → IsFresh v → MayLive p b here v
fresh_may_live p b here v plan block fresh =
    record { plan = plan; block = block; begins = begins_fresh b v fresh }

pub split_may_live :
    (p : PlanRecord) (b : Block) (here : PlanRecord) (v u w : DeskView) → here ≡ p → IsBlock p b → SplitTells v u w
    → MayLive p b here u
split_may_live p b here v u w plan block told =
    record { plan = plan; block = block; begins = begins_split b v u w told }

-- ---- its calls

pub won_next : (b : Block) (k : ℕ) (v w : DeskView) → HasWon b k v → ClaimTells v k claim.Won w → HasWon b (k + 1) w
won_next b k v w works told = record {
  wins = λ j from lt. subst (λ (n : ℕ). 0 < under n j w.won) (sym told.0.number) (grown j from lt);
  known = λ j from lt. absurd (omega arith);
  unmade = λ j past. ap (entries j) (told.0.made ∙ same v.made) ∙ works.unmade j past;
  unlost = told.0.lost ∙ same v.lost ∙ works.unlost;
  unserved = λ e past. ap (entries e) (told.0.served ∙ same v.served) ∙ works.unserved e past;
}
  where
    grown : (j : ℕ) → b.first ≤ j → j < k + 1 → 0 < under v.number j w.won
    grown j from lt =
        let longer = ap (under v.number j) told.0.won ∙ push_under v.number j k v.won in
        elim (cases_lt j k) [
          | inl before ↦ omega (arith, longer, works.wins j from before)
          | inr past ↦ omega (arith, longer, own_here v.number j k (let h : k ≡ j = omega arith in h))
        ]

pub has_claimed :
    (b : Block) (k : ℕ) (v : DeskView) → HasMade b k v → b.first ≤ k → k < b.past → HasClaimed v k
has_claimed b k v works from lt =
    let lost = ap (entries k) works.unlost in
    let made = works.unmade k (omega arith) in
    omega (arith, lost, made, works.wins k from lt, under_le v.number k v.won)

pub made_next :
    (b : Block) (k : ℕ) (v w : DeskView) → HasMade b k v → FinishTells v k w → HasMade b (k + 1) w
made_next b k v w works told = record {
  wins = λ j from lt.
      subst (λ (n : ℕ). 0 < under n j w.won) (sym told.0.number)
      (subst (λ (l : List Signed). 0 < under v.number j l) (sym (told.0.won ∙ same v.won)) (works.wins j from lt));
  known = λ j from lt. elim (cases_lt j k) [
    | inl before ↦ told.0.knows j (works.known j from before)
    | inr past ↦ subst (λ (i : ℕ). Knows w i) (let h : k ≡ j = omega arith in h) told.1
  ];
  unmade = λ j past.
      let longer = ap (entries j) told.0.made ∙ push_entries j v.number k v.made in
      omega (arith, longer, works.unmade j (omega arith), one_else k j (λ is. absurd (omega (arith, is, past))));
  unlost = told.0.lost ∙ same v.lost ∙ works.unlost;
  unserved = λ e past. ap (entries e) (told.0.served ∙ same v.served) ∙ works.unserved e past;
}

pub may_read :
    (p : PlanRecord) (b : Block) (e served : ℕ) (v : DeskView) → HasServed b served v → IsInside p b e → e < reads_in p
    → served ≤ e → MayRead p v e
may_read p b e served v works inside there past = record {
  within = there;
  mine = subst (λ (r : Reader). IsMine v r) (sym inside.reader)
      (let lost = ap (under v.number inside.alias) works.unlost in
      omega (arith, lost, works.wins inside.alias inside.own.0 inside.own.1));
  unserved = works.unserved e past;
  known = works.known (source_at p e) inside.source.0 inside.source.1;
}

pub served_stays : (b : Block) (e : ℕ) (v w : DeskView) → HasServed b e v → Stays v w → HasServed b e w
served_stays b e v w works stays = record {
  wins = λ j from lt.
      subst (λ (n : ℕ). 0 < under n j w.won) (sym stays.number)
      (subst (λ (l : List Signed). 0 < under v.number j l) (sym (stays.won ∙ same v.won)) (works.wins j from lt));
  known = λ j from lt. stays.knows j (works.known j from lt);
  unmade = λ j past. ap (entries j) (stays.made ∙ same v.made) ∙ works.unmade j past;
  unlost = stays.lost ∙ same v.lost ∙ works.unlost;
  unserved = λ i past. ap (entries i) (stays.served ∙ same v.served) ∙ works.unserved i past;
}

pub served_next :
    (p : PlanRecord) (b : Block) (e n : ℕ) (v w : DeskView) → HasServed b e v → RetireTells p v e n w → HasServed b (e + 1) w
served_next p b e n v w works told = record {
  wins = λ j from lt.
      subst (λ (m : ℕ). 0 < under m j w.won) (sym told.0.number)
      (subst (λ (l : List Signed). 0 < under v.number j l) (sym (told.0.won ∙ same v.won)) (works.wins j from lt));
  known = λ j from lt. told.0.knows j (works.known j from lt);
  unmade = λ j past. ap (entries j) (told.0.made ∙ same v.made) ∙ works.unmade j past;
  unlost = told.0.lost ∙ same v.lost ∙ works.unlost;
  unserved = λ i past.
      let longer = ap (entries i) told.0.served ∙ push_entries i v.number e v.served in
      omega (arith, longer, works.unserved i (omega arith), one_else e i (λ is. absurd (omega (arith, is, past))));
}

-- a seat that has served nothing may go on from any read
pub served_later : (b : Block) (e : ℕ) (v : DeskView) → HasServed b 0 v → HasServed b e v
served_later b e v works = record {
  wins = works.wins;
  known = works.known;
  unmade = works.unmade;
  unlost = works.unlost;
  unserved = λ i past. works.unserved i (omega arith);
}

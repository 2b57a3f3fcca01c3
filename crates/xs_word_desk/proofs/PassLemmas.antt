-- The chief before any step, and seats that are split off and joined, keep what every desk keeps
use Rattle.std.proofs.Common.{◌≡◌, ◌≢◌, ◌≤◌, ◌+◌, ◌*◌, ◌^◌, ℕ, zero, suc, true, false, None, length-append, ◌&&◌, ◌==◌, List, [], ◌∷◌, ◌++◌, length, refl, sym, ap, ap₂, ◌∙◌, inl, inr, arith, eq-zero-or-pos, ne_of_gt}
use Rattle.std.proofs.Math.Nat.{pow-suc, mul_assoc, mul_comm}
use Rattle.std.proofs.lemmas.Bool.{cases_eq, eq-eqb, ne_eqb, and_left, and_right, cond-true, cond-false}
use Rattle.atomic_table.specs.Seated.{TableId}
use Rattle.xs_plan.specs.Record.{PlanRecord}
use Rattle.xs_core.specs.Counts.{one_if}
use Rattle.xs_core.specs.Views.{times}
use Rattle.xs_word_desk.specs.declared.view.View.{View}
use Rattle.xs_word_desk.specs.Seen.{wins, makes, loses, has_number}
use Rattle.xs_word_desk.specs.Changes.{first_view, with_split, split_off, without, with_joined}
use Rattle.xs_word_desk.specs.Plays.{Recalls}
use Rattle.xs_word_desk.specs.Desks.{number_of, numbers_of, home_of, is_solo, desk_view, Keeps, SplitTells, JoinTells, MoreApart, LessApart}
use Rattle.xs_word_desk.proofs.SumLemmas.{times_push}
use Rattle.xs_word_desk.proofs.ViewLemmas.{one_at, none_at}
use Rattle.xs_word_desk.proofs.OwnLemmas.{own_first, own_split, own_split_off, own_joined}
use Rattle.xs_word_desk.proofs.OpeningLemmas.{first_ok}
use Rattle.xs_word_desk.proofs.SeatSteps.{ok_split, ok_split_off, ok_joined, times_cons}

pub keeps_first : (p : PlanRecord) → Keeps p (first_view p)
keeps_first p = record {
  plan = refl;
  rests = record { live = refl; filling = refl; turn = refl; leaving = refl };
  ok = first_ok p;
  own = own_first p;
  once = λ k. omega arith;
  alone_made = λ solo k some. absurd (omega (arith, some));
  next = λ chief. omega arith;
  fresh = λ n some. absurd (omega (arith, some));
  counted = λ chief. refl;
}

-- ---- the number of a cache

odd_even : (a b : ℕ) → 2 * a + 1 ≢ 2 * b
odd_even a b same = omega (arith, same)

twice : (c m : ℕ) → 2 ^ suc c * m ≡ 2 * (2 ^ c * m)
twice c m = ap (λ n. n * m) (pow-suc 2 c ∙ mul_comm (2 ^ c) 2) ∙ mul_assoc 2 (2 ^ c) m

-- a power of two times an odd number is so in one way
same_pair : (a c b d : ℕ) → 2 ^ a * (2 * b + 1) ≡ 2 ^ c * (2 * d + 1) → (a ≡ c) × (b ≡ d)
same_pair zero zero b d same = (refl, omega (arith, same))
same_pair zero (suc c) b d same = absurd (odd_even b (2 ^ c * (2 * d + 1)) (omega (arith, same, twice c (2 * d + 1))))
same_pair (suc a) zero b d same = absurd (odd_even d (2 ^ a * (2 * b + 1)) (omega (arith, same, twice a (2 * b + 1))))
same_pair (suc a) (suc c) b d same =
    let rest = same_pair a c b d (omega (arith, same, twice a (2 * b + 1), twice c (2 * d + 1))) in
    (ap suc rest.0, rest.1)

some_pair : (a b : ℕ) → 2 ^ a * (2 * b + 1) ≢ 0
some_pair zero b same = omega (arith, same)
some_pair (suc a) b same = some_pair a b (omega (arith, same, twice a (2 * b + 1)))

same_numbers : (l m : List ℕ) → number_of l ≡ number_of m → l ≡ m
unfolding number_of
same_numbers [] [] same = refl
same_numbers [] (n ∷ m) same = absurd (some_pair n (number_of m) (sym same))
same_numbers (n ∷ l) [] same = absurd (some_pair n (number_of l) same)
same_numbers (a ∷ l) (b ∷ m) same =
    let pair = same_pair a b (number_of l) (number_of m) same in
    ap₂ (λ (n : ℕ) (k : List ℕ). n ∷ k) pair.0 (same_numbers l m pair.1)

of_numbers : (a b : TableId) → numbers_of a ≡ numbers_of b → a ≡ b
of_numbers a b same =
    let words : a.words ≡ b.words = cc in
    let slots : a.slots ≡ b.slots = cc in
    let views_name : a.views_name ≡ b.views_name = cc in
    let atom : a.atom ≡ b.atom = cc in
    let block : a.block ≡ b.block = cc in
    let offset : a.offset ≡ b.offset = cc in
    let names : a.slot_names ≡ b.slot_names = cc in
    λ i. record {
      words = words i;
      slots = slots i;
      views_name = views_name i;
      atom = atom i;
      block = block i;
      offset = offset i;
      slot_names = names i;
    }

-- two caches with the same number are one
pub one_home : (a b : TableId) → home_of a ≡ home_of b → a ≡ b
unfolding home_of
one_home a b same = of_numbers a b (same_numbers (numbers_of a) (numbers_of b) same)

-- ---- split

pub keeps_split : (p : PlanRecord) (v : View) → Keeps p v → Keeps p (with_split v)
keeps_split p v keeps = record {
  plan = keeps.plan;
  rests = record { live = keeps.rests.live; filling = keeps.rests.filling; turn = keeps.rests.turn; leaving = keeps.rests.leaving };
  ok = ok_split None p v keeps.ok;
  own = own_split p v keeps.own;
  once = keeps.once;
  alone_made = λ solo k some. absurd (not_empty v.apart v.next solo.2);
  next = λ chief. omega arith;
  fresh = λ n some. elim (cases_eq v.next n) [
    | inl same ↦ omega (arith, same)
    | inr differ ↦
        let less = keeps.fresh n (omega (arith, some, times_push n v.next v.apart, none_at v.next n differ)) in omega (arith, less)
  ];
  counted = λ chief. omega (arith, keeps.counted chief, length-append v.apart (v.next ∷ []));
}
  where
    not_empty : (l : List ℕ) (n : ℕ) → l ++ n ∷ [] ≡ [] → ⊥
    not_empty [] n same = cc
    not_empty (x ∷ l) n same = cc

pub keeps_split_off : (p : PlanRecord) (v : View) → v.number ≡ 0 → Keeps p v → Keeps p (split_off v)
keeps_split_off p v chief keeps = record {
  plan = keeps.plan;
  rests = record { live = refl; filling = refl; turn = refl; leaving = refl };
  ok = ok_split_off None p v keeps.ok;
  own = own_split_off p v;
  once = λ k. omega arith;
  alone_made = λ solo k some. absurd (omega (arith, solo.1, keeps.next chief));
  next = λ number. absurd (omega (arith, number, keeps.next chief));
  fresh = λ n some. absurd (omega (arith, some));
  counted = λ number. absurd (omega (arith, number, keeps.next chief));
}

-- the chief is not alone then, nor is the other
apart_not_solo : (v : View) → is_solo (with_split v) ≡ false
apart_not_solo v = and_right (v.live && (v.number == 0)) (length (v.apart ++ v.next ∷ []) == 0)
    (ne_eqb (length (v.apart ++ v.next ∷ [])) 0 (λ same. absurd (omega (arith, same, length-append v.apart (v.next ∷ [])))))

numbered_not_solo : (v : View) → v.number ≢ 0 → is_solo v ≡ false
numbered_not_solo v other =
    and_left (v.live && (v.number == 0)) (length v.apart == 0) (and_right v.live (v.number == 0) (ne_eqb v.number 0 other))

pub split_tells :
    (p : PlanRecord) (id : TableId) (v : View) → v.number ≡ 0 → Keeps p v
    → SplitTells (desk_view id v) (desk_view id (split_off v)) (desk_view id (with_split v))
split_tells p id v chief keeps =
    let other : v.next ≢ 0 = ne_of_gt (keeps.next chief) in record {
      home = (refl, refl);
      number = (other, refl);
      solo = (numbered_not_solo (split_off v) other, apart_not_solo v);
      won = (refl, refl);
      made = (refl, refl);
      lost = (refl, refl);
      served = (refl, refl);
      known = (refl, refl);
      met = (refl, refl);
    }

pub more_apart : (p : PlanRecord) (v : View) → Keeps p v → MoreApart v.apart (v.apart ++ v.next ∷ []) v.next
more_apart p v keeps = record {
  new = elim (eq-zero-or-pos (times v.next v.apart)) [
    | inl none_yet ↦ none_yet
    | inr some ↦ let less = keeps.fresh v.next some in absurd (omega (arith, less))
  ];
  apart = refl;
  more = length-append v.apart (v.next ∷ []);
}

-- ---- join

without_last : (n : ℕ) (l : List ℕ) → times n l ≡ 0 → without n (l ++ n ∷ []) ≡ l
without_last n [] lacks = cond-true (n == n) [] (n ∷ []) (eq-eqb n n refl)
without_last n (x ∷ l) lacks =
    elim (cases_eq x n) [
      | inl same ↦ absurd (omega (arith, lacks, times_cons n x l, one_at x n same))
      | inr differ ↦
          cond-false (x == n) (l ++ n ∷ []) (x ∷ without n (l ++ n ∷ [])) (ne_eqb x n differ)
          ∙ ap (λ (m : List ℕ). x ∷ m) (without_last n l (omega (arith, lacks, times_cons n x l)))
    ]

-- a list without a number that it lacks
without_lacked : (n : ℕ) (l : List ℕ) → times n l ≡ 0 → without n l ≡ l
without_lacked n [] lacks = refl
without_lacked n (x ∷ l) lacks =
    elim (cases_eq x n) [
      | inl same ↦ absurd (omega (arith, lacks, times_cons n x l, one_at x n same))
      | inr differ ↦
          cond-false (x == n) l (x ∷ without n l) (ne_eqb x n differ)
          ∙ ap (λ (m : List ℕ). x ∷ m) (without_lacked n l (omega (arith, lacks, times_cons n x l)))
    ]

-- the chief counts the seats that it joins, so the one that it joined was apart
pub less_apart :
    (p : PlanRecord) (v w : View) → v.number ≡ 0 → Keeps p v → Recalls (with_joined v w)
    → LessApart v.apart (without w.number v.apart) w.number
less_apart p v w chief keeps recalls =
    let fewer : length (without w.number v.apart) + 1 ≡ length v.apart =
    omega (arith, keeps.counted chief, recalls.counted keeps.rests.live chief) in record {
      apart = elim (eq-zero-or-pos (times w.number v.apart)) [
        | inl lacks ↦ absurd (omega (arith, fewer, ap (λ (l : List ℕ). length l) (without_lacked w.number v.apart lacks)))
        | inr some ↦ some
      ];
      rest = refl;
      fewer = fewer;
      last = λ others lacks is. ap (without w.number) is ∙ without_last w.number others lacks;
    }

without_less : (n m : ℕ) (l : List ℕ) → times n (without m l) ≤ times n l
without_less n m [] = omega arith
without_less n m (x ∷ l) =
    elim (cases_eq x m) [
      | inl same ↦
          let gone : without m (x ∷ l) ≡ l = cond-true (x == m) l (x ∷ without m l) (eq-eqb x m same) in
          omega (arith, ap (times n) gone, times_cons n x l)
      | inr differ ↦
          let kept : without m (x ∷ l) ≡ x ∷ without m l = cond-false (x == m) l (x ∷ without m l) (ne_eqb x m differ) in
          omega (arith, ap (times n) kept, times_cons n x (without m l), times_cons n x l, without_less n m l)
    ]

pub keeps_joined :
    (p : PlanRecord) (v w : View) → v.number ≡ 0 → w.number ≢ 0 → ((k : ℕ) → wins k w ≤ makes k w + loses k w) → Keeps p v → Keeps p w
    → Recalls (with_joined v w) → Keeps p (with_joined v w)
keeps_joined p v w chief other settled keeps its recalls =
    let not_chief : has_number 0 w ≡ 0 = ap (λ b. one_if (b && (w.number == 0))) its.rests.live ∙ none_at w.number 0 other in record {
      plan = keeps.plan;
      rests = record { live = keeps.rests.live; filling = keeps.rests.filling; turn = keeps.rests.turn; leaving = keeps.rests.leaving };
      ok = ok_joined None p v w keeps.rests.live chief not_chief keeps.ok its.ok;
      own = own_joined p v w not_chief its.ok settled keeps.own its.own;
      once = recalls.once;
      alone_made = recalls.alone_made;
      next = keeps.next;
      fresh = λ n some. keeps.fresh n (omega (arith, some, without_less n w.number v.apart));
      counted = recalls.counted keeps.rests.live;
    }

pub join_tells : (id : TableId) (v w : View) → JoinTells (desk_view id v) (desk_view id w) (desk_view id (with_joined v w))
join_tells id v w = record {
  home = refl;
  number = refl;
  won = refl;
  made = refl;
  lost = refl;
  served = refl;
  known = refl;
  met = refl;
}

-- the chief is alone where no seat is apart
pub solo_where_none_apart : (v : View) → v.live ≡ true → v.number ≡ 0 → length v.apart ≡ 0 → is_solo v ≡ true
solo_where_none_apart v live chief none_apart =
    ap (λ b. b && (v.number == 0) && (length v.apart == 0)) live
    ∙ ap (λ b. true && b && (length v.apart == 0)) (eq-eqb v.number 0 chief)
    ∙ ap (λ b. true && true && b) (eq-eqb (length v.apart) 0 none_apart)

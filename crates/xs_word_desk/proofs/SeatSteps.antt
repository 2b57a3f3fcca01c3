-- The steps that split a seat off and that join it keep the rule
use Rattle.std.proofs.Common.{◌≡◌, ◌≢◌, ◌<◌, ◌≤◌, ◌+◌, ℕ, true, ◌&&◌, ◌==◌, cond, Option, List, [], ◌∷◌, ◌++◌, length, set, get_or, refl, sym, ap, subst, ◌∙◌, ◌⊎◌, inl, inr, arith, true≢false, ne_of_gt, length-append, eq-zero-or-pos}
use Rattle.std.proofs.lemmas.Bool.{cases_eq, eq-eqb, ne_eqb, both_ways, cond-true, cond-false}
use Rattle.std.proofs.lemmas.List.Sums.{sum_by-cons}
use mathlib.Core.Option.{some, some-injective, some-ne-none}
use lib.ListN.{get_elem?}
use Rattle.atomic_table.specs.Table.{Splits, Joins}
use Rattle.xs_pixel.specs.Picture.{Pictures}
use Rattle.xs_plan.specs.declared.job.Reader.{Reader}
use Rattle.xs_plan.specs.declared.job.Reader.TheVariants.{Port, Root}
use Rattle.xs_plan.specs.Record.{PlanRecord}
use Rattle.xs_plan.specs.Reads.{reads_in}
use Rattle.xs_core.specs.Counts.{one_if}
use Rattle.xs_core.specs.States.{source_at, reader_at}
use Rattle.xs_core.specs.Views.{times}
use Rattle.xs_core.proofs.CountLemmas.{how_many-alike}
use Rattle.xs_word_desk.specs.declared.view.View.{View}
use Rattle.xs_word_desk.specs.Sums.{total}
use Rattle.xs_word_desk.specs.Seen.{wins, makes, loses, knows, fills, leaves, turns_on, is_read_of, is_this, owner, serves, turns, has_number, is_live}
use Rattle.xs_word_desk.specs.Rule.{Home, Lies, Part, ViewOk, SeatsOk, Holds}
use Rattle.xs_word_desk.specs.Changes.{AtRest, with_split, split_off, without, with_joined, joined_view}
use Rattle.xs_word_desk.proofs.SumLemmas.{total-append, total-set, term_le, set_here, set_else, at_set, at_snoc, times_push, times_append, entries_append, one_if-cond}
use Rattle.xs_word_desk.proofs.ViewLemmas.{one_at, none_at}

-- ---- the sums

-- all sums over the views are the same, and nothing is known that was not
pub record SameSums (p : PlanRecord) (was now : List View) : Type 0 where
  pub won : (k : ℕ) → total (wins k) now ≡ total (wins k) was
  pub made : (k : ℕ) → total (makes k) now ≡ total (makes k) was
  pub lost : (k : ℕ) → total (loses k) now ≡ total (loses k) was
  pub turn : (k : ℕ) → total (turns_on p k) now ≡ total (turns_on p k) was
  pub leaving : (k : ℕ) → total (leaves k) now ≡ total (leaves k) was
  pub filling : (k : ℕ) → total (fills k) now ≡ total (fills k) was
  pub served : (e : ℕ) → total (serves e) now ≡ total (serves e) was
  pub known : (k : ℕ) → 0 < total (knows k) now → 0 < total (knows k) was

module _ (told : Option Pictures) (p : PlanRecord) where
  -- so the parts of all aliases stay
  pub part_summed :
      (was now : List View) (k word : ℕ) (home : Home) → SameSums p was now
      → Part told p k word home was → Part told p k word home now
  part_summed was now k word home same part = record {
    shape = part.shape;
    agrees = record {
      says = part.agrees.says;
      won = same.won k ∙ part.agrees.won;
      made = same.made k ∙ part.agrees.made;
      lost = same.lost k ∙ part.agrees.lost;
      turn = same.turn k ∙ part.agrees.turn;
      leaving = same.leaving k ∙ part.agrees.leaving;
      counted = how_many-alike (reads_in p) (λ e. (source_at p e == k) && (total (serves e) now == 0))
          (λ e. (source_at p e == k) && (total (serves e) was == 0))
          (λ e less. ap (λ n. (source_at p e == k) && (n == 0)) (same.served e)) ∙ part.agrees.counted;
      known = λ there_is. part.agrees.known (same.known k there_is);
      lies = subst (λ (n : ℕ). Lies told p k home n part.shape) (sym (same.filling k)) part.agrees.lies;
    };
  }

  -- a live seat with number 0 is the chief, which stands first
  pub chief_first :
      (views : List View) (id : ℕ) (v : View) → SeatsOk views → get_elem? views id ≡ some v → v.live ≡ true → v.number ≡ 0
      → id ≡ 0
  chief_first views id v seats me live number =
      elim (cases_eq id 0) [
        | inl first ↦ first
        | inr other ↦ absurd ((seats.others id v me other).1 live number)
      ]

  -- ---- split

  pub sum_split :
      (f : View → ℕ) (views : List View) (id : ℕ) (v : View) → get_elem? views id ≡ some v
      → f (with_split v) ≡ f v → f (split_off v) ≡ 0
      → total f (set views id (with_split v) ++ split_off v ∷ []) ≡ total f views
  sum_split f views id v me same empty =
      omega (arith, total-append f (set views id (with_split v)) (split_off v ∷ []), total-set f views id v (with_split v) me, same, empty)

  sums_split :
      (views : List View) (id : ℕ) (v : View) → get_elem? views id ≡ some v
      → SameSums p views (set views id (with_split v) ++ split_off v ∷ [])
  sums_split views id v me = record {
    won = λ k. sum_split (wins k) views id v me refl refl;
    made = λ k. sum_split (makes k) views id v me refl refl;
    lost = λ k. sum_split (loses k) views id v me refl refl;
    turn = λ k. sum_split (turns_on p k) views id v me refl refl;
    leaving = λ k. sum_split (leaves k) views id v me refl refl;
    filling = λ k. sum_split (fills k) views id v me refl refl;
    served = λ e. sum_split (serves e) views id v me refl refl;
    known = λ k there_is.
        let all = total-append (knows k) (set views id (with_split v)) (split_off v ∷ []) in
        let before = total-set (knows k) views id v (with_split v) me in
        let mine = term_le (knows k) views id v me in
        let copy : knows k (split_off v) ≡ knows k v = refl in
        let same : knows k (with_split v) ≡ knows k v = refl in
        omega (arith, there_is, all, before, mine, copy, same);
  }

  -- the view of the chief after it split one off
  pub ok_split : (v : View) → ViewOk p v → ViewOk p (with_split v)
  ok_split v ok = record {
    backed = ok.backed;
    owned = ok.owned;
    knows_made = ok.knows_made;
    knows_served = ok.knows_served;
    within = ok.within;
    reads_within = ok.reads_within;
    won_named = ok.won_named;
    made_named = ok.made_named;
    lost_named = ok.lost_named;
    served_named = ok.served_named;
    gone = ok.gone;
  }

  -- and that of the new seat, which has nothing but what it knows
  pub ok_split_off : (v : View) → ViewOk p v → ViewOk p (split_off v)
  ok_split_off v ok = record {
    backed = λ k. omega arith;
    owned = λ e. omega arith;
    knows_made = λ k there_is. absurd (omega arith);
    knows_served = λ e there_is. absurd (omega arith);
    within = λ k there_is. ok.within k (omega (arith, there_is));
    reads_within = λ e there_is. absurd (omega arith);
    won_named = λ named k. refl;
    made_named = λ named k. refl;
    lost_named = λ named k. refl;
    served_named = λ named e. refl;
    gone = λ dead. absurd (true≢false dead);
  }

  -- the numbers after it
  seats_split :
      (views : List View) (id : ℕ) (v : View) → SeatsOk views → get_elem? views id ≡ some v → v.live ≡ true → v.number ≡ 0
      → SeatsOk (set views id (with_split v) ++ split_off v ∷ [])
  seats_split views id v seats me live number =
      let first : id ≡ 0 = chief_first views id v seats me live number in
      let is : v ≡ seats.chief = some-injective v seats.chief (sym me ∙ ap (get_elem? views) first ∙ seats.first) in
      let now : List View = set views id (with_split v) ++ split_off v ∷ [] in
      let unused : times v.next v.apart ≡ 0 = subst (λ (c : View). times c.next c.apart ≡ 0) (sym is) (fresh_unused seats) in
      let positive : (times 0 v.apart ≡ 0) × (0 < v.next) =
      subst (λ (c : View). (times 0 c.apart ≡ 0) × (0 < c.next)) (sym is) seats.positive in record {
        chief = with_split v;
        first = at_front (set views id (with_split v)) (split_off v ∷ []) (with_split v)
            (ap (get_elem? (set views id (with_split v))) (sym first) ∙ set_here views id v (with_split v) me);
        chief_live = live;
        chief_number = number;
        many =
            let before : total is_live views ≡ 1 + length v.apart = seats.many ∙ ap (λ (c : View). 1 + length c.apart) (sym is) in
            let one_more = total-append is_live (set views id (with_split v)) (split_off v ∷ []) in
            let longer = length-append v.apart (v.next ∷ []) in
            omega (arith, before, one_more, total-set is_live views id v (with_split v) me, longer);
        numbers = λ n.
            let before : total (has_number n) views ≡ one_if (n == 0) + times n v.apart =
            seats.numbers n ∙ ap (λ (c : View). one_if (n == 0) + times n c.apart) (sym is) in
            let one_more = total-append (has_number n) (set views id (with_split v)) (split_off v ∷ []) in
            omega (arith, before, one_more, total-set (has_number n) views id v (with_split v) me, times_push n v.next v.apart);
        fresh = λ n there_is. elim (cases_eq v.next n) [
          | inl same ↦ omega (arith, same)
          | inr differ ↦
              let less : n < v.next = subst (λ (c : View). 0 < times n c.apart → n < c.next) (sym is) (seats.fresh n)
              (omega (arith, there_is, times_push n v.next v.apart, none_at v.next n differ)) in
              omega (arith, less)
        ];
        once = λ n. elim (cases_eq v.next n) [
          | inl same ↦
              let none_yet : times n v.apart ≡ 0 = subst (λ (m : ℕ). times m v.apart ≡ 0) same unused in
              omega (arith, none_yet, times_push n v.next v.apart, one_at v.next n same)
          | inr differ ↦
              let most : times n v.apart ≤ 1 = subst (λ (c : View). times n c.apart ≤ 1) (sym is) (seats.once n) in
              omega (arith, most, times_push n v.next v.apart, none_at v.next n differ)
        ];
        positive = (omega (arith, positive.0, times_push 0 v.next v.apart, none_at v.next 0 (ne_of_gt positive.1)), omega arith);
        counted =
            let before = subst (λ (c : View). length c.apart + c.joined + 1 ≡ c.next) (sym is) seats.counted in
            omega (arith, before, length-append v.apart (v.next ∷ []));
        others = λ j u at other. elim (at_snoc (set views id (with_split v)) (split_off v) u j at) [
          | inl old ↦ elim (at_set views id j (with_split v) u old) [
            | inl here ↦ absurd (other (here.0 ∙ first))
            | inr there ↦ seats.others j u there.1 other
          ]
          | inr last ↦ subst (λ (x : View). (x.apart ≡ []) × (x.live ≡ true → x.number ≢ 0)) last.1 (refl, λ live_now. ne_of_gt positive.1)
        ];
      }
    where
      at_front : (l m : List View) (u : View) → get_elem? l 0 ≡ some u → get_elem? (l ++ m) 0 ≡ some u
      at_front [] m u at = absurd (some-ne-none u (sym at))
      at_front (x ∷ xs) m u at = at

      fresh_unused : (seats : SeatsOk views) → times seats.chief.next seats.chief.apart ≡ 0
      fresh_unused seats = elim (eq-zero-or-pos (times seats.chief.next seats.chief.apart)) [
        | inl zero_times ↦ zero_times
        | inr used ↦ let less = seats.fresh seats.chief.next used in absurd (omega (arith, less))
      ]

  pub splits :
      (id : ℕ) (v : View) → v.live ≡ true → v.number ≡ 0 → Splits (Holds told p) id v (with_split v) (split_off v)
  splits id v live number s holds me =
      let now : List View = set s.views id (with_split v) ++ split_off v ∷ [] in record {
        plan = holds.plan;
        wide = holds.wide;
        deep = holds.deep;
        parts = λ k there. part_summed s.views now k (get_or s.words k 0) (get_elem? s.homes k) (sums_split s.views id v me) (holds.parts k there);
        views = λ j u at. elim (at_snoc (set s.views id (with_split v)) (split_off v) u j at) [
          | inl old ↦ elim (at_set s.views id j (with_split v) u old) [
            | inl here ↦ subst (ViewOk p) here.1 (ok_split v (holds.views id v me))
            | inr there ↦ holds.views j u there.1
          ]
          | inr last ↦ subst (ViewOk p) last.1 (ok_split_off v (holds.views id v me))
        ];
        seats = seats_split s.views id v holds.seats me live number;
      }

-- ---- a number less

pub times_cons : (n x : ℕ) (xs : List ℕ) → times n (x ∷ xs) ≡ one_if (x == n) + times n xs
times_cons n x xs = sum_by-cons (λ (m : ℕ). cond {A = ℕ} (m == n) 1 0) x xs ∙ ap (λ m. m + times n xs) (one_if-cond (x == n))

times_without : (m n : ℕ) (l : List ℕ) → 0 < times m l → times n (without m l) + one_if (m == n) ≡ times n l
times_without m n [] there_is = absurd (omega arith)
times_without m n (x ∷ xs) there_is =
    elim (cases_eq x m) [
      | inl same ↦
          let gone : without m (x ∷ xs) ≡ xs = cond-true (x == m) xs (x ∷ without m xs) (eq-eqb x m same) in
          let alike : one_if (x == n) ≡ one_if (m == n) = ap (λ a. one_if (a == n)) same in
          omega (arith, ap (times n) gone, times_cons n x xs, alike)
      | inr differ ↦
          let kept : without m (x ∷ xs) ≡ x ∷ without m xs = cond-false (x == m) xs (x ∷ without m xs) (ne_eqb x m differ) in
          let later = times_without m n xs (omega (arith, there_is, times_cons m x xs, none_at x m differ)) in
          omega (arith, ap (times n) kept, times_cons n x (without m xs), times_cons n x xs, later)
    ]

length_without : (m : ℕ) (l : List ℕ) → 0 < times m l → length (without m l) + 1 ≡ length l
length_without m [] there_is = absurd (omega arith)
length_without m (x ∷ xs) there_is =
    elim (cases_eq x m) [
      | inl same ↦
          let gone : without m (x ∷ xs) ≡ xs = cond-true (x == m) xs (x ∷ without m xs) (eq-eqb x m same) in
          omega (arith, ap (λ (l : List ℕ). length l) gone)
      | inr differ ↦
          let kept : without m (x ∷ xs) ≡ x ∷ without m xs = cond-false (x == m) xs (x ∷ without m xs) (ne_eqb x m differ) in
          let later = length_without m xs (omega (arith, there_is, times_cons m x xs, none_at x m differ)) in
          omega (arith, ap (λ (l : List ℕ). length l) kept, later)
    ]

module _ (told : Option Pictures) (p : PlanRecord) where
  -- ---- join

  pub sum_join :
      (f : View → ℕ) (views : List View) (id other : ℕ) (v w : View) → get_elem? views id ≡ some v
      → get_elem? (set views id (with_joined v w)) other ≡ some w → f (with_joined v w) ≡ f v + f w → f joined_view ≡ 0
      → total f (set (set views id (with_joined v w)) other joined_view) ≡ total f views
  sum_join f views id other v w me at both empty =
      omega (arith, total-set f views id v (with_joined v w) me, total-set f (set views id (with_joined v w)) other w joined_view at, both, empty)

  sums_join :
      (views : List View) (id other : ℕ) (v w : View) → get_elem? views id ≡ some v
      → get_elem? (set views id (with_joined v w)) other ≡ some w → AtRest w
      → SameSums p views (set (set views id (with_joined v w)) other joined_view)
  sums_join views id other v w me at rests = record {
    won = λ k. sum_join (wins k) views id other v w me at (entries_append k v.won w.won) refl;
    made = λ k. sum_join (makes k) views id other v w me at (entries_append k v.made w.made) refl;
    lost = λ k. sum_join (loses k) views id other v w me at (entries_append k v.lost w.lost) refl;
    turn = λ k. let idle : turns_on p k w ≡ 0 = ap (is_read_of p k) rests.turn in
        sum_join (turns_on p k) views id other v w me at (omega (arith, idle)) refl;
    leaving = λ k. let idle : leaves k w ≡ 0 = ap (is_this k) rests.leaving in
        sum_join (leaves k) views id other v w me at (omega (arith, idle)) refl;
    filling = λ k. let idle : fills k w ≡ 0 = ap (is_this k) rests.filling in
        sum_join (fills k) views id other v w me at (omega (arith, idle)) refl;
    served = λ e. sum_join (serves e) views id other v w me at (entries_append e v.served w.served) refl;
    known = λ k there_is.
        omega (arith, there_is, sum_join (knows k) views id other v w me at (times_append k v.known w.known) refl);
  }

  owner_joined :
      (r : Reader) (chief : ℕ) (v w : View) → has_number 0 w ≡ 0
      → owner r chief v.won + owner r (has_number 0 w) w.won ≤ owner r chief (v.won ++ w.won)
  owner_joined (Port alias port) chief v w other = omega (arith, entries_append alias v.won w.won)
  owner_joined (Root row tile) chief v w other = omega (arith, other)

  -- the chief has a fact of one of the two
  either_of : (a b : ℕ) → 0 < a + b → (0 < a) ⊎ (0 < b)
  either_of a b there_is = elim (eq-zero-or-pos a) [ inl none_there ↦ inr (omega (arith, there_is, none_there)) | inr some_there ↦ inl some_there ]

  pub ok_joined :
      (v w : View) → v.live ≡ true → v.number ≡ 0 → has_number 0 w ≡ 0 → ViewOk p v → ViewOk p w
      → ViewOk p (with_joined v w)
  ok_joined v w live number other ok_v ok_w = record {
    backed = λ k. omega (
      arith,
      ok_v.backed k,
      ok_w.backed k,
      entries_append k v.won w.won,
      entries_append k v.made w.made,
      entries_append k v.lost w.lost,
    );
    owned = λ e.
        let mine = owner_joined (reader_at p e) (has_number 0 v) v w other in
        omega (arith, ok_v.owned e, ok_w.owned e, entries_append e v.served w.served, mine);
    knows_made = λ k there_is. elim (either_of (makes k v) (makes k w) (omega (arith, there_is, entries_append k v.made w.made))) [
      | inl here ↦ omega (arith, ok_v.knows_made k here, times_append k v.known w.known)
      | inr there ↦ omega (arith, ok_w.knows_made k there, times_append k v.known w.known)
    ];
    knows_served = λ e there_is.
        elim (either_of (serves e v) (serves e w) (omega (arith, there_is, entries_append e v.served w.served))) [
          | inl here ↦ omega (arith, ok_v.knows_served e here, times_append (source_at p e) v.known w.known)
          | inr there ↦ omega (arith, ok_w.knows_served e there, times_append (source_at p e) v.known w.known)
        ];
    within = λ k there_is. elim (either_of (wins k v + knows k v) (wins k w + knows k w)
        (omega (arith, there_is, entries_append k v.won w.won, times_append k v.known w.known))) [
          | inl here ↦ ok_v.within k here
          | inr there ↦ ok_w.within k there
        ];
    reads_within = λ e there_is. elim (either_of (serves e v + turns e v) (serves e w)
        (omega (arith, there_is, entries_append e v.served w.served))) [
          | inl here ↦ ok_v.reads_within e here
          | inr there ↦ ok_w.reads_within e (omega (arith, there))
        ];
    won_named = λ named k. absurd (named number);
    made_named = λ named k. absurd (named number);
    lost_named = λ named k. absurd (named number);
    served_named = λ named k. absurd (named number);
    gone = λ dead. absurd (both_ways v.live dead live);
  }

  ok_gone : ViewOk p joined_view
  ok_gone = record {
    backed = λ k. omega arith;
    owned = λ e. omega arith;
    knows_made = λ k there_is. absurd (omega arith);
    knows_served = λ e there_is. absurd (omega arith);
    within = λ k there_is. absurd (omega arith);
    reads_within = λ e there_is. absurd (omega arith);
    won_named = λ named k. refl;
    made_named = λ named k. refl;
    lost_named = λ named k. refl;
    served_named = λ named e. refl;
    gone = λ dead k. omega arith;
  }

  seats_join :
      (views : List View) (id other : ℕ) (v w : View) → SeatsOk views → get_elem? views id ≡ some v → other ≢ id
      → get_elem? (set views id (with_joined v w)) other ≡ some w → v.live ≡ true → v.number ≡ 0 → w.live ≡ true → w.number ≢ 0
      → SeatsOk (set (set views id (with_joined v w)) other joined_view)
  seats_join views id other v w seats me differ at live number w_live w_number =
      let first : id ≡ 0 = chief_first told p views id v seats me live number in
      let is : v ≡ seats.chief = some-injective v seats.chief (sym me ∙ ap (get_elem? views) first ∙ seats.first) in
      let both : View = with_joined v w in
      let counts : (n : ℕ) → total (has_number n) views ≡ one_if (n == 0) + times n v.apart = λ n.
      seats.numbers n ∙ ap (λ (c : View). one_if (n == 0) + times n c.apart) (sym is) in
      let its : (n : ℕ) → has_number n w ≡ one_if (w.number == n) = λ n. ap (λ b. one_if (b && (w.number == n))) w_live in
      let there : get_elem? views other ≡ some w = sym (set_else views id other both differ) ∙ at in
      let apart : 0 < times w.number v.apart = omega (
        arith,
        counts w.number,
        its w.number,
        one_at w.number w.number refl,
        none_at w.number 0 w_number,
        term_le (has_number w.number) views other w there,
      ) in
      let less : (n : ℕ) → times n (without w.number v.apart) + one_if (w.number == n) ≡ times n v.apart = λ n.
      times_without w.number n v.apart apart in record {
        chief = both;
        first = set_else (set views id both) other 0 joined_view (λ zero_is. differ (sym zero_is ∙ sym first))
            ∙ ap (get_elem? (set views id both)) (sym first) ∙ set_here views id v both me;
        chief_live = live;
        chief_number = number;
        many =
            let before : total is_live views ≡ 1 + length v.apart = seats.many ∙ ap (λ (c : View). 1 + length c.apart) (sym is) in
            let one : is_live w ≡ 1 = ap one_if w_live in
            omega (
              arith,
              before,
              one,
              total-set is_live views id v both me,
              total-set is_live (set views id both) other w joined_view at,
              length_without w.number v.apart apart,
            );
        numbers = λ n. omega (
          arith,
          counts n,
          its n,
          total-set (has_number n) views id v both me,
          total-set (has_number n) (set views id both) other w joined_view at,
          less n,
        );
        fresh = λ n there_is. subst (λ (c : View). 0 < times n c.apart → n < c.next) (sym is) (seats.fresh n) (omega (arith, there_is, less n));
        once = λ n.
            let most : times n v.apart ≤ 1 = subst (λ (c : View). times n c.apart ≤ 1) (sym is) (seats.once n) in omega (arith, most, less n);
        positive =
            let before : (times 0 v.apart ≡ 0) × (0 < v.next) =
            subst (λ (c : View). (times 0 c.apart ≡ 0) × (0 < c.next)) (sym is) seats.positive in
            (omega (arith, before.0, less 0), before.1);
        counted =
            let before = subst (λ (c : View). length c.apart + c.joined + 1 ≡ c.next) (sym is) seats.counted in
            omega (arith, before, length_without w.number v.apart apart);
        others = λ j u now not_first. elim (at_set (set views id both) other j joined_view u now) [
          | inl here ↦
              subst (λ (x : View). (x.apart ≡ []) × (x.live ≡ true → x.number ≢ 0)) here.1 (refl, λ alive. absurd (true≢false (sym alive)))
          | inr rest ↦ elim (at_set views id j both u rest.1) [
            | inl chief ↦ absurd (not_first (chief.0 ∙ first))
            | inr old ↦ seats.others j u old.1 not_first
          ]
        ];
      }

  pub joins :
      (id other : ℕ) (v w : View) → v.live ≡ true → v.number ≡ 0 → AtRest w → w.number ≢ 0
      → Joins (Holds told p) id v other w (with_joined v w) joined_view
  joins id other v w live number rests w_number s holds me differ at =
      let both : View = with_joined v w in
      let now : List View = set (set s.views id both) other joined_view in
      let there : get_elem? s.views other ≡ some w = sym (set_else s.views id other both differ) ∙ at in
      let not_chief : has_number 0 w ≡ 0 = ap (λ b. one_if (b && (w.number == 0))) rests.live ∙ none_at w.number 0 w_number in record {
        plan = holds.plan;
        wide = holds.wide;
        deep = holds.deep;
        parts = λ k within. part_summed told p s.views now k (get_or s.words k 0) (get_elem? s.homes k)
            (sums_join s.views id other v w me at rests) (holds.parts k within);
        views = λ j u was. elim (at_set (set s.views id both) other j joined_view u was) [
          | inl here ↦ subst (ViewOk p) here.1 ok_gone
          | inr rest ↦ elim (at_set s.views id j both u rest.1) [
            | inl chief ↦ subst (ViewOk p) chief.1 (ok_joined v w live number not_chief (holds.views id v me) (holds.views other w there))
            | inr old ↦ holds.views j u old.1
          ]
        ];
        seats = seats_join s.views id other v w holds.seats me differ at live number rests.live w_number;
      }

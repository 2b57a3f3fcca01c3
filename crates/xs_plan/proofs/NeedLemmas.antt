-- Lemmas on the drawings that aliases and sections need
use Rattle.std.proofs.Common.{◌≡◌, ◌<◌, ◌≤◌, ◌+◌, ◌-◌, ℕ, zero, suc, Bool, true, false, cond, eqb, leb, ltb, List, [], ◌∷◌, ◌++◌, Option, Some, None, length, take, drop, slice_index, get_or, replicate, refl, sym, ap, ap₂, ◌∙◌, subst, ⊎_elim, arith, add-zero, zero-add, append_assoc, length-append}
use Rattle.std.specs.List.{filter, filter_map, cons_option, range_with_len}
use Rattle.std.proofs.lemmas.Bool.{cases_lt, cases_eq, cond_both, leb-true, leb-false, lt-ltb, le-ltb, eq-eqb, ne_eqb}
use Rattle.std.proofs.lemmas.List.{append-nil, take_more, length-take-le, length-replicate, get_or_append_left, get_or-append_right, get_or-replicate, get_or-take, drop_at, take_at, get_or_read}
use Rattle.std.proofs.lemmas.List.Elements.{filter_map-append}
use Rattle.std.proofs.lemmas.List.Sums.{sum_by-le-sum_by}
use Rattle.xs_base.specs.Listed.{is_listed}
use Rattle.xs_base.specs.Once.{fresh, each_once, with_each}
use Rattle.xs_base.proofs.OnceLemmas.{with_each-one, with_each-nil, with_each-append, fresh-append_all}
use Rattle.xs_plan.specs.Record.{Entry, PlanRecord, entry_at, no_entry, drawing_of}
use Rattle.xs_plan.specs.Sections.{first_row, first_section, sections_in}
use Rattle.xs_plan.specs.Needed.{drawings_where, needs, needs_before, new_drawings}
use Rattle.xs_plan.specs.Kept.{IsStart, AreStarts, AreNews, drawings_in, with_drawing}

-- ---- one alias more

-- the drawings of aliases, and that of one more
pub each_once-drawings_more :
    (entries : List Entry) (k : ℕ) → k < length entries
    → each_once (drawings_in (take (k + 1) entries))
    ≡ with_drawing (each_once (drawings_in (take k entries))) (drawing_of (entry_at entries k).job)
each_once-drawings_more entries k lt =
    ap (λ l. each_once (drawings_in l)) (take_more entries k no_entry lt)
    ∙ ap each_once (filter_map-append (λ (e : Entry). drawing_of e.job) (take k entries) (entry_at entries k ∷ []))
    ∙ with_each-append [] (drawings_in (take k entries)) (cons_option (drawing_of (entry_at entries k).job) [])
    ∙ last (each_once (drawings_in (take k entries))) (drawing_of (entry_at entries k).job)
  where
    last : (known : List ℕ) (o : Option ℕ) → with_each known (cons_option o []) ≡ with_drawing known o
    last known None = with_each-nil known
    last known (Some d) = with_each-one known d

pub length-with_drawing : (known : List ℕ) (o : Option ℕ) → length (with_drawing known o) ≤ length known + 1
length-with_drawing known None = omega arith
length-with_drawing known (Some d) =
    cond_both (is_listed known d) known (known ++ d ∷ []) (λ l. length l ≤ length known + 1)
    (λ listed. omega arith) (λ new. omega (arith, length-append known (d ∷ [])))

-- ---- where sections start

-- each section below a number is started once those that are not yet start here
pub AreStarts-more :
    {entries : List Entry} {firsts starts : List ℕ} → AreStarts entries firsts starts → (k below : ℕ) → k ≤ length entries
    → ((j : ℕ) → j < k → slice_index firsts j < length starts)
    → ((j : ℕ) → k ≤ j → j < length entries → below ≤ slice_index firsts j + 1)
    → AreStarts entries firsts (starts ++ replicate (below - length starts) (length (each_once (drawings_in (take k entries)))))
AreStarts-more {entries} {firsts} {starts} are k below le before from =
    record { start = λ s lt. ⊎_elim (old s) (new s lt) (cases_lt s (length starts)) }
  where
    count : ℕ
    count = length (each_once (drawings_in (take k entries)))

    more : List ℕ
    more = replicate (below - length starts) count

    old : (s : ℕ) → s < length starts → IsStart entries firsts s (slice_index (starts ++ more) s)
    old s lt =
        subst (λ (n : ℕ). IsStart entries firsts s n) (sym (get_or_append_left starts more 0 s lt)) (are.start s lt)

    new : (s : ℕ) → s < length (starts ++ more) → length starts ≤ s → IsStart entries firsts s (slice_index (starts ++ more) s)
    new s lt long =
        let many = length-append starts more in
        let copies = length-replicate (below - length starts) count in
        let here : slice_index (starts ++ more) s ≡ count =
        get_or-append_right starts more (length starts) s 0 refl long
        ∙ get_or-replicate (below - length starts) (s - length starts) count 0 (omega arith) in
        record {
          aliases = k;
          within = le;
          before = λ j below_k. let h = before j below_k in omega arith;
          from = λ j from_k in_list. let h = from j from_k in_list in omega arith;
          is = here;
        }

-- ---- the aliases of sections

-- a test that passes the first of some numbers and no later one
filter-range :
    (q : ℕ → Bool) (i m a : ℕ) → a ≤ m → ((j : ℕ) → j < a → q (i + j) ≡ true) → ((j : ℕ) → a ≤ j → j < m → q (i + j) ≡ false)
    → filter q (range_with_len i m) ≡ range_with_len i a
filter-range q i zero zero le passes fails = refl
filter-range q i zero (suc a) le passes fails = absurd (omega arith)
filter-range q i (suc m) zero le passes fails =
    ap (λ b. cond b (i ∷ filter q (range_with_len (i + 1) m)) (filter q (range_with_len (i + 1) m)))
    (ap q (sym (add-zero i)) ∙ fails 0 (omega arith) (omega arith))
    ∙ filter-range q (i + 1) m zero (omega arith) (λ j lt. absurd (omega arith))
    (λ j le' lt. ap q (let e : (i + 1) + j ≡ i + suc j = omega arith in e) ∙ fails (suc j) (omega arith) (omega arith))
filter-range q i (suc m) (suc a) le passes fails =
    ap (λ b. cond b (i ∷ filter q (range_with_len (i + 1) m)) (filter q (range_with_len (i + 1) m)))
    (ap q (sym (add-zero i)) ∙ passes 0 (omega arith))
    ∙ ap (λ l. i ∷ l)
    (filter-range q (i + 1) m a (omega arith)
    (λ j lt. ap q (let e : (i + 1) + j ≡ i + suc j = omega arith in e) ∙ passes (suc j) (omega arith))
    (λ j le' lt. ap q (let e : (i + 1) + j ≡ i + suc j = omega arith in e) ∙ fails (suc j) (omega arith) (omega arith)))

-- what numbers give is what the elements at them give
filter_map-range :
    (h : Entry → Option ℕ) (f : ℕ → Entry) (i : ℕ) (ys : List Entry) → ((j : ℕ) → j < length ys → f (i + j) ≡ get_or ys j no_entry)
    → filter_map (λ k. h (f k)) (range_with_len i (length ys)) ≡ filter_map h ys
filter_map-range h f i [] same = refl
filter_map-range h f i (y ∷ ys) same =
    ap (λ o. cons_option o (filter_map (λ k. h (f k)) (range_with_len (i + 1) (length ys))))
    (ap h (ap f (sym (add-zero i)) ∙ same 0 (omega arith)))
    ∙ ap (λ l. cons_option (h y) l)
    (filter_map-range h f (i + 1) ys
    (λ j lt. ap f (let e : (i + 1) + j ≡ i + suc j = omega arith in e) ∙ same (suc j) (omega arith)))

-- the drawings of the first aliases, where a test of the sections passes these alone
pub drawings_where-first :
    (p : PlanRecord) (passes : ℕ → Bool) (a : ℕ) → a ≤ length p.entries
    → ((k : ℕ) → k < a → passes (first_section p k) ≡ true)
    → ((k : ℕ) → a ≤ k → k < length p.entries → passes (first_section p k) ≡ false)
    → drawings_where p passes ≡ drawings_in (take a p.entries)
drawings_where-first p passes a le passing failing =
    ap (λ l. filter_map (λ k. drawing_of (entry_at p.entries k).job) l)
    (filter-range (λ k. passes (first_section p k)) 0 (length p.entries) a le
    (λ j lt. ap (λ k. passes (first_section p k)) (zero-add j) ∙ passing j lt)
    (λ j from lt. ap (λ k. passes (first_section p k)) (zero-add j) ∙ failing j from lt))
    ∙ ap (λ n. filter_map (λ k. drawing_of (entry_at p.entries k).job) (range_with_len 0 n)) (sym (length-take-le a p.entries le))
    ∙ filter_map-range (λ e. drawing_of e.job) (entry_at p.entries) 0 (take a p.entries)
    (λ j lt.
    ap (entry_at p.entries) (zero-add j)
    ∙ sym (get_or-take a p.entries j no_entry (omega (arith, length-take-le a p.entries le))))

-- ---- sections one after another

-- an alias that comes later comes in no earlier section
pub first_section-rises : (p : PlanRecord) (k later : ℕ) → k ≤ later → first_section p k ≤ first_section p later
first_section-rises p k later le =
    let rows : first_row p k ≤ first_row p later =
    sum_by-le-sum_by (λ end. cond (leb end k) 1 0) (λ end. cond (leb end later) 1 0) p.ends
    (λ end. one end (leb end k) (leb end later) refl refl) in
    omega arith
  where
    one : (end : ℕ) (b c : Bool) → leb end k ≡ b → leb end later ≡ c → cond b 1 0 ≤ cond c 1 0
    one end false c was is = omega arith
    one end true true was is = omega arith
    one end true false was is = absurd (omega (arith, leb-true end k was, leb-false end later is))

filter-none : (f : ℕ → ℕ) (s i m : ℕ) → ((k : ℕ) → i ≤ k → s ≤ f k) → filter (λ k. ltb (f k) s) (range_with_len i m) ≡ []
filter-none f s i zero from = refl
filter-none f s i (suc m) from =
    ap (λ b. cond b (i ∷ filter (λ k. ltb (f k) s) (range_with_len (i + 1) m)) (filter (λ k. ltb (f k) s) (range_with_len (i + 1) m)))
    (le-ltb (f i) s (from i (omega arith)))
    ∙ filter-none f s (i + 1) m (λ k le. from k (omega arith))

-- the same, with one number before
filter-next-cons :
    (f : ℕ → ℕ) (s i m : ℕ) → ((k later : ℕ) → k ≤ later → f k ≤ f later)
    → filter (λ k. ltb (f k) (s + 1)) (range_with_len (i + 1) m)
    ≡ filter (λ k. ltb (f k) s) (range_with_len (i + 1) m) ++ filter (λ k. eqb (f k) s) (range_with_len (i + 1) m)
    → filter (λ k. ltb (f k) (s + 1)) (range_with_len i (suc m))
    ≡ filter (λ k. ltb (f k) s) (range_with_len i (suc m)) ++ filter (λ k. eqb (f k) s) (range_with_len i (suc m))
filter-next-cons f s i m rise rest =
    ⊎_elim
    (λ before. at true true false (lt-ltb (f i) (s + 1) (omega arith)) (lt-ltb (f i) s before) (ne_eqb (f i) s (λ e. omega arith)) (ap (λ l. i ∷ l) rest))
    (λ from.
    ⊎_elim
    (λ same.
    at true false true (lt-ltb (f i) (s + 1) (omega arith)) (le-ltb (f i) s from) (eq-eqb (f i) s same)
    (ap (λ l. i ∷ l) (rest ∙ ap (λ l. l ++ now) (none from)) ∙ sym (ap (λ l. l ++ i ∷ now) (none from))))
    (λ other.
    at false false false (le-ltb (f i) (s + 1) (omega arith)) (le-ltb (f i) s from) (ne_eqb (f i) s other) rest)
    (cases_eq (f i) s))
    (cases_lt (f i) s)
  where
    next : List ℕ
    next = filter (λ k. ltb (f k) (s + 1)) (range_with_len (i + 1) m)

    was : List ℕ
    was = filter (λ k. ltb (f k) s) (range_with_len (i + 1) m)

    now : List ℕ
    now = filter (λ k. eqb (f k) s) (range_with_len (i + 1) m)

    none : s ≤ f i → was ≡ []
    none from = filter-none f s (i + 1) m (λ k le. let h = rise i k (omega arith) in omega arith)

    at : (x y z : Bool) → ltb (f i) (s + 1) ≡ x → ltb (f i) s ≡ y → eqb (f i) s ≡ z
        → cond x (i ∷ next) next ≡ cond y (i ∷ was) was ++ cond z (i ∷ now) now
        → cond (ltb (f i) (s + 1)) (i ∷ next) next ≡ cond (ltb (f i) s) (i ∷ was) was ++ cond (eqb (f i) s) (i ∷ now) now
    at x y z ex ey ez all =
        ap (λ b. cond b (i ∷ next) next) ex ∙ all
        ∙ sym (ap₂ (λ b c. cond b (i ∷ was) was ++ cond c (i ∷ now) now) ey ez)

-- the numbers below the next one are those below this and those at it
filter-next :
    (f : ℕ → ℕ) (s i m : ℕ) → ((k later : ℕ) → k ≤ later → f k ≤ f later)
    → filter (λ k. ltb (f k) (s + 1)) (range_with_len i m)
    ≡ filter (λ k. ltb (f k) s) (range_with_len i m) ++ filter (λ k. eqb (f k) s) (range_with_len i m)
filter-next f s i zero rise = refl
filter-next f s i (suc m) rise = filter-next-cons f s i m rise (filter-next f s (i + 1) m rise)

-- what sections up to one need is what those before it need, and what it needs
pub needs_before-next : (p : PlanRecord) (s : ℕ) → needs_before p (s + 1) ≡ needs_before p s ++ needs p s
needs_before-next p s =
    ap (λ l. filter_map (λ k. drawing_of (entry_at p.entries k).job) l)
    (filter-next (first_section p) s 0 (length p.entries) (first_section-rises p))
    ∙ filter_map-append (λ k. drawing_of (entry_at p.entries k).job)
    (filter (λ k. ltb (first_section p k) s) (range_with_len 0 (length p.entries)))
    (filter (λ k. eqb (first_section p k) s) (range_with_len 0 (length p.entries)))

pub needs_before-later : (p : PlanRecord) (s more : ℕ) → (rest : List ℕ) × (needs_before p (s + more) ≡ needs_before p s ++ rest)
needs_before-later p s zero = ([], ap (needs_before p) (add-zero s) ∙ sym (append-nil (needs_before p s)))
needs_before-later p s (suc more) =
    let was = needs_before-later p s more in
    let next : s + suc more ≡ (s + more) + 1 = omega arith in (
      was.0 ++ needs p (s + more),
      ap (needs_before p) next ∙ needs_before-next p (s + more) ∙ ap (λ l. l ++ needs p (s + more)) was.1
          ∙ append_assoc (needs_before p s) was.0 (needs p (s + more)),
    )

-- the new drawings of a section come right after those before it
pub new_drawings-after :
    (p : PlanRecord) (s : ℕ) → each_once (needs_before p (s + 1)) ≡ each_once (needs_before p s) ++ new_drawings p s
unfolding new_drawings
new_drawings-after p s =
    ap each_once (needs_before-next p s) ∙ fresh-append_all [] (needs_before p s) (needs p s)

each_once-later :
    (p : PlanRecord) (s later : ℕ) → s ≤ later
    → (rest : List ℕ) × (each_once (needs_before p later) ≡ each_once (needs_before p s) ++ rest)
each_once-later p s later le =
    let parts = needs_before-later p s (later - s) in
    let at : later ≡ s + (later - s) = omega arith in (
      fresh (needs_before p s) parts.0,
      ap (λ n. each_once (needs_before p n)) at ∙ ap each_once parts.1 ∙ fresh-append_all [] (needs_before p s) parts.0,
    )

-- where the new drawings of a section stand in the list of all
pub record StandsAt (news new : List ℕ) (from to : ℕ) : Type 0 where
  pub order : from ≤ to
  pub within : to ≤ length news
  pub is : take (to - from) (drop from news) ≡ new

pub new_drawings-stand :
    {p : PlanRecord} {news starts : List ℕ} → AreNews p news starts → (s : ℕ) → s < sections_in p
    → StandsAt news (new_drawings p s) (slice_index starts s) (slice_index starts (s + 1))
new_drawings-stand {p} {news} {starts} are s lt =
    let before = each_once (needs_before p s) in
    let new = new_drawings p s in
    let later = each_once-later p (s + 1) (sections_in p) (omega arith) in
    let whole : news ≡ before ++ (new ++ later.0) =
    are.each ∙ later.1 ∙ ap (λ l. l ++ later.0) (new_drawings-after p s) ∙ append_assoc before new later.0 in
    let from : slice_index starts s ≡ length before = are.start s (omega arith) in
    let to : slice_index starts (s + 1) ≡ length before + length new =
    are.start (s + 1) (omega arith) ∙ ap length (new_drawings-after p s) ∙ length-append before new in
    let long : length news ≡ length before + (length new + length later.0) =
    ap length whole ∙ length-append before (new ++ later.0) ∙ ap (λ n. length before + n) (length-append new later.0) in
    let count : length new ≡ slice_index starts (s + 1) - slice_index starts s = omega arith in
    record {
      order = omega arith;
      within = omega arith;
      is =
          ap (λ l. take (slice_index starts (s + 1) - slice_index starts s) (drop (slice_index starts s) l)) whole
          ∙ ap (λ l. take (slice_index starts (s + 1) - slice_index starts s) l)
          (drop_at before (new ++ later.0) (slice_index starts s) (sym from))
          ∙ take_at new later.0 (slice_index starts (s + 1) - slice_index starts s) count;
    }

-- the same, from the starts that were looked up
pub new_drawings-found :
    {p : PlanRecord} {news starts : List ℕ} → AreNews p news starts → (s from to : ℕ) → s < sections_in p
    → from ≡ get_or starts s from → to ≡ get_or starts (s + 1) to → StandsAt news (new_drawings p s) from to
new_drawings-found {p} {news} {starts} are s from to lt from_is to_is =
    let many = are.starts_many in
    let at : slice_index starts s ≡ from = sym (get_or_read starts s from (omega arith) from_is 0) in
    let end : slice_index starts (s + 1) ≡ to = sym (get_or_read starts (s + 1) to (omega arith) to_is 0) in
    rw (at, end) at (new_drawings-stand are s lt)

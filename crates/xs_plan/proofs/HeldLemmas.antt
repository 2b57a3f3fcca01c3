-- Lemmas on the drawings of sections, one section after another
use Rattle.std.proofs.Common.{◌≡◌, ◌≢◌, ◌<◌, ◌≤◌, ◌+◌, ℕ, zero, suc, Bool, true, false, ◌↔◌, cond, eqb, leb, ltb, List, [], ◌∷◌, ◌++◌, Option, Some, None, AllPairs, Contains, length, reverse, get_or, refl, sym, ap, ◌∙◌, subst, ⊎_elim, arith, zero-add}
use Rattle.std.specs.List.{filter, filter_map, cons_option, flat_map, find, range_with_len}
use Rattle.std.specs.Option.{option_map_or}
use Rattle.std.proofs.lemmas.Bool.{cases_lt, cases_Bool, eqb-true, leb-true, le-leb, eq-eqb, true≢false, le-ltb}
use Rattle.std.proofs.lemmas.List.{append-nil, reverse-append}
use Rattle.std.proofs.lemmas.List.Concat.{flat_map-append}
use Rattle.std.proofs.lemmas.List.Elements.{All-contains, All-filter, All-contains_itself, filter_passes, Contains-append_cases, Contains-append_right}
use Rattle.std.proofs.lemmas.List.Folds.{list_any_at}
use Rattle.std.proofs.lemmas.List.FromFn.{length-range_with_len, get_or-range_with_len}
use Rattle.std.proofs.lemmas.Option.{same_Some}
use Rattle.xs_base.specs.Listed.{is_listed}
use Rattle.xs_base.specs.Once.{each_once}
use Rattle.xs_base.proofs.OnceLemmas.{with_each-nil, each_once-once, fresh-has, Contains-fresh, Contains-listed}
use Rattle.xs_plan.specs.Record.{PlanRecord, entry_at, drawing_of}
use Rattle.xs_plan.specs.Sections.{first_section, sections_in}
use Rattle.xs_plan.specs.Needed.{drawings_where, needs, needs_before, new_drawings, last_section_of, held}
use Rattle.xs_plan.proofs.PlanLemmas.{drawings_where-has, last_section-needed}
use Rattle.xs_plan.proofs.NeedLemmas.{needs_before-next, new_drawings-after, drawings_where-first}

-- ---- sections one after another

range-next : (i n : ℕ) → range_with_len i (suc n) ≡ range_with_len i n ++ (i + n) ∷ []
range-next i zero = ap (λ k. k ∷ []) (let e : i ≡ i + zero = omega arith in e)
range-next i (suc n) =
    ap (λ l. i ∷ l) (range-next (i + 1) n)
    ∙ ap (λ k. i ∷ (range_with_len (i + 1) n ++ k ∷ [])) (let e : (i + 1) + n ≡ i + suc n = omega arith in e)

flat_map-next :
    (f : ℕ → List ℕ) (n : ℕ) → flat_map f (range_with_len 0 (suc n)) ≡ flat_map f (range_with_len 0 n) ++ f n
flat_map-next f n =
    ap (λ l. flat_map f l) (range-next 0 n ∙ ap (λ k. range_with_len 0 n ++ k ∷ []) (zero-add n))
    ∙ flat_map-append f (range_with_len 0 n) (n ∷ [])
    ∙ ap (λ l. flat_map f (range_with_len 0 n) ++ l) (append-nil (f n))

no_needs_before : (p : PlanRecord) → needs_before p 0 ≡ []
no_needs_before p =
    drawings_where-first p (λ t. ltb t 0) 0 (omega arith) (λ k lt. absurd (omega arith))
    (λ k from lt. false_at (first_section p k))
  where
    false_at : (t : ℕ) → ltb t 0 ≡ false
    false_at t = le-ltb t 0 (omega arith)

needs-together : (p : PlanRecord) (s : ℕ) → flat_map (needs p) (range_with_len 0 s) ≡ needs_before p s
needs-together p zero = sym (no_needs_before p)
needs-together p (suc s) =
    flat_map-next (needs p) s ∙ ap (λ l. l ++ needs p s) (needs-together p s) ∙ sym (needs_before-next p s)
    ∙ ap (needs_before p) (let e : s + 1 ≡ suc s = omega arith in e)

new_drawings-before : (p : PlanRecord) (s : ℕ) → flat_map (new_drawings p) (range_with_len 0 s) ≡ each_once (needs_before p s)
new_drawings-before p zero = sym (ap each_once (no_needs_before p) ∙ with_each-nil [])
new_drawings-before p (suc s) =
    flat_map-next (new_drawings p) s ∙ ap (λ l. l ++ new_drawings p s) (new_drawings-before p s)
    ∙ sym (new_drawings-after p s)
    ∙ ap (λ n. each_once (needs_before p n)) (let e : s + 1 ≡ suc s = omega arith in e)

pub new_drawings-together :
    (p : PlanRecord)
    → flat_map (new_drawings p) (range_with_len 0 (sections_in p)) ≡ each_once (flat_map (needs p) (range_with_len 0 (sections_in p)))
new_drawings-together p = new_drawings-before p (sections_in p) ∙ ap each_once (sym (needs-together p (sections_in p)))

pub new_drawings-once : (p : PlanRecord) → AllPairs (λ a b. a ≢ b) (flat_map (new_drawings p) (range_with_len 0 (sections_in p)))
new_drawings-once p =
    subst (AllPairs (λ a b. a ≢ b)) (sym (new_drawings-before p (sections_in p))) (each_once-once (needs_before p (sections_in p)))

-- ---- which aliases need a drawing

single : (y d : ℕ) → Contains (y ∷ []) d → y ≡ d
single y d has = ap (λ n. get_or (y ∷ []) n d) (let e : 0 ≡ has.0 = omega (arith, has.1) in e) ∙ has.2

abbrev Gives : (ℕ → Option ℕ) → (ℕ → Bool) → ℕ → List ℕ → Type 0
Gives h q d xs = (i : ℕ) × (i < length xs) × (q (get_or xs i 0) ≡ true) × (h (get_or xs i 0) ≡ Some d)

filter_map-from :
    (h : ℕ → Option ℕ) (q : ℕ → Bool) (xs : List ℕ) (d : ℕ) → Contains (filter_map h (filter q xs)) d → Gives h q d xs
filter_map-from h q [] d has = absurd (omega (arith, has.1))
filter_map-from h q (x ∷ xs) d has =
    let list = λ (b : Bool). cond b (x ∷ filter q xs) (filter q xs) in
    ⊎_elim
    (λ is. passed is (h x) refl (subst (λ (b : Bool). Contains (filter_map h (list b)) d) is has) (filter_map-from h q xs d))
    (λ isnt. later (filter_map-from h q xs d (subst (λ (b : Bool). Contains (filter_map h (list b)) d) isnt has)))
    (cases_Bool (q x))
  where
    later : Gives h q d xs → Gives h q d (x ∷ xs)
    later found = (suc found.0, omega (arith, found.1), found.2, found.3)

    passed : q x ≡ true → (o : Option ℕ) → h x ≡ o → Contains (cons_option o (filter_map h (filter q xs))) d
        → (Contains (filter_map h (filter q xs)) d → Gives h q d xs) → Gives h q d (x ∷ xs)
    passed is None none has rest = later (rest has)
    passed is (Some y) some has rest =
        ⊎_elim
        (λ here. (0, omega arith, is, some ∙ ap Some (single y d here)))
        (λ there. later (rest there))
        (Contains-append_cases (y ∷ []) (filter_map h (filter q xs)) d has)

-- a drawing is among those of some sections exactly where an alias of these needs it
drawings_where-from :
    (p : PlanRecord) (passes : ℕ → Bool) (d : ℕ) → Contains (drawings_where p passes) d
    → (k : ℕ) × (k < length p.entries) × (passes (first_section p k) ≡ true) × (drawing_of (entry_at p.entries k).job ≡ Some d)
drawings_where-from p passes d has =
    let found =
    filter_map-from (λ k. drawing_of (entry_at p.entries k).job) (λ k. passes (first_section p k)) (range_with_len 0 (length p.entries)) d has in
    let lt : found.0 < length p.entries = omega (arith, found.1, length-range_with_len 0 (length p.entries)) in
    let here : get_or (range_with_len 0 (length p.entries)) found.0 0 ≡ found.0 =
    get_or-range_with_len 0 (length p.entries) found.0 0 lt ∙ zero-add found.0 in (
      found.0,
      lt,
      ap (λ n. passes (first_section p n)) (sym here) ∙ found.2,
      ap (λ n. drawing_of (entry_at p.entries n).job) (sym here) ∙ found.3,
    )

-- the drawings of sections up to one are those that one of these needs
needed-up_to : (p : PlanRecord) (s d : ℕ) → Contains (drawings_where p (λ t. leb t s)) d → (first : ℕ) × (first ≤ s) × Contains (needs p first) d
needed-up_to p s d has =
    let found = drawings_where-from p (λ t. leb t s) d has in
    let first = first_section p found.0 in (
      first,
      leb-true first s found.2,
      Contains-listed (needs p first) d
          (drawings_where-has p (λ t. eqb t first) found.0 d found.1 (eq-eqb first first refl) found.3),
    )

up_to-needed : (p : PlanRecord) (s d first : ℕ) → first ≤ s → Contains (needs p first) d → Contains (drawings_where p (λ t. leb t s)) d
up_to-needed p s d first le has =
    let found = drawings_where-from p (λ t. eqb t first) d has in
    let same = eqb-true (first_section p found.0) first found.2 in
    Contains-listed (drawings_where p (λ t. leb t s)) d
    (drawings_where-has p (λ t. leb t s) found.0 d found.1 (le-leb (first_section p found.0) s (omega arith)) found.3)

-- ---- elements that pass

pub filter-from : (q : ℕ → Bool) (xs : List ℕ) (d : ℕ) → Contains (filter q xs) d → Contains xs d × (q d ≡ true)
filter-from q xs d has = (
  All-contains (Contains xs) (filter q xs) d (All-filter q (Contains xs) xs (All-contains_itself xs)) has,
  All-contains (λ x. q x ≡ true) (filter q xs) d (filter_passes q xs) has,
)

pub filter-to : (q : ℕ → Bool) (xs : List ℕ) (i d : ℕ) → i < length xs → get_or xs i d ≡ d → q d ≡ true → Contains (filter q xs) d
filter-to q [] i d lt at passes = absurd (omega arith)
filter-to q (x ∷ xs) zero d lt at passes =
    subst (λ (b : Bool). Contains (cond b (x ∷ filter q xs) (filter q xs)) d) (sym (ap q at ∙ passes)) (0, omega arith, at)
filter-to q (x ∷ xs) (suc i) d lt at passes =
    let rest = filter-to q xs i d (omega arith) at passes in
    ⊎_elim
    (λ is.
    subst (λ (b : Bool). Contains (cond b (x ∷ filter q xs) (filter q xs)) d) (sym is)
    (Contains-append_right (x ∷ []) (filter q xs) d rest))
    (λ isnt. subst (λ (b : Bool). Contains (cond b (x ∷ filter q xs) (filter q xs)) d) (sym isnt) rest)
    (cases_Bool (q x))

-- ---- the last section that needs a drawing

reverse-next : (n : ℕ) → reverse (range_with_len 0 (suc n)) ≡ n ∷ reverse (range_with_len 0 n)
reverse-next n =
    ap reverse (range-next 0 n ∙ ap (λ k. range_with_len 0 n ++ k ∷ []) (zero-add n))
    ∙ reverse-append (range_with_len 0 n) (n ∷ [])

abbrev IsLast : (ℕ → Bool) → ℕ → ℕ → Type 0
IsLast q n last = (last < n) × (q last ≡ true) × ((s : ℕ) → s < n → q s ≡ true → s ≤ last)

last_found : (q : ℕ → Bool) (n last : ℕ) → find q (reverse (range_with_len 0 n)) ≡ Some last → IsLast q n last
last_found q zero last found = absurd (let e : None ≡ Some last = found in cc)
last_found q (suc n) last found =
    let list = sym (ap (find q) (reverse-next n)) ∙ found in
    ⊎_elim
    (λ is. this is (sym (ap (λ b. cond b (Some n) (find q (reverse (range_with_len 0 n)))) is) ∙ list))
    (λ isnt. earlier isnt (last_found q n last (sym (ap (λ b. cond b (Some n) (find q (reverse (range_with_len 0 n)))) isnt) ∙ list)))
    (cases_Bool (q n))
  where
    this : q n ≡ true → Some n ≡ Some last → IsLast q (suc n) last
    this is same =
        let here : n ≡ last = same_Some n last same in
        (omega arith, ap q (sym here) ∙ is, λ s lt passes. omega arith)

    earlier : q n ≡ false → IsLast q n last → IsLast q (suc n) last
    earlier isnt was = (
      omega (arith, was.0),
      was.1,
      λ s lt passes.
          ⊎_elim (λ before. was.2 s before passes)
          (λ from. absurd (true≢false (sym passes ∙ ap q (let e : s ≡ n = omega arith in e) ∙ isnt)))
          (cases_lt s n),
    )

-- ---- held drawings

abbrev Earlier : PlanRecord → ℕ → ℕ → Type 0
Earlier p s d = (first : ℕ) × (first ≤ s) × Contains (needs p first) d

abbrev Later : PlanRecord → ℕ → ℕ → Type 0
Later p s d = (later : ℕ) × (s ≤ later) × (later < sections_in p) × Contains (needs p later) d

abbrev stays : ℕ → Option ℕ → Bool
stays s o = option_map_or (λ last. leb s last) o true

listed-Contains : (xs : List ℕ) (d : ℕ) → Contains xs d → is_listed xs d ≡ true
listed-Contains xs d has = list_any_at (λ x. eqb x d) xs has.0 d has.1 (eq-eqb (get_or xs has.0 d) d has.2)

later-from :
    (p : PlanRecord) (s d : ℕ) → s < sections_in p → Earlier p s d → stays s (last_section_of p d) ≡ true → Later p s d
unfolding last_section_of
later-from p s d lt earlier stay =
    by_cases (last_section_of p d) refl (last_section-needed p earlier.0 d (omega (arith, earlier.1)) (listed-Contains (needs p earlier.0) d earlier.2))
  where
    by_cases : (o : Option ℕ) → last_section_of p d ≡ o → (last_section_of p d ≡ None → ⊥) → Later p s d
    by_cases None none some = absurd (some none)
    by_cases (Some last) found some =
        let is = last_found (λ s. is_listed (needs p s) d) (sections_in p) last found in
        let after = leb-true s last (ap (stays s) (sym found) ∙ stay) in
        (last, after, is.0, Contains-listed (needs p last) d is.1)

stays-from : (p : PlanRecord) (s d : ℕ) → Later p s d → stays s (last_section_of p d) ≡ true
unfolding last_section_of
stays-from p s d later =
    by_cases (last_section_of p d) refl
  where
    by_cases : (o : Option ℕ) → last_section_of p d ≡ o → stays s (last_section_of p d) ≡ true
    by_cases None none = ap (stays s) none
    by_cases (Some last) found =
        let is = last_found (λ s. is_listed (needs p s) d) (sections_in p) last found in
        let after = is.2 later.0 later.2 (listed-Contains (needs p later.0) d later.3) in
        ap (stays s) found ∙ le-leb s last (omega (arith, later.1))

pub held-while_needed : (p : PlanRecord) (s d : ℕ) → s < sections_in p → Contains (held p s) d ↔ (Earlier p s d × Later p s d)
unfolding held
held-while_needed p s d lt =
    let all = drawings_where p (λ t. leb t s) in (
      λ has.
          let found = filter-from (λ d. stays s (last_section_of p d)) (each_once all) d has in
          let earlier = needed-up_to p s d (Contains-fresh [] all d found.0) in
          (earlier, later-from p s d lt earlier found.1),
      λ both.
          let has = All-contains (Contains (each_once all)) all d (fresh-has [] all) (up_to-needed p s d both.0.0 both.0.1 both.0.2) in
          filter-to (λ d. stays s (last_section_of p d)) (each_once all) has.0 d has.1 has.2 (stays-from p s d both.1),
    )

-- ---- the drawings and last sections, in a caller's words

abbrev Needer : PlanRecord → ℕ → ℕ → Type 0
Needer p s d =
    (k : ℕ) × (k < length p.entries) × (first_section p k ≡ s) × (drawing_of (entry_at p.entries k).job ≡ Some d)

pub needs-by_aliases : (p : PlanRecord) (s d : ℕ) → Contains (needs p s) d ↔ Needer p s d
needs-by_aliases p s d = (
  λ has.
      let found = drawings_where-from p (λ t. eqb t s) d has in
      (found.0, found.1, eqb-true (first_section p found.0) s found.2, found.3),
  λ needer.
      Contains-listed (needs p s) d
      (drawings_where-has p (λ t. eqb t s) needer.0 d needer.1 (eq-eqb (first_section p needer.0) s needer.2) needer.3),
)

pub last_section-is :
    (p : PlanRecord) (d last : ℕ) → last < sections_in p → Contains (needs p last) d
    → ((s : ℕ) → last < s → s < sections_in p → ¬ Contains (needs p s) d) → last_section_of p d ≡ Some last
unfolding last_section_of
last_section-is p d last lt has none =
    by_cases (last_section_of p d) refl (last_section-needed p last d lt (listed-Contains (needs p last) d has))
  where
    by_cases : (o : Option ℕ) → last_section_of p d ≡ o → (last_section_of p d ≡ None → ⊥) → last_section_of p d ≡ Some last
    by_cases None found some = absurd (some found)
    by_cases (Some other) found some =
        let is = last_found (λ s. is_listed (needs p s) d) (sections_in p) other found in
        let after = is.2 last lt (listed-Contains (needs p last) d has) in
        let same : other ≡ last =
        ⊎_elim (λ later. absurd (none other later is.0 (Contains-listed (needs p other) d is.1))) (λ le. omega arith) (cases_lt last other) in
        found ∙ ap Some same

pub no_last_section : (p : PlanRecord) (d : ℕ) → ((s : ℕ) → s < sections_in p → ¬ Contains (needs p s) d) → last_section_of p d ≡ None
unfolding last_section_of
no_last_section p d none =
    by_cases (last_section_of p d) refl
  where
    by_cases : (o : Option ℕ) → last_section_of p d ≡ o → last_section_of p d ≡ None
    by_cases None found = found
    by_cases (Some other) found =
        let is = last_found (λ s. is_listed (needs p s) d) (sections_in p) other found in
        absurd (none other is.0 (Contains-listed (needs p other) d is.1))

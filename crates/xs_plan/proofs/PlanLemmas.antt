-- Lemmas on finished plans
use Rattle.std.proofs.Common.{◌≡◌, ◌<◌, ◌≤◌, ◌+◌, ◌-◌, ◌*◌, ◌/◌, ◌%◌, ◌^◌, ℕ, zero, suc, Bool, true, cond, eqb, ltb, List, [], ◌∷◌, ◌++◌, Option, Some, None, IfSome, All, Contains, length, reverse, slice_get, slice_index, get_or, count_by, refl, sym, ap, ◌∙◌, subst, ⊎_elim, arith, zero-add}
use Rattle.std.specs.List.{filter, filter_map, cons_option, find, range_with_len}
use Rattle.std.proofs.lemmas.Bool.{cases_Bool, lt-ltb, le-ltb, eq-eqb, or_right, or_left}
use Rattle.std.proofs.lemmas.List.{take_all, get_or-reverse, length-reverse}
use Rattle.std.proofs.lemmas.List.Elements.{Contains-append_left, Contains-append_right, Contains-get_or}
use Rattle.std.proofs.lemmas.List.FromFn.{length-range_with_len, get_or-range_with_len}
use Rattle.std.proofs.lemmas.List.Sums.{get_or-le-sum_by}
use Rattle.std.proofs.lemmas.Nat.{mul-add-lt, div_below, div-add-mod', div-mul-add}
use Rattle.std.proofs.Math.Nat.{mul-div_cancel}
use Rattle.xs_base.specs.Listed.{is_listed}
use Rattle.xs_base.specs.Once.{each_once}
use Rattle.xs_plan.specs.Record.{Entry, PlanRecord, entry_at, drawing_of, rows_in}
use Rattle.xs_plan.specs.Reads.{port_sources, readers_of}
use Rattle.xs_plan.specs.Sections.{first_row, first_section, sections_in}
use Rattle.xs_plan.specs.Needed.{drawings_where, needs, needs_before, last_section_of}
use Rattle.xs_plan.specs.Valid.{IsPlan, IsRoot, Leads, Reaches, RowReaches}
use Rattle.xs_plan.specs.Draft.{Draft, HasRoots, AreLast, finished}
use Rattle.xs_plan.specs.Kept.{IsDraft, IsStart, AreStarts, AreFirsts, AreNews, TellFirsts, IsKept, drawings_in}
use Rattle.xs_plan.proofs.RowLemmas.{AreEnds-more}
use Rattle.xs_plan.proofs.NeedLemmas.{first_section-rises, drawings_where-first}

-- ---- who needs a drawing

listed-more : (o : Option ℕ) (ds : List ℕ) (d : ℕ) → is_listed ds d ≡ true → is_listed (cons_option o ds) d ≡ true
listed-more None ds d listed = listed
listed-more (Some x) ds d listed = or_right (eqb x d) (is_listed ds d) listed

listed-first : (o : Option ℕ) (ds : List ℕ) (d : ℕ) → o ≡ Some d → is_listed (cons_option o ds) d ≡ true
listed-first o ds d is =
    subst (λ (o : Option ℕ). is_listed (cons_option o ds) d ≡ true) (sym is)
    (or_left (eqb d d) (is_listed ds d) (eq-eqb d d refl))

-- what a number that passes gives is listed
listed-where :
    (h : ℕ → Option ℕ) (q : ℕ → Bool) (xs : List ℕ) (i d : ℕ) → i < length xs → q (get_or xs i 0) ≡ true
    → h (get_or xs i 0) ≡ Some d → is_listed (filter_map h (filter q xs)) d ≡ true
listed-where h q [] i d lt passes gives = absurd (omega arith)
listed-where h q (x ∷ xs) zero d lt passes gives =
    ap (λ b. is_listed (filter_map h (cond b (x ∷ filter q xs) (filter q xs))) d) passes
    ∙ listed-first (h x) (filter_map h (filter q xs)) d gives
listed-where h q (x ∷ xs) (suc i) d lt passes gives =
    let rest = listed-where h q xs i d (omega arith) passes gives in
    ⊎_elim
    (λ is.
    ap (λ b. is_listed (filter_map h (cond b (x ∷ filter q xs) (filter q xs))) d) is
    ∙ listed-more (h x) (filter_map h (filter q xs)) d rest)
    (λ isnt. ap (λ b. is_listed (filter_map h (cond b (x ∷ filter q xs) (filter q xs))) d) isnt ∙ rest)
    (cases_Bool (q x))

-- the drawing of an alias is among those of the sections that pass
pub drawings_where-has :
    (p : PlanRecord) (passes : ℕ → Bool) (k d : ℕ) → k < length p.entries → passes (first_section p k) ≡ true
    → drawing_of (entry_at p.entries k).job ≡ Some d → is_listed (drawings_where p passes) d ≡ true
drawings_where-has p passes k d lt is gives =
    let here : get_or (range_with_len 0 (length p.entries)) k 0 ≡ k =
    get_or-range_with_len 0 (length p.entries) k 0 lt ∙ zero-add k in
    listed-where (λ k. drawing_of (entry_at p.entries k).job) (λ k. passes (first_section p k)) (range_with_len 0 (length p.entries)) k d
    (omega (arith, length-range_with_len 0 (length p.entries)))
    (ap (λ n. passes (first_section p n)) here ∙ is)
    (ap (λ n. drawing_of (entry_at p.entries n).job) here ∙ gives)

-- ---- the last section that needs a drawing

pub find-hit : {X : Type 0} (q : X → Bool) (xs : List X) (i : ℕ) (e : X) → i < length xs → q (get_or xs i e) ≡ true → find q xs ≡ None → ⊥
find-hit q [] i e lt passes none = absurd (omega arith)
find-hit q (x ∷ xs) zero e lt passes none = let e : Some x ≡ None = sym (ap (λ b. cond b (Some x) (find q xs)) passes) ∙ none in cc
find-hit q (x ∷ xs) (suc i) e lt passes none =
    ⊎_elim
    (λ is. let e : Some x ≡ None = sym (ap (λ b. cond b (Some x) (find q xs)) is) ∙ none in cc)
    (λ isnt. find-hit q xs i e (omega arith) passes (sym (ap (λ b. cond b (Some x) (find q xs)) isnt) ∙ none))
    (cases_Bool (q x))

-- a drawing that a section needs has a last one
pub last_section-needed :
    (p : PlanRecord) (s d : ℕ) → s < sections_in p → is_listed (needs p s) d ≡ true → last_section_of p d ≡ None → ⊥
unfolding last_section_of
last_section-needed p s d lt needed none =
    let sections = range_with_len 0 (sections_in p) in
    let many = length-range_with_len 0 (sections_in p) in
    let place : length sections - 1 - (sections_in p - 1 - s) ≡ s = omega arith in
    let here : get_or (reverse sections) (sections_in p - 1 - s) 0 ≡ s =
    get_or-reverse sections (sections_in p - 1 - s) 0 (omega arith) ∙ ap (λ n. get_or sections n 0) place
    ∙ get_or-range_with_len 0 (sections_in p) s 0 lt ∙ zero-add s in
    find-hit (λ s. is_listed (needs p s) d) (reverse sections) (sections_in p - 1 - s) 0
    (omega (arith, length-reverse sections))
    (ap (λ n. is_listed (needs p n) d) here ∙ needed) none

-- ---- each alias is read

Contains-inputs : (entries : List Entry) (k input : ℕ) → Contains (entry_at entries k).inputs input → Contains (port_sources entries) input
Contains-inputs [] k input has = has
Contains-inputs (e ∷ entries) zero input has = Contains-append_left e.inputs (port_sources entries) input has
Contains-inputs (e ∷ entries) (suc k) input has =
    Contains-append_right e.inputs (port_sources entries) input (Contains-inputs entries k input has)

Leads-read :
    (entries : List Entry) (roots : List ℕ) (reads k last : ℕ) → Contains (port_sources entries ++ roots) k
    → Leads entries reads k last → Contains (port_sources entries ++ roots) last
unfolding Leads
Leads-read entries roots zero k last has way = subst (λ (n : ℕ). Contains (port_sources entries ++ roots) n) way has
Leads-read entries roots (suc reads) k last has way =
    Leads-read entries roots reads way.0 last
    (Contains-append_left (port_sources entries) roots way.0 (Contains-inputs entries k way.0 way.1)) way.2

pub count-Contains : (xs : List ℕ) (x : ℕ) → Contains xs x → 1 ≤ count_by (λ source. eqb source x) xs
count-Contains xs x has =
    let most = get_or-le-sum_by (λ source. cond (eqb source x) 1 0) xs has.0 x has.1 in
    let one : ◌≡◌ {A = ℕ} (cond (eqb (get_or xs has.0 x) x) 1 0) 1 = ap (λ b. cond {A = ℕ} b 1 0) (eq-eqb (get_or xs has.0 x) x has.2) in
    omega arith

-- ---- a finished plan

-- how many drawings a plan has does not matter to what needs them
last_section-finished : (d : Draft) (drawings x : ℕ) → last_section_of d.plan x ≡ last_section_of (finished d drawings) x
unfolding last_section_of
last_section-finished d drawings x = refl

module _ {d : Draft} {firsts : List ℕ} (draft : IsDraft d firsts) (has : HasRoots d) where
  pub rows-whole : rows_in d.plan ≡ d.rows
  rows-whole =
      draft.ends_many ∙ ap (λ n. n / length d.plan.tiles) has ∙ mul-div_cancel d.rows draft.few_tiles.0

  pub first_row-below : (k : ℕ) → k < length d.plan.entries → first_row d.plan k < rows_in d.plan
  first_row-below k lt =
      let reached = draft.reached k (omega (arith, draft.all_rooted has)) in
      let below : reached.place / length d.plan.tiles < d.rows =
      div_below reached.place (length d.plan.tiles) d.rows draft.few_tiles.0 (omega (arith, reached.there)) in
      omega (arith, reached.row, rows-whole)

  pub first_section-below : (k : ℕ) → k < length d.plan.entries → first_section d.plan k < sections_in d.plan
  first_section-below k lt = let below = first_row-below k lt in omega arith

  pub AreFirsts-finished : (sections : ℕ) → sections ≡ sections_in d.plan → AreFirsts d.plan.entries firsts sections
  AreFirsts-finished sections same =
      record {
        many = draft.firsts_many;
        rise = λ k later le lt.
            omega (arith, draft.first k (omega arith), draft.first later lt, first_section-rises d.plan k later le);
        below = λ k lt. omega (arith, draft.first k lt, first_section-below k lt);
      }

  pub read-finished : (k : ℕ) → k < length d.plan.entries → 1 ≤ readers_of d.plan k
  read-finished k lt =
      let reached = draft.reached k (omega (arith, draft.all_rooted has)) in
      let root = slice_index d.plan.roots reached.place in
      let given : Contains (port_sources d.plan.entries ++ d.plan.roots) root =
      Contains-append_right (port_sources d.plan.entries) d.plan.roots root (Contains-get_or d.plan.roots reached.place 0 reached.there) in
      count-Contains (port_sources d.plan.entries ++ d.plan.roots) k
      (Leads-read d.plan.entries d.plan.roots reached.reaches.reads root k given reached.reaches.way)

  pub first-finished : (k : ℕ) → k < length d.plan.entries → RowReaches d.plan (first_row d.plan k) k
  first-finished k lt =
      let reached = draft.reached k (omega (arith, draft.all_rooted has)) in
      let tiles = length d.plan.tiles in
      let some = draft.few_tiles.0 in
      let tile = reached.place % tiles in
      let row = ap (λ r. r * tiles) reached.row in
      let place : reached.place ≡ first_row d.plan k * tiles + tile = omega (arith, div-add-mod' reached.place tiles) in
      record {
        tile = tile;
        there = omega arith;
        reaches = subst (λ (n : ℕ). Reaches d.plan.entries (slice_index d.plan.roots n) k) place reached.reaches;
      }

  pub root-finished : (row tile : ℕ) → row < rows_in d.plan → tile < length d.plan.tiles → IsRoot d.plan row tile
  root-finished row tile row_there tile_there =
      let tiles = length d.plan.tiles in
      let place = row * tiles + tile in
      let rows = rows-whole in
      let there : place < length d.plan.roots = omega (arith, has, mul-add-lt row tiles tile d.rows (omega arith) tile_there) in
      let at_row : place / tiles ≡ row = div-mul-add row tiles tile tile_there in
      let product = ap (λ r. r * tiles) at_row in
      let at_tile : place % tiles ≡ tile = omega (arith, div-add-mod' place tiles) in
      let was = draft.roots place there in
      let before : place / tiles < length d.plan.ends = omega arith in
      record {
        there = subst (λ (r : ℕ). slice_index d.plan.roots place < slice_index d.plan.ends r) at_row (was.ended before);
        rect = ap (λ t. slice_get d.plan.tiles t) (sym at_tile) ∙ was.rect;
      }

  pub IsPlan-finished :
      (drawings : ℕ) → All (λ e. IfSome (drawing_of e.job) (λ x. x < drawings)) d.plan.entries → IsPlan (finished d drawings)
  IsPlan-finished drawings below =
      record {
        few_tiles = draft.few_tiles;
        few_rows = (omega (arith, rows-whole, draft.few_rows), omega (arith, rows-whole, draft.few_rows));
        few_aliases = draft.few_aliases;
        entries = draft.entries;
        drawings = below;
        whole = has ∙ ap (λ r. r * length d.plan.tiles) (sym rows-whole);
        roots = λ row tile row_there tile_there. let is = root-finished row tile row_there tile_there in record { there = is.there; rect = is.rect };
        ends = AreEnds-more draft.rooted draft.ends;
        read = read-finished;
        first = λ k lt. let is = first-finished k lt in record { tile = is.tile; there = is.there; reaches = is.reaches };
      }

  -- the drawings that sections are the first to need, from what going through the aliases gave
  pub AreNews-finished :
      (news starts : List ℕ) → news ≡ each_once (drawings_in d.plan.entries) → AreStarts d.plan.entries firsts starts
      → length starts ≡ sections_in d.plan + 1 → AreNews d.plan news starts
  AreNews-finished news starts each are many =
      record {
        each = each ∙ ap each_once (sym all);
        starts_many = many;
        start = λ s le. start s (are.start s (omega arith));
      }
    where
      all : needs_before d.plan (sections_in d.plan) ≡ drawings_in d.plan.entries
      all =
          drawings_where-first d.plan (λ t. ltb t (sections_in d.plan)) (length d.plan.entries) (omega arith)
          (λ k lt. lt-ltb (first_section d.plan k) (sections_in d.plan) (first_section-below k lt)) (λ k from lt. absurd (omega arith))
          ∙ ap drawings_in (take_all (length d.plan.entries) d.plan.entries (omega arith))

      start : (s : ℕ) → IsStart d.plan.entries firsts s (slice_index starts s)
          → slice_index starts s ≡ length (each_once (needs_before d.plan s))
      start s is =
          let within = is.within in
          is.is
          ∙ ap (λ l. length (each_once l))
          (sym
          (drawings_where-first d.plan (λ t. ltb t s) is.aliases within
          (λ k lt. lt-ltb (first_section d.plan k) s (omega (arith, is.before k lt, draft.first k (omega arith))))
          (λ k from lt. le-ltb (first_section d.plan k) s (omega (arith, is.from k from lt, draft.first k lt)))))

  -- the aliases tell the first sections
  pub TellFirsts-finished : TellFirsts d.plan d.plan.entries firsts
  TellFirsts-finished =
      record { aliases = refl; first = λ k lt. draft.first k lt; below = first_section-below }

  pub IsKept-finished :
      (drawings : ℕ) → All (λ e. IfSome (drawing_of e.job) (λ x. x < drawings)) d.plan.entries
      → (news starts : List ℕ) (last : List (Option ℕ)) → AreNews d.plan news starts → AreLast d.plan last → drawings < 2 ^ 32
      → IsKept (finished d drawings) firsts news starts last
  IsKept-finished drawings below news starts last new are few =
      record {
        plan = IsPlan-finished drawings below;
        firsts_many = draft.firsts_many;
        first = draft.first;
        new = record { each = new.each; starts_many = new.starts_many; start = new.start };
        lasts = λ x. are x ∙ last_section-finished d drawings x;
        few_drawings = few;
        few_tints = draft.few_tints;
      }

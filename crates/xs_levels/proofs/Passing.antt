-- The drawings of a section are loaded one after another
use Rattle.std.proofs.Common.{◌≡◌, ℕ, zero, suc, ◌+◌, ◌-◌, ◌*◌, ◌<◌, ◌≤◌, ◌==◌, ◌⊎◌, nat_le, Bool, true, false, ◌&&◌, ◌||◌, if◌then◌else◌, List, [], ◌∷◌, ◌++◌, length, take, map, reverse, get_or, slice_get, Option, Some, None, is_some, Contains, refl, sym, ap, ◌∙◌, subst, inl, inr, append_assoc, arith}
use Rattle.std.specs.List.{sum_by, find, position_or_len, range_with_len}
use Rattle.std.specs.Option.{option_map_or}
use Rattle.std.proofs.lemmas.Bool.{cases_lt, cases_eq, eq-eqb, ne_eqb, or_cases}
use Rattle.std.proofs.lemmas.Bool.Decides.{nat_tests}
use Rattle.std.proofs.lemmas.List.{append-nil, take_more, take_all, map-append, get_or-reverse, length-reverse}
use Rattle.std.proofs.lemmas.List.FromFn.{length-range_with_len, get_or-range_with_len}
use Rattle.std.proofs.lemmas.List.Folds.{find_at}
use Rattle.std.proofs.lemmas.List.Sums.{sum_by-append}
use Rattle.std.proofs.lemmas.Option.{get_or_from_slice_get, slice_get_within, same_Some}
use Rattle.xs_base.specs.Listed.{is_listed}
use Rattle.xs_base.specs.Once.{fresh}
use Rattle.xs_base.proofs.OnceLemmas.{Contains-listed, Contains-fresh}
use Rattle.xs_outside.specs.Told.{more}
use Rattle.xs_chain.specs.Row.{list_with}
use Rattle.xs_plan.specs.Record.{PlanRecord}
use Rattle.xs_plan.specs.Sections.{sections_in}
use Rattle.xs_plan.specs.Needed.{needs, needs_before, new_drawings, last_section_of, held, picture_bytes}
use Rattle.xs_plan.proofs.PlanLemmas.{last_section-needed}
use Rattle.xs_plan.proofs.HeldLemmas.{held-while_needed}
use Rattle.xs_levels.specs.Table.{TableRecord, file_of}
use Rattle.xs_levels.specs.Films.{Files, AreAsWritten, fault_of, pictures_of}
use Rattle.xs_levels.specs.Stocked.{StockRecord, IsStockOf, HasTaken, is_needed_from, list_of_drawing}
use Rattle.xs_levels.specs.Loading.{Passed, bytes_after, names_of}
use Rattle.xs_levels.proofs.Lasting.{listed-append, listed-Contains, held_listed}

-- ---- a new drawing of a section

-- it stands once among those that are known and the new ones
pub new_unlisted : (known xs : List ℕ) (at : ℕ) → at < length (fresh known xs) → is_listed (known ++ take at (fresh known xs)) (get_or (fresh known xs) at 0) ≡ false
unfolding fresh
new_unlisted known [] at within = absurd (omega arith)
new_unlisted known (x ∷ xs) at within = by_test (is_listed known x) refl within (λ k. new_unlisted k xs)
  where
    by_test : (b : Bool) → is_listed known x ≡ b → at < length (if b then fresh known xs else x ∷ fresh (known ++ x ∷ []) xs)
        → ((k : List ℕ) (i : ℕ) → i < length (fresh k xs) → is_listed (k ++ take i (fresh k xs)) (get_or (fresh k xs) i 0) ≡ false)
        → is_listed (known ++ take at (if b then fresh known xs else x ∷ fresh (known ++ x ∷ []) xs))
        (get_or (if b then fresh known xs else x ∷ fresh (known ++ x ∷ []) xs) at 0) ≡ false
    by_test true is lt later = later known at lt
    by_test false isnt lt later = first at lt
      where
        first : (i : ℕ) → i < length (x ∷ fresh (known ++ x ∷ []) xs)
            → is_listed (known ++ take i (x ∷ fresh (known ++ x ∷ []) xs)) (get_or (x ∷ fresh (known ++ x ∷ []) xs) i 0) ≡ false
        first zero lt = ap (λ l. is_listed l x) (append-nil known) ∙ isnt
        first (suc i) lt =
            ap (λ l. is_listed l (get_or (fresh (known ++ x ∷ []) xs) i 0)) (sym (append_assoc known (x ∷ []) (take i (fresh (known ++ x ∷ []) xs))))
            ∙ later (known ++ x ∷ []) i (omega arith)

-- the section needs it
pub new_needed : (p : PlanRecord) (s at : ℕ) → at < length (new_drawings p s) → is_listed (needs p s) (get_or (new_drawings p s) at 0) ≡ true
unfolding new_drawings
new_needed p s at within =
    let d = get_or (fresh (needs_before p s) (needs p s)) at 0 in
    listed-Contains (needs p s) d
    (Contains-fresh (needs_before p s) (needs p s) d (at, within, get_or_same (fresh (needs_before p s) (needs p s)) at within))
  where
    get_or_same : (xs : List ℕ) (i : ℕ) → i < length xs → get_or xs i (get_or xs i 0) ≡ get_or xs i 0
    get_or_same [] i lt = absurd (omega arith)
    get_or_same (x ∷ xs) zero lt = refl
    get_or_same (x ∷ xs) (suc i) lt = get_or_same xs i (omega arith)

pub new_unknown : (p : PlanRecord) (s at : ℕ) → at < length (new_drawings p s)
    → is_listed (needs_before p s ++ take at (new_drawings p s)) (get_or (new_drawings p s) at 0) ≡ false
unfolding new_drawings
new_unknown p s at within = new_unlisted (needs_before p s) (needs p s) at within

-- its last section is this one or a later one
pub needed_here : (p : PlanRecord) (s d : ℕ) → s < sections_in p → is_listed (needs p s) d ≡ true → is_needed_from p s d ≡ true
needed_here p s d within listed =
    let has = Contains-listed (needs p s) d listed in
    let is_held = (held-while_needed p s d within).1 ((s, omega arith, has), (s, omega arith, within, has)) in
    first_true (is_needed_from p s d) (is_listed (needs_before p (s + 1)) d) (sym (held_listed p s d) ∙ listed-Contains (held p s) d is_held)
  where
    first_true : (a b : Bool) → (a && b) ≡ true → a ≡ true
    first_true true b is = refl
    first_true false b is = absurd (cc)

last_within : (p : PlanRecord) (d last : ℕ) → last_section_of p d ≡ Some last → last < sections_in p
unfolding last_section_of
last_within p d last found =
    let n = sections_in p in
    let xs = reverse (range_with_len 0 n) in
    let q = λ (s : ℕ). is_listed (needs p s) d in
    let there : slice_get xs (position_or_len q xs) ≡ Some last = sym (find_at q xs) ∙ found in
    let within : position_or_len q xs < length xs = slice_get_within xs (position_or_len q xs) last there in
    let long : length xs ≡ n = length-reverse (range_with_len 0 n) ∙ length-range_with_len 0 n in
    let many : length (range_with_len 0 n) ≡ n = length-range_with_len 0 n in
    let here : get_or xs (position_or_len q xs) 0 ≡ last = get_or_from_slice_get xs (position_or_len q xs) last 0 there in
    let back : get_or xs (position_or_len q xs) 0 ≡ get_or (range_with_len 0 n) (length (range_with_len 0 n) - 1 - position_or_len q xs) 0 =
    get_or-reverse (range_with_len 0 n) (position_or_len q xs) 0 (omega (arith, within, long, many)) in
    let less : length (range_with_len 0 n) - 1 - position_or_len q xs < n = omega (arith, within, long, many) in
    let value : get_or (range_with_len 0 n) (length (range_with_len 0 n) - 1 - position_or_len q xs) 0 ≡ 0 + (length (range_with_len 0 n) - 1 - position_or_len q xs) =
    get_or-range_with_len 0 n (length (range_with_len 0 n) - 1 - position_or_len q xs) 0 less in
    omega (arith, less, here, back, value)

pub last_of : (p : PlanRecord) (s d : ℕ) → s < sections_in p → is_listed (needs p s) d ≡ true
    → (last : ℕ) × (last_section_of p d ≡ Some last) × (last < sections_in p)
last_of p s d within listed = by_last (last_section_of p d) refl
  where
    by_last : (o : Option ℕ) → last_section_of p d ≡ o → (last : ℕ) × (last_section_of p d ≡ Some last) × (last < sections_in p)
    by_last None is = absurd (last_section-needed p s d within listed is)
    by_last (Some last) is = (last, is, last_within p d last is)

-- ---- what a stock holds

unlisted_free : (p : PlanRecord) (s : ℕ) (known : List ℕ) (d : ℕ) → is_listed known d ≡ false → list_of_drawing p s known d ≡ None
unlisted_free p s known d isnt = ap (λ b. if b && is_needed_from p s d then last_section_of p d else None) isnt

pub free_new : (p : PlanRecord) (t : TableRecord) (s : ℕ) (known : List ℕ) (stock : StockRecord) (d : ℕ) → IsStockOf p t s known stock
    → is_listed known d ≡ false → list_with stock.row d ≡ None
free_new p t s known stock d is isnt = is.listed d ∙ unlisted_free p s known d isnt

listed_more : (p : PlanRecord) (s : ℕ) (known : List ℕ) (d e : ℕ) (b : Bool) → (d == e) ≡ b → is_needed_from p s d ≡ true
    → (if b then last_section_of p d else list_of_drawing p s known e) ≡ list_of_drawing p s (known ++ d ∷ []) e
listed_more p s known d e true same needed =
    let here : d ≡ e = grind (arith, nat_tests, same) in
    let listed : is_listed (known ++ d ∷ []) e ≡ true = listed-append known (d ∷ []) e ∙ (ap (λ b. is_listed known e || (b || false)) same ∙ or_true (is_listed known e)) in
    let needed_there : is_needed_from p s e ≡ true = ap (λ n. is_needed_from p s n) (sym here) ∙ needed in
    ap (last_section_of p) here ∙ sym (ap (λ b. if b && is_needed_from p s e then last_section_of p e else None) listed
    ∙ ap (λ b. if b then last_section_of p e else None) needed_there)
  where
    or_true : (a : Bool) → (a || true) ≡ true
    or_true true = refl
    or_true false = refl
listed_more p s known d e false other needed =
    let listed : is_listed (known ++ d ∷ []) e ≡ is_listed known e = listed-append known (d ∷ []) e ∙ (ap (λ b. is_listed known e || (b || false)) other ∙ or_false (is_listed known e)) in
    sym (ap (λ b. if b && is_needed_from p s e then last_section_of p e else None) listed)
  where
    or_false : (a : Bool) → (a || false) ≡ a
    or_false true = refl
    or_false false = refl

pub stock_more : (p : PlanRecord) (t : TableRecord) (s : ℕ) (known : List ℕ) (a b : StockRecord) (d more : ℕ) → IsStockOf p t s known a
    → HasTaken p d a more b → is_needed_from p s d ≡ true → IsStockOf p t s (known ++ d ∷ []) b
stock_more p t s known a b d more is taken needed = record {
  counted = taken.counted;
  slots = taken.slots ∙ is.slots;
  lists = taken.lists ∙ is.lists;
  palettes = ap length taken.palettes ∙ is.palettes;
  as_written = subst (λ palettes. AreAsWritten palettes t) (sym taken.palettes) is.as_written;
  listed = λ e.
      taken.listed e
      ∙ (ap (λ o. if d == e then last_section_of p d else o) (is.listed e) ∙ listed_more p s known d e (d == e) refl needed);
}

known_more : (known xs : List ℕ) (at : ℕ) → at < length xs → known ++ take (at + 1) xs ≡ (known ++ take at xs) ++ get_or xs at 0 ∷ []
known_more known xs at within = ap (λ l. known ++ l) (take_more xs at 0 within) ∙ sym (append_assoc known (take at xs) (get_or xs at 0 ∷ []))

pub stock_next : (p : PlanRecord) (t : TableRecord) (s at : ℕ) (a b : StockRecord) (d more : ℕ) → s < sections_in p
    → at < length (new_drawings p s) → d ≡ get_or (new_drawings p s) at 0 → IsStockOf p t s (needs_before p s ++ take at (new_drawings p s)) a
    → HasTaken p d a more b → IsStockOf p t s (needs_before p s ++ take (at + 1) (new_drawings p s)) b
stock_next p t s at a b d more section within is_new is taken =
    let needed : is_needed_from p s d ≡ true =
    needed_here p s d section (ap (is_listed (needs p s)) is_new ∙ new_needed p s at within) in
    subst (λ l. IsStockOf p t s l b) (sym (known_more (needs_before p s) (new_drawings p s) at within ∙ ap (λ n. (needs_before p s ++ take at (new_drawings p s)) ++ n ∷ []) (sym is_new)))
    (stock_more p t s (needs_before p s ++ take at (new_drawings p s)) a b d more is taken needed)

-- the same where other drawings are said to be known
pub stock_known : (p : PlanRecord) (t : TableRecord) (s : ℕ) (known other : List ℕ) (a : StockRecord)
    → ((d : ℕ) → is_listed known d ≡ is_listed other d) → IsStockOf p t s known a → IsStockOf p t s other a
stock_known p t s known other a same is = record {
  counted = is.counted;
  slots = is.slots;
  lists = is.lists;
  palettes = is.palettes;
  as_written = is.as_written;
  listed = λ d. is.listed d ∙ ap (λ b. if b && is_needed_from p s d then last_section_of p d else None) (same d);
}

-- ---- where the library tells its files

pub passed_none : (files : Files) (t : TableRecord) (limit over : ℕ) (news : List ℕ) → over ≤ limit → Passed files t limit over news 0
passed_none files t limit over news few = record {
  faultless = λ at d lt there. absurd (omega arith);
  within = omega (arith, few);
}

bytes_more : (files : Files) (t : TableRecord) (over : ℕ) (news : List ℕ) (at : ℕ) → at < length news
    → bytes_after files t over news (at + 1) ≡ bytes_after files t over news at + picture_bytes (pictures_of files t (get_or news at 0))
bytes_more files t over news at within =
    let size = λ (d : ℕ). picture_bytes (pictures_of files t d) in
    let sums : sum_by size (take (at + 1) news) ≡ sum_by size (take at news) + sum_by size (get_or news at 0 ∷ []) =
    ap (sum_by size) (take_more news at 0 within) ∙ sum_by-append size (take at news) (get_or news at 0 ∷ []) in
    let one : sum_by size (get_or news at 0 ∷ []) ≡ size (get_or news at 0) = omega arith in
    omega (arith, sums, one)

pub bytes_next : (files : Files) (t : TableRecord) (over : ℕ) (news : List ℕ) (at d before more now : ℕ) → at < length news → d ≡ get_or news at 0
    → before ≡ bytes_after files t over news at → now ≡ before + more → more ≡ picture_bytes (pictures_of files t d)
    → now ≡ bytes_after files t over news (at + 1)
bytes_next files t over news at d before more now within is was sum size =
    let grown = bytes_more files t over news at within in
    let here : picture_bytes (pictures_of files t d) ≡ picture_bytes (pictures_of files t (get_or news at 0)) = ap (λ n. picture_bytes (pictures_of files t n)) is in
    omega (arith, grown, here, was, sum, size)

pub passed_next : (files : Files) (t : TableRecord) (limit over : ℕ) (news : List ℕ) (at d : ℕ) → at < length news → d ≡ get_or news at 0
    → Passed files t limit over news at → fault_of files t d ≡ None → bytes_after files t over news (at + 1) ≤ limit
    → Passed files t limit over news (at + 1)
passed_next files t limit over news at d inside is passed none few = record {
  faultless = λ i e lt there.
      elim (cases_lt i at) [
        | inl before ↦ passed.faultless i e before there
        | inr past ↦
            let here : i ≡ at = omega (arith, lt, past) in
            let same : get_or news at 0 ≡ e = ap (λ n. get_or news n 0) (sym here) ∙ get_or_from_slice_get news i e 0 there in
            ap (fault_of files t) (sym (is ∙ same)) ∙ none
      ];
  within = few;
}

pub over_next : (files : Files) (t : TableRecord) (limit over : ℕ) (news : List ℕ) (at d before : ℕ) → at < length news → d ≡ get_or news at 0
    → before ≡ bytes_after files t over news at → limit < before + picture_bytes (pictures_of files t d)
    → limit < bytes_after files t over news (at + 1)
over_next files t limit over news at d before within is was passes =
    let grown = bytes_more files t over news at within in
    let here : picture_bytes (pictures_of files t d) ≡ picture_bytes (pictures_of files t (get_or news at 0)) = ap (λ n. picture_bytes (pictures_of files t n)) is in
    omega (arith, grown, here, was, passes)

-- ---- the names

more-more : {A : Type 0} (before : Option (List A)) (first second : List A) → more (more before first) second ≡ more before (first ++ second)
unfolding more
more-more None first second = refl
more-more (Some told) first second = ap Some (append_assoc told first second)

pub more-none : {A : Type 0} (before : Option (List A)) → before ≡ more before []
unfolding more
more-none None = refl
more-none (Some told) = ap Some (sym (append-nil told))

pub names_next : (t : TableRecord) (news : List ℕ) (at d : ℕ) (first before now : Option (List (List ℕ))) → at < length news → d ≡ get_or news at 0
    → before ≡ more first (names_of t (take at news)) → now ≡ more before (file_of t d ∷ []) → now ≡ more first (names_of t (take (at + 1) news))
names_next t news at d first before now within is was asked =
    asked ∙ (ap (λ b. more b (file_of t d ∷ [])) was ∙ (more-more first (names_of t (take at news)) (file_of t d ∷ [])
    ∙ ap (more first) (sym (ap (map (file_of t)) (take_more news at 0 within ∙ ap (λ n. take at news ++ n ∷ []) (sym is)) ∙ map-append (file_of t) (take at news) (d ∷ [])))))

-- A section's drawings up to one that is refused
use Rattle.std.proofs.Common.{◌≡◌, ℕ, suc, ◌==◌, Bool, true, false, cond, if◌then◌else◌, ◌+◌, ◌<◌, ◌≤◌, ◌⊎◌, List, [], ◌∷◌, ◌++◌, length, take, get_or, slice_get, Option, Some, None, Result, Err, All, IfSome, Contains, refl, sym, ap, ◌∙◌, subst, inl, inr, arith}
use Rattle.std.proofs.lemmas.List.{append-nil, take_all}
use Rattle.std.proofs.lemmas.Option.{get_or_from_slice_get}
use Rattle.std.specs.List.{filter, filter_map, cons_option, range_with_len}
use Rattle.std.proofs.lemmas.List.FromFn.{length-range_with_len}
use Rattle.xs_base.specs.Listed.{is_listed}
use Rattle.xs_base.specs.Once.{fresh}
use Rattle.xs_base.proofs.OnceLemmas.{Contains-listed}
use Rattle.xs_outside.specs.Told.{Rose, more}
use Rattle.xs_plan.specs.Record.{PlanRecord, Entry, entry_at, no_entry, drawing_of}
use Rattle.xs_plan.specs.Sections.{first_section, sections_in}
use Rattle.xs_plan.specs.Needed.{needs, needs_before, new_drawings, picture_bytes}
use Rattle.xs_plan.specs.Valid.{IsPlan}
use Rattle.xs_plan.proofs.HeldLemmas.{needs-by_aliases}
use Rattle.xs_rawfile.specs.declared.fault.LevelCode.{LevelCode}
use Rattle.xs_levels.specs.declared.loaded.Refusal.{Refusal}
use Rattle.xs_levels.specs.declared.loaded.Refusal.TheVariants as refusal
use Rattle.xs_levels.specs.Table.{TableRecord, file_of}
use Rattle.xs_levels.specs.Films.{Files, fault_of, pictures_of}
use Rattle.xs_levels.specs.Stocked.{StockRecord, IsStock, IsStockOf, MayTake}
use Rattle.xs_levels.specs.Loading.{Passed, IsLoaded, StopsIn, AsksFor, AsksOnce, HadFault, HadFaults, IsRefused, bytes_after, names_of, answer_at}
use Rattle.xs_levels.proofs.Lasting.{known_next}
use Rattle.xs_levels.proofs.Passing.{new_needed, new_unknown, last_of, free_new, over_next, names_next, stock_known, bytes_next, passed_next}

-- ---- a drawing that a section needs

numbered : (p : PlanRecord) (s d : ℕ) → IsPlan p → is_listed (needs p s) d ≡ true → d < p.drawings
numbered p s d valid listed =
    let needer = (needs-by_aliases p s d).0 (Contains-listed (needs p s) d listed) in
    let one : IfSome (drawing_of (entry_at p.entries needer.0).job) (λ n. n < p.drawings) = valid.drawings needer.0 no_entry needer.1 in
    subst (λ (o : Option ℕ). IfSome o (λ n. n < p.drawings)) needer.3 one

pub may_take : (p : PlanRecord) (t : TableRecord) (s at d : ℕ) (a : StockRecord) → IsPlan p → IsStock p t a → (b : StockRecord) → s < sections_in p
    → p.drawings ≤ length t.files → at < length (new_drawings p s) → d ≡ get_or (new_drawings p s) at 0
    → IsStockOf p t s (needs_before p s ++ take at (new_drawings p s)) b → MayTake p t d b
may_take p t s at d a valid stock b section few within is now =
    let needed : is_listed (needs p s) d ≡ true = ap (is_listed (needs p s)) is ∙ new_needed p s at within in
    let unknown = ap (is_listed (needs_before p s ++ take at (new_drawings p s))) is ∙ new_unknown p s at within in
    let last = last_of p s d section needed in
    let below : d < p.drawings = numbered p s d valid needed in
    record {
      sound = stock.table;
      counted = now.counted;
      number = omega (arith, below, few);
      slots = now.slots;
      palettes = now.palettes;
      as_written = now.as_written;
      free = free_new p t s (needs_before p s ++ take at (new_drawings p s)) b d now unknown;
      last = (last.0, last.1, omega (arith, last.2, now.lists));
    }

-- ---- the start and the end

pub stock_begun : (p : PlanRecord) (t : TableRecord) (s : ℕ) (a : StockRecord) → IsStock p t a → a.loaded ≡ s → a.ended ≡ s
    → IsStockOf p t s (needs_before p s ++ take 0 (new_drawings p s)) a
stock_begun p t s a stock loaded ended =
    subst (λ l. IsStockOf p t s l a) (sym (append-nil (needs_before p s)))
    (subst (λ n. IsStockOf p t s (needs_before p n) a) loaded (subst (λ n. IsStockOf p t n (needs_before p a.loaded) a) ended stock.stock))

pub stock_moved : (p : PlanRecord) (t : TableRecord) (over : ℕ) (known : List ℕ) (a : StockRecord) (n m : ℕ) → IsStockOf p t over known a
    → IsStockOf p t over known (record a { loaded = n; ended = m })
stock_moved p t over known a n m is = record {
  counted = record {
    members = is.counted.members;
    listed = is.counted.listed;
    bytes = is.counted.bytes;
    few = is.counted.few;
  };
  slots = is.slots;
  lists = is.lists;
  palettes = is.palettes;
  as_written = is.as_written;
  listed = is.listed;
}

pub stock_whole : (p : PlanRecord) (t : TableRecord) (s at : ℕ) (a : StockRecord) → length (new_drawings p s) ≤ at
    → IsStockOf p t s (needs_before p s ++ take at (new_drawings p s)) a → IsStockOf p t s (needs_before p (s + 1)) a
stock_whole p t s at a past is =
    let all : take at (new_drawings p s) ≡ new_drawings p s = take_all at (new_drawings p s) past in
    stock_known p t s (needs_before p s ++ new_drawings p s) (needs_before p (s + 1)) a (known_next p s)
    (subst (λ l. IsStockOf p t s (needs_before p s ++ l) a) all is)

-- ---- a drawing that is refused

pub refused_loaded : (files : Files) (t : TableRecord) (limit over before : ℕ) (news : List ℕ) (at d : ℕ) (r : Refusal)
    → Passed files t limit over news at → at < length news → d ≡ get_or news at 0 → slice_get news at ≡ Some d → before ≡ bytes_after files t over news at
    → IsRefused files t limit before d r → IsLoaded files t limit over news (answer_at at d r)
refused_loaded files t limit over before news at d (refusal.Level code) passed within is there was why = (passed, there, why)
refused_loaded files t limit over before news at d refusal.Limit passed within is there was why =
    (passed, there, why.0, over_next files t limit over news at d before within is was why.1)
refused_loaded files t limit over before news at d refusal.ReadFault passed within is there was why = (passed, within)
refused_loaded files t limit over before news at d refusal.Memory passed within is there was why = (passed, within)

pub refused_place : (news : List ℕ) (at d : ℕ) (r : Refusal) → at < length news → slice_get news at ≡ Some d → StopsIn news (answer_at at d r)
refused_place news at d (refusal.Level code) within there = there
refused_place news at d refusal.Limit within there = there
refused_place news at d refusal.ReadFault within there = within
refused_place news at d refusal.Memory within there = within

pub refused_asked : (t : TableRecord) (news : List ℕ) (at d : ℕ) (r : Refusal) (first before now : Option (List (List ℕ))) → at < length news
    → d ≡ get_or news at 0 → before ≡ more first (names_of t (take at news)) → AsksOnce {A = Unit {0}} (file_of t d) before now (Err r)
    → AsksFor t news first now (answer_at at d r)
refused_asked t news at d (refusal.Level code) first before now within is was asked = names_next t news at d first before now within is was asked
refused_asked t news at d refusal.Limit first before now within is was asked = names_next t news at d first before now within is was asked
refused_asked t news at d refusal.ReadFault first before now within is was asked = names_next t news at d first before now within is was asked
refused_asked t news at d refusal.Memory first before now within is was (inl same) = inl (same ∙ was)
refused_asked t news at d refusal.Memory first before now within is was (inr asked) =
    inr (names_next t news at d first before now within is was asked)

pub refused_faults : (files : Option Files) (first before now at d : ℕ) (r : Refusal) → before ≡ first → HadFault {A = Unit {0}} files before now (Err r)
    → HadFaults files first now (answer_at at d r)
refused_faults files first before now at d (refusal.Level code) was is = subst (λ n. HadFault {A = Unit {0}} files n now (Err (refusal.Level code))) was is
refused_faults files first before now at d refusal.Limit was is = is ∙ was
refused_faults files first before now at d refusal.ReadFault was is = subst (λ n. Rose n now) was is
refused_faults files first before now at d refusal.Memory was is = is ∙ was

-- ---- a section has no more new drawings than a plan has aliases

fresh_step : (known xs : List ℕ) (x : ℕ) (b : Bool) → ((k : List ℕ) → length (fresh k xs) ≤ length xs)
    → length (if b then fresh known xs else x ∷ fresh (known ++ x ∷ []) xs) ≤ suc (length xs)
fresh_step known xs x true rest = let less = rest known in omega (arith, less)
fresh_step known xs x false rest = let less = rest (known ++ x ∷ []) in omega (arith, less)

length_fresh : (known xs : List ℕ) → length (fresh known xs) ≤ length xs
unfolding fresh
length_fresh known [] = omega arith
length_fresh known (x ∷ xs) = fresh_step known xs x (is_listed known x) (λ k. length_fresh k xs)

filter_step : (q : ℕ → Bool) (x : ℕ) (xs : List ℕ) (b : Bool) → length (filter q xs) ≤ length xs
    → length (cond b (x ∷ filter q xs) (filter q xs)) ≤ suc (length xs)
filter_step q x xs true rest = omega (arith, rest)
filter_step q x xs false rest = omega (arith, rest)

length_filter : (q : ℕ → Bool) (xs : List ℕ) → length (filter q xs) ≤ length xs
length_filter q [] = omega arith
length_filter q (x ∷ xs) = filter_step q x xs (q x) (length_filter q xs)

map_step : (o : Option ℕ) (ys : List ℕ) (n : ℕ) → length ys ≤ n → length (cons_option o ys) ≤ suc n
map_step None ys n less = omega (arith, less)
map_step (Some y) ys n less = omega (arith, less)

length_filter_map : (h : ℕ → Option ℕ) (xs : List ℕ) → length (filter_map h xs) ≤ length xs
length_filter_map h [] = omega arith
length_filter_map h (x ∷ xs) = map_step (h x) (filter_map h xs) (length xs) (length_filter_map h xs)

pub few_new : (p : PlanRecord) (s : ℕ) → length (new_drawings p s) ≤ length p.entries
unfolding new_drawings
few_new p s =
    let first = length_fresh (needs_before p s) (needs p s) in
    let second = length_filter_map (λ k. drawing_of (entry_at p.entries k).job) (filter (λ k. first_section p k == s) (range_with_len 0 (length p.entries))) in
    let third = length_filter (λ k. first_section p k == s) (range_with_len 0 (length p.entries)) in
    omega (arith, first, second, third, length-range_with_len 0 (length p.entries))

-- ---- one drawing more

pub told_next : (files : Files) (t : TableRecord) (limit over : ℕ) (news : List ℕ) (at d before now : ℕ) → at < length news → d ≡ get_or news at 0
    → Passed files t limit over news at × (before ≡ bytes_after files t over news at) → now ≤ limit
    → (bytes : ℕ) → now ≡ before + bytes → (fault_of files t d ≡ None) × (bytes ≡ picture_bytes (pictures_of files t d))
    → Passed files t limit over news (at + 1) × (now ≡ bytes_after files t over news (at + 1))
told_next files t limit over news at d before now within is was few bytes sum one =
    let next = bytes_next files t over news at d before bytes now within is was.1 sum one.1 in
    (passed_next files t limit over news at d within is was.0 one.0 (omega (arith, few, next)), next)

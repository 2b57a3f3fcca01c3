-- What is held, and how many bytes it has, with one drawing more or less
use Rattle.std.proofs.Common.{◌≡◌, ℕ, zero, suc, cond, ◌&&◌, nat_lt, replicate, ◌+◌, ◌*◌, ◌<◌, ◌≤◌, ◌==◌, Bool, true, false, List, [], ◌∷◌, length, set, get_or, slice_get, slice_set, Option, Some, None, is_some, option_and_then, option_map, unwrap_or, if◌then◌else◌, eqb, refl, sym, ap, ◌∙◌, subst, inl, inr, ◌⊎◌, arith}
use Rattle.std.specs.List.{sum_by, filter, filter_map, position, range_with_len}
use Rattle.std.proofs.lemmas.Bool.Decides.{nat_tests}
use Rattle.std.proofs.lemmas.List.Folds.{sum_by-replicate}
use Rattle.std.proofs.lemmas.Bool.{eq-eqb, ne_eqb, cases_eq}
use Rattle.std.proofs.lemmas.List.{length-replicate, get_or-replicate, length-set, get_or-set_same, get_or-set_other}
use Rattle.std.proofs.lemmas.List.Sums.{sum_by-set}
use Rattle.std.proofs.lemmas.Option.{unwrap_or-slice_get, same_Some}
use Rattle.xs_rawfile.specs.Raw.{Raw}
use Rattle.xs_rawfile.specs.Held.{Held, held, slot_in, drawing_in}
use Rattle.xs_chain.specs.Row.{Row, all_empty, list_with}
use Rattle.xs_chain.proofs.Lists.{position_none}
use Rattle.xs_base.specs.Listed.{is_listed}
use Rattle.xs_pixel.specs.Channels.{Channels}
use Rattle.xs_plan.specs.Record.{PlanRecord, entry_at, drawing_of}
use Rattle.xs_plan.specs.Sections.{first_section, sections_in}
use Rattle.xs_plan.specs.Needed.{needs_before, last_section_of}
use Rattle.xs_levels.specs.Table.{TableRecord}
use Rattle.xs_levels.specs.Films.{AreAsWritten}
use Rattle.xs_levels.specs.Stocked.{StockRecord, IsCounted, IsLess, IsStockOf, is_needed_from, raw_bytes, slot_bytes, held_bytes}

flat : {X : Type 0} (o : Option (Option X)) → option_and_then (λ slot. slot) o ≡ unwrap_or o None
flat None = refl
flat (Some slot) = refl

pub slot_is : (h : Held) (d : ℕ) → slot_in h d ≡ get_or h.slots d None
slot_is h d = flat (slice_get h.slots d) ∙ unwrap_or-slice_get h.slots d None

-- what is held once a slot was set
pub slot_set : (h : Held) (d e : ℕ) (slot : Option (Raw × Option ℕ)) → d < length h.slots
    → slot_in (held (slice_set h.slots d slot) h.palettes) e ≡ (if d == e then slot else slot_in h e)
slot_set h d e slot within =
    elim (cases_eq d e) [
      | inl same ↦
          subst (λ (x : ℕ). slot_in (held (slice_set h.slots d slot) h.palettes) x ≡ (if d == x then slot else slot_in h x)) same
          (slot_is (held (slice_set h.slots d slot) h.palettes) d
          ∙ (get_or-set_same h.slots d slot None within ∙ sym (ap (λ b. if b then slot else slot_in h d) (eq-eqb d d refl))))
      | inr apart ↦
          slot_is (held (slice_set h.slots d slot) h.palettes) e
          ∙ (get_or-set_other h.slots d e slot None (λ is. apart (sym is))
          ∙ (sym (slot_is h e) ∙ sym (ap (λ b. if b then slot else slot_in h e) (ne_eqb d e apart))))
    ]

-- the bytes that are held then
pub bytes_set : (h : Held) (d : ℕ) (slot : Option (Raw × Option ℕ)) → d < length h.slots
    → held_bytes (held (slice_set h.slots d slot) h.palettes) + slot_bytes (slot_in h d) ≡ held_bytes h + slot_bytes slot
bytes_set h d slot within =
    ap (λ s. held_bytes (held (slice_set h.slots d slot) h.palettes) + slot_bytes s) (slot_is h d)
    ∙ sum_by-set slot_bytes h.slots d slot None within

some_if : {X Y : Type 0} (b : Bool) (x x' : Option X) (y y' : Option Y) → is_some x ≡ is_some y → is_some x' ≡ is_some y'
    → is_some (if b then x else x') ≡ is_some (if b then y else y')
some_if true x x' y y' first second = first
some_if false x x' y y' first second = second

pub nothing_held : {X : Type 0} (o : Option X) → is_some o ≡ false → o ≡ None
nothing_held None is = refl
nothing_held (Some x) is = absurd (cc)

-- ---- a drawing more

pub counted_more : (before : StockRecord) (row : Row) (d : ℕ) (g : Raw) (palette : Option ℕ) (last : ℕ) → IsCounted before
    → d < length before.held.slots → list_with before.row d ≡ None → row.members ≡ before.row.members
    → ((e : ℕ) → list_with row e ≡ (if d == e then Some last else list_with before.row e))
    → before.bytes + raw_bytes g ≤ before.limit
    → IsCounted
    (record before {
      held = held (slice_set before.held.slots d (Some (g, palette))) before.held.palettes;
      row = row;
      bytes = before.bytes + raw_bytes g;
    })
counted_more before row d g palette last counted within free members listed few =
    let empty : slot_in before.held d ≡ None = nothing_held (slot_in before.held d) (counted.listed d ∙ ap is_some free) in
    let sums = bytes_set before.held d (Some (g, palette)) within in
    let was : slot_bytes (slot_in before.held d) ≡ 0 = ap slot_bytes empty in
    record {
      members = members ∙ (counted.members ∙ sym (length-set before.held.slots d (Some (g, palette))));
      listed = λ e.
          ap is_some (slot_set before.held d e (Some (g, palette)) within)
          ∙ (some_if (d == e) (Some (g, palette)) (slot_in before.held e) (Some last) (list_with before.row e) refl (counted.listed e)
          ∙ sym (ap is_some (listed e)));
      bytes = omega (arith, sums, was, counted.bytes);
      few = few;
    }

-- ---- a drawing less

pub counted_less : (before : StockRecord) (row : Row) (d bytes : ℕ) → IsCounted before → d < length before.held.slots
    → row.members ≡ before.row.members → ((e : ℕ) → list_with row e ≡ (if d == e then None else list_with before.row e))
    → bytes ≡ held_bytes (held (slice_set before.held.slots d None) before.held.palettes) → bytes ≤ before.bytes
    → IsCounted (record before { held = held (slice_set before.held.slots d None) before.held.palettes; row = row; bytes = bytes })
counted_less before row d bytes counted within members listed is fewer = record {
  members = members ∙ (counted.members ∙ sym (length-set before.held.slots d None));
  listed = λ e.
      ap is_some (slot_set before.held d e None within)
      ∙ (some_if {X = Raw × Option ℕ} {Y = ℕ} (d == e) None (slot_in before.held e) None (list_with before.row e) refl (counted.listed e)
      ∙ sym (ap is_some (listed e)));
  bytes = is;
  few = omega (arith, fewer, counted.few);
}

-- ---- drawings of a section are let go

pub less_none : (section : ℕ) (stock : StockRecord) → IsCounted stock → IsLess section stock stock
less_none section stock counted = record {
  counted = counted;
  slots = refl;
  palettes = refl;
  lists = refl;
  listed = λ d. inl refl;
  limit = refl;
  loaded = refl;
  ended = refl;
}

less_listed : (section : ℕ) (a b c : Option ℕ) → (b ≡ a) ⊎ ((a ≡ Some section) × (b ≡ None)) → (c ≡ b) ⊎ ((b ≡ Some section) × (c ≡ None))
    → (c ≡ a) ⊎ ((a ≡ Some section) × (c ≡ None))
less_listed section a b c (inl same) (inl again) = inl (again ∙ same)
less_listed section a b c (inl same) (inr gone) = inr (sym same ∙ gone.0, gone.1)
less_listed section a b c (inr gone) (inl again) = inr (gone.0, again ∙ gone.1)
less_listed section a b c (inr gone) (inr twice) = inr (gone.0, twice.1)

pub less_then : (section : ℕ) (a b c : StockRecord) → IsLess section a b → IsLess section b c → IsLess section a c
less_then section a b c first next = record {
  counted = next.counted;
  slots = next.slots ∙ first.slots;
  palettes = next.palettes ∙ first.palettes;
  lists = next.lists ∙ first.lists;
  listed = λ d. less_listed section (list_with a.row d) (list_with b.row d) (list_with c.row d) (first.listed d) (next.listed d);
  limit = next.limit ∙ first.limit;
  loaded = next.loaded ∙ first.loaded;
  ended = next.ended ∙ first.ended;
}

less_by : (section d e : ℕ) (b : Bool) (before : Row) (now : Option ℕ) → (d == e) ≡ b → list_with before d ≡ Some section
    → now ≡ (if b then None else list_with before e) → (now ≡ list_with before e) ⊎ ((list_with before e ≡ Some section) × (now ≡ None))
less_by section d e true before now same here is =
    elim (cases_eq d e) [
      | inl equal ↦ inr (ap (λ n. list_with before n) (sym equal) ∙ here, is)
      | inr apart ↦ let no : true ≡ false = sym same ∙ ne_eqb d e apart in absurd (cc)
    ]
less_by section d e false before now other here is = inl is

-- one drawing is let go
pub less_one : (section : ℕ) (before : StockRecord) (row : Row) (d bytes : ℕ) → IsCounted before → d < length before.held.slots
    → list_with before.row d ≡ Some section → row.members ≡ before.row.members → length row.lists ≡ length before.row.lists
    → ((e : ℕ) → list_with row e ≡ (if d == e then None else list_with before.row e))
    → bytes ≡ held_bytes (held (slice_set before.held.slots d None) before.held.palettes) → bytes ≤ before.bytes
    → IsLess section before
    (record before { held = held (slice_set before.held.slots d None) before.held.palettes; row = row; bytes = bytes })
less_one section before row d bytes counted within here members lists listed is fewer = record {
  counted = counted_less before row d bytes counted within members listed is fewer;
  slots = length-set before.held.slots d None;
  palettes = refl;
  lists = lists;
  listed = λ e. less_by section d e (d == e) before.row (list_with row e) refl here (listed e);
  limit = refl;
  loaded = refl;
  ended = refl;
}

-- ---- what one slot has

pub slot_within : (h : Held) (d : ℕ) → d < length h.slots → slot_bytes (slot_in h d) ≤ held_bytes h
slot_within h d within = let sums = bytes_set h d None within in omega (arith, sums)

pub bytes_some : (h : Held) (d : ℕ) (g : Raw) → drawing_in h d ≡ Some g → slot_bytes (slot_in h d) ≡ raw_bytes g
bytes_some h d g e = by_slot (slot_in h d) e
  where
    by_slot : (slot : Option (Raw × Option ℕ)) → option_map (λ slot. slot.0) slot ≡ Some g → slot_bytes slot ≡ raw_bytes g
    by_slot None e = absurd (cc)
    by_slot (Some slot) e = ap raw_bytes (same_Some slot.0 g e)

pub bytes_none : (h : Held) (d : ℕ) → drawing_in h d ≡ None → slot_bytes (slot_in h d) ≡ 0
bytes_none h d e = by_slot (slot_in h d) e
  where
    by_slot : (slot : Option (Raw × Option ℕ)) → option_map (λ slot. slot.0) slot ≡ None → slot_bytes slot ≡ 0
    by_slot None e = refl
    by_slot (Some slot) e = absurd (cc)

-- ---- nothing is held

none_at : (n d : ℕ) → get_or (replicate {A = Option (Raw × Option ℕ)} n None) d None ≡ None
none_at zero d = refl
none_at (suc n) zero = refl
none_at (suc n) (suc d) = none_at n d

none_in : (lists d : ℕ) → position (λ xs. is_listed xs d) (replicate lists []) ≡ None
none_in lists d =
    position_none (λ xs. is_listed xs d) (replicate lists [])
    (λ k lt. ap (λ xs. is_listed xs d) (get_or-replicate lists k [] [] (omega (arith, lt, length-replicate {A = List ℕ} lists []))))

pub counted_none : (count lists limit : ℕ) (palettes : List (List Channels))
    → IsCounted (record { held = held (replicate count None) palettes; row = all_empty count lists; limit = limit; bytes = 0; loaded = 0; ended = 0 })
counted_none count lists limit palettes = record {
  members = sym (length-replicate count None);
  listed = λ d. ap is_some (slot_is (held (replicate count None) palettes) d ∙ none_at count d) ∙ sym (ap is_some (none_in lists d));
  bytes = let sums = sum_by-replicate slot_bytes count None in omega (arith, sums);
  few = omega arith;
}

filter_none : (q : ℕ → Bool) → ((k : ℕ) → q k ≡ false) → (xs : List ℕ) → filter q xs ≡ []
filter_none q fails [] = refl
filter_none q fails (x ∷ xs) = ap (λ b. cond b (x ∷ filter q xs) (filter q xs)) (fails x) ∙ filter_none q fails xs

none_before : (p : PlanRecord) → needs_before p 0 ≡ []
none_before p =
    ap (filter_map (λ k. drawing_of (entry_at p.entries k).job))
    (filter_none (λ k. nat_lt (first_section p k) 0) (λ k. never (first_section p k)) (range_with_len 0 (length p.entries)))
  where
    never : (n : ℕ) → nat_lt n 0 ≡ false
    never n = grind (arith, nat_tests)

pub stock_none : (p : PlanRecord) (t : TableRecord) (limit : ℕ) (palettes : List (List Channels)) → length palettes ≡ length t.palettes
    → AreAsWritten palettes t
    → IsStockOf p t 0 (needs_before p 0)
    (record { held = held (replicate (length t.files) None) palettes; row = all_empty (length t.files) (sections_in p); limit = limit; bytes = 0; loaded = 0; ended = 0 })
stock_none p t limit palettes many shown = record {
  counted = counted_none (length t.files) (sections_in p) limit palettes;
  slots = length-replicate (length t.files) None;
  lists = length-replicate (sections_in p) [];
  palettes = many;
  as_written = shown;
  listed = λ d.
      none_in (sections_in p) d
      ∙ sym (ap (λ l. if is_listed l d && is_needed_from p 0 d then last_section_of p d else None) (none_before p));
}

-- The bytes that a stock holds before a section are those of the drawings that are held over into it.
use Rattle.std.proofs.Common.{◌≡◌, ℕ, suc, ◌+◌, ◌<◌, ◌&&◌, nat_le, Bool, true, false, List, [], ◌∷◌, length, get_or, slice_get, Option, Some, None, is_some, option_and_then, unwrap_or, if◌then◌else◌, refl, sym, ap, ap₂, ◌∙◌, arith}
use Rattle.std.specs.List.{sum_by, range_with_len}
use Rattle.std.specs.Option.{option_map_or}
use Rattle.std.proofs.lemmas.List.Sums.{sum_by-cons}
use Rattle.std.proofs.lemmas.Option.{unwrap_or-slice_get}
use Rattle.xs_base.specs.Listed.{is_listed}
use Rattle.xs_check.specs.Good.{files_of}
use Rattle.xs_levels.specs.Films.{Files}
use Rattle.xs_levels.specs.Stocked.{StockRecord, IsStock, list_of_drawing, slot_bytes}
use Rattle.xs_levels.specs.Table.{table_of}
use Rattle.xs_pixel.specs.Picture.{Pictures}
use Rattle.xs_plan.specs.Needed.{needs_before, last_section_of, picture_bytes}
use Rattle.xs_plan.specs.Record.{PlanRecord}
use Rattle.xs_rawfile.specs.Held.{Held, IsHeld, slot_in}
use Rattle.xs_rawfile.specs.Raw.{Raw}
use Rattle.xs_scene.specs.Records.{SceneRecord}
use Rattle.xs_top.specs.Drawings.{pictures_of, bytes_of, is_held_over, bytes_held_over}

abbrev Slot : Type 0
Slot = Option (Raw × Option ℕ)

-- a sum over slots is one over their numbers
sum_numbered : (slots : List Slot) (from : ℕ) (f : ℕ → ℕ) → ((d : ℕ) → d < length slots → slot_bytes (get_or slots d None) ≡ f (from + d))
    → sum_by slot_bytes slots ≡ sum_by f (range_with_len from (length slots))
sum_numbered [] from f each = refl
sum_numbered (slot ∷ slots) from f each =
    let here : from + 0 ≡ from = omega arith in
    let first : slot_bytes slot ≡ f from = each 0 (omega arith) ∙ ap f here in
    let rest : (d : ℕ) → d < length slots → slot_bytes (get_or slots d None) ≡ f ((from + 1) + d) = λ d within.
    let next : from + suc d ≡ (from + 1) + d = omega arith in
    each (suc d) (omega arith) ∙ ap f next in
    sum_by-cons slot_bytes slot slots
    ∙ (ap₂ (λ a b. a + b) first (sum_numbered slots (from + 1) f rest) ∙ sym (sum_by-cons f from (range_with_len (from + 1) (length slots))))

-- a drawing is in a list where it is known and its last section is there and not over
listed_over : (known : Bool) (last : Option ℕ) (n : ℕ)
    → is_some (if known && option_map_or (λ l. nat_le n l) last true then last else None)
    ≡ (known && option_map_or (λ l. nat_le n l) last false)
listed_over false last n = refl
listed_over true None n = refl
listed_over true (Some l) n =
    elim (nat_le n l) as (λ t. is_some (if t then Some l else None) ≡ t) [
      | true ↦ refl
      | false ↦ refl
    ]

slot_there : (o : Option Slot) (slot : Raw × Option ℕ) → option_and_then (λ s. s) o ≡ Some slot → o ≡ Some (Some slot)
slot_there None slot e = absurd cc
slot_there (Some None) slot e = absurd cc
slot_there (Some (Some other)) slot e = ap Some e

slot_counts : (pictures : Pictures) (h : Held) (d : ℕ) (slot : Slot) (over : Bool) → IsHeld (Some pictures) h → slot_in h d ≡ slot
    → is_some slot ≡ over → slot_bytes slot ≡ (if over then picture_bytes (pictures d) else 0)
slot_counts pictures h d None over held is same = rw (← same) refl
slot_counts pictures h d (Some (g, palette)) over held is same =
    let there : slice_get h.slots d ≡ Some (Some (g, palette)) = slot_there (slice_get h.slots d) (g, palette) is in
    let shown = held.filmed pictures refl d g palette there in
    rw (← same, shown) refl

flat : (o : Option Slot) → option_and_then (λ s. s) o ≡ unwrap_or o None
flat None = refl
flat (Some slot) = refl

slot_is : (h : Held) (d : ℕ) → slot_in h d ≡ get_or h.slots d None
slot_is h d = flat (slice_get h.slots d) ∙ unwrap_or-slice_get h.slots d None

module _ (files : Files) (s : SceneRecord) (p : PlanRecord) (n : ℕ) (stock : StockRecord) (is : IsStock p (table_of s) stock)
    (loaded : stock.loaded ≡ n) (ended : stock.ended ≡ n) (held : IsHeld (Some (pictures_of files s)) stock.held) where
  some_over : (d : ℕ) → is_some (slot_in stock.held d) ≡ is_held_over p n d
  some_over d =
      let of = is.stock in
      of.counted.listed d
      ∙ (ap is_some (of.listed d)
      ∙ (ap₂ (λ over known. is_some (list_of_drawing p over (needs_before p known) d)) ended loaded
      ∙ listed_over (is_listed (needs_before p n) d) (last_section_of p d) n))

  counts_at : (d : ℕ) → slot_bytes (get_or stock.held.slots d None) ≡ (if is_held_over p n d then bytes_of files s d else 0)
  counts_at d =
      ap slot_bytes (sym (slot_is stock.held d))
      ∙ slot_counts (pictures_of files s) stock.held d (slot_in stock.held d) (is_held_over p n d) held refl (some_over d)

  pub bytes_over : (table_of s).files ≡ files_of s.levels → stock.bytes ≡ bytes_held_over files s p n
  unfolding bytes_held_over
  bytes_over same =
      let each : (d : ℕ) → d < length stock.held.slots
      → slot_bytes (get_or stock.held.slots d None) ≡ (if is_held_over p n (0 + d) then bytes_of files s (0 + d) else 0) = λ d within.
      let here : 0 + d ≡ d = omega arith in
      rw here (counts_at d) in
      is.stock.counted.bytes
      ∙ (sum_numbered stock.held.slots 0 (λ d. if is_held_over p n d then bytes_of files s d else 0) each
      ∙ ap (λ count. sum_by (λ d. if is_held_over p n d then bytes_of files s d else 0) (range_with_len 0 count)) (is.stock.slots ∙ ap length same))

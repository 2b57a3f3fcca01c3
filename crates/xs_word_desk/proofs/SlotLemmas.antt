-- Lemmas on the slots that a seat has out
use Rattle.std.proofs.Common.{◌≡◌, ℕ, Some, None, List, [], ◌∷◌, ap, sym, ◌∙◌}
use Rattle.atomic_table.specs.Table.{rest}
use Rattle.xs_raster.specs.declared.tile.Tile.{Tile}
use Rattle.xs_word_desk.specs.Rule.{Slot}

abbrev first_slot : List (ℕ × Slot) → Slot
first_slot [] = None
first_slot (x ∷ xs) = x.1

abbrev tile_or : Tile → Slot → Tile
tile_or d None = d
tile_or d (Some t) = t

-- the slot that the seat took last is one
pub same_tile :
    (l m n : List (ℕ × Slot)) (k : ℕ) (a : Slot) (t u : Tile) → l ≡ (k, a) ∷ m → a ≡ Some t → l ≡ (k, Some u) ∷ n → t ≡ u
same_tile l m n k a t u one is two = ap (tile_or t) (sym is ∙ ap first_slot (sym one ∙ two))

-- a seat with one slot out, as `exchange` wants it
pub with_rest :
    (l : List (ℕ × Slot)) (k : ℕ) (a : Slot) → l ≡ (k, a) ∷ [] → l ≡ (k, a) ∷ rest l
with_rest l k a is = is ∙ ap (λ (m : List (ℕ × Slot)). (k, a) ∷ m) (sym (ap rest is))

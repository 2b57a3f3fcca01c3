-- Keys and cells stand apart where they share no row.
use Rattle.std.specs.Prelude.{◌≤◌, ◌↔◌, ℕ, refl}
use Rattle.std.proofs.Math.Nat.{le_refl, le_trans, le_antisymm}
use Rattle.std.proofs.Common.{subst}
use Rattle.xs_scene.specs.Records.{PegKeyRecord, StyleKeyRecord, ExposureRecord}
use Rattle.xs_index.specs.Apart.{AreApart, DifferInRow, DifferInRowOrStyle, ShareNoRow}

pub peg_keys_told : (a b : PegKeyRecord) → DifferInRow a b ↔ ShareNoRow (λ (k : PegKeyRecord). 0) (λ k. k.row) (λ k. k.row) a b
unfolding ShareNoRow
peg_keys_told a b = (
  λ differ group row after_a before_a after_b before_b.
      differ (le_antisymm (le_trans after_a before_b) (le_trans after_b before_a)),
  λ apart same.
      apart refl a.row (le_refl a.row) (le_refl a.row) (subst (λ (n : ℕ). n ≤ a.row) same (le_refl a.row))
      (subst (λ (n : ℕ). a.row ≤ n) same (le_refl a.row)),
)

-- keys of one style are a group
pub style_keys_told : (a b : StyleKeyRecord) → DifferInRowOrStyle a b ↔ ShareNoRow (λ (k : StyleKeyRecord). k.style) (λ k. k.row) (λ k. k.row) a b
unfolding ShareNoRow
style_keys_told a b = (
  λ differ style row after_a before_a after_b before_b.
      differ style (le_antisymm (le_trans after_a before_b) (le_trans after_b before_a)),
  λ apart style same.
      apart style a.row (le_refl a.row) (le_refl a.row) (subst (λ (n : ℕ). n ≤ a.row) same (le_refl a.row))
      (subst (λ (n : ℕ). a.row ≤ n) same (le_refl a.row)),
)

pub cells_told : (a b : ExposureRecord) → AreApart a b ↔ ShareNoRow (λ (e : ExposureRecord). 0) (λ e. e.from) (λ e. e.to) a b
unfolding ShareNoRow
cells_told a b = (λ apart group. apart, λ apart. apart refl)

-- The aliases of a tile of a row, one after another
use Rattle.std.proofs.Common.{◌≡◌, ◌<◌, ◌≤◌, ◌+◌, ◌-◌, ◌*◌, ℕ, List, [], ◌∷◌, ◌++◌, length, slice_get, refl, sym, ap, ◌∙◌, subst, arith}
use Rattle.std.proofs.lemmas.List.{length_push}
use Rattle.xs_rect.specs.Area.{Area}
use Rattle.xs_meaning.specs.Expressions.{Expr}
use Rattle.xs_plan.specs.Record.{Entry}
use Rattle.xs_plan.specs.Draft.{Draft, LacksRoots, with_entry}
use Rattle.xs_demand.specs.Blocks.{Spread, enter, enter_rows, new_of, number_on}
use Rattle.xs_entered.proofs.Adding.{count_adds}
use Rattle.xs_dryrun.specs.declared.rows.Rows.{Rows}
use Rattle.xs_dryrun.specs.Filling.{Filling, IsNext, AddsNext}
use Rattle.xs_dryrun.specs.Tile.{IsAtTile, AddsOnly, FilledTo}
use Rattle.xs_dryrun.proofs.Numbering.{enter_rows-push, number_new}

-- the number of a new expression on a tile
pub number_in_tile :
    (drawings : ℕ) (roots : List Expr) (e : Expr) (l : List Spread) (rows : Rows) (d : Draft) (j t : ℕ)
    → Filling drawings (roots ++ e ∷ []) l rows d → length (enter_rows roots []) ≤ j → j < length l
    → number_on (length d.plan.tiles) (roots ++ e ∷ []) [] j t
    ≡ length d.plan.tiles * length (enter_rows roots [])
    + (t * (length l - length (enter_rows roots [])) + (j - length (enter_rows roots [])))
number_in_tile drawings roots e l rows d j t filling behind within =
    let held = enter_rows roots [] in
    let all : length l ≡ length (enter e 0 held) = ap length (filling.entered ∙ enter_rows-push roots e []) in
    let new : length (new_of e held) ≡ length l - length held = omega (arith, count_adds e 0 held, all) in
    number_new (length d.plan.tiles) roots e j t behind (omega (arith, all))
    ∙ ap (λ (n : ℕ). length d.plan.tiles * length held + (t * n + (j - length held))) new

module _
    (old : Draft) (l : List Spread) (rows : Rows) (before t : ℕ) (area : Area) where
  pub filled_none : FilledTo old l rows before before t area old
  filled_none = record {
    only = refl;
    fills = λ drawings roots e at. (at.filling, at.filled ∙ omega arith);
  }

  pub lacks : (mid : Draft) → AddsOnly old mid → LacksRoots old → LacksRoots mid
  lacks mid only lacking = subst LacksRoots (sym only) lacking

  pub is_next :
      (mid : Draft) (j : ℕ) → FilledTo old l rows before j t area mid → before ≤ j → j < length l
      → (drawings : ℕ) (roots : List Expr) (e : Expr) → IsAtTile drawings roots e l rows old before t area
      → IsNext drawings (roots ++ e ∷ []) l rows mid j t area
  is_next mid j filled behind within drawings roots e at =
      let so_far = filled.fills drawings roots e at in
      let number = number_in_tile drawings roots e l rows mid j t so_far.0 (omega (arith, at.start)) within in
      record {
        filling = so_far.0;
        there = within;
        on = ap (λ (d : Draft). slice_get d.plan.tiles t) filled.only ∙ at.on;
        next =
            so_far.1
            ∙ ap (λ (n : ℕ). length mid.plan.tiles * n + (t * (length l - n) + (j - n))) at.start
            ∙ sym number;
      }

  pub filled_more :
      (mid new : Draft) (j : ℕ) → FilledTo old l rows before j t area mid → before ≤ j → j < length l
      → AddsNext mid new l rows j t area → FilledTo old l rows before (j + 1) t area new
  filled_more mid new j filled behind within more =
      let entries : new.plan.entries ≡ mid.plan.entries ++ more.entry ∷ [] = ap (λ (d : Draft). d.plan.entries) more.added in
      let long : length new.plan.entries ≡ length mid.plan.entries + 1 =
      ap length entries ∙ length_push mid.plan.entries more.entry in
      let tiles : length new.plan.tiles ≡ length mid.plan.tiles = ap (λ (d : Draft). length d.plan.tiles) more.added in
      record {
        only =
            more.added ∙ ap (λ (d : Draft). with_entry d more.entry) filled.only
            ∙ ap (λ (m : List Entry). record old { plan = record old.plan { entries = m } }) (sym entries);
        fills = λ drawings roots e at.
            let so_far = filled.fills drawings roots e at in (
              more.fills drawings (roots ++ e ∷ []) (is_next mid j filled behind within drawings roots e at),
              long ∙ ap (λ (n : ℕ). n + 1) so_far.1
                  ∙ ap (λ (n : ℕ). n * before + (t * (length l - before) + (j - before)) + 1) (sym tiles)
                  ∙ omega arith,
            );
      }

-- What is known where a row is tried
use Rattle.std.proofs.Common.{◌≡◌, ◌++◌, ℕ, None, Some, Option, List, [], ◌∷◌, length, refl, ap, ◌∙◌, subst, arith}
use Rattle.std.specs.Option.{option_map}
use Rattle.xs_meaning.specs.Expressions.{Expr}
use Rattle.xs_plan.specs.Draft.{Draft}
use Rattle.xs_demand.specs.Blocks.{Spread, enter, enter_rows}
use Rattle.xs_demand.specs.Limits.{Limit, first_limit}
use Rattle.xs_demand.proofs.FitLemmas.{all_fits}
use Rattle.xs_dryrun.specs.declared.limits.Counts.{Counts}
use Rattle.xs_dryrun.specs.declared.rows.Rows.{Rows}
use Rattle.xs_dryrun.specs.Passing.{what_of, AreCounts, IsRowOf}
use Rattle.xs_dryrun.specs.Planned.{Planned, IsEntered, IsNextRow}

pub no_limit : (l : Option Limit) → option_map what_of l ≡ None → l ≡ None
no_limit None none = refl
no_limit (Some x) none = cc

module _
    (drawings : ℕ) (roots : List Expr) (e : Expr) (was now : List Spread) (rows : Rows) (old : Draft) (root row : ℕ) (counts : Counts)
    (planned : Planned drawings roots was rows old) (next : IsNextRow drawings roots e was now root row counts old) where
  pub is_row_of : (n : ℕ) (after : Counts) → n ≡ length old.plan.tiles → AreCounts now after → IsRowOf old.plan.tiles roots e n row counts after
  is_row_of n after many counted =
      let entered : now ≡ enter e 0 (enter_rows roots []) =
      next.is ∙ ap (λ (l : List Spread). enter e 0 l) planned.filling.entered in
      record {
        apart = planned.filling.frame.apart;
        many = many;
        place = next.place;
        reach = next.near;
        counted_before = subst (λ (l : List Spread). AreCounts l counts) planned.filling.entered next.counted;
        counted_after = subst (λ (l : List Spread). AreCounts l after) entered counted;
      }

  pub is_entered : first_limit old.plan.tiles (roots ++ e ∷ []) ≡ None → IsEntered drawings roots e was now root old
  is_entered none =
      record {
        is = next.is;
        is_root = next.is_root;
        fit = next.fit;
        near = next.near;
        few = (all_fits old.plan.tiles (roots ++ e ∷ []) (omega (arith, planned.some)) none).1;
        room = next.room;
      }

-- The first limit of rows, when a row is added
use Rattle.std.proofs.Common.{◌≡◌, ◌<◌, ◌+◌, ◌-◌, ◌*◌, ℕ, Bool, true, false, if◌then◌else◌, Option, Some, None, List, [], ◌∷◌, ◌++◌, length, take, refl, sym, ap, ap₂, ◌∙◌, subst, IfSome, inl, inr, arith}
use Rattle.std.specs.Prelude.{nat_lt}
use Rattle.std.specs.Option.{option_map}
use Rattle.std.proofs.lemmas.Bool.{cases_lt, le-ltb, cond-false}
use Rattle.std.proofs.lemmas.List.{get_or_append_left, take-append-le}
use Rattle.xs_rect.specs.Area.{Area}
use Rattle.xs_meaning.specs.Expressions.{Expr, Clear, reach_of}
use Rattle.xs_plan.specs.declared.limits.TheConstants.{MOST_ALIASES, MOST_READS, FARTHEST_REACH}
use Rattle.xs_demand.specs.Aliases.{inputs_in, visit_tiles, visit_rows}
use Rattle.xs_demand.specs.Blocks.{enter_rows, new_of, inputs_entered}
use Rattle.xs_demand.specs.Limits.{Limit, Reach, Aliases, Reads, root_in, aliases_through, limit_at, first_limit, NonePassed}
use Rattle.xs_demand.proofs.BlockNumbers.{length-through, inputs_in-through}
use Rattle.xs_demand.proofs.LimitLemmas.{none_passed, none_is_first, passed_is_first}
use Rattle.xs_entered.proofs.Adding.{count_adds, inputs_add}
use Rattle.xs_dryrun.specs.declared.limits.Counts.{Counts}
use Rattle.xs_dryrun.specs.declared.limits.What.{What}
use Rattle.xs_dryrun.specs.declared.limits.What.TheVariants as what
use Rattle.xs_dryrun.specs.Passing.{what_of, through, passed_by, IsRowOf, PassedOn}
use Rattle.xs_dryrun.proofs.Numbering.{take_before, root_in-push, length-push}

-- ---- the row's own tiles

told : (b c : Bool)
    → option_map what_of (if b then Some Aliases else if c then Some Reads else None)
    ≡ (if b then Some what.Aliases else if c then Some what.Reads else None)
told true c = refl
told false true = refl
told false false = refl

module _
    (areas : List Area) (roots : List Expr) (e : Expr) (tiles row : ℕ) (before after : Counts)
    (is : IsRowOf areas roots e tiles row before after) where
  abbrev all : List Expr
  all = roots ++ e ∷ []

  aliases_are : (tile : ℕ) → tile < tiles → length (aliases_through areas all (length roots) tile) ≡ through tiles tile before.spreads after.spreads
  aliases_are tile among =
      let count : length (new_of e (enter_rows roots [])) ≡ after.spreads - before.spreads =
      omega (arith, count_adds e 0 (enter_rows roots []), is.counted_before.spreads, is.counted_after.spreads) in
      length-through areas all (length roots) tile is.apart (omega (arith, is.many))
      ∙ ap₂ (λ (l : List Expr) (r : Expr). length areas * length (enter_rows l []) + (tile + 1) * length (new_of r (enter_rows l [])))
      (take_before roots e) (root_in-push roots e)
      ∙ ap₂ (λ (n m : ℕ). n * m + (tile + 1) * length (new_of e (enter_rows roots []))) (sym is.many) (sym is.counted_before.spreads)
      ∙ ap (λ (n : ℕ). tiles * before.spreads + (tile + 1) * n) count

  inputs_are : (tile : ℕ) → tile < tiles → inputs_in (aliases_through areas all (length roots) tile) ≡ through tiles tile before.inputs after.inputs
  inputs_are tile among =
      let count : inputs_entered (new_of e (enter_rows roots [])) ≡ after.inputs - before.inputs =
      omega (arith, inputs_add e 0 (enter_rows roots []), is.counted_before.inputs, is.counted_after.inputs) in
      inputs_in-through areas all (length roots) tile is.apart (omega (arith, is.many))
      ∙ ap₂ (λ (l : List Expr) (r : Expr). length areas * inputs_entered (enter_rows l []) + (tile + 1) * inputs_entered (new_of r (enter_rows l [])))
      (take_before roots e) (root_in-push roots e)
      ∙ ap₂ (λ (n m : ℕ). n * m + (tile + 1) * inputs_entered (new_of e (enter_rows roots []))) (sym is.many) (sym is.counted_before.inputs)
      ∙ ap (λ (n : ℕ). tiles * before.inputs + (tile + 1) * n) count

  visited_are : (tile : ℕ) → length roots * length areas + tile + 1 ≡ row * tiles + tile + 1
  visited_are tile = ap₂ (λ (r n : ℕ). r * n + tile + 1) (sym is.place) (sym is.many)

  abbrev passing : ℕ → ℕ → ℕ → Option Limit
  passing r a n =
      if nat_lt FARTHEST_REACH r
      then Some Reach
      else if nat_lt MOST_ALIASES a then Some Aliases else if nat_lt MOST_READS n then Some Reads else None

  near : (a n : ℕ) → passing (reach_of e) a n ≡ (if nat_lt MOST_ALIASES a then Some Aliases else if nat_lt MOST_READS n then Some Reads else None)
  near a n =
      cond-false (nat_lt FARTHEST_REACH (reach_of e)) (Some Reach)
      (if nat_lt MOST_ALIASES a then Some Aliases else if nat_lt MOST_READS n then Some Reads else None)
      (le-ltb FARTHEST_REACH (reach_of e) is.reach)

  on_tile : (tile : ℕ) → tile < tiles → option_map what_of (limit_at areas all (length roots) tile) ≡ passed_by tiles row before after tile
  on_tile tile among =
      let aliases = through tiles tile before.spreads after.spreads in
      let reads = through tiles tile before.inputs after.inputs + (row * tiles + tile + 1) in
      let root : passing (reach_of (root_in all (length roots))) (length (aliases_through areas all (length roots) tile))
      (inputs_in (aliases_through areas all (length roots) tile) + (length roots * length areas + tile + 1))
      ≡ passing (reach_of e) aliases reads =
      ap (λ (r : Expr). passing (reach_of r) (length (aliases_through areas all (length roots) tile))
      (inputs_in (aliases_through areas all (length roots) tile) + (length roots * length areas + tile + 1))) (root_in-push roots e)
      ∙ ap₂ (passing (reach_of e)) (aliases_are tile among) (ap₂ (λ (m n : ℕ). m + n) (inputs_are tile among) (visited_are tile)) in
      ap (option_map what_of) (root ∙ near aliases reads)
      ∙ told (nat_lt MOST_ALIASES aliases) (nat_lt MOST_READS reads)

  -- ---- the rows before it

  before_it : (earlier tile : ℕ) → earlier < length roots → limit_at areas all earlier tile ≡ limit_at areas roots earlier tile
  unfolding aliases_through
  before_it earlier tile here =
      ap₂ (λ (r : Expr) (l : List Expr).
      passing (reach_of r) (length (visit_tiles r (take (tile + 1) areas) (visit_rows areas l [])))
      (inputs_in (visit_tiles r (take (tile + 1) areas) (visit_rows areas l [])) + (earlier * length areas + tile + 1)))
      (get_or_append_left roots (e ∷ []) Clear earlier here) (take-append-le earlier roots (e ∷ []) (omega arith))

  is_none : (l : Option Limit) → option_map what_of l ≡ None → l ≡ None
  is_none None none = refl
  is_none (Some x) none = cc

  none_before : NonePassed areas roots → (earlier tile : ℕ) → earlier < length roots → tile < length areas → limit_at areas all earlier tile ≡ None
  none_before none earlier tile here among = before_it earlier tile here ∙ none earlier tile here among

  pub none_here :
      first_limit areas roots ≡ None → ((tile : ℕ) → tile < tiles → passed_by tiles row before after tile ≡ None)
      → first_limit areas all ≡ None
  none_here none on =
      none_is_first areas all
      (λ at tile there among. elim (cases_lt at (length roots)) [
        | inl here ↦ none_before (none_passed areas roots none) at tile here among
        | inr past ↦
            let last : length roots ≡ at = omega (arith, length-push roots e) in
            subst (λ (r : ℕ). limit_at areas all r tile ≡ None) last
            (is_none (limit_at areas all (length roots) tile)
            (on_tile tile (omega (arith, is.many)) ∙ on tile (omega (arith, is.many))))
      ])

  limit_told : (l : Option Limit) (w : What) → option_map what_of l ≡ Some w → (what : Limit) × (l ≡ Some what) × (what_of what ≡ w)
  limit_told None w some = cc
  limit_told (Some x) w some = (x, refl, cc)

  pub some_here :
      (w : What) → first_limit areas roots ≡ None → PassedOn tiles row before after w
      → option_map what_of (first_limit areas all) ≡ Some w
  some_here w none on =
      let limit = limit_told (limit_at areas all (length roots) on.tile) w (on_tile on.tile on.among ∙ on.passed) in
      let first : first_limit areas all ≡ Some limit.0 =
      passed_is_first areas all limit.0
      (record {
        row = length roots;
        tile = on.tile;
        there = omega (arith, length-push roots e);
        among = omega (arith, is.many, on.among);
        passed = limit.1;
        before_row = none_before (none_passed areas roots none);
        before_tile =
            λ other earlier. is_none (limit_at areas all (length roots) other)
            (on_tile other (omega (arith, on.among)) ∙ on.earlier other earlier);
      }) in
      ap (option_map what_of) first ∙ ap (λ (x : What). Some x) limit.2

  pub first_here :
      (found : Option What) → first_limit areas roots ≡ None
      → (found ≡ None → (tile : ℕ) → tile < tiles → passed_by tiles row before after tile ≡ None)
      → ((w : What) → found ≡ Some w → PassedOn tiles row before after w)
      → option_map what_of (first_limit areas all) ≡ found
  first_here None none clear some = ap (option_map what_of) (none_here none (clear refl))
  first_here (Some w) none clear some = some_here w none (some w refl)

-- ---- found tile by tile

pub some_on :
    (found : Option What) (tiles row : ℕ) (before after : Counts) (tile : ℕ) → tile < tiles
    → found ≡ passed_by tiles row before after tile → ((other : ℕ) → other < tile → passed_by tiles row before after other ≡ None)
    → IfSome found (PassedOn tiles row before after)
some_on None tiles row before after tile among is earlier = tt
some_on (Some w) tiles row before after tile among is earlier =
    record { tile = tile; among = among; passed = sym is; earlier = earlier }

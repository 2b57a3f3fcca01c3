-- What is known where a row is added
use Rattle.std.proofs.Common.{◌≡◌, ◌≤◌, ◌*◌, ◌++◌, ℕ, zero, suc, List, [], ◌∷◌, length, take, sym, ap, ◌∙◌, subst, arith}
use Rattle.std.proofs.Math.Nat.{suc-mul}
use Rattle.std.proofs.lemmas.List.{length-map}
use Rattle.xs_meaning.specs.Expressions.{Expr}
use Rattle.xs_tint.specs.Tints.{tint_of}
use Rattle.xs_plan.specs.Draft.{Draft}
use Rattle.xs_demand.specs.Blocks.{Spread, enter, enter_rows}
use Rattle.xs_demand.specs.Shown.{tints_shown}
use Rattle.xs_demand.proofs.BlockNumbers.{length-aliases}
use Rattle.xs_entered.specs.Entered.{tints_entered}
use Rattle.xs_entered.proofs.Adding.{count_adds, tints_grow}
use Rattle.xs_dryrun.specs.declared.rows.Rows.{Rows}
use Rattle.xs_dryrun.specs.Numbers.{AreNumbers}
use Rattle.xs_dryrun.specs.Planned.{Planned, AddsTints, IsEntered}
use Rattle.xs_dryrun.proofs.Numbering.{enter_rows-push}
use Rattle.xs_dryrun.proofs.RowTints.{tints_before}

pub few_where_some : (n count : ℕ) → 1 ≤ n → n * count ≤ 4194304 → count ≤ 4194304
few_where_some zero count some room = absurd (omega arith)
few_where_some (suc n) count some room = omega (arith, suc-mul n count)

module _
    (drawings : ℕ) (roots : List Expr) (e : Expr) (was now : List Spread) (rows : Rows) (old : Draft) (root : ℕ)
    (planned : Planned drawings roots was rows old) (is : IsEntered drawings roots e was now root old) where
  pub firsts_are : length rows.firsts.items ≡ length was
  firsts_are = planned.filling.numbers.firsts_many ∙ sym (ap length planned.filling.entered)

  pub more : length was ≤ length now
  more = omega (arith, count_adds e 0 was, ap length is.is)

  entered : enter e 0 (enter_rows roots []) ≡ now
  entered = ap (λ (l : List Spread). enter e 0 l) (sym planned.filling.entered) ∙ sym is.is

  pub room : length old.plan.tiles * length now ≤ 4194304
  room =
      let count : length old.plan.tiles * length (enter_rows (roots ++ e ∷ []) []) ≡ length old.plan.tiles * length now =
      ap (λ (l : List Spread). length old.plan.tiles * length l) (enter_rows-push roots e [] ∙ entered) in
      omega (arith, is.few, length-aliases old.plan.tiles (roots ++ e ∷ []) planned.filling.frame.apart, count)

  tints_are : length old.plan.tints ≡ length (tints_entered was)
  tints_are = sym (length-map old.plan.tints tint_of) ∙ ap length planned.filling.tints

  pub tints_from : tints_shown old.plan ≡ take (length old.plan.tints) (tints_entered now)
  tints_from =
      planned.filling.tints ∙ sym (tints_before e was)
      ∙ ap (λ (n : ℕ). take n (tints_entered (enter e 0 was))) (sym tints_are)
      ∙ ap (λ (l : List Spread). take (length old.plan.tints) (tints_entered l)) (sym is.is)

  pub tints_more : length old.plan.tints ≤ length (tints_entered now)
  tints_more = omega (arith, tints_are, tints_grow e 0 was, ap (λ (l : List Spread). length (tints_entered l)) is.is)

  pub numbers_are :
      (n count : ℕ) (d : Draft) (firsts strides : List ℕ) → n ≡ length old.plan.tiles → AddsTints old d → count ≡ length now
      → ((roots : List Expr) (e : Expr) → AreNumbers n roots rows.firsts.items rows.strides.items
      → count ≡ length (enter e 0 (enter_rows roots [])) → AreNumbers n (roots ++ e ∷ []) firsts strides)
      → AreNumbers (length d.plan.tiles) (roots ++ e ∷ []) firsts strides
  numbers_are n count d firsts strides many only is_count adds =
      let tiles : n ≡ length d.plan.tiles = many ∙ ap (λ (x : Draft). length x.plan.tiles) (sym only) in
      subst (λ (k : ℕ). AreNumbers k (roots ++ e ∷ []) firsts strides) tiles
      (adds roots e (subst (λ (k : ℕ). AreNumbers k roots rows.firsts.items rows.strides.items) (sym many) planned.filling.numbers)
      (is_count ∙ ap length (sym entered)))

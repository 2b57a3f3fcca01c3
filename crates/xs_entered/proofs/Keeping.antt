-- What was entered stays where it is
use Rattle.std.proofs.Common.{◌≡◌, ◌<◌, ◌≤◌, ℕ, List, ◌++◌, length, drop, slice_get, sym, ap, ◌∙◌, arith, length-append}
use Rattle.std.proofs.lemmas.List.{get_or_append_left}
use Rattle.std.proofs.lemmas.Option.{slice_get-get_or}
use Rattle.xs_meaning.specs.Expressions.{Expr, Clear}
use Rattle.xs_demand.specs.Blocks.{Spread, spread, enter, Enters}
use Rattle.xs_demand.proofs.BlockVisits.{entered_new}
use Rattle.xs_demand.proofs.PlaceLemmas.{place-append}
use Rattle.xs_entered.specs.Entered.{spread_at}

grows : (old new : List Spread) (e : Expr) (g n : ℕ) → Enters old new e g n → new ≡ old ++ drop (length old) (enter e g old)
grows old new e g n entered = entered.now ∙ entered_new e g old

pub enter_keeps :
    (old new : List Spread) (e : Expr) (g n m : ℕ) → Enters old new e g n → m < length old
    → slice_get new m ≡ slice_get old m
enter_keeps old new e g n m entered here =
    let there = slice_get-get_or old m (spread Clear 0) here in
    ap (λ l. slice_get l m) (grows old new e g n entered)
    ∙ place-append old (drop (length old) (enter e g old)) m _ there ∙ sym there

pub enter_spreads :
    (old new : List Spread) (e : Expr) (g n m : ℕ) → Enters old new e g n → m < length old
    → spread_at new m ≡ spread_at old m
enter_spreads old new e g n m entered here =
    ap (λ l. spread_at l m) (grows old new e g n entered)
    ∙ get_or_append_left old (drop (length old) (enter e g old)) (spread Clear 0) m here

pub enter_more : (old new : List Spread) (e : Expr) (g n : ℕ) → Enters old new e g n → length old ≤ length new
enter_more old new e g n entered =
    omega (arith, ap length (grows old new e g n entered), length-append old (drop (length old) (enter e g old)))

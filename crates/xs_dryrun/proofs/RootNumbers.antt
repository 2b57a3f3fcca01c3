-- The numbers of roots among what was entered
use Rattle.std.proofs.Common.{◌≡◌, ◌<◌, ◌++◌, ℕ, Result, Ok, Err, OnOk, List, [], ◌∷◌, All, length, drop, map, refl, ap, ap₂, ◌∙◌, arith, length-append}
use Rattle.std.proofs.lemmas.List.{get_or_append_left, map-append}
use Rattle.std.proofs.lemmas.List.Elements.{All-head, All-tail, All-push}
use Rattle.std.proofs.lemmas.Option.{get_or_from_slice_get, slice_get_within}
use Rattle.xs_meaning.specs.Expressions.{Expr, Clear}
use Rattle.xs_demand.specs.Blocks.{Spread, spread, Enters, enter}
use Rattle.xs_demand.proofs.BlockVisits.{entered_new}
use Rattle.xs_build.specs.States.{expr_at}
use Rattle.xs_dryrun.specs.declared.limits.PlanFault.{PlanFault}
use Rattle.xs_dryrun.specs.Planned.{AreRoots}

pub on_any : (r : Result (Unit {0}) PlanFault) (P : Type 0) → P → OnOk r P
on_any (Ok x) P p = p
on_any (Err fault) P p = tt

same_exprs :
    (was now : List Spread) → ((n : ℕ) → n < length was → expr_at now n ≡ expr_at was n) → (numbers : List ℕ)
    → All (λ n. n < length was) numbers → map (expr_at now) numbers ≡ map (expr_at was) numbers
same_exprs was now same [] there = refl
same_exprs was now same (n ∷ numbers) there =
    ap₂ (λ (x : Expr) (l : List Expr). x ∷ l) (same n (All-head (λ (n : ℕ). n < length was) n numbers there))
    (same_exprs was now same numbers (All-tail (λ (n : ℕ). n < length was) n numbers there))

-- one root more was entered
pub root_kept :
    (was now : List Spread) (e : Expr) (root : ℕ) → Enters was now e 0 root → (numbers : List ℕ) (roots : List Expr)
    → AreRoots was numbers roots → AreRoots now (numbers ++ root ∷ []) (roots ++ e ∷ [])
root_kept was now e root enters numbers roots held =
    let more = drop (length was) (enter e 0 was) in
    let long : now ≡ was ++ more = enters.now ∙ entered_new e 0 was in
    let kept : (n : ℕ) → n < length was → expr_at now n ≡ expr_at was n =
    λ n here.
    ap (λ (l : List Spread). expr_at l n) long
    ∙ ap (λ (x : Spread). x.expr) (get_or_append_left was more (spread Clear 0) n here) in
    let last : expr_at now root ≡ e =
    ap (λ (x : Spread). x.expr) (get_or_from_slice_get now root (spread e 0) (spread Clear 0) enters.at) in
    record {
      there =
          All-push (λ (n : ℕ). n < length now) numbers root
          (λ k n here. let below = held.there k n here in omega (arith, ap length long, length-append was more))
          (slice_get_within now root (spread e 0) enters.at);
      are =
          map-append (expr_at now) numbers (root ∷ [])
          ∙ ap₂ (λ (x y : List Expr). x ++ y) (same_exprs was now kept numbers held.there ∙ held.are) (ap (λ (x : Expr). x ∷ []) last);
    }

-- The tints of a row
use Rattle.std.proofs.Common.{◌≡◌, ◌<◌, ◌≤◌, ◌+◌, ◌++◌, ℕ, zero, suc, Some, List, [], ◌∷◌, length, map, take, slice_get, refl, sym, ap, ap₂, ◌∙◌, arith}
use Rattle.std.proofs.lemmas.List.{map-append, length-map, length-take}
use Rattle.xs_pixel.specs.Channels.{Channels}
use Rattle.xs_meaning.specs.Expressions.{Expr}
use Rattle.xs_tint.specs.Tints.{tint_of}
use Rattle.xs_plan.specs.Draft.{Draft, with_tint}
use Rattle.xs_demand.specs.Blocks.{Spread, enter}
use Rattle.xs_demand.specs.Shown.{tints_shown}
use Rattle.xs_entered.specs.Entered.{tints_entered}
use Rattle.xs_entered.proofs.Adding.{tints_keep, tints_grow}
use Rattle.xs_dryrun.specs.Planned.{AddsTints}
use Rattle.xs_dryrun.proofs.NextEntry.{some_same}

take_one : (xs : List (List Channels)) (t : ℕ) (x : List Channels) → slice_get xs t ≡ Some x → take (suc t) xs ≡ take t xs ++ x ∷ []
take_one [] t x at = cc
take_one (y ∷ xs) zero x at = ap (λ (z : List Channels). z ∷ []) (some_same y x at)
take_one (y ∷ xs) (suc t) x at = ap (λ (l : List (List Channels)). y ∷ l) (take_one xs t x at)

taken_by_places :
    (xs ys : List (List Channels)) → ((t : ℕ) → t < length xs → slice_get ys t ≡ slice_get xs t) → length xs ≤ length ys
    → take (length xs) ys ≡ xs
taken_by_places [] ys same few = refl
taken_by_places (x ∷ xs) [] same few = absurd (omega arith)
taken_by_places (x ∷ xs) (y ∷ ys) same few =
    ap₂ (λ (z : List Channels) (l : List (List Channels)). z ∷ l) (some_same y x (same 0 (omega arith)))
    (taken_by_places xs ys (λ t below. same (suc t) (omega arith)) (omega arith))

-- the tints of what was entered come first
pub tints_before : (e : Expr) (was : List Spread) → take (length (tints_entered was)) (tints_entered (enter e 0 was)) ≡ tints_entered was
tints_before e was =
    taken_by_places (tints_entered was) (tints_entered (enter e 0 was)) (λ t below. tints_keep e 0 t was below) (tints_grow e 0 was)

-- so many tints of what was entered are there
pub record AddsTo (old : Draft) (l : List Spread) (from t : ℕ) (new : Draft) : Type 0 where
  pub least : from ≤ t
  pub only : AddsTints old new
  pub shown : tints_shown new.plan ≡ take t (tints_entered l)

pub one_tint_more :
    (old : Draft) (l : List Spread) (from t : ℕ) (mid new : Draft) (p : List Channels) → AddsTo old l from t mid
    → slice_get (tints_entered l) t ≡ Some (tint_of p) → new ≡ with_tint mid p → AddsTo old l from (t + 1) new
one_tint_more old l from t mid new p so_far at is =
    let tints : new.plan.tints ≡ mid.plan.tints ++ p ∷ [] = ap (λ (d : Draft). d.plan.tints) is in
    let one : suc t ≡ t + 1 = omega arith in
    record {
      least = omega (arith, so_far.least);
      only =
          is ∙ ap (λ (d : Draft). with_tint d p) so_far.only
          ∙ ap (λ (ts : List (List Channels)). record old { plan = record old.plan { tints = ts } }) (sym tints);
      shown =
          ap (map tint_of) tints ∙ map-append tint_of mid.plan.tints (p ∷ [])
          ∙ ap (λ (ts : List (List Channels)). ts ++ tint_of p ∷ []) so_far.shown
          ∙ sym (take_one (tints_entered l) t (tint_of p) at)
          ∙ ap (λ (n : ℕ). take n (tints_entered l)) one;
    }

pub tints_few : (old : Draft) (l : List Spread) (from t : ℕ) (mid : Draft) → AddsTo old l from t mid → length mid.plan.tints ≤ t
tints_few old l from t mid so_far =
    omega (arith, length-map mid.plan.tints tint_of, ap length so_far.shown, length-take t (tints_entered l))

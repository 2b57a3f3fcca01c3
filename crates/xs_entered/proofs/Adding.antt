-- What is entered adds to what was there
use Rattle.std.proofs.Common.{◌≡◌, ◌<◌, ◌≤◌, ◌+◌, ℕ, true, false, if◌then◌else◌, Some, None, List, [], ◌∷◌, ◌++◌, length, map, fold, drop, slice_get, sym, ap, ◌∙◌, arith, append_assoc, length-append}
use Rattle.std.specs.List.{list_any, filter_map, cons_option}
use Rattle.std.proofs.lemmas.List.{append-nil, length_push, length-map, map-append}
use Rattle.std.proofs.lemmas.List.Elements.{filter_map-append}
use Rattle.std.proofs.lemmas.List.Sums.{fold-append, sum_by-append}
use Rattle.std.proofs.lemmas.Option.{slice_get-get_or}
use Rattle.xs_pixel.specs.Channels.{Channels}
use Rattle.xs_meaning.specs.Expressions.{Expr}
use Rattle.xs_meaning.specs.Palettes.{same_pixels}
use Rattle.xs_demand.specs.Blocks.{Spread, enter, inputs_under, inputs_entered}
use Rattle.xs_demand.specs.Shown.{tint_in, with_tint, tints_in}
use Rattle.xs_demand.proofs.BlockVisits.{entered_new}
use Rattle.xs_demand.proofs.PlaceLemmas.{place-append}
use Rattle.xs_entered.specs.Entered.{tints_entered}

-- ---- counts

pub count_adds : (e : Expr) (g : ℕ) (l : List Spread) → length (enter e g l) ≡ length l + length (drop (length l) (enter e g l))
count_adds e g l = ap length (entered_new e g l) ∙ length-append l (drop (length l) (enter e g l))

pub inputs_add :
    (e : Expr) (g : ℕ) (l : List Spread)
    → inputs_entered (enter e g l) ≡ inputs_entered l + inputs_entered (drop (length l) (enter e g l))
inputs_add e g l =
    ap inputs_entered (entered_new e g l)
    ∙ sum_by-append (λ (x : Spread). length (inputs_under x.expr x.growth)) l (drop (length l) (enter e g l))

-- ---- tints

-- tints that are taken in come last
abbrev Grows : List (List Channels) → List (List Channels) → List (List Channels) → Type 0
Grows all more grown = (later : List (List Channels)) × (fold with_tint grown more ≡ all ++ later)

takes : (all more : List (List Channels)) → Grows all more all
takes all [] = ([], sym (append-nil all))
takes all (tint ∷ more) =
    let old = takes all more in
    let new = takes (all ++ tint ∷ []) more in
    elim (list_any (same_pixels tint) all) as (λ b. Grows all more (if b then all else all ++ tint ∷ [])) [
      | true ↦ old
      | false ↦ (tint ∷ new.0, new.1 ∙ append_assoc all (tint ∷ []) new.0)
    ]

tints_entered-append :
    (l more : List Spread) → (later : List (List Channels)) × (tints_entered (l ++ more) ≡ tints_entered l ++ later)
tints_entered-append l more =
    let step = takes (tints_entered l) (filter_map tint_in (map (λ (x : Spread). x.expr) more)) in (
      step.0,
      ap tints_in (map-append (λ (x : Spread). x.expr) l more)
          ∙ ap (fold with_tint []) (filter_map-append tint_in (map (λ (x : Spread). x.expr) l) (map (λ (x : Spread). x.expr) more))
          ∙ fold-append with_tint [] (filter_map tint_in (map (λ (x : Spread). x.expr) l)) (filter_map tint_in (map (λ (x : Spread). x.expr) more))
          ∙ step.1,
    )

pub tints_keep :
    (e : Expr) (g t : ℕ) (l : List Spread) → t < length (tints_entered l)
    → slice_get (tints_entered (enter e g l)) t ≡ slice_get (tints_entered l) t
tints_keep e g t l here =
    let grown = tints_entered-append l (drop (length l) (enter e g l)) in
    let there = slice_get-get_or (tints_entered l) t [] here in
    ap (λ m. slice_get (tints_entered m) t) (entered_new e g l)
    ∙ ap (λ m. slice_get m t) grown.1
    ∙ place-append (tints_entered l) grown.0 t _ there ∙ sym there

pub tints_grow : (e : Expr) (g : ℕ) (l : List Spread) → length (tints_entered l) ≤ length (tints_entered (enter e g l))
tints_grow e g l =
    let grown = tints_entered-append l (drop (length l) (enter e g l)) in
    let all : length (tints_entered (enter e g l)) ≡ length (tints_entered l ++ grown.0) =
    ap (λ m. length (tints_entered m)) (entered_new e g l) ∙ ap length grown.1 in
    omega (arith, length-append (tints_entered l) grown.0)

takes_few : (more all : List (List Channels)) → length (fold with_tint all more) ≤ length all + length more
takes_few [] all = omega arith
takes_few (tint ∷ more) all =
    let old = takes_few more all in
    let new = takes_few more (all ++ tint ∷ []) in
    elim (list_any (same_pixels tint) all)
    as (λ b. length (fold with_tint (if b then all else all ++ tint ∷ []) more) ≤ length all + length (tint ∷ more)) [
      | true ↦ omega arith
      | false ↦ omega (arith, length_push all tint)
    ]

tinted_few : (exprs : List Expr) → length (filter_map tint_in exprs) ≤ length exprs
tinted_few [] = omega arith
tinted_few (e ∷ exprs) =
    let rest = tinted_few exprs in
    elim (tint_in e) as (λ found. length (cons_option found (filter_map tint_in exprs)) ≤ length (e ∷ exprs)) [
      | None ↦ omega arith
      | Some tint ↦ omega arith
    ]

pub tints_few : (l : List Spread) → length (tints_entered l) ≤ length l
tints_few l =
    omega (
      arith,
      takes_few (filter_map tint_in (map (λ (x : Spread). x.expr) l)) [],
      tinted_few (map (λ (x : Spread). x.expr) l),
      length-map l (λ (x : Spread). x.expr),
    )

-- What is known of the next row
use Rattle.std.proofs.Common.{◌≡◌, ◌<◌, ◌≤◌, ◌+◌, ◌*◌, ◌++◌, ℕ, None, Some, Result, Err, List, [], ◌∷◌, All, length, refl, sym, ap, ap₂, ◌∙◌, subst, take, arith}
use Rattle.std.specs.Option.{option_map}
use Rattle.std.proofs.lemmas.Bool.{cond-true, lt-ltb}
use Rattle.std.proofs.lemmas.List.{get_or_append_left, take-append-le, length-map}
use Rattle.std.proofs.lemmas.List.Elements.{All-get_or}
use Rattle.std.proofs.lemmas.Option.{slice_get_within}
use Rattle.xs_rect.specs.Area.{Area}
use Rattle.xs_meaning.specs.Expressions.{Expr, Clear, reach_of}
use Rattle.xs_tint.specs.Tints.{tint_of}
use Rattle.xs_plan.specs.declared.limits.TheConstants.{MOST_ALIASES, FARTHEST_REACH}
use Rattle.xs_plan.specs.Draft.{Draft}
use Rattle.xs_demand.specs.Aliases.{visit_tiles, visit_rows}
use Rattle.xs_demand.specs.Blocks.{Spread, spread, Enters, enter, enter_rows, inputs_entered}
use Rattle.xs_demand.specs.Fit.{IsFit}
use Rattle.xs_demand.specs.Limits.{Reach, root_in, aliases_through, limit_passed, limit_at, first_limit}
use Rattle.xs_demand.proofs.BlockNumbers.{length-aliases}
use Rattle.xs_demand.proofs.LimitLemmas.{none_passed, passed_is_first, by_reach}
use Rattle.xs_entered.specs.Entered.{tints_entered}
use Rattle.xs_entered.proofs.Adding.{count_adds, inputs_add}
use Rattle.xs_build.specs.States.{named}
use Rattle.xs_dryrun.specs.declared.limits.Counts.{Counts}
use Rattle.xs_dryrun.specs.declared.limits.What.{What}
use Rattle.xs_dryrun.specs.declared.limits.What.TheVariants as what
use Rattle.xs_dryrun.specs.declared.limits.PlanFault.{PlanFault}
use Rattle.xs_dryrun.specs.declared.limits.PlanFault.TheVariants.{Limit}
use Rattle.xs_dryrun.specs.declared.rows.Rows.{Rows}
use Rattle.xs_dryrun.specs.Passing.{what_of, greatest_of, through, AreCounts}
use Rattle.xs_dryrun.specs.Planned.{IsNextRow, TriesRow}
use Rattle.xs_dryrun.specs.Trying.{MayFollow, TriesRoot}
use Rattle.xs_dryrun.proofs.Numbering.{root_in-push, length-push, on_ok_both}
use Rattle.xs_dryrun.proofs.RowLimits.{some_here}

-- ---- a root that looks too far

limit_before :
    (areas : List Area) (roots : List Expr) (e : Expr) (earlier tile : ℕ) → earlier < length roots
    → limit_at areas (roots ++ e ∷ []) earlier tile ≡ limit_at areas roots earlier tile
unfolding aliases_through
limit_before areas roots e earlier tile here =
    ap₂ (λ (r : Expr) (l : List Expr).
    limit_passed r (visit_tiles r (take (tile + 1) areas) (visit_rows areas l [])) (earlier * length areas + tile + 1))
    (get_or_append_left roots (e ∷ []) Clear earlier here) (take-append-le earlier roots (e ∷ []) (omega arith))

pub too_far :
    (areas : List Area) (roots : List Expr) (e : Expr) → 1 ≤ length areas → first_limit areas roots ≡ None → FARTHEST_REACH < reach_of e
    → first_limit areas (roots ++ e ∷ []) ≡ Some Reach
too_far areas roots e some none far =
    let all = roots ++ e ∷ [] in
    let root : FARTHEST_REACH < reach_of (root_in all (length roots)) =
    subst (λ (r : Expr). FARTHEST_REACH < reach_of r) (sym (root_in-push roots e)) far in
    passed_is_first areas all Reach
    (record {
      row = length roots;
      tile = 0;
      there = omega (arith, length-push roots e);
      among = omega (arith, some);
      passed =
          (by_reach (root_in all (length roots)) (aliases_through areas all (length roots) 0) (length roots * length areas + 0 + 1)).1 root;
      before_row =
          λ earlier other here among. limit_before areas roots e earlier other here ∙ none_passed areas roots none earlier other here among;
      before_tile = λ other earlier. absurd (omega arith);
    })

-- ---- what may be entered

name_below : (drawings : ℕ) (names : List ℕ) → All (λ name. name < drawings) names → (d : ℕ) → d < length names → named names d < drawings
name_below drawings names all d within = All-get_or (λ name. name < drawings) names d 0 within all

module _
    (drawings : ℕ) (roots : List Expr) (names : List ℕ) (row : ℕ) (was : List Spread) (rows : Rows) (old : Draft)
    (follow : MayFollow drawings roots names row was rows old) where
  pub room_before : length old.plan.tiles * length was ≤ 4194304
  room_before =
      let f = follow.planned.filling in
      omega (
        arith,
        f.few,
        length-aliases old.plan.tiles roots f.frame.apart,
        ap (λ (l : List Spread). length old.plan.tiles * length l) f.entered,
      )

  pub tints_many : length old.plan.tints ≡ length (tints_entered was)
  tints_many = sym (length-map old.plan.tints tint_of) ∙ ap length follow.planned.filling.tints

  pub next_row :
      (e : Expr) (now : List Spread) (root : ℕ) (counts : Counts) → Enters was now e 0 root → IsFit drawings e
      → reach_of e ≤ FARTHEST_REACH → AreCounts was counts → IsNextRow drawings roots e was now root row counts old
  next_row e now root counts enters fit near counted =
      record {
        is = enters.now;
        is_root = enters.at;
        fit = fit;
        near = near;
        room = follow.room;
        place = follow.place;
        counted = counted;
        none = follow.none;
      }

  pub fit_named :
      (count : ℕ) (e : Expr) → length names ≡ count
      → ((named' : ℕ) → ((d : ℕ) → d < count → named names d < named') → IsFit named' e) → IsFit drawings e
  fit_named count e many keeps = keeps drawings (λ d within. name_below drawings names follow.named d (omega (arith, many)))

  pub too_many :
      (e : Expr) (counts : Counts) (most : ℕ) → reach_of e ≤ FARTHEST_REACH → AreCounts was counts
      → most + length old.plan.tiles * counts.spreads ≡ MOST_ALIASES + counts.spreads → most < length (enter e 0 was)
      → option_map what_of (first_limit old.plan.tiles (roots ++ e ∷ [])) ≡ Some what.Aliases
  too_many e counts most near counted is full =
      let f = follow.planned.filling in
      let entered = sym f.entered in
      let n = length old.plan.tiles in
      let now = enter e 0 (enter_rows roots []) in
      let after : Counts = record { spreads = length now; inputs = inputs_entered now } in
      let more : MOST_ALIASES < through n 0 counts.spreads after.spreads =
      omega (
        arith,
        is,
        full,
        counted.spreads,
        count_adds e 0 was,
        ap (λ (l : List Spread). length (enter e 0 l)) f.entered,
      ) in
      some_here old.plan.tiles roots e n row counts after
      (record {
        apart = f.frame.apart;
        many = refl;
        place = follow.place;
        reach = near;
        counted_before = subst (λ (l : List Spread). AreCounts l counts) f.entered counted;
        counted_after = record { spreads = refl; inputs = refl };
      })
      what.Aliases follow.none
      (record {
        tile = 0;
        among = omega (arith, follow.planned.some);
        passed = cond-true _ _ _ (lt-ltb MOST_ALIASES (through n 0 counts.spreads after.spreads) more);
        earlier = λ other earlier. absurd (omega arith);
      })

  pub reach_passed :
      (e : Expr) → FARTHEST_REACH < reach_of e → option_map what_of (first_limit old.plan.tiles (roots ++ e ∷ [])) ≡ Some what.Reach
  reach_passed e far = ap (option_map what_of) (too_far old.plan.tiles roots e follow.planned.some follow.none far)

-- ---- what is answered

told :
    (w what : What) (limit : ℕ) (fault : PlanFault) (r : Result (Unit {0}) PlanFault) → r ≡ Err fault → fault ≡ Limit w (greatest_of w)
    → r ≡ Err (Limit what limit) → (w ≡ what) × (limit ≡ greatest_of what)
told w what limit fault r refused is same =
    let which : w ≡ what = cc in
    let number : limit ≡ greatest_of w = cc in (which, number ∙ ap greatest_of which)

pub limit_told :
    (old new : Draft) (rows later : Rows) (was now : List Spread) (names : List ℕ) (row : ℕ) (e : Expr) (w : What) (fault : PlanFault)
    → fault ≡ Limit w (greatest_of w)
    → ((drawings : ℕ) (roots : List Expr) → MayFollow drawings roots names row was rows old
    → option_map what_of (first_limit old.plan.tiles (roots ++ e ∷ [])) ≡ Some w)
    → TriesRoot old new rows later was now names row e (Err fault)
limit_told old new rows later was now names row e w fault is passed =
    record {
      planned = tt;
      limited = λ what limit same drawings roots follow.
          let is = told w what limit fault (Err fault) refl is same in
          (passed drawings roots follow ∙ ap (λ (x : What). Some x) is.0, is.1);
    }

pub tried :
    (old new : Draft) (rows later : Rows) (was now : List Spread) (names : List ℕ) (row root : ℕ) (counts : Counts) (e : Expr)
    (r : Result (Unit {0}) PlanFault) → TriesRow old new rows later now root row counts r
    → ((drawings : ℕ) (roots : List Expr) → MayFollow drawings roots names row was rows old
    → IsNextRow drawings roots e was now root row counts old)
    → TriesRoot old new rows later was now names row e r
tried old new rows later was now names row root counts e r tries next =
    record {
      planned =
          on_ok_both r _ _ _
          (λ all also drawings roots follow. all drawings roots e was follow.planned (next drawings roots follow)) tries.planned tries.planned;
      limited = λ what limit same drawings roots follow.
          tries.limited what limit same drawings roots e was follow.planned (next drawings roots follow);
    }

pub counts_grow :
    (was now : List Spread) (e : Expr) (root : ℕ) (counts : Counts) → Enters was now e 0 root → AreCounts was counts
    → (counts.spreads ≤ length now) × (counts.inputs ≤ inputs_entered now)
counts_grow was now e root counts enters counted = (
  omega (arith, counted.spreads, count_adds e 0 was, ap length enters.now),
  omega (arith, counted.inputs, inputs_add e 0 was, ap inputs_entered enters.now),
)

pub entered_within : (was now : List Spread) (e : Expr) (root : ℕ) → Enters was now e 0 root → root < length now
entered_within was now e root enters = slice_get_within now root (spread e 0) enters.at

-- The root of a row on a tile reaches what the tile has gained
use Rattle.std.proofs.Common.{◌≡◌, ◌<◌, ◌≤◌, ◌+◌, ◌-◌, ◌*◌, ◌++◌, ℕ, zero, suc, Some, List, [], ◌∷◌, Contains, length, take, drop, slice_get, refl, sym, ap, ap₂, ◌∙◌, subst, inl, inr, arith}
use Rattle.std.specs.List.{AllZip}
use Rattle.std.proofs.Math.Nat.{suc-mul}
use Rattle.std.proofs.lemmas.Bool.{cases_lt}
use Rattle.std.proofs.lemmas.List.{take-append-drop}
use Rattle.std.proofs.lemmas.Option.{slice_get-get_or, slice_get_within}
use Rattle.xs_pixel.specs.Channels.{Channels}
use Rattle.xs_rect.specs.Area.{Area}
use Rattle.xs_meaning.specs.Expressions.{Expr, Clear}
use Rattle.xs_plan.specs.Record.{Entry, no_entry, entry_at}
use Rattle.xs_plan.specs.Valid.{Leads as EntryLeads}
use Rattle.xs_plan.specs.Draft.{Draft, ReachesNew, next_tile}
use Rattle.xs_demand.specs.Aliases.{Alias, alias, inputs_of, visit, visit_tiles, visit_rows, aliases_of, Leads, Reaches}
use Rattle.xs_demand.specs.Blocks.{Spread, spread, alias_on, enter, enter_rows, new_of, number_on, GrowApart}
use Rattle.xs_demand.specs.Limits.{aliases_through}
use Rattle.xs_demand.specs.Shown.{StandsAt, tints_shown}
use Rattle.xs_demand.proofs.BlockNumbers.{length-through, length-aliases, numbers_in_blocks}
use Rattle.xs_demand.proofs.ClosedLists.{ungrown_alias}
use Rattle.xs_demand.proofs.PlaceLemmas.{same_place, only, none_in_nil, head_or_tail, Contains-head, Contains-tail, before_or_behind}
use Rattle.xs_demand.proofs.ReachLemmas.{aliases_founded, aliases_apart}
use Rattle.xs_demand.proofs.VisitLemmas.{visits, visits_tiles, visit_tiles-append, visit_rows-append}
use Rattle.xs_entered.proofs.Adding.{count_adds}
use Rattle.xs_entered.specs.Entered.{spread_at}
use Rattle.xs_dryrun.specs.declared.rows.Rows.{Rows}
use Rattle.xs_dryrun.specs.Filling.{number_at, MayTell, Shows, Filling}
use Rattle.xs_dryrun.specs.Tile.{FilledTo, IsRowAt}
use Rattle.xs_dryrun.proofs.Numbering.{enter_rows-push, take_before, root_in-push, number_kept, number_new}
use Rattle.xs_dryrun.proofs.NextEntry.{some_same, number, stands, may_tell}

-- ---- ways

zip_at :
    (R : Alias → ℕ → Type 0) (xs : List Alias) (ks : List ℕ) → AllZip R xs ks → (x : Alias) → Contains xs x
    → (k : ℕ) × Contains ks k × R x k
zip_at R [] [] zip x among = none_in_nil x among
zip_at R [] (k ∷ ks) zip x among = absurd zip
zip_at R (y ∷ xs) [] zip x among = absurd zip
zip_at R (y ∷ xs) (k ∷ ks) zip x among =
    elim (head_or_tail y xs x among) [
      | inl first ↦ (k, Contains-head k ks, subst (λ (z : Alias). R z k) first zip.0)
      | inr last ↦ let by = zip_at R xs ks zip.1 x last in (by.0, Contains-tail k ks by.0 by.1, by.2)
    ]

led :
    (areas : List Area) (roots : List Expr) (tints : List (List Channels)) (entries : List Entry)
    → ((k : ℕ) (e : Entry) → slice_get entries k ≡ Some e → Shows (aliases_of areas roots) tints k e)
    → (steps : ℕ) (x y : Alias) (k m : ℕ) → StandsAt (aliases_of areas roots) x k → k < length entries
    → StandsAt (aliases_of areas roots) y m → Leads steps x y → EntryLeads entries steps k m
unfolding Leads EntryLeads
led areas roots tints entries each zero x y k m at below to way =
    same_place (aliases_of areas roots) (aliases_apart areas roots) k m y (at ∙ ap (λ (z : Alias). Some z) way) to
led areas roots tints entries each (suc steps) x y k m at below to way =
    let all = aliases_of areas roots in
    let shown = each k (entry_at entries k) (slice_get-get_or entries k no_entry below) in
    let same : shown.of ≡ x = some_same shown.of x (sym shown.stands ∙ at) in
    let zip : AllZip (StandsAt all) (inputs_of x) (entry_at entries k).inputs =
    subst (λ (z : Alias). AllZip (StandsAt all) (inputs_of z) (entry_at entries k).inputs) same shown.shows.inputs in
    let read = zip_at (StandsAt all) (inputs_of x) (entry_at entries k).inputs zip way.0 way.1 in
    let before = aliases_founded areas roots x k at way.0 way.1 in
    let place : before.0 ≡ read.0 = same_place all (aliases_apart areas roots) before.0 read.0 way.0 before.2 read.2 in
    (read.0, read.1, led areas roots tints entries each steps way.0 y read.0 m read.2 (omega (arith, place, before.1)) to way.2)

-- ---- what a tile gains

pub take_next : (xs : List Area) (t : ℕ) (x : Area) → slice_get xs t ≡ Some x → take (suc t) xs ≡ take t xs ++ x ∷ []
take_next [] t x at = cc
take_next (y ∷ xs) zero x at = ap (λ (z : Area). z ∷ []) (some_same y x at)
take_next (y ∷ xs) (suc t) x at = ap (λ (l : List Area). y ∷ l) (take_next xs t x at)

module _ (areas : List Area) (roots : List Expr) (e : Expr) (apart : GrowApart areas) where
  abbrev held : List Spread
  held = enter_rows roots []

  -- the aliases before the row, and on its tiles before one
  abbrev earlier : ℕ → List Alias
  earlier t = visit_tiles e (take t areas) (visit_rows areas roots [])

  length-through_row :
      (t : ℕ) → t < length areas → length (earlier (t + 1)) ≡ length areas * length held + (t + 1) * length (new_of e held)
  unfolding aliases_through
  length-through_row t among =
      let all = roots ++ e ∷ [] in
      ap₂ (λ (r : Expr) (m : List Expr). length (visit_tiles r (take (t + 1) areas) (visit_rows areas m [])))
      (sym (root_in-push roots e)) (sym (take_before roots e))
      ∙ length-through areas all (length roots) t apart among
      ∙ ap₂ (λ (r : Expr) (m : List Expr). length areas * length (enter_rows m []) + (t + 1) * length (new_of r (enter_rows m [])))
      (root_in-push roots e) (take_before roots e)

  length-earlier : (t : ℕ) → t ≤ length areas → length (earlier t) ≡ length areas * length held + t * length (new_of e held)
  unfolding aliases_of
  length-earlier zero among = length-aliases areas roots apart ∙ omega arith
  length-earlier (suc t) among =
      let next : suc t ≡ t + 1 = omega arith in
      ap (λ (n : ℕ). length (earlier n)) next ∙ length-through_row t (omega arith)
      ∙ ap (λ (n : ℕ). length areas * length held + n * length (new_of e held)) (sym next)

  all_are : (t : ℕ) → visit_tiles e (drop t areas) (earlier t) ≡ aliases_of areas (roots ++ e ∷ [])
  unfolding aliases_of
  all_are t =
      sym (visit_tiles-append e (take t areas) (drop t areas) (visit_rows areas roots []))
      ∙ ap (λ (m : List Area). visit_tiles e m (visit_rows areas roots [])) (take-append-drop t areas)
      ∙ sym (visit_rows-append areas roots (e ∷ []) [])

  -- what stands behind the earlier tiles and before the later ones, the root reaches on the tile
  gained :
      (t : ℕ) (area : Area) → slice_get areas t ≡ Some area → (j : ℕ) (y : Alias)
      → StandsAt (aliases_of areas (roots ++ e ∷ [])) y j
      → length areas * length held + t * length (new_of e held) ≤ j
      → j < length areas * length held + (t + 1) * length (new_of e held) → Reaches (alias e area) y
  gained t area on j y at least below =
      let among = slice_get_within areas t area on in
      let before = earlier t in
      let v = visits e area before in
      let next : earlier (suc t) ≡ visit e area before =
      ap (λ (m : List Area). visit_tiles e m (visit_rows areas roots [])) (take_next areas t area on)
      ∙ visit_tiles-append e (take t areas) (area ∷ []) (visit_rows areas roots []) in
      let one : suc t ≡ t + 1 = omega arith in
      let long : length (visit e area before) ≡ length areas * length held + (t + 1) * length (new_of e held) =
      ap length (sym next) ∙ length-earlier (suc t) (omega arith)
      ∙ ap (λ (n : ℕ). length areas * length held + n * length (new_of e held)) one in
      let short = length-earlier t (omega arith) in
      let w = visits_tiles e (drop (suc t) areas) (earlier (suc t)) in
      let whole : aliases_of areas (roots ++ e ∷ []) ≡ visit e area before ++ w.added =
      sym (all_are (suc t)) ∙ w.is ∙ ap (λ (m : List Alias). m ++ w.added) next in
      elim (before_or_behind (visit e area before) w.added j y (ap (λ (m : List Alias). slice_get m j) (sym whole) ∙ at)) [
        | inr past ↦ absurd (omega (arith, past.0, long))
        | inl here ↦
            elim (before_or_behind before v.added j y (ap (λ (m : List Alias). slice_get m j) (sym v.is) ∙ here)) [
              | inl old ↦ absurd (omega (arith, slice_get_within before j y old, short))
              | inr new ↦
                  let by = v.reached y new.1 in
                  subst (λ (x : Alias). Reaches x y) (sym (only (alias e area) by.0 by.1)) by.2
            ]
      ]

-- ---- the root of a tile

module _
    (drawings : ℕ) (roots : List Expr) (e : Expr) (old : Draft) (l : List Spread) (rows : Rows) (before t root : ℕ) (area : Area)
    (filled : Draft) (is : IsRowAt drawings roots e l rows old before t root area)
    (aliases : FilledTo old l rows before (length l) t area filled) where
  abbrev all : List Expr
  all = roots ++ e ∷ []

  fills : Filling drawings all l rows filled
  fills = (aliases.fills drawings roots e is.at).0

  on : slice_get filled.plan.tiles t ≡ Some area
  on = ap (λ (d : Draft). slice_get d.plan.tiles t) aliases.only ∙ is.at.on

  pub tells : MayTell rows (length l) t
  tells = may_tell drawings all l rows filled t area fills on

  entered : length l ≡ length (enter e 0 (enter_rows roots []))
  entered = ap length (fills.entered ∙ enter_rows-push roots e [])

  new : length (new_of e (enter_rows roots [])) ≡ length l - before
  new = omega (arith, count_adds e 0 (enter_rows roots []), entered, is.at.start)

  more : before ≤ length l
  more = omega (arith, count_adds e 0 (enter_rows roots []), entered, is.at.start)

  length-filled : length filled.plan.entries ≡ length filled.plan.tiles * before + (t + 1) * (length l - before)
  length-filled =
      (aliases.fills drawings roots e is.at).1
      ∙ omega (arith, suc-mul t (length l - before), ap (λ (n : ℕ). n * (length l - before)) (add_one t))
    where
      add_one : (n : ℕ) → suc n ≡ n + 1
      add_one n = omega arith

  within : root < length l
  within = slice_get_within l root (spread e 0) is.is_root

  root_spread : spread_at l root ≡ spread e 0
  root_spread = some_same (spread_at l root) (spread e 0) (sym (slice_get-get_or l root (spread Clear 0) within) ∙ is.is_root)

  pub root_stands : StandsAt (aliases_of filled.plan.tiles all) (alias e area) (number_at rows root t)
  root_stands =
      stands drawings all l rows filled t area fills on root within
      ∙ ap (λ (x : Spread). Some (alias_on area x)) root_spread
      ∙ ap (λ (x : Alias). Some x) (ungrown_alias area (spread e 0) refl)

  pub root_there : number_at rows root t < length filled.plan.entries
  root_there =
      let n = length filled.plan.tiles in
      let is_number = number drawings all l rows filled t area fills on root within in
      elim (cases_lt root before) [
        | inl earlier ↦
            let under : root < length (enter_rows roots []) = omega (arith, is.at.start) in
            let there = slice_get-get_or (enter_rows roots []) root (spread Clear 0) under in
            let kept = number_kept n roots e [] root t (omega arith) under in
            let stood = numbers_in_blocks filled.plan.tiles roots root t area (spread_at (enter_rows roots []) root) fills.frame.apart on there in
            let below = slice_get_within (aliases_of filled.plan.tiles roots) (number_on n roots [] root t) _ stood in
            let count : length (aliases_of filled.plan.tiles roots) ≡ n * before =
            length-aliases filled.plan.tiles roots fills.frame.apart ∙ ap (λ (k : ℕ). n * k) (sym is.at.start) in
            omega (arith, is_number, kept, below, count, length-filled)
        | inr later ↦
            let is_new = number_new n roots e root t (omega (arith, is.at.start)) (omega (arith, entered, within)) in
            let same : n * length (enter_rows roots []) + (t * length (new_of e (enter_rows roots [])) + (root - length (enter_rows roots [])))
            ≡ n * before + (t * (length l - before) + (root - before)) =
            ap₂ (λ (a b : ℕ). n * a + (t * b + (root - a))) (sym is.at.start) new in
            omega (arith, is_number, is_new, same, within, (aliases.fills drawings roots e is.at).1)
      ]

  pub root_on_tile : slice_get filled.plan.tiles (next_tile filled) ≡ Some (entry_at filled.plan.entries (number_at rows root t)).rect
  root_on_tile =
      let k = number_at rows root t in
      let tile : next_tile filled ≡ t = ap next_tile aliases.only ∙ is.tile_is_next in
      let shown = fills.entries k (entry_at filled.plan.entries k) (slice_get-get_or filled.plan.entries k no_entry root_there) in
      let same : shown.of ≡ alias e area = some_same shown.of (alias e area) (sym shown.stands ∙ root_stands) in
      ap (slice_get filled.plan.tiles) tile ∙ on
      ∙ ap (λ (r : Area). Some r) (sym (shown.shows.rect ∙ ap (λ (x : Alias). x.rect) same))

  pub root_reaches : ReachesNew filled (number_at rows root t)
  root_reaches j least below =
      let areas = filled.plan.tiles in
      let shown = fills.entries j (entry_at filled.plan.entries j) (slice_get-get_or filled.plan.entries j no_entry below) in
      let tiles : length old.plan.tiles ≡ length areas = ap (λ (d : Draft). length d.plan.tiles) (sym aliases.only) in
      let start : filled.rooted ≡ length old.plan.entries = ap (λ (d : Draft). d.rooted) aliases.only ∙ is.rooted in
      let from : length areas * length (enter_rows roots []) + t * length (new_of e (enter_rows roots [])) ≡ length old.plan.entries =
      ap₂ (λ (a b : ℕ). length areas * a + t * b) (sym is.at.start) new
      ∙ ap (λ (n : ℕ). n * before + t * (length l - before)) (sym tiles) ∙ sym is.at.filled in
      let to : length areas * length (enter_rows roots []) + (t + 1) * length (new_of e (enter_rows roots [])) ≡ length filled.plan.entries =
      ap₂ (λ (a b : ℕ). length areas * a + (t + 1) * b) (sym is.at.start) new ∙ sym length-filled in
      let by = gained areas roots e fills.frame.apart t area on j shown.of shown.stands
      (omega (arith, from, start, least)) (omega (arith, to, below)) in
      record {
        reads = by.steps;
        way =
            led areas all (tints_shown filled.plan) filled.plan.entries fills.entries by.steps (alias e area) shown.of
            (number_at rows root t) j root_stands root_there shown.stands by.way;
      }

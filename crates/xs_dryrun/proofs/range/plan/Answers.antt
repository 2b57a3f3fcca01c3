-- The drawings are named by their own numbers, so the roots are those of the rows.
use Rattle.std.proofs.Common.{◌≡◌, ◌<◌, ◌+◌, ◌-◌, ◌++◌, ℕ, Err, List, [], All, length, map, sym, ap, ap₂, ◌∙◌, subst, arith}
use Rattle.std.specs.List.{range_with_len}
use Rattle.std.specs.Option.{option_map}
use Rattle.std.proofs.lemmas.List.FromFn.{length-range_with_len}
use Rattle.xs_rect.specs.Area.{Area}
use Rattle.xs_rect.specs.Tiles.{tile_areas}
use Rattle.xs_check.specs.Good.{files_of}
use Rattle.xs_meaning.specs.Expressions.{Expr, root_of}
use Rattle.xs_demand.specs.Limits.{first_limit}
use Rattle.xs_demand.specs.Shown.{ShowsRoots}
use Rattle.xs_dryrun.specs.declared.limits.PlanFault.{PlanFault}
use Rattle.xs_dryrun.specs.declared.limits.PlanFault.TheVariants.{Limit}
use Rattle.xs_dryrun.specs.Passing.{what_of}
use Rattle.xs_dryrun.specs.Adding.{roots_under}
use Rattle.xs_dryrun.specs.Planning.{Planning}
use Rattle.xs_dryrun.proofs.Planners.{range_below, many_roots, roots_by_own_names}
use Rattle.xs_dryrun.proofs.range.plan.Goals as goal

pub rows-requires-clause-names : goal.rows-requires-clause-names
rows-requires-clause-names c =
    ap (λ (l : List ℕ). length l) (c.as_slice.ensures.value ∙ c.in_ok-names.ensures)
    ∙ length-range_with_len 0 c.drawings-drawings.result ∙ c.drawings-drawings.ensures

pub rows-requires-clause-below : goal.rows-requires-clause-below
rows-requires-clause-below c =
    let planner = c.in_ok-planner.planner in
    let same : planner.drawings ≡ c.drawings-drawings.result = ap (λ (p : Planning). p.drawings) c.in_ok-planner.ensures in
    subst (λ (l : List ℕ). All (λ name. name < planner.drawings) l) (sym (c.as_slice.ensures.value ∙ c.in_ok-names.ensures))
    (range_below 0 c.drawings-drawings.result planner.drawings (omega arith))

pub returns-in-Err-clause-limited : goal.returns-in-Err-clause-limited
returns-in-Err-clause-limited c = λ what limit same.
    let s = c.args.s.now in
    let count = length (files_of s.levels) in
    let many = c.args.to + 1 - c.args.from in
    let planner = c.in_ok-planner.planner in
    let names : c.as_slice.result.now ≡ range_with_len 0 count =
    c.as_slice.ensures.value ∙ c.in_ok-names.ensures ∙ ap (λ (n : ℕ). range_with_len 0 n) c.drawings-drawings.ensures in
    let under = roots_under s c.as_slice.result.now c.args.from many in
    let no_root : planner.roots ≡ [] = ap (λ (p : Planning). p.roots) c.in_ok-planner.ensures in
    let tiles : planner.tiles ≡ tile_areas s.camera.w s.camera.h =
    ap (λ (p : Planning). p.tiles) c.in_ok-planner.ensures
    ∙ ap₂ (λ (w h : ℕ). tile_areas w h) c.camera_sides-w.ensures.w c.camera_sides-w.ensures.h in
    let roots : planner.roots ++ under ≡ map (root_of s) (range_with_len c.args.from many) =
    ap (λ (l : List Expr). l ++ under) no_root
    ∙ roots_by_own_names s c.as_slice.result.now count c.args.from many names c.own_names_change_no_expression.ensures
    (c.drawings_of_rows_are_there.ensures s c.scene.ensures.good) in
    let fault : c.in-Err.fault ≡ Limit what limit = cc in
    let told = c.in-Err.ensures.limited what limit (ap (λ (x : PlanFault). Err x) fault) in (
      sym (ap₂ (λ (t : List Area) (l : List Expr). option_map what_of (first_limit t l)) tiles roots) ∙ told.0,
      told.1,
    )

pub finish-requires : goal.finish-requires
finish-requires c =
    let many = c.args.to + 1 - c.args.from in
    let under = roots_under c.args.s.now c.as_slice.result.now c.args.from many in
    let added = c.in_default.ensures.added in
    ap (λ (p : Planning). length p.roots) added
    ∙ ap (λ (p : Planning). length (p.roots ++ under)) c.in_ok-planner.ensures
    ∙ many_roots c.args.s.now c.as_slice.result.now c.args.from many
    ∙ sym (ap (λ (p : Planning). p.rows) added ∙ ap (λ (p : Planning). p.rows) c.in_ok-planner.ensures)

pub returns-clause-shows : goal.returns-clause-shows
returns-clause-shows c =
    let s = c.args.s.now in
    let count = length (files_of s.levels) in
    let many = c.args.to + 1 - c.args.from in
    let planner = c.in_ok-planner.planner in
    let names : c.as_slice.result.now ≡ range_with_len 0 count =
    c.as_slice.ensures.value ∙ c.in_ok-names.ensures ∙ ap (λ (n : ℕ). range_with_len 0 n) c.drawings-drawings.ensures in
    let under = roots_under s c.as_slice.result.now c.args.from many in
    let no_root : planner.roots ≡ [] = ap (λ (p : Planning). p.roots) c.in_ok-planner.ensures in
    let tiles : planner.tiles ≡ tile_areas s.camera.w s.camera.h =
    ap (λ (p : Planning). p.tiles) c.in_ok-planner.ensures
    ∙ ap₂ (λ (w h : ℕ). tile_areas w h) c.camera_sides-w.ensures.w c.camera_sides-w.ensures.h in
    let roots : planner.roots ++ under ≡ map (root_of s) (range_with_len c.args.from many) =
    ap (λ (l : List Expr). l ++ under) no_root
    ∙ roots_by_own_names s c.as_slice.result.now count c.args.from many names c.own_names_change_no_expression.ensures
    (c.drawings_of_rows_are_there.ensures s c.scene.ensures.good) in
    let added = c.in_default.ensures.added in
    let plan = c.in_ok-finish.field-0 in
    subst (λ (t : List Area). ShowsRoots t (map (root_of s) (range_with_len c.args.from many)) plan)
    (ap (λ (p : Planning). p.tiles) added ∙ tiles)
    (subst (λ (l : List Expr). ShowsRoots c.rows.new.self.tiles l plan) (ap (λ (p : Planning). p.roots) added ∙ roots)
    c.in_ok-finish.ensures.shows)

pub returns-clause-none : goal.returns-clause-none
returns-clause-none c =
    let s = c.args.s.now in
    let count = length (files_of s.levels) in
    let many = c.args.to + 1 - c.args.from in
    let planner = c.in_ok-planner.planner in
    let names : c.as_slice.result.now ≡ range_with_len 0 count =
    c.as_slice.ensures.value ∙ c.in_ok-names.ensures ∙ ap (λ (n : ℕ). range_with_len 0 n) c.drawings-drawings.ensures in
    let under = roots_under s c.as_slice.result.now c.args.from many in
    let no_root : planner.roots ≡ [] = ap (λ (p : Planning). p.roots) c.in_ok-planner.ensures in
    let tiles : planner.tiles ≡ tile_areas s.camera.w s.camera.h =
    ap (λ (p : Planning). p.tiles) c.in_ok-planner.ensures
    ∙ ap₂ (λ (w h : ℕ). tile_areas w h) c.camera_sides-w.ensures.w c.camera_sides-w.ensures.h in
    let roots : planner.roots ++ under ≡ map (root_of s) (range_with_len c.args.from many) =
    ap (λ (l : List Expr). l ++ under) no_root
    ∙ roots_by_own_names s c.as_slice.result.now count c.args.from many names c.own_names_change_no_expression.ensures
    (c.drawings_of_rows_are_there.ensures s c.scene.ensures.good) in
    sym (ap₂ (λ (t : List Area) (l : List Expr). first_limit t l) tiles roots) ∙ c.in_default.ensures.none

use Rattle.std.proofs.Common.{◌≡◌, Some, List, length, slice_get, sym, ap, ◌∙◌, arith}
use Rattle.std.proofs.lemmas.Option.{slice_get-get_or}
use Rattle.xs_rect.specs.Area.{Area}
use Rattle.xs_dryrun.proofs.RowTiles.{fills_none, is_row_at, lacks_root, fills_more}
use Rattle.xs_dryrun.proofs.row.fill_row.Goals as goal

pub loop-t-init : goal.loop-t-init
loop-t-init c = fills_none c.args.builder.now c.args.entered.now c.args.rows.now c.args.before c.args.root

pub fill_tile-requires-clause-at : goal.fill_tile-requires-clause-at
fill_tile-requires-clause-at c =
    let s = c.requires.start in
    let mid = c.loop-t.builder in
    let same : mid.plan.tiles ≡ c.args.tiles.now = c.loop-t.invariant.tiles_kept ∙ c.requires.tiles in
    let area = c.index-tiles-t.result in
    let on : slice_get mid.plan.tiles c.loop-t.t ≡ Some area =
    ap (λ (xs : List Area). slice_get xs c.loop-t.t) same ∙ slice_get-get_or c.args.tiles.now c.loop-t.t area (omega arith)
    ∙ ap (λ (x : Area). Some x) (sym c.index-tiles-t.is) in (
      s.0,
      s.1,
      s.2,
      is_row_at c.args.builder.now c.args.entered.now c.args.rows.now c.args.before c.args.root mid c.loop-t.t area c.loop-t.invariant on
          s.0 s.1 s.2 s.3 (omega (arith, ap length same, c.loop-t-test.true)),
    )

pub fill_tile-requires-clause-lacks_roots : goal.fill_tile-requires-clause-lacks_roots
fill_tile-requires-clause-lacks_roots c =
    let s = c.requires.start in
    let mid = c.loop-t.builder in
    let same : mid.plan.tiles ≡ c.args.tiles.now = c.loop-t.invariant.tiles_kept ∙ c.requires.tiles in
    let area = c.index-tiles-t.result in
    let on : slice_get mid.plan.tiles c.loop-t.t ≡ Some area =
    ap (λ (xs : List Area). slice_get xs c.loop-t.t) same ∙ slice_get-get_or c.args.tiles.now c.loop-t.t area (omega arith)
    ∙ ap (λ (x : Area). Some x) (sym c.index-tiles-t.is) in
    lacks_root c.args.builder.now c.args.entered.now c.args.rows.now c.args.before c.args.root mid c.loop-t.t area c.loop-t.invariant on
    s.0 s.1 s.2 s.3 (omega (arith, ap length same, c.loop-t-test.true))

pub loop-t-preserved : goal.loop-t-preserved
loop-t-preserved c =
    let mid = c.loop-t.builder in
    let same : mid.plan.tiles ≡ c.args.tiles.now = c.loop-t.invariant.tiles_kept ∙ c.requires.tiles in
    let area = c.index-tiles-t.result in
    let on : slice_get mid.plan.tiles c.loop-t.t ≡ Some area =
    ap (λ (xs : List Area). slice_get xs c.loop-t.t) same ∙ slice_get-get_or c.args.tiles.now c.loop-t.t area (omega arith)
    ∙ ap (λ (x : Area). Some x) (sym c.index-tiles-t.is) in
    fills_more c.args.builder.now c.args.entered.now c.args.rows.now c.args.before c.args.root mid c.loop-t.t area c.loop-t.invariant on
    c.fill_tile.new.builder (omega (arith, ap length same, c.loop-t-test.true)) c.in_ok-fill_tile.ensures

use Rattle.std.proofs.Common.{◌≡◌, ◌≤◌, ◌*◌, ℕ, length, take, sym, ap, ◌∙◌, subst, arith}
use Rattle.xs_plan.specs.Draft.{Draft}
use Rattle.xs_entered.specs.Entered.{tints_entered}
use Rattle.xs_dryrun.specs.Row.{IsRowStart, FillsRowTo}
use Rattle.xs_dryrun.proofs.AddRow.{few_where_some, firsts_are, more, room, tints_from, tints_more, numbers_are}
use Rattle.xs_dryrun.proofs.Numbering.{on_ok_both}
use Rattle.xs_dryrun.proofs.Planning.{row_start, row_end}
use Rattle.xs_dryrun.proofs.row.add_row.Goals as goal

pub overflow_cast-before : goal.overflow_cast-before
overflow_cast-before c =
    let r = c.requires.row in
    let many = firsts_are r.0 r.1 r.2 r.3 c.args.entered.now c.args.rows.now c.args.builder.now c.args.root r.4 r.5 in
    let more = more r.0 r.1 r.2 r.3 c.args.entered.now c.args.rows.now c.args.builder.now c.args.root r.4 r.5 in
    let room = room r.0 r.1 r.2 r.3 c.args.entered.now c.args.rows.now c.args.builder.now c.args.root r.4 r.5 in
    let few : length c.args.entered.now ≤ 4194304 =
    few_where_some (length c.args.builder.now.plan.tiles) (length c.args.entered.now) r.4.some room in
    omega (arith, many, more, few, c.len-before.ensures)

pub add_tints-requires-clause-from : goal.add_tints-requires-clause-from
add_tints-requires-clause-from c =
    let r = c.requires.row in
    tints_from r.0 r.1 r.2 r.3 c.args.entered.now c.args.rows.now c.args.builder.now c.args.root r.4 r.5
    ∙ ap (λ (n : ℕ). take n (tints_entered c.args.entered.now)) (sym c.requires.tints)

pub add_tints-requires-clause-more : goal.add_tints-requires-clause-more
add_tints-requires-clause-more c =
    let r = c.requires.row in
    omega (
      arith,
      c.requires.tints,
      tints_more r.0 r.1 r.2 r.3 c.args.entered.now c.args.rows.now c.args.builder.now c.args.root r.4 r.5,
    )

pub add-requires-clause-more : goal.add-requires-clause-more
add-requires-clause-more c =
    let r = c.requires.row in
    let many = firsts_are r.0 r.1 r.2 r.3 c.args.entered.now c.args.rows.now c.args.builder.now c.args.root r.4 r.5 in
    let more = more r.0 r.1 r.2 r.3 c.args.entered.now c.args.rows.now c.args.builder.now c.args.root r.4 r.5 in
    omega (arith, many, more, c.len.ensures.count)

pub add-requires-clause-room : goal.add-requires-clause-room
add-requires-clause-room c =
    let r = c.requires.row in
    let room = room r.0 r.1 r.2 r.3 c.args.entered.now c.args.rows.now c.args.builder.now c.args.root r.4 r.5 in
    let n : c.args.rows.now.tiles ≡ length c.args.builder.now.plan.tiles = c.requires.rows ∙ ap length (sym c.requires.tiles) in
    let same : c.args.rows.now.tiles * c.len.result ≡ length c.args.builder.now.plan.tiles * length c.args.entered.now =
    ap (λ (k : ℕ). k * c.len.result) n ∙ ap (λ (k : ℕ). length c.args.builder.now.plan.tiles * k) c.len.ensures.count in
    omega (arith, same, room)

pub fill_row-requires-clause-start : goal.fill_row-requires-clause-start
fill_row-requires-clause-start c =
    let r = c.requires.row in
    let many = firsts_are r.0 r.1 r.2 r.3 c.args.entered.now c.args.rows.now c.args.builder.now c.args.root r.4 r.5 in
    let before : length r.3 ≡ c.len-before.result = omega (arith, many, c.len-before.ensures) in
    let n : c.args.rows.now.tiles ≡ length c.args.builder.now.plan.tiles = c.requires.rows ∙ ap length (sym c.requires.tiles) in
    let d = c.add_tints.new.builder in
    let numbers = numbers_are r.0 r.1 r.2 r.3 c.args.entered.now c.args.rows.now c.args.builder.now c.args.root r.4 r.5
    c.args.rows.now.tiles c.len.result d c.add.new.self.firsts.items c.add.new.self.strides.items n c.in_ok-add_tints.ensures.only
    c.len.ensures.count c.in_ok-add.ensures.numbers in (
      r.0,
      r.1,
      r.2,
      subst (λ (k : ℕ). IsRowStart r.0 r.1 r.2 c.args.entered.now c.add.new.self d k c.args.root) before
          (row_start r.0 r.1 r.2 r.3 c.args.entered.now c.args.rows.now c.add.new.self c.args.builder.now d c.args.root r.4
          c.in_ok-add_tints.ensures.only r.5 c.in_ok-add_tints.ensures.all numbers),
    )

pub fill_row-requires-clause-more : goal.fill_row-requires-clause-more
fill_row-requires-clause-more c =
    let r = c.requires.row in
    let many = firsts_are r.0 r.1 r.2 r.3 c.args.entered.now c.args.rows.now c.args.builder.now c.args.root r.4 r.5 in
    let more = more r.0 r.1 r.2 r.3 c.args.entered.now c.args.rows.now c.args.builder.now c.args.root r.4 r.5 in
    omega (arith, many, more, c.len-before.ensures)

pub returns-clause-planned : goal.returns-clause-planned
returns-clause-planned c =
    let d = c.add_tints.new.builder in
    let new = c.fill_row.new.builder in
    let now = c.args.entered.now in
    let later = c.add.new.self in
    let n : c.args.rows.now.tiles ≡ length c.args.builder.now.plan.tiles = c.requires.rows ∙ ap length (sym c.requires.tiles) in
    let tiles : length c.args.tiles.now ≡ length d.plan.tiles =
    ap length (sym c.requires.tiles) ∙ ap (λ (x : Draft). length x.plan.tiles) (sym c.in_ok-add_tints.ensures.only) in
    on_ok_both c.fill_row.result _ _ _
    (λ fills also drawings roots e was planned is.
    let many = firsts_are drawings roots e was now c.args.rows.now c.args.builder.now c.args.root planned is in
    let before : c.len-before.result ≡ length was = omega (arith, many, c.len-before.ensures) in
    let numbers = numbers_are drawings roots e was now c.args.rows.now c.args.builder.now c.args.root planned is
    c.args.rows.now.tiles c.len.result d later.firsts.items later.strides.items n c.in_ok-add_tints.ensures.only
    c.len.ensures.count c.in_ok-add.ensures.numbers in
    row_end drawings roots e was now c.args.rows.now later c.args.builder.now d c.args.root planned
    c.in_ok-add_tints.ensures.only is c.in_ok-add_tints.ensures.all numbers new
    (subst (λ (k : ℕ). FillsRowTo d now later (length was) c.args.root k new) tiles
    (subst (λ (k : ℕ). FillsRowTo d now later k c.args.root (length c.args.tiles.now) new) before fills)))
    c.fill_row.ensures c.fill_row.ensures

pub returns-clause-tiles : goal.returns-clause-tiles
returns-clause-tiles c =
    on_ok_both c.fill_row.result _ _ _
    (λ fills also. fills.tiles_kept ∙ ap (λ (x : Draft). x.plan.tiles) c.in_ok-add_tints.ensures.only) c.fill_row.ensures c.fill_row.ensures

pub returns-clause-room : goal.returns-clause-room
returns-clause-room c =
    on_ok_both c.fill_row.result _ _ _
    (λ fills also. fills.rows_kept ∙ ap (λ (x : Draft). x.rows) c.in_ok-add_tints.ensures.only) c.fill_row.ensures c.fill_row.ensures

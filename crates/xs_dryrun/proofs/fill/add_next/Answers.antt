use Rattle.std.proofs.Common.{◌≡◌, length, sym, ap, ◌∙◌, subst, arith}
use Rattle.xs_rect.specs.Area.{Area, grown}
use Rattle.xs_plan.specs.Record.{Entry, inputs_from}
use Rattle.xs_plan.specs.Valid.{IsEntry}
use Rattle.xs_demand.specs.Aliases.{aliases_of}
use Rattle.xs_demand.specs.Blocks.{alias_on}
use Rattle.xs_demand.specs.Shown.{ShowsAlias, tints_shown}
use Rattle.xs_entered.specs.Entered.{spread_at}
use Rattle.xs_dryrun.specs.Filling.{Filling}
use Rattle.xs_dryrun.proofs.NextEntry.{valid, filled, may_tell, has_room}
use Rattle.xs_dryrun.proofs.fill.add_next.Goals as goal

pub input_number-a-requires-clause-rows : goal.input_number-a-requires-clause-rows
input_number-a-requires-clause-rows c =
    may_tell c.requires.next.0 c.requires.next.1 c.args.entered.now c.args.rows.now c.args.builder.now c.args.tile
    c.args.area.now c.requires.next.2.filling c.requires.next.2.on

pub input_number-b-requires-clause-rows : goal.input_number-b-requires-clause-rows
input_number-b-requires-clause-rows c =
    may_tell c.requires.next.0 c.requires.next.1 c.args.entered.now c.args.rows.now c.args.builder.now c.args.tile
    c.args.area.now c.requires.next.2.filling c.requires.next.2.on

pub add-requires-clause-valid : goal.add-requires-clause-valid
add-requires-clause-valid c =
    let d = c.args.builder.now in
    let a = c.input_number-a.result in
    let b = c.input_number-b.result in
    let rect : grown c.args.area.now (spread_at c.args.entered.now c.args.j).growth ≡ c.in-Some.rect =
    ap (grown c.args.area.now) (sym c.growth.ensures) ∙ sym c.in-Some.ensures.value in
    let valid = valid c.requires.next.0 c.requires.next.1 c.args.entered.now c.args.rows.now d c.args.j c.args.tile c.args.area.now
    c.requires.next.2 c.job.result a b c.job.ensures c.input_number-a.ensures c.input_number-b.ensures in
    subst (λ (r : Area). IsEntry (length d.plan.tints) d.plan.entries (record { job = c.job.result; rect = r; inputs = inputs_from a b })) rect valid.is

pub add-requires-clause-room : goal.add-requires-clause-room
add-requires-clause-room c =
    let room = has_room c.requires.next.0 c.requires.next.1 c.args.entered.now c.args.rows.now c.args.builder.now c.args.j c.args.tile
    c.args.area.now c.requires.next.2 in
    omega (arith, room)

pub returns : goal.returns
returns c =
    let d = c.args.builder.now in
    let a = c.input_number-a.result in
    let b = c.input_number-b.result in
    let rect : grown c.args.area.now (spread_at c.args.entered.now c.args.j).growth ≡ c.in-Some.rect =
    ap (grown c.args.area.now) (sym c.growth.ensures) ∙ sym c.in-Some.ensures.value in
    let e : Entry = record { job = c.job.result; rect = c.in-Some.rect; inputs = inputs_from a b } in
    record {
      entry = e;
      added = c.in_ok-add.ensures.added;
      fills = λ drawings roots is.
          let valid = valid drawings roots c.args.entered.now c.args.rows.now d c.args.j c.args.tile c.args.area.now
          is c.job.result a b c.job.ensures c.input_number-a.ensures c.input_number-b.ensures in
          let shows : ShowsAlias (aliases_of d.plan.tiles roots) (tints_shown d.plan)
          (alias_on c.args.area.now (spread_at c.args.entered.now c.args.j)) e =
          subst (λ (r : Area). ShowsAlias (aliases_of d.plan.tiles roots) (tints_shown d.plan)
          (alias_on c.args.area.now (spread_at c.args.entered.now c.args.j))
          (record { job = c.job.result; rect = r; inputs = inputs_from a b })) rect valid.shows in
          subst (Filling drawings roots c.args.entered.now c.args.rows.now) (sym c.in_ok-add.ensures.added)
          (filled drawings roots c.args.entered.now c.args.rows.now d c.args.j c.args.tile c.args.area.now is e shows);
    }

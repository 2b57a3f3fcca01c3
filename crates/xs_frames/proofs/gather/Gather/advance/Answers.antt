use Rattle.std.proofs.Common.{◌≡◌, ◌<◌, ℕ, [], ◌∷◌, length, subst, sym, ◌∙◌, arith}
use Rattle.xs_plan.specs.Record.{root_at}
use Rattle.xs_plan.specs.Reads.{root_read_of}
use Rattle.xs_core.specs.Views.{Knows, entries, signed}
use Rattle.xs_core.specs.Calls.{Adds}
use Rattle.xs_frames.proofs.Painting.{gained_more}
use Rattle.xs_frames.proofs.Serving.{some_served, serves_more, still_unserved}
use Rattle.xs_frames.proofs.gather.Gather.advance.Goals as goal

pub take-requires-clause-known : goal.take-requires-clause-known
take-requires-clause-known g c =
    let there : c.loop-tile.tile < length c.args.p.now.tiles = omega arith in
    subst (λ (row : ℕ). Knows (g.D.Desk.view c.loop-tile.desk) (root_at c.args.p.now row c.loop-tile.tile)) (sym c.row-row.ensures.value)
    (c.loop-tile.invariant.serves.knows _ (c.requires.may.known c.loop-tile.tile there))

pub take-requires-clause-unserved : goal.take-requires-clause-unserved
take-requires-clause-unserved g c =
    let there : c.loop-tile.tile < length c.args.p.now.tiles = omega arith in
    subst (λ (row : ℕ). entries (root_read_of c.args.p.now row c.loop-tile.tile) (g.D.Desk.view c.loop-tile.desk).served ≡ 0)
    (sym c.row-row.ensures.value)
    (still_unserved c.args.p.now c.args.self.now.row c.loop-tile.tile (g.D.Desk.view c.args.desk.now) (g.D.Desk.view c.loop-tile.desk)
    c.requires.may there c.loop-tile.invariant.serves)

pub returns-in-Err-clause-some : goal.returns-in-Err-clause-some
returns-in-Err-clause-some g c =
    let there : c.loop-tile.tile < length c.args.p.now.tiles = omega arith in
    some_served c.args.p.now c.args.self.now.row c.loop-tile.tile (g.D.Desk.view c.args.desk.now) (g.D.Desk.view c.loop-tile.desk)
    (g.D.Desk.view c.take.new.desk) there c.loop-tile.invariant.serves c.in-Err.ensures.stays

pub loop-tile-preserved : goal.loop-tile-preserved
loop-tile-preserved g c =
    let p = c.args.p.now in
    let tile = c.loop-tile.tile in
    let w = g.D.Desk.view c.loop-tile.desk in
    let x = g.D.Desk.view c.take.new.desk in
    let there : c.loop-tile.tile < length c.args.p.now.tiles = omega arith in
    record {
      plan = c.in-Ok.ensures.gains.plan ∙ c.loop-tile.invariant.plan;
      row = c.in-Ok.ensures.gains.row ∙ c.loop-tile.invariant.row;
      area = c.in-Ok.ensures.gains.area ∙ c.loop-tile.invariant.area;
      desk = c.in-Ok.ensures.desk;
      serves = serves_more p c.args.self.now.row tile (g.D.Desk.view c.args.desk.now) w x c.loop-tile.invariant.serves
          (subst (λ (row : ℕ). Adds w x [] [] [] (signed 0 (root_read_of p row tile) ∷ [])) c.row-row.ensures.value c.in-Ok.ensures.serves);
      shows = gained_more g.K.Film.pictures p c.args.self.now.row tile c.loop-tile.self c.take.new.self
          (c.loop-tile.invariant.plan ∙ sym c.requires.plan) c.loop-tile.invariant.row there c.loop-tile.invariant.shows c.in-Ok.ensures.gains;
    }

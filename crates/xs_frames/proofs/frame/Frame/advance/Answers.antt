use Rattle.std.proofs.Common.{◌<◌, length, ◌∙◌, arith}
use Rattle.xs_frames.proofs.Painting.{stands_more}
use Rattle.xs_frames.proofs.Serving.{some_served, serves_more, still_unserved}
use Rattle.xs_frames.proofs.frame.Frame.advance.Goals as goal

pub take-requires-clause-unserved : goal.take-requires-clause-unserved
take-requires-clause-unserved g c =
    let there : c.loop-tile.tile < length c.args.p.now.tiles = omega arith in
    still_unserved c.args.p.now c.args.row c.loop-tile.tile (g.D.Desk.view c.args.desk.now) (g.D.Desk.view c.loop-tile.desk)
    c.requires.may there c.loop-tile.invariant.serves

pub returns-in-Err-clause-some : goal.returns-in-Err-clause-some
returns-in-Err-clause-some g c =
    let there : c.loop-tile.tile < length c.args.p.now.tiles = omega arith in
    some_served c.args.p.now c.args.row c.loop-tile.tile (g.D.Desk.view c.args.desk.now) (g.D.Desk.view c.loop-tile.desk)
    (g.D.Desk.view c.take.new.desk) there c.loop-tile.invariant.serves c.in-Err.ensures.stays

pub loop-tile-preserved : goal.loop-tile-preserved
loop-tile-preserved g c = record {
  plan = c.in-Ok.ensures.stands.plan ∙ c.loop-tile.invariant.plan;
  area = c.in-Ok.ensures.stands.area ∙ c.loop-tile.invariant.area;
  desk = c.in-Ok.ensures.desk;
  serves = serves_more c.args.p.now c.args.row c.loop-tile.tile (g.D.Desk.view c.args.desk.now) (g.D.Desk.view c.loop-tile.desk)
      (g.D.Desk.view c.take.new.desk) c.loop-tile.invariant.serves c.in-Ok.ensures.serves;
  stands = stands_more c.args.p.now c.args.row c.loop-tile.tile c.loop-tile.self c.take.new.self
      c.loop-tile.invariant.stands c.in-Ok.ensures.stands;
}

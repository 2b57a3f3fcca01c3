use Rattle.std.proofs.Common.{◌≡◌, ◌<◌, ℕ}
use Rattle.xs_plan.specs.Record.{root_at}
use Rattle.xs_frames.specs.Rows.{Serves}
use Rattle.xs_frames.specs.Frames.{Shows}
use Rattle.xs_frames.proofs.gather.Gather.advance.Given as goal

abbrev pub invariant-loop-tile : goal.invariant-loop-tile
invariant-loop-tile g l = record {
  plan : l.self.plan ≡ l.initial.self.plan;
  row : l.self.row ≡ l.initial.self.row;
  area : l.self.image.area ≡ l.initial.self.image.area;
  desk : g.D.Desk.plan l.desk ≡ l.p;
  serves : Serves l.p l.initial.self.row l.tile (g.D.Desk.view l.initial.desk) (g.D.Desk.view l.desk);
  shows : (t : ℕ) → t < l.tile → Shows g.K.Film.pictures l.p l.self.image t (root_at l.p l.initial.self.row t);
}

use Rattle.std.proofs.Common.{◌≡◌, ◌<◌, ℕ, Some}
use Rattle.xs_plan.specs.Record.{root_at}
use Rattle.xs_frames.specs.Rows.{Serves}
use Rattle.xs_frames.specs.Frames.{alias_on}
use Rattle.xs_frames.proofs.frame.Frame.advance.Given as goal

abbrev pub invariant-loop-tile : goal.invariant-loop-tile
invariant-loop-tile g l = record {
  plan : l.self.plan ≡ l.initial.self.plan;
  area : l.self.image.area ≡ l.initial.self.image.area;
  desk : g.D.Desk.plan l.desk ≡ l.p;
  serves : Serves l.p l.row l.tile (g.D.Desk.view l.initial.desk) (g.D.Desk.view l.desk);
  stands : (t : ℕ) → t < l.tile → alias_on l.self t ≡ Some (root_at l.p l.row t);
}

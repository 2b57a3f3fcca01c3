use Rattle.std.proofs.Common.{◌≡◌, take, map}
use Rattle.serde_json.specs.View.{view}
use Rattle.xs_scene_write.proofs.written.write_each.Given as goal

abbrev pub invariant-loop-element : goal.invariant-loop-element
invariant-loop-element g l = map view l.values.items ≡ map g.E.Written.writing (take l.element-index l.elements)

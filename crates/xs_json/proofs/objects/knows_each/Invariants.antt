use Rattle.std.proofs.Common.{◌≡◌}
use Rattle.serde_json.specs.View.{members_view}
use Rattle.xs_json.specs.Objects.{has_only}
use Rattle.xs_json.proofs.objects.knows_each.Given as goal

abbrev pub invariant-loop-name : goal.invariant-loop-name
invariant-loop-name l = has_only l.keys (members_view l.name-iterator) ≡ has_only l.keys (members_view l.map.entries)

use Rattle.std.proofs.Common.{◌≡◌, drop}
use Rattle.serde_json.specs.View.{members_view}
use Rattle.xs_json.specs.Objects.{has_any}
use Rattle.xs_json.proofs.objects.has_any.Given as goal

abbrev pub invariant-loop-k : goal.invariant-loop-k
invariant-loop-k l = has_any (drop l.k-index l.keys) (members_view l.map.entries) ≡ has_any l.keys (members_view l.map.entries)

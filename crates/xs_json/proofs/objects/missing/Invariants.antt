use Rattle.std.proofs.Common.{◌≡◌, drop}
use Rattle.serde_json.specs.View.{members_view}
use Rattle.xs_json.specs.Objects.{first_missing}
use Rattle.xs_json.proofs.objects.missing.Given as goal

abbrev pub invariant-loop-k : goal.invariant-loop-k
invariant-loop-k l = first_missing (drop l.k-index l.needed) (members_view l.map.entries) ≡ first_missing l.needed (members_view l.map.entries)

use Rattle.std.proofs.Common.{◌≡◌, drop}
use Rattle.xs_json.specs.Objects.{is_key}
use Rattle.xs_json.proofs.objects.is_one_of.Given as goal

abbrev pub invariant-loop-k : goal.invariant-loop-k
invariant-loop-k l = is_key (drop l.k-index l.keys) l.name ≡ is_key l.keys l.name

use Rattle.std.proofs.Common.{◌≡◌, ◌+◌, ◌++◌, replicate, vec_len, vec_capacity}
use Rattle.xs_plan.proofs.aliases.note_owner.Given as goal

abbrev pub invariant-loop-port : goal.invariant-loop-port
invariant-loop-port l =
    (l.owners.items ≡ l.initial.owners.items ++ replicate l._port l.k)
    × (vec_len l.owners ≡ vec_len l.initial.owners + l._port)
    × (vec_capacity l.owners ≡ vec_capacity l.initial.owners)

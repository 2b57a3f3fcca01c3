use Rattle.std.proofs.Common.{◌≡◌, ◌≤◌, replicate, vec_len, vec_capacity, None}
use Rattle.xs_plain_desk.proofs.store.no_tiles.Given as goal

abbrev pub invariant-loop-alias : goal.invariant-loop-alias
invariant-loop-alias l =
    (l.tiles.items ≡ replicate l._alias None) × (vec_len l.tiles ≡ l._alias) × (l.aliases ≤ vec_capacity l.tiles)

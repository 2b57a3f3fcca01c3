use Rattle.std.proofs.Common.{◌≡◌, replicate, vec_len, vec_capacity, None}
use Rattle.xs_rawfile.proofs.drawings.Drawings.new.Given as goal

abbrev pub invariant-loop-slot : goal.invariant-loop-slot
invariant-loop-slot g l = (l.slots.items ≡ replicate l._slot None) × (vec_len l.slots ≡ l._slot) × (vec_capacity l.slots ≡ l.count)

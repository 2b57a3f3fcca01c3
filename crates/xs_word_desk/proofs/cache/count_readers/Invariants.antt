use Rattle.std.proofs.Common.{◌≡◌, ◌<◌, ◌≤◌, ℕ, length, slice_index, vec_capacity}
use Rattle.xs_plan.specs.Reads.{readers_of}
use Rattle.xs_word_desk.proofs.cache.count_readers.Given as goal

abbrev pub invariant-loop-k : goal.invariant-loop-k
invariant-loop-k l =
    (length l.readers.items ≡ l.k) × (l.k-end ≤ vec_capacity l.readers) × ((j : ℕ) → j < l.k → slice_index l.readers.items j ≡ readers_of l.p j)

use Rattle.std.proofs.Common.{◌≡◌, ◌<◌, ◌≤◌, ℕ, true, false, slice_index_or}
use Rattle.xs_word_desk.specs.Slots.{tiles_below}
use Rattle.xs_word_desk.proofs.closing.take_out.Given as goal

abbrev pub invariant-loop-i : goal.invariant-loop-i
invariant-loop-i l = record {
  many : l.closed.slots.len ≡ l.fn.closed.slots.len;
  end : l.slots ≡ l.fn.closed.slots.len;
  items : l.closed.slots.items ≡ l.fn.closed.slots.items;
  taken : (k : ℕ) → k < l.i → slice_index_or l.closed.slots.filled k false ≡ false;
  left : (k : ℕ) → l.i ≤ k → k < l.fn.closed.slots.len → slice_index_or l.closed.slots.filled k false ≡ true;
  few : l.tiles ≤ l.i;
  count : l.tiles ≡ tiles_below l.i l.fn.closed.slots.items;
}

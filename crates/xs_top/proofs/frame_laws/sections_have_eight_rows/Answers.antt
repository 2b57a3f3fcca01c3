use Rattle.std.proofs.Common.{◌≡◌, ◌+◌, ◌*◌, ◌-◌, ◌≤◌, min, ap, arith}
use Rattle.std.specs.List.{range_with_len}
use Rattle.xs_top.proofs.RowRanges.{range_length}
use Rattle.xs_top.proofs.frame_laws.sections_have_eight_rows.Goals as goal

pub returns : goal.returns
returns c = record {
  whole = λ from to section ordered within.
      let count : min (to + 1 - (from + 8 * section)) 8 ≡ 8 = omega arith in ap (range_with_len (from + 8 * section)) count;
  last = λ from to section ordered last.
      let count : min (to + 1 - (from + 8 * section)) 8 ≡ to + 1 - (from + 8 * section) = omega arith in ap (range_with_len (from + 8 * section)) count;
  some = λ from to section ordered within.
      let count : 1 ≤ min (to + 1 - (from + 8 * section)) 8 = omega arith in
      omega (arith, range_length (from + 8 * section) (min (to + 1 - (from + 8 * section)) 8));
  few = λ from to section.
      let count : min (to + 1 - (from + 8 * section)) 8 ≤ 8 = omega arith in
      omega (arith, range_length (from + 8 * section) (min (to + 1 - (from + 8 * section)) 8));
}

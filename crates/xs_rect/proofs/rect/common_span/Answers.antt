use Rattle.std.proofs.Common.{◌≡◌, ◌<ℤ◌, ◌≤ℤ◌, ◌+ℤ◌, ◌-ℤ◌, pos, ◌∙◌, arith, w32}
use Rattle.std.specs.Int.{int_max, int_min}
use Rattle.std.proofs.lemmas.Int.{ints, clamps, to_z-of_z, fits_signed_from_abs}
use Rattle.xs_rect.proofs.Spans.{IsOverlap, overlap_within, overlap_common, overlap_range, pos_unsigned_abs, apart}
use Rattle.xs_rect.proofs.rect.common_span.Goals as goal

-- the span that is returned goes from the greater start to the lesser end
overlap : (c : goal.After-unsigned_abs) → IsOverlap c.args.a c.args.a_len c.args.b c.args.b_len c.max-from.result c.unsigned_abs.result
overlap c =
    let start : c.max-from.result ≡ int_max c.args.a c.args.b = omega (arith, ints, clamps) in
    let stop : c.min-end.result ≡ int_min (c.args.a +ℤ pos c.args.a_len) (c.args.b +ℤ pos c.args.b_len) = omega (arith, ints, clamps) in
    let before : c.max-from.result <ℤ c.min-end.result = grind (arith, ints) in
    let low = to_z-of_z w32 c.max-from.result (record { sfits = omega (arith, ints, clamps) }) in
    let high = to_z-of_z w32 c.min-end.result (record { sfits = omega (arith, ints, clamps) }) in
    let across = to_z-of_z w32 (c.min-end.result -ℤ c.max-from.result) (fits_signed_from_abs w32 _ (omega (arith, ints, clamps))) in
    let len = rw (low, high, across) at c.unsigned_abs.ensures.value in
    record { first = start; end = rw len (pos_unsigned_abs _ _ (omega (arith, ints)) ∙ stop) }

pub returns-then-from-end-clause-range : goal.returns-then-from-end-clause-range
returns-then-from-end-clause-range c =
    let low = to_z-of_z w32 c.max-from.result (record { sfits = omega (arith, ints, clamps) }) in
    let before : c.max-from.result <ℤ c.min-end.result = grind (arith, ints) in
    let o = overlap c in
    rw low (overlap_range _ _ _ _ _ _ c.requires.first c.requires.second o (omega (arith, ints, clamps, o.end)))

pub returns-then-from-end-clause-common : goal.returns-then-from-end-clause-common
returns-then-from-end-clause-common c =
    let low = to_z-of_z w32 c.max-from.result (record { sfits = omega (arith, ints, clamps) }) in
    rw low (overlap_common _ _ _ _ _ _ (overlap c))

pub returns-then-from-end-clause-within : goal.returns-then-from-end-clause-within
returns-then-from-end-clause-within c =
    let low = to_z-of_z w32 c.max-from.result (record { sfits = omega (arith, ints, clamps) }) in
    rw low (overlap_within _ _ _ _ _ _ (overlap c))

pub returns-else-from-end-clause-none : goal.returns-else-from-end-clause-none
returns-else-from-end-clause-none c =
    let start : c.max-from.result ≡ int_max c.args.a c.args.b = omega (arith, ints, clamps) in
    let stop : c.min-end.result ≡ int_min (c.args.a +ℤ pos c.args.a_len) (c.args.b +ℤ pos c.args.b_len) = omega (arith, ints, clamps) in
    let after : c.min-end.result ≤ℤ c.max-from.result = grind (arith, ints) in
    apart _ _ _ _ _ _ start stop after

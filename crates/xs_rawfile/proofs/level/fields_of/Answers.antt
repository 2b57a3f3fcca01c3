use Rattle.std.proofs.Common.{ℕ, List, w32, subst, sym, arith}
use Rattle.std.proofs.lemmas.Int.{to_z-of_z}
use Rattle.xs_rawfile.specs.Raw.{Raw, IsRaw}
use Rattle.xs_rawfile.specs.Level.{raw_of}
use Rattle.xs_rawfile.proofs.Faults.{passes, long_enough}
use Rattle.xs_rawfile.proofs.level.fields_of.Goals as goal

pub number_at-requires : goal.number_at-requires
number_at-requires c = let long = (long_enough _ (passes _ _ c.requires).whole).0 in omega (arith, long)

pub number_at-requires-2 : goal.number_at-requires-2
number_at-requires-2 c = let long = (long_enough _ (passes _ _ c.requires).whole).0 in omega (arith, long)

pub number_at-w-requires : goal.number_at-w-requires
number_at-w-requires c = let long = (long_enough _ (passes _ _ c.requires).whole).0 in omega (arith, long)

pub number_at-h-requires : goal.number_at-h-requires
number_at-h-requires c = let long = (long_enough _ (passes _ _ c.requires).whole).0 in omega (arith, long)

pub without_header-pixels-requires : goal.without_header-pixels-requires
without_header-pixels-requires c = (long_enough _ (passes _ _ c.requires).whole).0

pub returns : goal.returns
returns c =
    let x = to_z-of_z w32 c.cast_signed-x0.result (record { sfits = c.cast_signed-x0.type_inv }) in
    let y = to_z-of_z w32 c.cast_signed-y0.result (record { sfits = c.cast_signed-y0.type_inv }) in
    rw (
      x,
      y,
      c.cast_signed-x0.ensures,
      c.cast_signed-y0.ensures,
      c.number_at.ensures,
      c.number_at-2.ensures,
      c.number_at-w.ensures,
      c.number_at-h.ensures,
      c.of.ensures,
      c.without_header-pixels.ensures,
      c.as_slice-file.ensures.value,
    )

pub holds_a_drawing-requires : goal.holds_a_drawing-requires
holds_a_drawing-requires c = rw c.as_slice-file.ensures.value c.requires

pub invariant_of-result : goal.invariant_of-result
invariant_of-result c =
    subst (λ (d : Raw). IsRaw d) (sym (returns c))
    (subst (λ (file : List ℕ). IsRaw (raw_of c.args.kind file)) c.as_slice-file.ensures.value c.holds_a_drawing.ensures)

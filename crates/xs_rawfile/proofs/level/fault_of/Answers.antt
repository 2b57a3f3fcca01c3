use Rattle.std.proofs.Common.{sym, ◌∙◌}
use Rattle.xs_rawfile.proofs.Faults.{long_enough, pixels_few}
use Rattle.xs_rawfile.proofs.level.fault_of.Goals as goal

pub pixel_bytes-requires : goal.pixel_bytes-requires
pixel_bytes-requires c = (long_enough _ (sym c.has_wrong_length.ensures ∙ c.if-has_wrong_length.false)).0

pub unmultiplied_fault-requires : goal.unmultiplied_fault-requires
unmultiplied_fault-requires c =
    rw c.pixel_bytes.ensures
    (pixels_few _ (sym c.has_wrong_side.ensures ∙ c.if-has_wrong_side.false) (sym c.has_wrong_length.ensures ∙ c.if-has_wrong_length.false))

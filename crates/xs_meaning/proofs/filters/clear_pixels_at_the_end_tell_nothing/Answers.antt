use Rattle.xs_meaning.proofs.Canonical.{without_clear_end-same}
use Rattle.xs_meaning.proofs.Tints.{slice_index_or-without_clear_end}
use Rattle.xs_meaning.proofs.filters.clear_pixels_at_the_end_tell_nothing.Goals as goal

pub returns : goal.returns
returns c = record { pixels = slice_index_or-without_clear_end; one = without_clear_end-same }

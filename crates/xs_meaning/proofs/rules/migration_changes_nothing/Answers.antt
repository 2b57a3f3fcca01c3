use Rattle.std.proofs.Common.{refl}
use Rattle.xs_meaning.specs.Drawings.{colours_of}
use Rattle.xs_meaning.specs.Expressions.{by_offsets}
use Rattle.xs_meaning.specs.RowValues.{by_points}
use Rattle.xs_meaning.proofs.rules.migration_changes_nothing.Goals as goal

-- no rule asks for the format
pub returns : goal.returns
unfolding by_points by_offsets colours_of
returns c =
    record { places = λ s k peg row. refl; cameras = λ s row. refl; rows = λ s pictures k row p. refl; roots = λ s row. refl }

use Rattle.std.proofs.Common.{ap}
use Rattle.xs_meaning.proofs.Canonical.{tint_at-same, tint_at-any}
use Rattle.xs_meaning.proofs.Tints.{tint_style-tint_at}
use Rattle.xs_meaning.proofs.filters.tint_is_canonical.Goals as goal

pub returns : goal.returns
returns c = record { pixels = λ c row f style. ap (λ g. g style) (tint_style-tint_at c row f); one = tint_at-same; any_list = tint_at-any }

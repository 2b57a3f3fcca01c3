-- A fit expression with renamed drawings is fit
use Rattle.std.proofs.Common.{ℕ, ◌<◌, ◌∙◌}
use Rattle.xs_meaning.specs.Expressions.{Expr, Clear, Leaf, Tinted, Card, Pair, Blur}
use Rattle.xs_demand.specs.Fit.{IsFit}
use Rattle.xs_demand.specs.Renamed.{renamed}
use Rattle.xs_demand.proofs.RenamedImages.{clear-renamed}

pub fit-renamed :
    (count named : ℕ) (names : ℕ → ℕ) → ((d : ℕ) → d < count → names d < named)
    → (e : Expr) → IsFit count e → IsFit named (renamed names e)
fit-renamed count named names below Clear fit = tt
fit-renamed count named names below (Leaf d at) fit = (below d fit.0, fit.1, fit.2)
fit-renamed count named names below (Tinted d at tint) fit = (below d fit.0, fit.1, fit.2)
fit-renamed count named names below (Card pixel) fit = tt
fit-renamed count named names below (Pair op a b) fit = (
  clear-renamed names a ∙ fit.0,
  clear-renamed names b ∙ fit.1,
  fit-renamed count named names below a fit.2,
  fit-renamed count named names below b fit.3,
)
fit-renamed count named names below (Blur n a) fit =
    (fit.0, fit.1, clear-renamed names a ∙ fit.2, fit-renamed count named names below a fit.3)

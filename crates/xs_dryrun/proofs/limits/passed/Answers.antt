use Rattle.std.proofs.Common.{IfSome, Option, subst}
use Rattle.xs_dryrun.specs.declared.limits.What.{What}
use Rattle.xs_dryrun.specs.Passing.{PassedOn}
use Rattle.xs_dryrun.proofs.RowLimits.{first_here}
use Rattle.xs_dryrun.proofs.limits.passed.Goals as goal

pub returns-clause-first : goal.returns-clause-first
returns-clause-first c =
    λ areas roots e is none. first_here areas roots e c.args.tiles c.args.row c.args.was c.args.now is c.first_passed.result none
    c.first_passed.ensures.none
    (λ w some. subst (λ (o : Option What). IfSome o (PassedOn c.args.tiles c.args.row c.args.was c.args.now)) some c.first_passed.ensures.some)

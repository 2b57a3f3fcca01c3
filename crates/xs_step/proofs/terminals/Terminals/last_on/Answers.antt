use Rattle.std.proofs.Common.{sym, ap, ◌∙◌, arith}
use Rattle.xs_step.specs.Terminals.{columns_on}
use Rattle.xs_step.proofs.Columns.{columns_on-last, columns_on-off_last}
use Rattle.xs_step.proofs.terminals.Terminals.last_on.Goals as goal

pub returns-then-is_on : goal.returns-then-is_on
returns-then-is_on c =
    c.loop-last.invariant.same
    ∙ ap (columns_on c.args.number) c.in-Some.ensures.cases.0
    ∙ columns_on-last c.args.number c.in-Some.below.now c.in-Some.last.now
    (sym c.is_on.ensures ∙ c.if-is_on.true)

pub loop-last-preserved : goal.loop-last-preserved
loop-last-preserved c =
    record {
      numbers = omega (arith, c.in-Some.ensures.cases.1, c.loop-last.invariant.numbers);
      same =
          c.loop-last.invariant.same
          ∙ ap (columns_on c.args.number) c.in-Some.ensures.cases.0
          ∙ columns_on-off_last c.args.number c.in-Some.below.now c.in-Some.last.now
          (sym c.is_on.ensures ∙ c.if-is_on.false);
    }

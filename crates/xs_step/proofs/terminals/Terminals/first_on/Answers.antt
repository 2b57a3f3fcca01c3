use Rattle.std.proofs.Common.{sym, ap, ◌∙◌, arith}
use Rattle.xs_step.specs.Terminals.{columns_on}
use Rattle.xs_step.proofs.Columns.{columns_on-first, columns_on-off_first}
use Rattle.xs_step.proofs.terminals.Terminals.first_on.Goals as goal

pub returns-then-is_on : goal.returns-then-is_on
returns-then-is_on c =
    c.loop-first.invariant.same
    ∙ ap (columns_on c.loop-first.next) c.in-Some.ensures.cases.0
    ∙ columns_on-first c.loop-first.next c.in-Some.first.now c.in-Some.above.now
    (sym c.is_on.ensures ∙ c.if-is_on.true)

pub loop-first-preserved : goal.loop-first-preserved
loop-first-preserved c =
    record {
      numbers = omega (arith, c.in-Some.ensures.cases.1, c.loop-first.invariant.numbers);
      same =
          c.loop-first.invariant.same
          ∙ ap (columns_on c.loop-first.next) c.in-Some.ensures.cases.0
          ∙ columns_on-off_first c.loop-first.next c.in-Some.first.now c.in-Some.above.now
          (sym c.is_on.ensures ∙ c.if-is_on.false);
    }

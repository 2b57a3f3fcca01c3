use Rattle.xs_levels.proofs.Counting.{less_then}
use Rattle.xs_levels.proofs.Ending.{stock_ended}
use Rattle.xs_levels.proofs.stock.Stock.end.Goals as goal

pub returns-clause-stock : goal.returns-clause-stock
returns-clause-stock g c = λ p t stock.
    let less = less_then c.args.s c.args.self.now c.going.self c.let_first_go.new.self c.going.invariant.less c.let_first_go.ensures.less in
    let none = c.let_first_go.ensures.none c.going-test.false in
    let whole = stock_ended p t c.args.s c.args.self.now c.let_first_go.new.self c.requires.section stock c.requires.loaded c.requires.next less none in
    rw (← c.self.view_is) at whole

use Rattle.std.proofs.Common.{length, map, sym, ap, ◌∙◌, subst, arith}
use Rattle.xs_demand.specs.Blocks.{spread}
use Rattle.xs_meaning.specs.Expressions.{Pair}
use Rattle.xs_pixel.specs.declared.operation.Op.TheVariants.{Over}
use Rattle.xs_build.specs.States.{expr_at, LaysOver}
use Rattle.xs_build.proofs.Failing.{failed-as}
use Rattle.xs_build.proofs.Growing.{longer, put-longer, extends-put_over, is-at, all_at-extends}
use Rattle.xs_build.proofs.PutOver.{more, rest_at, step-expr, step-puts}
use Rattle.xs_build.proofs.put.put_each_over.Goals as goal

pub returns-in_err-whole : goal.returns-in_err-whole
returns-in_err-whole c =
    let l = c.loop-over.entered in
    let es = map (expr_at l) c.loop-over.upper.items in
    let was = expr_at l c.loop-over.whole in
    subst
    (LaysOver c.args.most c.args.entered.now c.put_pair.new.entered (map (expr_at c.args.entered.now) c.args.upper.items)
    (expr_at c.args.entered.now c.args.lowest) c.args.growth)
    (sym (failed-as c.from_residual.result c.in_err-whole.field-0.0 c.from_residual.ensures.1))
    (record {
      put = tt;
      few = tt;
      full = λ is.
          omega (arith, c.in_err-whole.ensures.full is, longer l _ (extends-put_over es was c.args.growth l), ap length c.loop-over.invariant.puts);
    })

pub loop-over-preserved : goal.loop-over-preserved
loop-over-preserved c =
    let l = c.loop-over.entered in
    let m = c.put_pair.new.entered in
    let inv = c.loop-over.invariant in
    let put_is = c.in_ok-whole.ensures.put in
    let over = c.in-Some.over in
    let was = c.loop-over.whole in
    let whole = c.in_ok-whole.whole in
    let popped = c.in-Some.ensures.items in
    let x = spread (Pair Over (expr_at l over) (expr_at l was)) c.args.growth in
    let grown = more l m c.args.growth over was whole c.loop-over.upper.items c.pop.new.self.items popped inv.upper put_is.0 put_is.1 in
    let there = rest_at l m c.args.growth over was whole c.loop-over.upper.items c.pop.new.self.items popped inv.upper put_is.0 put_is.1 in
    record {
      whole = is-at m whole (Pair Over (expr_at l over) (expr_at l was)) c.args.growth put_is.1;
      upper = all_at-extends l m c.args.growth c.pop.new.self.items grown there;
      few = omega (arith, c.in_ok-whole.ensures.few, put-longer x l, ap length put_is.0);
      puts =
          inv.puts
          ∙ step-puts l m c.args.growth over was whole c.loop-over.upper.items c.pop.new.self.items popped inv.upper put_is.0 put_is.1;
      expr =
          inv.expr
          ∙ step-expr l m c.args.growth over was whole c.loop-over.upper.items c.pop.new.self.items popped inv.upper put_is.0 put_is.1;
    }

use Rattle.std.proofs.Common.{◌≤◌, length, arith}
use Rattle.xs_sections.proofs.DrawnLemmas.{all_from}
use Rattle.xs_sections.proofs.checks.all_drawn.Goals as goal

pub returns : goal.returns
returns g c = λ _.
    let whole : length c.args.p.now.entries ≤ c.loop-k.k = omega arith in
    all_from c.args.p.now c.args.d.now c.loop-k.k whole c.loop-k.invariant

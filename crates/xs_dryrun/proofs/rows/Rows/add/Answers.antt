use Rattle.std.proofs.Common.{◌≡◌, ◌+◌, ◌-◌, ◌*◌, ℕ, length, ap, arith}
use Rattle.xs_dryrun.proofs.Numbering.{row_added, on_ok_both}
use Rattle.xs_dryrun.proofs.rows.Rows.add.Goals as goal

pub returns-clause-numbers : goal.returns-clause-numbers
returns-clause-numbers c =
    let was = c.args.self.now in
    let before = c.len-before.result in
    let many : before ≡ length was.firsts.items = omega (arith, c.len-before.ensures) in
    let first : was.tiles * before ≡ was.tiles * length was.firsts.items = ap (λ (n : ℕ). was.tiles * n) many in
    let all : length was.firsts.items + (c.args.entered - before) ≡ c.args.entered = omega (arith, many, c.requires.more) in
    on_ok_both c.extend.result _ _ _
    (λ firsts strides. row_added was.tiles c.args.entered (was.tiles * before) (c.args.entered - before) was.firsts.items
    was.strides.items c.extend.new.self.firsts.items c.extend.new.self.strides.items first all firsts strides)
    c.extend.ensures.firsts c.extend.ensures.strides

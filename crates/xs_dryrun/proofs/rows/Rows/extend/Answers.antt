use Rattle.std.proofs.Common.{◌+◌, ◌++◌, ◌∷◌, [], ap, ◌∙◌}
use Rattle.xs_dryrun.proofs.Numbering.{firsts_push, strides_push}
use Rattle.xs_dryrun.proofs.rows.Rows.extend.Goals as goal

pub loop-i-preserved : goal.loop-i-preserved
loop-i-preserved c =
    let firsts = firsts_push c.args.self.now.firsts.items c.args.first c.loop-i.i in
    let strides = strides_push c.args.self.now.strides.items c.args.stride c.loop-i.i in
    record {
      tiles = c.loop-i.invariant.tiles;
      firsts = c.in_ok-push.ensures.items ∙ ap (λ l. l ++ (c.args.first + c.loop-i.i) ∷ []) c.loop-i.invariant.firsts ∙ firsts;
      strides = c.in_ok-push-2.ensures.items ∙ ap (λ l. l ++ c.args.stride ∷ []) c.loop-i.invariant.strides ∙ strides;
    }

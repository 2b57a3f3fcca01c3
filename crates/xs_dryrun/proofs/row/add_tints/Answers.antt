use Rattle.std.proofs.Common.{Some, List, sym, ap, ◌∙◌}
use Rattle.xs_pixel.specs.Channels.{Channels}
use Rattle.xs_tint.specs.Tints.{tint_of}
use Rattle.xs_dryrun.proofs.RowTints.{one_tint_more}
use Rattle.xs_dryrun.proofs.row.add_tints.Goals as goal

pub loop-t-preserved : goal.loop-t-preserved
loop-t-preserved c =
    one_tint_more c.args.builder.now c.args.entered.now c.args.from c.loop-t.t c.loop-t.builder c.tint-in-loop-t.new.self _
    c.loop-t.invariant (c.tint.ensures ∙ ap (λ (p : List Channels). Some (tint_of p)) (sym c.in_ok-copy.ensures)) c.in_ok-tint.ensures.added

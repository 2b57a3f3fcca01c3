use Rattle.std.proofs.Common.{sym, ap, ◌∙◌, subst}
use Rattle.std.proofs.lemmas.Bool.{false≢true}
use Rattle.xs_rawfile.specs.Raw.{IsRaw}
use Rattle.xs_make.specs.Draws.{state_after}
use Rattle.xs_make.proofs.Drawn.{state_after_more}
use Rattle.xs_make.proofs.Parts.{cel_of}
use Rattle.xs_make.proofs.Raws.{cel_is_raw}
use Rattle.xs_make.proofs.files.cel.Goals as goal

pub unreachable-requires : goal.unreachable-requires
unreachable-requires c =
    let x = c.args.draws.now in
    let right = c.draw-x0.ensures in
    let up = c.draw-y0.ensures in
    let is = cel_of x c.draw-x0.result c.draw-y0.result c.draw-x0.new.self c.draw-y0.new.self c.of.result right.number right.below right.state
    up.number up.below up.state (c.of.ensures ∙ c.in_ok-bytes.ensures.bytes) in
    false≢true (c.in-None.ensures.valid.1 (subst IsRaw (sym is) (cel_is_raw x)))

pub returns-clause-drawing : goal.returns-clause-drawing
returns-clause-drawing c =
    let right = c.draw-x0.ensures in
    let up = c.draw-y0.ensures in
    c.in-Some.ensures.value
    ∙ cel_of c.args.draws.now c.draw-x0.result c.draw-y0.result c.draw-x0.new.self c.draw-y0.new.self c.of.result right.number right.below right.state
    up.number up.below up.state (c.of.ensures ∙ c.in_ok-bytes.ensures.bytes)

pub returns-clause-state : goal.returns-clause-state
returns-clause-state c =
    let x = c.args.draws.now in
    let two = c.draw-y0.ensures.state ∙ ap (λ s. state_after s 1) c.draw-x0.ensures.state ∙ state_after_more x 1 1 in
    c.in_ok-bytes.ensures.state ∙ ap (λ s. state_after s 12288) two ∙ state_after_more x 2 12288

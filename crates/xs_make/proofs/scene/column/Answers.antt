use Rattle.std.proofs.Common.{◌≡◌, [], ◌∷◌, ◌++◌, ap, ◌∙◌, rules, arith}
use Rattle.xs_make.specs.Draws.{state_after}
use Rattle.xs_make.specs.Scenes.{exposure_from}
use Rattle.xs_make.proofs.Drawn.{map_more, state_after_more}
use Rattle.xs_make.proofs.Parts.{exposure_at, exposure_from_more}
use Rattle.xs_make.proofs.scene.column.Goals as goal

pub loop-j-preserved : goal.loop-j-preserved
loop-j-preserved c =
    let x = c.args.draws.now in
    let j = c.loop-j.j in
    let rows = c.args.rows in
    let level = c.args.level in
    let exposure : c.exposure.result ≡ exposure_from x rows level j =
    c.exposure.ensures.exposure ∙ ap (λ s. exposure_at s rows level j) c.loop-j.invariant.draws ∙ exposure_from_more x rows level j in
    let items : c.push.new.self.items ≡ c.loop-j.cells.items ++ c.exposure.result ∷ [] = search rules in
    record {
      cells = items ∙ map_more (exposure_from x rows level) c.loop-j.cells.items 0 j j c.exposure.result (omega arith) c.loop-j.invariant.cells exposure;
      draws = c.exposure.ensures.state ∙ ap (λ s. state_after s 1) c.loop-j.invariant.draws ∙ state_after_more x j 1;
    }

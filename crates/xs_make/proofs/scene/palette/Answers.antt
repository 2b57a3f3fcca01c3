use Rattle.std.proofs.Common.{◌≡◌, [], ◌∷◌, ◌++◌, refl, ap, ◌∙◌, rules, arith}
use Rattle.xs_make.specs.Draws.{state_after}
use Rattle.xs_make.specs.Scenes.{clear_style, style_from}
use Rattle.xs_make.proofs.Drawn.{map_more}
use Rattle.xs_make.proofs.Parts.{after_one_more, style_from_more}
use Rattle.xs_make.proofs.scene.palette.Goals as goal

pub loop-style-preserved : goal.loop-style-preserved
loop-style-preserved c =
    let x = c.args.draws.now in
    let n = c.loop-style._style in
    let style : c.style.result ≡ style_from x n =
    c.style.ensures.style ∙ ap (λ s. style_from s 0) c.loop-style.invariant.draws ∙ style_from_more x n in
    let items : c.push.new.self.items ≡ c.loop-style.styles.items ++ c.style.result ∷ [] = search rules in
    record {
      styles = items ∙ ap (λ xs. xs ++ c.style.result ∷ []) c.loop-style.invariant.styles
          ∙ ap (λ xs. clear_style ∷ xs) (map_more (style_from x) _ 0 n n c.style.result (omega arith) refl style);
      draws = c.style.ensures.state ∙ ap (λ s. state_after s 3) c.loop-style.invariant.draws ∙ after_one_more x 3 n;
    }

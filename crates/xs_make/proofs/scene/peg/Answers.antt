use Rattle.std.proofs.Common.{◌≡◌, [], ◌∷◌, ◌++◌, ap, ◌∙◌, rules, arith}
use Rattle.xs_make.specs.Draws.{state_after}
use Rattle.xs_make.specs.Scenes.{key_from}
use Rattle.xs_make.proofs.Drawn.{map_more}
use Rattle.xs_make.proofs.Parts.{after_one_more, key_from_more, key_at}
use Rattle.xs_make.proofs.scene.peg.Goals as goal

pub loop-n-preserved : goal.loop-n-preserved
loop-n-preserved c =
    let x = c.args.draws.now in
    let n = c.loop-n.n in
    let key : c.key.result ≡ key_from x n =
    c.key.ensures.key ∙ ap (λ s. key_at s n) c.loop-n.invariant.draws ∙ key_from_more x n in
    let items : c.push.new.self.items ≡ c.loop-n.keys.items ++ c.key.result ∷ [] = search rules in
    record {
      keys = items ∙ map_more (key_from x) c.loop-n.keys.items 0 n n c.key.result (omega arith) c.loop-n.invariant.keys key;
      draws = c.key.ensures.state ∙ ap (λ s. state_after s 2) c.loop-n.invariant.draws ∙ after_one_more x 2 n;
    }

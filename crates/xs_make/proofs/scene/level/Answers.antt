use Rattle.std.proofs.Common.{◌≡◌, ◌+◌, ◌*◌, [], ◌∷◌, ◌++◌, refl, ◌∙◌, rules}
use Rattle.xs_make.specs.Files.{cel_name}
use Rattle.xs_make.proofs.Drawn.{map_more}
use Rattle.xs_make.proofs.scene.level.Goals as goal

pub loop-j-preserved : goal.loop-j-preserved
loop-j-preserved c =
    let first = 4 * c.args.l in
    let j = c.loop-j.j in
    let name : c.in_ok-name.field-0 ≡ cel_name (first + j) = search rules in
    let items : c.push.new.self.items ≡ c.loop-j.names.items ++ c.in_ok-name.field-0 ∷ [] = search rules in
    items ∙ map_more cel_name c.loop-j.names.items first j (first + j) c.in_ok-name.field-0 refl c.loop-j.invariant name

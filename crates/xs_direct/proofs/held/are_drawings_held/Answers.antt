use Rattle.std.proofs.Common.{◌∙◌}
use Rattle.xs_meaning.specs.Expressions.{drawings_of, root_of}
use Rattle.xs_direct.proofs.HeldLemmas.{held-once}
use Rattle.xs_direct.proofs.held.are_drawings_held.Goals as goal

pub returns : goal.returns
returns g c =
    let same = held-once c.each_number_is_taken_once.ensures.members c.each_number_is_taken_once.ensures.found c.args.drawings.now
    (drawings_of (root_of c.args.s.now c.args.row)) c.as_slice.result.now (c.as_slice.ensures.value ∙ c.in_ok-numbers.ensures.value)
    in
    let are = c.are_held.ensures in
    (λ t. same.0 (are.0 t), λ all. are.1 (same.1 all))

use Rattle.std.proofs.Common.{◌==◌, ◌∙◌, arith, eq-eqb, slice_index_or}
use Rattle.std.proofs.lemmas.List.Folds.{list_any_at}
use Rattle.xs_plan.specs.Needed.{held}
use Rattle.xs_render.proofs.laws.a_section_has_its_drawings.Goals as goal

pub returns : goal.returns
returns c = λ p s h there holds d needed.
    let has = (c.drawings_are_held_while_they_are_needed.ensures p s d there).1
    ((s, omega arith, needed), (s, omega arith, there, needed)) in
    holds d ∙ list_any_at (λ listed. listed == d) (held p s) has.0 d has.1 (eq-eqb (slice_index_or (held p s) has.0 d) d has.2)

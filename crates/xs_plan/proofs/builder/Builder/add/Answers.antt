-- The draft with one alias more is one.
use Rattle.std.proofs.Common.{◌≡◌, ◌/◌, [], ◌∷◌, ◌++◌, length, ap₂, ◌∙◌, arith}
use Rattle.xs_base.specs.declared.limits.TheConstants.{SECTION_ROWS}
use Rattle.xs_plan.proofs.ReadLemmas.{made_of}
use Rattle.xs_plan.proofs.DraftLemmas.{IsDraft-add}
use Rattle.xs_plan.proofs.builder.Builder.add.Goals as goal

pub invariant_of-self-2 : goal.invariant_of-self-2
invariant_of-self-2 c =
    let inside = c.self.inside in
    let alias = made_of c.args.job c.args.rect c.args.a c.args.b in
    let rows : c.len.result ≡ length inside.ends.items = omega (arith, c.len.ensures, inside.ends.ok.0) in
    let firsts : c.push_reserved.new.self.items ≡ inside.firsts.items ++ length inside.ends.items / SECTION_ROWS ∷ [] =
    c.push_reserved.ensures.items ∙ ap₂ (λ l r. l ++ r / SECTION_ROWS ∷ []) c.reserve.ensures.items rows in
    let lacks = rw (← c.self.view_is) at c.requires.lacks_roots in
    let valid = rw (← c.self.view_is) at c.requires.valid in
    let room = rw (← c.self.view_is) at c.requires.room in
    rw (c.in_ok-k.ensures.added, firsts) (IsDraft-add c.self.invariant alias lacks valid room)

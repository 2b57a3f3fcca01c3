use Rattle.std.proofs.Common.{◌+◌, ◌*◌, ℤ, false, w32, ap, ap₂, ◌∙◌, rules, arith}
use Rattle.std.proofs.lemmas.Int.{ints, to_z-of_z}
use Rattle.xs_scene.specs.Records.{PegKeyRecord}
use Rattle.xs_make.specs.Draws.{state_after}
use Rattle.xs_make.specs.Scenes.{around}
use Rattle.xs_make.proofs.Drawn.{state_after_more}
use Rattle.xs_make.proofs.Parts.{around_next}
use Rattle.xs_make.proofs.scene.key.Goals as goal

pub unreachable-requires : goal.unreachable-requires
unreachable-requires c =
    let x = to_z-of_z w32 c.around-x.result (search rules) in
    let y = to_z-of_z w32 c.around-y.result (search rules) in
    c.in-None.ensures
    (record {
      row = (omega arith, omega arith);
      x = rw x (omega (arith, ints), omega (arith, ints));
      y = rw y (omega (arith, ints), omega (arith, ints));
    })

pub returns-clause-key : goal.returns-clause-key
returns-clause-key c =
    let first = c.args.draws.now in
    let x = to_z-of_z w32 c.around-x.result (search rules) ∙ c.around-x.ensures.number in
    let y = to_z-of_z w32 c.around-y.result (search rules) ∙ c.around-y.ensures.number ∙ ap (λ s. around s 0 8) c.around-x.ensures.state
    ∙ around_next first 1 8 in
    c.in-Some.ensures.1
    ∙ ap₂ (λ (x y : ℤ). let key : PegKeyRecord = record { row = 8 * c.args.n + 1; x = x; y = y; line = false } in key) x y

pub returns-clause-state : goal.returns-clause-state
returns-clause-state c =
    c.around-y.ensures.state ∙ ap (λ s. state_after s 1) c.around-x.ensures.state ∙ state_after_more c.args.draws.now 1 1

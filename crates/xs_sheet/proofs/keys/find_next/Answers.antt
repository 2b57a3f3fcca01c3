use Rattle.std.proofs.Common.{◌<◌, ltb, length, Some, ap, ◌∙◌, arith}
use Rattle.std.proofs.lemmas.Bool.{lt-ltb, le-ltb}
use Rattle.xs_scene.specs.Ranges.{IsPegKey}
use Rattle.xs_scene.specs.Records.{PegKeyRecord}
use Rattle.xs_meaning.specs.Keys.{earliest, nearest}
use Rattle.xs_meaning.proofs.KeyLemmas.{earliest-push}
use Rattle.xs_sheet.proofs.BestKeys.{taken, passed, nearest-has}
use Rattle.xs_sheet.proofs.keys.find_next.Goals as goal
use Rattle.xs_sheet.proofs.keys.find_next.Goals.{then-row-key, else-row-key}

pub loop-key-preserved : goal.loop-key-preserved
loop-key-preserved c =
    let keys = c.args.keys.now in
    let row = c.args.row in
    let i = c.loop-key.key-index in
    let within : i < length keys = omega arith in
    let key : PegKeyRecord = record { row = c.key.inside.row; x = c.key.inside.x; y = c.key.inside.y; line = c.key.inside.line } in
    let P : PegKeyRecord → Type 0 = λ k. IsPegKey k × (row < k.row) in
    let best = c.loop-key.best in
    elim c.if-row-key.branch [
      | then-row-key w ↦
          taken (earliest (λ k. k.row)) (nearest (λ k. k.row)) (earliest-push (λ k. k.row))
          (λ k. ltb row k.row) P keys i c.key-item.result key within c.key-item.is c.key.view_is
          best c.if-row-key.best c.loop-key.invariant (lt-ltb row key.row w.if-row-key.true)
          (nearest-has (λ k. k.row) P best key c.loop-key.invariant.1 (c.key.invariant, w.if-row-key.true)) (w.best-is ∙ ap Some w.earlier.ensures)
      | else-row-key w ↦
          passed (earliest (λ k. k.row)) (nearest (λ k. k.row)) (earliest-push (λ k. k.row))
          (λ k. ltb row k.row) P keys i c.key-item.result key within c.key-item.is c.key.view_is
          best c.if-row-key.best c.loop-key.invariant (le-ltb row key.row w.if-row-key.false) w.best-is
    ]

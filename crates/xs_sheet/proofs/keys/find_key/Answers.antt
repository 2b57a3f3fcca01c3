use Rattle.std.proofs.Common.{◌≤◌, ◌<◌, leb, length, Some, ap, ◌∙◌, arith}
use Rattle.std.proofs.lemmas.Bool.{le-leb, lt-leb}
use Rattle.xs_scene.specs.Ranges.{IsPegKey}
use Rattle.xs_scene.specs.Records.{PegKeyRecord}
use Rattle.xs_meaning.specs.Keys.{latest, newest}
use Rattle.xs_meaning.proofs.KeyLemmas.{latest-push}
use Rattle.xs_sheet.proofs.BestKeys.{taken, passed, newest-has}
use Rattle.xs_sheet.proofs.keys.find_key.Goals as goal
use Rattle.xs_sheet.proofs.keys.find_key.Goals.{then-key-row, else-key-row}

pub loop-key-preserved : goal.loop-key-preserved
loop-key-preserved c =
    let keys = c.args.keys.now in
    let row = c.args.row in
    let i = c.loop-key.key-index in
    let within : i < length keys = omega arith in
    let key : PegKeyRecord = record { row = c.key.inside.row; x = c.key.inside.x; y = c.key.inside.y; line = c.key.inside.line } in
    let P : PegKeyRecord → Type 0 = λ k. IsPegKey k × (k.row ≤ row) in
    let best = c.loop-key.best in
    elim c.if-key-row.branch [
      | then-key-row w ↦
          taken (latest (λ k. k.row)) (newest (λ k. k.row)) (latest-push (λ k. k.row))
          (λ k. leb k.row row) P keys i c.key-item.result key within c.key-item.is c.key.view_is
          best c.if-key-row.best c.loop-key.invariant (le-leb key.row row w.if-key-row.true)
          (newest-has (λ k. k.row) P best key c.loop-key.invariant.1 (c.key.invariant, w.if-key-row.true)) (w.best-is ∙ ap Some w.later.ensures)
      | else-key-row w ↦
          passed (latest (λ k. k.row)) (newest (λ k. k.row)) (latest-push (λ k. k.row))
          (λ k. leb k.row row) P keys i c.key-item.result key within c.key-item.is c.key.view_is
          best c.if-key-row.best c.loop-key.invariant (lt-leb key.row row w.if-key-row.false) w.best-is
    ]

use Rattle.std.proofs.Common.{◌≡◌, ◌<◌, take, IfSome}
use Rattle.xs_scene.specs.Ranges.{IsPegKey}
use Rattle.xs_meaning.specs.Places.{key_after}
use Rattle.xs_sheet.proofs.keys.find_next.Given as goal

abbrev pub invariant-loop-key : goal.invariant-loop-key
invariant-loop-key l =
    (l.best ≡ key_after (take l.key-index l.keys) l.row) × IfSome l.best (λ k. IsPegKey k × (l.row < k.row))

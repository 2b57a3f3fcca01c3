use Rattle.xs_core.specs.States.{phase_of, tile_of, is_ready, left}
use Rattle.xs_core.proofs.RunLemmas.{Fits-held, Fits-is_held, Fits-absent, Fits-leaving}
use Rattle.xs_core.proofs.laws.tiles_are_held_while_reads_are_open.Goals as goal

pub returns-clause-held : goal.returns-clause-held
returns-clause-held c = λ p w kept k. (
  Fits-held (is_ready (phase_of w k)) (left p w k) (tile_of w k) (kept.fits k),
  λ is. Fits-is_held (is_ready (phase_of w k)) (left p w k) (tile_of w k) (kept.fits k) is.0 is.1,
)

pub returns-clause-absent : goal.returns-clause-absent
returns-clause-absent c = λ p w kept k. Fits-absent (is_ready (phase_of w k)) (left p w k) (tile_of w k) (kept.fits k)

pub returns-clause-leaving : goal.returns-clause-leaving
returns-clause-leaving c = λ p w kept k seat. Fits-leaving (is_ready (phase_of w k)) (left p w k) seat (tile_of w k) (kept.fits k)

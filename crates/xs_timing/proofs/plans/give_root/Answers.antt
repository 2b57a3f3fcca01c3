-- All tiles are the one on which the alias stands.
use Rattle.xs_timing.proofs.MadeLemmas.{on_its_tile}
use Rattle.xs_timing.proofs.plans.give_root.Goals as goal

pub root-requires-clause-on_its_tile : goal.root-requires-clause-on_its_tile
root-requires-clause-on_its_tile c = on_its_tile c.requires.made c.args.k c.requires.last

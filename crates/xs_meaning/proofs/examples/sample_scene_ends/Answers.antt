use Rattle.std.proofs.Common.{ℕ, zero, suc, ◌<◌, Some, length, arith}
use Rattle.xs_scene.specs.declared.node.Ref.TheVariants.{Node as ToNode}
use Rattle.xs_meaning.specs.Ends.{NodesEnd, SheetsEnd, PegsEnd}
use Rattle.xs_meaning.specs.Samples.{every_kind}
use Rattle.xs_meaning.specs.Walk.{sheet_at}
use Rattle.xs_meaning.proofs.examples.sample_scene_ends.Goals as goal

nodes_end : (k n : ℕ) → n < length (sheet_at every_kind k).nodes → NodesEnd (sheet_at every_kind k) (length (sheet_at every_kind k).nodes) (ToNode n)
unfolding NodesEnd
nodes_end zero zero lt = (tt, tt)
nodes_end zero (suc zero) lt = tt
nodes_end zero (suc (suc zero)) lt = tt
nodes_end zero (suc (suc (suc zero))) lt = tt
nodes_end zero (suc (suc (suc (suc zero)))) lt = tt
nodes_end zero (suc (suc (suc (suc (suc zero))))) lt = tt
nodes_end zero (suc (suc (suc (suc (suc (suc n)))))) lt = absurd (omega arith)
nodes_end (suc zero) n lt = absurd (omega arith)
nodes_end (suc (suc k)) n lt = absurd (omega arith)

inner_ends : (d : ℕ) → SheetsEnd every_kind (suc d) 1
unfolding SheetsEnd
inner_ends d zero column lt zero exposure below = tt
inner_ends d zero column lt (suc e) exposure below = absurd (omega arith)
inner_ends d (suc c) column lt e exposure below = absurd (omega arith)

outer_ends : (d : ℕ) → SheetsEnd every_kind (suc (suc d)) 0
unfolding SheetsEnd
outer_ends d zero column lt zero exposure below = inner_ends d
outer_ends d zero column lt (suc e) exposure below = absurd (omega arith)
outer_ends d (suc zero) column lt zero exposure below = tt
outer_ends d (suc zero) column lt (suc e) exposure below = absurd (omega arith)
outer_ends d (suc (suc c)) column lt e exposure below = absurd (omega arith)

sheets_end : (k : ℕ) → SheetsEnd every_kind 16 k
unfolding SheetsEnd
sheets_end zero = outer_ends 14
sheets_end (suc zero) = inner_ends 15
sheets_end (suc (suc k)) = λ c column lt e exposure below. absurd (omega arith)

pegs_end : (k i : ℕ) → i < length (sheet_at every_kind k).pegs → PegsEnd (sheet_at every_kind k) 64 (Some i)
unfolding PegsEnd
pegs_end zero zero lt = tt
pegs_end zero (suc zero) lt = tt
pegs_end zero (suc (suc i)) lt = absurd (omega arith)
pegs_end (suc zero) i lt = absurd (omega arith)
pegs_end (suc (suc k)) i lt = absurd (omega arith)

pub returns : goal.returns
returns c = record { nodes = nodes_end; sheets_end = sheets_end; pegs = pegs_end }

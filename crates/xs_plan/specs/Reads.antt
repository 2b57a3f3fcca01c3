-- Who reads which alias
use Rattle.std.specs.Prelude.{ℕ, ◌+◌, ◌/◌, ◌%◌, ◌==◌, nat_lt, Option, Some, None, List, [], ◌∷◌, ◌++◌, length, take, flat_map, count_by, if◌then◌else◌}
use Rattle.xs_plan.specs.declared.job.Edge.{Edge}
use Rattle.xs_plan.specs.declared.job.Reader.{Reader}
use Rattle.xs_plan.specs.declared.job.Reader.TheVariants.{Port, Root}
use Rattle.xs_plan.specs.Record.{Entry, PlanRecord, entry_at, root_place}

-- the aliases that are read at ports, by reader and then port
abbrev pub port_sources : List Entry → List ℕ
port_sources entries = flat_map (λ e. e.inputs) entries

-- the aliases that are read, by the number of the read: first at ports, then by the rows' tiles
abbrev pub sources : PlanRecord → List ℕ
sources p = port_sources p.entries ++ p.roots

abbrev pub reads_in : PlanRecord → ℕ
reads_in p = length (sources p)

-- how often an alias is read: an input that is used twice counts twice
abbrev pub readers_of : PlanRecord → ℕ → ℕ
readers_of p k = count_by (λ source. source == k) (sources p)

-- the number of an alias's read at port 0
abbrev pub first_read : PlanRecord → ℕ → ℕ
first_read p k = length (port_sources (take k p.entries))

-- the number of an alias's read at a port, where it has the port
abbrev pub port_read_of : PlanRecord → ℕ → ℕ → Option ℕ
port_read_of p k port = if nat_lt port (length (entry_at p.entries k).inputs) then Some (first_read p k + port) else None

-- the number of the read of a row and tile
abbrev pub root_read_of : PlanRecord → ℕ → ℕ → ℕ
root_read_of p row tile = length (port_sources p.entries) + root_place p row tile

-- ---- the reads themselves, by their numbers

abbrev pub edge : ℕ → Reader → Edge
edge source reader = record { source = source; reader = reader }

-- those of an alias from a port on
abbrev pub edges_from : ℕ → ℕ → List ℕ → List Edge
edges_from k port [] = []
edges_from k port (source ∷ inputs) = edge source (Port k port) ∷ edges_from k (port + 1) inputs

-- those of the aliases from number k on
abbrev pub port_edges : ℕ → List Entry → List Edge
port_edges k [] = []
port_edges k (e ∷ entries) = edges_from k 0 e.inputs ++ port_edges (k + 1) entries

-- those of the roots from a place on, where each row has so many tiles
abbrev pub root_edges : ℕ → ℕ → List ℕ → List Edge
root_edges tiles place [] = []
root_edges tiles place (source ∷ roots) =
    edge source (Root (place / tiles) (place % tiles)) ∷ root_edges tiles (place + 1) roots

unfoldable pub edges : PlanRecord → List Edge
edges p = port_edges 0 p.entries ++ root_edges (length p.tiles) 0 p.roots

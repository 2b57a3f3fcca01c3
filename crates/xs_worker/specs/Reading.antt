-- What an alias reads
use Rattle.std.specs.Prelude.{◌≡◌, ◌<◌, ℕ, ◌++◌, Option, Some, None, List, [], ◌∷◌, length, slice_get, slice_index}
use Rattle.xs_plan.specs.declared.job.Reader.TheVariants.{Port}
use Rattle.xs_plan.specs.Record.{PlanRecord, entry_at}
use Rattle.xs_plan.specs.Reads.{reads_in, port_read_of}
use Rattle.xs_plan.specs.Valid.{Reaches}
use Rattle.xs_core.specs.States.{source_at, reader_at}

-- a read with a number is the one that an alias makes at a port: it reads the input there, which is an earlier alias
pub record IsPortRead (p : PlanRecord) (k port e : ℕ) : Type 0 where
  pub within : e < reads_in p
  pub reader : reader_at p e ≡ Port k port
  pub input : slice_get (entry_at p.entries k).inputs port ≡ Some (source_at p e)
  pub earlier : source_at p e < k
  pub port_is : port < 2

-- the reads at ports that a plan numbers are those of its aliases, and an alias that has an input has a read of it
pub record TellsReads (p : PlanRecord) : Type 0 where
  pub read : (k port e : ℕ) → k < length p.entries → port_read_of p k port ≡ Some e → IsPortRead p k port e
  pub input : (k port i : ℕ) → k < length p.entries → slice_get (entry_at p.entries k).inputs port ≡ Some i
      → (e : ℕ) × (port_read_of p k port ≡ Some e) × (source_at p e ≡ i)

-- the reads of an alias at a port: one or none
abbrev pub listed : Option ℕ → List ℕ
listed None = []
listed (Some e) = e ∷ []

-- the reads of an alias at its ports
abbrev pub port_reads : PlanRecord → ℕ → List ℕ
port_reads p k = listed (port_read_of p k 0) ++ listed (port_read_of p k 1)

-- some target reaches an alias
pub record IsReached (p : PlanRecord) (targets : List ℕ) (k : ℕ) : Type 0 where
  pub place : ℕ
  pub there : place < length targets
  pub way : Reaches p.entries (slice_index targets place) k

-- Lemmas on the reads of a plan
use Rattle.std.proofs.Common.{◌≡◌, ◌<◌, ◌≤◌, ◌+◌, ℕ, zero, suc, Bool, true, false, nat_lt, cond, Some, None, List, length, take, map, get_or, slice_get, slice_index, refl, sym, ap, subst, ◌∙◌, arith}
use Rattle.std.specs.List.{Contains}
use Rattle.std.proofs.lemmas.Bool.{lt-ltb}
use Rattle.std.proofs.lemmas.List.Elements.{All-get_or}
use Rattle.std.proofs.lemmas.List.{length-map, length-take-le}
use Rattle.std.proofs.Math.ListN.{get_or-map}
use Rattle.std.proofs.lemmas.Option.{get_or_from_slice_get, slice_get_within, slice_get-get_or}
use Rattle.xs_plan.specs.declared.job.Edge.{Edge}
use Rattle.xs_plan.specs.declared.job.Job.{Job}
use Rattle.xs_plan.specs.declared.job.Job.TheVariants as job
use Rattle.xs_plan.specs.declared.job.Reader.TheVariants.{Port, Root}
use Rattle.xs_plan.specs.Record.{Entry, PlanRecord, entry_at, no_entry, ports_of}
use Rattle.xs_plan.specs.Reads.{reads_in, sources, edge, edges, first_read, port_read_of}
use Rattle.xs_plan.specs.Valid.{IsPlan, IsInput, Leads}
use Rattle.xs_core.specs.States.{source_at}
use Rattle.xs_worker.specs.Reading.{IsPortRead, TellsReads, IsReached}

few_ports : (j : Job) → ports_of j ≤ 2
few_ports job.Clear = omega arith
few_ports (job.Leaf drawing dx dy) = omega arith
few_ports (job.Tinted drawing dx dy tint) = omega arith
few_ports (job.Card pixel) = omega arith
few_ports (job.Pair op) = omega arith
few_ports (job.Blur radius) = omega arith

some_same : (a b : ℕ) → Some a ≡ Some b → a ≡ b
some_same a b is = cc

-- the number of a read at a port tells that there is the port
has_port : (b : Bool) (n e : ℕ) → cond b (Some n) None ≡ Some e → (b ≡ true) × (n ≡ e)
has_port true n e is = (refl, cc)
has_port false n e is = absurd (cc)

pub tells_reads :
    (p : PlanRecord) → IsPlan p → map (λ (e : Edge). e.source) (edges p) ≡ sources p
    → ((k port : ℕ) → k < length p.entries → port < length (entry_at p.entries k).inputs
    → slice_get (edges p) (first_read p k + port) ≡ Some (edge (slice_index (entry_at p.entries k).inputs port) (Port k port)))
    → TellsReads p
tells_reads p valid told ports = record { read = read; input = input }
  where
    read : (k port e : ℕ) → k < length p.entries → port_read_of p k port ≡ Some e → IsPortRead p k port e
    read k port e there is =
        let entry = valid.entries k (entry_at p.entries k) (slice_get-get_or p.entries k no_entry there) in
        let has = has_port (nat_lt port (length (entry_at p.entries k).inputs)) (first_read p k + port) e is in
        let within : port < length (entry_at p.entries k).inputs = grind (arith, has.0) in
        let input = slice_index (entry_at p.entries k).inputs port in
        let at : slice_get (edges p) e ≡ Some (edge input (Port k port)) =
        ap (λ n. slice_get (edges p) n) (sym has.1) ∙ ports k port there within in
        let edge_is = get_or_from_slice_get (edges p) e (edge input (Port k port)) (edge 0 (Root 0 0)) at in
        let source_is : source_at p e ≡ input =
        ap (λ (l : List ℕ). get_or l e 0) (sym told) ∙ get_or-map (λ (e : Edge). e.source) (edges p) e (edge 0 (Root 0 0))
        ∙ ap (λ (e : Edge). e.source) edge_is in
        let many : reads_in p ≡ length (edges p) = ap (λ (l : List ℕ). length l) (sym told) ∙ simp length-map in
        let inputs = All-get_or (IsInput (take k p.entries) (entry_at p.entries k)) (entry_at p.entries k).inputs port 0 within entry.inputs in
        let earlier = length-take-le k p.entries in
        record {
          within = omega (arith, many, slice_get_within (edges p) e (edge input (Port k port)) at);
          reader = ap (λ (e : Edge). e.reader) edge_is;
          input = slice_get-get_or (entry_at p.entries k).inputs port 0 within ∙ ap Some (sym source_is);
          earlier = omega (arith, source_is, inputs.there, earlier);
          port_is = omega (arith, within, entry.ports, few_ports (entry_at p.entries k).job);
        }

    input : (k port i : ℕ) → k < length p.entries → slice_get (entry_at p.entries k).inputs port ≡ Some i
        → (e : ℕ) × (port_read_of p k port ≡ Some e) × (source_at p e ≡ i)
    input k port i there is =
        let within = slice_get_within (entry_at p.entries k).inputs port i is in
        let numbered : port_read_of p k port ≡ Some (first_read p k + port) =
        ap (λ b. cond b (Some (first_read p k + port)) None) (lt-ltb port (length (entry_at p.entries k).inputs) within) in
        let at = read k port (first_read p k + port) there numbered in
        (first_read p k + port, numbered, some_same (source_at p (first_read p k + port)) i (sym at.input ∙ is))

-- ---- what targets reach

leads_then : (entries : List Entry) (reads k last input : ℕ) → Leads entries reads k last → Contains (entry_at entries last).inputs input
    → Leads entries (suc reads) k input
unfolding Leads
leads_then entries zero k last input way reads =
    (input, subst (λ j. Contains (entry_at entries j).inputs input) (sym way) reads, refl)
leads_then entries (suc n) k last input way reads = (way.0, way.1, leads_then entries n way.0 last input way.2 reads)

pub reached_then : (p : PlanRecord) (targets : List ℕ) (k port input : ℕ) → IsReached p targets k
    → slice_get (entry_at p.entries k).inputs port ≡ Some input → IsReached p targets input
reached_then p targets k port input reached reads = record {
  place = reached.place;
  there = reached.there;
  way = record {
    reads = suc reached.way.reads;
    way = leads_then p.entries reached.way.reads (slice_index targets reached.place) k input reached.way.way
        (contains_at (entry_at p.entries k).inputs port input reads);
  };
}
  where
    contains_at : (xs : List ℕ) (i x : ℕ) → slice_get xs i ≡ Some x → Contains xs x
    contains_at xs i x at = (i, slice_get_within xs i x at, get_or_from_slice_get xs i x x at)

pub reached_target : (p : PlanRecord) (targets : List ℕ) (place : ℕ) → place < length targets → IsReached p targets (slice_index targets place)
unfolding Leads
reached_target p targets place there = record { place = place; there = there; way = record { reads = zero; way = refl } }

use Rattle.std.proofs.Common.{◌≡◌, ◌<◌, ℕ, List, length, get_or, subst, sym, ap, ◌∙◌}
use Rattle.std.proofs.Math.ListN.{get_or-map}
use Rattle.std.proofs.lemmas.List.Elements.{All-get_or}
use Rattle.std.proofs.lemmas.Option.{get_or_from_slice_get}
use Rattle.xs_plan.specs.declared.job.Edge.{Edge}
use Rattle.xs_plan.specs.declared.job.Reader.TheVariants.{Root}
use Rattle.xs_plan.specs.Reads.{edge, edges, sources}
use Rattle.xs_core.proofs.core_state.edge_of.Goals as goal

pub returns-clause-source_there : goal.returns-clause-source_there
returns-clause-source_there c =
    let exist = c.reads_have_their_sources.ensures.exist c.args.p.now c.aliases-aliases.ensures.valid in
    let edge_is = get_or_from_slice_get (edges c.args.p.now) c.args.e c.read.result (edge 0 (Root 0 0)) c.read.ensures in
    let source_is : get_or (sources c.args.p.now) c.args.e 0 ≡ c.read.result.source =
    ap (λ (l : List ℕ). get_or l c.args.e 0) (sym (c.reads_have_their_sources.ensures.sources c.args.p.now))
    ∙ get_or-map (λ (e : Edge). e.source) (edges c.args.p.now) c.args.e (edge 0 (Root 0 0)) ∙ ap (λ (e : Edge). e.source) edge_is in
    subst (λ (k : ℕ). k < length c.args.p.now.entries) source_is
    (All-get_or (λ k. k < length c.args.p.now.entries) (sources c.args.p.now) c.args.e 0 c.requires exist)

pub returns-clause-reader : goal.returns-clause-reader
returns-clause-reader c =
    sym (ap (λ (e : Edge). e.reader) (get_or_from_slice_get (edges c.args.p.now) c.args.e c.read.result (edge 0 (Root 0 0)) c.read.ensures))

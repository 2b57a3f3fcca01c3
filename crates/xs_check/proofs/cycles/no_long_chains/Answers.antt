use Rattle.std.proofs.Common.{not}
use Rattle.std.proofs.lemmas.Bool.Decides.{Decides-not}
use Rattle.xs_fault.specs.Paths.{path_of}
use Rattle.xs_fault.specs.declared.code.SceneCode.TheVariants as code
use Rattle.xs_graph.specs.Paths.{HasChain, has_chain}
use Rattle.xs_check.specs.Passes.{long_chain_fault}
use Rattle.xs_check.proofs.Findings.{first_told}
use Rattle.xs_check.proofs.cycles.no_long_chains.Goals as goal

pub returns : goal.returns
unfolding long_chain_fault
returns c =
    let links = c.args.links.now in
    let most = c.args.most in
    first_told (λ i. HasChain links most i → ⊥) (λ i targets. not (has_chain links most i)) code.TooMany (path_of c.args.field c.args.at.now) links
    (λ i targets below. Decides-not (has_chain links most i) (c.chains_are_told_link_by_link.ensures links most i)) _ c.tell_first.result
    c.in_ok-first.ensures c.tell_first.ensures

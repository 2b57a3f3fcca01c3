-- A read's number is below the number of reads.
use Rattle.std.proofs.Common.{◌≡◌, ◌<◌, length, ap, ◌∙◌, arith}
use Rattle.std.proofs.lemmas.List.{get_or_read}
use Rattle.xs_plan.specs.Record.{Entry, entry_at, no_entry}
use Rattle.xs_plan.specs.Kept.{reads_before}
use Rattle.xs_plan.proofs.ReadLemmas.{few_owners, reads_before-within}
use Rattle.xs_plan.proofs.aliases.Aliases.port_read.Goals as goal

pub overflow_add-result : goal.overflow_add-result
overflow_add-result c =
    let inside = c.self.inside in
    let k = c.args.k in
    let there : k < length inside.list.items = rw (← c.self.view_is) at c.requires in
    let many : k < length inside.starts.items = omega (arith, there, c.self.invariant.starts_many) in
    let before : c.index-then-port-ports.result.now ≡ reads_before inside.list.items k =
    get_or_read inside.starts.items k _ many c.index-then-port-ports.ensures 0 ∙ c.self.invariant.start k there in
    let entry : c.index.result.now ≡ entry_at inside.list.items k =
    get_or_read inside.list.items k _ there c.index.ensures no_entry in
    let ports : c.ports.result ≡ length (entry_at inside.list.items k).inputs =
    c.ports.ensures.count ∙ ap (λ (e : Entry). length e.inputs) entry in
    omega (arith, few_owners c.self.invariant, c.self.invariant.owners_many, reads_before-within inside.list.items k there)

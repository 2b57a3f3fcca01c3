use Rattle.std.proofs.Common.{◌≡◌, ◌<◌, ◌≤◌, ◌∙◌, ℕ, length, get_or, subst, arith}
use Rattle.std.proofs.lemmas.List.{get_or_default}
use Rattle.xs_graph.specs.Search.{Grows}
use Rattle.xs_graph.specs.Paths.{successors}
use Rattle.xs_graph.proofs.Searches.{search_begins, search_more, search_ends}
use Rattle.xs_graph.proofs.search.leads_back.Goals as goal

pub loop-i-init : goal.loop-i-init
loop-i-init c =
    let g = rw (c.successors_of.ensures, c.new-met.ensures.items) at c.in_ok-note_all.ensures in
    search_begins c.args.links.now c.args.from c.in_ok-seen.seen.items _ _ c.in_ok-seen.ensures g

pub returns-then-i-len : goal.returns-then-i-len
returns-then-i-len c =
    let all : length c.loop-i.met.items ≤ c.loop-i.i = omega arith in
    search_ends c.args.links.now c.args.from c.loop-i.seen.items c.loop-i.met.items c.loop-i.i c.loop-i.invariant all c.index.result.now c.requires
    c.index.ensures

pub loop-i-preserved : goal.loop-i-preserved
loop-i-preserved c =
    let below : c.loop-i.i < length c.loop-i.met.items = omega arith in
    let at : c.index-number.result.now ≡ get_or c.loop-i.met.items c.loop-i.i 0 =
    c.index-number.ensures ∙ get_or_default c.loop-i.met.items c.loop-i.i c.index-number.result.now 0 below in
    let g = rw c.successors_of-in-loop-i.ensures at c.in_ok-note_all-2.ensures in
    search_more c.args.links.now c.args.from c.loop-i.seen.items c.loop-i.met.items c.loop-i.i _ _ c.loop-i.invariant below
    (subst
    (λ (x : ℕ).
    Grows c.loop-i.seen.items c.loop-i.met.items (successors c.args.links.now x) c.note_all-in-loop-i.new.seen.items c.note_all-in-loop-i.new.met.items)
    at g)

pub returns : goal.returns
returns c =
    let all : length c.loop-i.met.items ≤ c.loop-i.i = omega arith in
    search_ends c.args.links.now c.args.from c.loop-i.seen.items c.loop-i.met.items c.loop-i.i c.loop-i.invariant all c.index-2.result.now c.requires
    c.index-2.ensures

-- What was kept while the plan was built is kept of the plan.
use Rattle.std.proofs.Common.{◌≡◌, ◌+◌, length, ap, ◌∙◌, arith}
use Rattle.std.specs.Int.{div_ceil}
use Rattle.xs_base.specs.declared.limits.TheConstants.{SECTION_ROWS}
use Rattle.xs_plan.proofs.PlanLemmas.{AreFirsts-finished, AreNews-finished, TellFirsts-finished, IsKept-finished}
use Rattle.xs_plan.proofs.builder.Builder.finish.Goals as goal

pub of-requires-clause-firsts : goal.of-requires-clause-firsts
of-requires-clause-firsts c =
    let has = rw (← c.self.view_is) at c.requires.has_roots in
    let ends = c.self.inside.ends in
    let rows : c.len.result ≡ length ends.items = omega (arith, c.len.ensures, ends.ok.0) in
    AreFirsts-finished c.self.invariant has c.div_ceil-sections.result
    (c.div_ceil-sections.ensures ∙ ap (λ n. div_ceil n SECTION_ROWS) rows)

pub last_sections-requires-clause-drawings : goal.last_sections-requires-clause-drawings
last_sections-requires-clause-drawings c = let below = rw (← c.self.view_is) at c.requires.drawings in below

pub invariant_of-result : goal.invariant_of-result
invariant_of-result c =
    let has = rw (← c.self.view_is) at c.requires.has_roots in
    let below = rw (← c.self.view_is) at c.requires.drawings in
    let ends = c.self.inside.ends in
    let rows : c.len.result ≡ length ends.items = omega (arith, c.len.ensures, ends.ok.0) in
    let sections : length c.in_ok-news.news.starts.items ≡ div_ceil (length ends.items) SECTION_ROWS + 1 =
    c.in_ok-news.ensures.many ∙ ap (λ n. n + 1) (c.div_ceil-sections.ensures ∙ ap (λ n. div_ceil n SECTION_ROWS) rows) in
    let news = c.in_ok-news.news in
    let told = c.in_ok-news.ensures in
    let new = AreNews-finished c.self.invariant has news.drawings.items news.starts.items told.drawings told.starts sections in
    let last = c.in_ok-last.last.items in
    let many = c.in_ok-last.ensures.many in
    let are = c.in_ok-last.ensures.last _ (TellFirsts-finished c.self.invariant has) in
    IsKept-finished c.self.invariant has (length last) (rw many below) news.drawings.items news.starts.items last new are
    (omega (arith, many, c.ranges.drawings.fits))

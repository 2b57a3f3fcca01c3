use Rattle.std.proofs.Common.{◌≡◌, ◌<◌, sym, ◌∙◌, refl, length, arith}
use Rattle.std.proofs.lemmas.List.{length-map}
use Rattle.xs_chain.specs.Row.{without, others, list_at}
use Rattle.xs_levels.specs.Stocked.{StockRecord}
use Rattle.xs_levels.proofs.Members.{head_listed, listed_without, shorter_at}
use Rattle.xs_levels.proofs.Counting.{less_one}
use Rattle.xs_levels.proofs.stock.Stock.let_first_go.Goals as goal

pub unlink-requires-clause-member_exists : goal.unlink-requires-clause-member_exists
unlink-requires-clause-member_exists g c =
    let section = rw (← c.self.view_is) at c.requires.section in
    c.in-Some.ensures.valid.exists c.args.s c.in-Some.d section
    (head_listed (list_at c.self.inside.lasts c.args.s) c.in-Some.d (sym c.in-Some.ensures.member))

pub let_go-requires-clause-number : goal.let_go-requires-clause-number
let_go-requires-clause-number g c =
    let section = rw (← c.self.view_is) at c.requires.section in
    let counted = rw (← c.self.view_is) at c.requires.counted in
    let below =
    c.in-Some.ensures.valid.exists c.args.s c.in-Some.d section
    (head_listed (list_at c.self.inside.lasts c.args.s) c.in-Some.d (sym c.in-Some.ensures.member)) in
    omega (arith, below, counted.members)

pub returns-clause-less : goal.returns-clause-less
returns-clause-less g c =
    let d = c.in-Some.d in
    let row = c.self.inside.lasts in
    let section = rw (← c.self.view_is) at c.requires.section in
    let counted = rw (← c.self.view_is) at c.requires.counted in
    let listed = head_listed (list_at row c.args.s) d (sym c.in-Some.ensures.member) in
    let below = c.in-Some.ensures.valid.exists c.args.s d section listed in
    let within : d < length c.self.inside.drawings.slots = omega (arith, below, counted.members) in
    let here = c.in-Some.ensures.valid.alone c.args.s d section listed in
    let bytes = rw c.let_go.ensures.held at c.let_go.ensures.bytes in
    rw (← c.self.view_is, c.let_go.ensures.rest, c.let_go.ensures.held, c.unlink.ensures)
    (less_one c.args.s _ (without row d) d c.let_go.new.self.bytes counted within here refl (length-map row.lists (others d))
    (λ e. listed_without row d e) bytes c.let_go.ensures.fewer)

pub returns-clause-shorter : goal.returns-clause-shorter
returns-clause-shorter g c =
    let d = c.in-Some.d in
    let row = c.self.inside.lasts in
    let section = rw (← c.self.view_is) at c.requires.section in
    let listed = head_listed (list_at row c.args.s) d (sym c.in-Some.ensures.member) in
    λ yes. rw (← c.self.view_is, c.let_go.ensures.rest, c.unlink.ensures) (shorter_at row c.args.s d section listed)

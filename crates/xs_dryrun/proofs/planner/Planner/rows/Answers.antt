use Rattle.std.proofs.Common.{◌≡◌, ◌+◌, ◌-◌, false, length, sym, ap, ◌∙◌, arith}
use Rattle.std.specs.Prelude.{is_err}
use Rattle.std.specs.Option.{option_map}
use Rattle.xs_dryrun.specs.Passing.{what_of}
use Rattle.xs_dryrun.specs.Adding.{roots_under}
use Rattle.xs_dryrun.specs.Planning.{roots_in}
use Rattle.xs_dryrun.proofs.MoreRows.{ok_of, on_err}
use Rattle.xs_dryrun.proofs.Planners.{rows_may_follow, underway_after, limit_seen, rows_behind, no_row_left, on_either}
use Rattle.xs_dryrun.proofs.planner.Planner.rows.Goals as goal

pub add_rows-added-requires-clause-next : goal.add_rows-added-requires-clause-next
add_rows-added-requires-clause-next c =
    let p = c.self.inside in
    let u = p.way in
    let count = c.args.to + 1 - c.args.from in
    let old = c.args.self.now in
    let is = c.self.invariant.underway c.if-self.false in
    let behind : c.len-place.result ≡ length u.roots.items = omega (arith, c.len-place.ensures, u.roots.ok.0) in
    let may = rows_may_follow p.tiles.items p.rows p.drawings p.lost u old c.self.view_is c.if-self.false is c.args.names.now c.len-place.result
    count c.requires.below behind c.requires.room in
    (p.drawings, roots_in u, may)

pub returns-then-is_err-clause-added : goal.returns-then-is_err-clause-added
returns-then-is_err-clause-added c = on_err c.add_rows-added.result _ (sym c.is_err.ensures.value ∙ c.if-is_err.true)

pub returns-then-is_err-clause-none : goal.returns-then-is_err-clause-none
returns-then-is_err-clause-none c = on_err c.add_rows-added.result _ (sym c.is_err.ensures.value ∙ c.if-is_err.true)

pub returns-then-is_err-clause-limited : goal.returns-then-is_err-clause-limited
returns-then-is_err-clause-limited c = λ what limit same.
    let p = c.self.inside in
    let u = p.way in
    let count = c.args.to + 1 - c.args.from in
    let old = c.args.self.now in
    let is = c.self.invariant.underway c.if-self.false in
    let behind : c.len-place.result ≡ length u.roots.items = omega (arith, c.len-place.ensures, u.roots.ok.0) in
    let may = rows_may_follow p.tiles.items p.rows p.drawings p.lost u old c.self.view_is c.if-self.false is c.args.names.now c.len-place.result
    count c.requires.below behind c.requires.room in
    let told = c.add_rows-added.ensures.tries.limited what limit same p.drawings (roots_in u) may in (
      ap (option_map what_of)
          (limit_seen p.tiles.items p.rows p.drawings p.lost u old c.self.view_is c.if-self.false is
          (roots_under c.args.s.now c.args.names.now c.args.from count))
          ∙ told.0,
      told.1,
    )

pub returns-then-is_err-clause-lost : goal.returns-then-is_err-clause-lost
returns-then-is_err-clause-lost c =
    let p = c.self.inside in
    on_either c.add_rows-added.result _ (no_row_left p.tiles.items p.rows p.drawings p.lost p.way c.args.self.now c.self.view_is)

pub invariant_of-self-else-is_err : goal.invariant_of-self-else-is_err
invariant_of-self-else-is_err c =
    let p = c.self.inside in
    let u = p.way in
    let count = c.args.to + 1 - c.args.from in
    let old = c.args.self.now in
    let is = c.self.invariant.underway c.if-self.false in
    let behind : c.len-place.result ≡ length u.roots.items = omega (arith, c.len-place.ensures, u.roots.ok.0) in
    let may = rows_may_follow p.tiles.items p.rows p.drawings p.lost u old c.self.view_is c.if-self.false is c.args.names.now c.len-place.result
    count c.requires.below behind c.requires.room in
    let ok : is_err c.add_rows-added.result ≡ false = sym c.is_err.ensures.value ∙ c.if-is_err.false in
    let adds = ok_of c.add_rows-added.result _ ok c.add_rows-added.ensures.tries.added in
    record {
      few_tiles = c.self.invariant.few_tiles;
      some_rows = c.self.invariant.some_rows;
      few_rows = c.self.invariant.few_rows;
      underway = λ whole.
          underway_after p.tiles.items p.rows p.drawings c.args.s.now c.args.names.now c.args.from c.len-place.result count u
          c.add_rows-added.new.way is may adds;
    }

pub returns-clause-added : goal.returns-clause-added
returns-clause-added c =
    let p = c.self.inside in
    let u = p.way in
    let count = c.args.to + 1 - c.args.from in
    let old = c.args.self.now in
    let is = c.self.invariant.underway c.if-self.false in
    let behind : c.len-place.result ≡ length u.roots.items = omega (arith, c.len-place.ensures, u.roots.ok.0) in
    let may = rows_may_follow p.tiles.items p.rows p.drawings p.lost u old c.self.view_is c.if-self.false is c.args.names.now c.len-place.result
    count c.requires.below behind c.requires.room in
    let ok : is_err c.add_rows-added.result ≡ false = sym c.is_err.ensures.value ∙ c.if-is_err.false in
    let adds = ok_of c.add_rows-added.result _ ok c.add_rows-added.ensures.tries.added in
    rows_behind p.tiles.items p.rows p.drawings p.lost u old c.self.view_is c.add_rows-added.new.way
    (roots_under c.args.s.now c.args.names.now c.args.from count) c.if-self.false (adds.adds p.drawings (roots_in u) may).2.are

pub returns-clause-none : goal.returns-clause-none
returns-clause-none c =
    let p = c.self.inside in
    let u = p.way in
    let count = c.args.to + 1 - c.args.from in
    let old = c.args.self.now in
    let is = c.self.invariant.underway c.if-self.false in
    let behind : c.len-place.result ≡ length u.roots.items = omega (arith, c.len-place.ensures, u.roots.ok.0) in
    let may = rows_may_follow p.tiles.items p.rows p.drawings p.lost u old c.self.view_is c.if-self.false is c.args.names.now c.len-place.result
    count c.requires.below behind c.requires.room in
    let ok : is_err c.add_rows-added.result ≡ false = sym c.is_err.ensures.value ∙ c.if-is_err.false in
    let adds = ok_of c.add_rows-added.result _ ok c.add_rows-added.ensures.tries.added in
    limit_seen p.tiles.items p.rows p.drawings p.lost u old c.self.view_is c.if-self.false is
    (roots_under c.args.s.now c.args.names.now c.args.from count)
    ∙ (adds.adds p.drawings (roots_in u) may).1

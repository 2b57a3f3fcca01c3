use Rattle.std.proofs.Common.{◌≡◌, [], List, length, sym, ap, ap₂, ◌∙◌, arith}
use Rattle.xs_rect.specs.Area.{Area}
use Rattle.xs_meaning.specs.Expressions.{Expr}
use Rattle.xs_dryrun.specs.Planning.{planning}
use Rattle.xs_dryrun.proofs.Planners.{first_underway}
use Rattle.xs_dryrun.proofs.planner.Planner.new.Goals as goal

pub invariant_of-result : goal.invariant_of-result
invariant_of-result c =
    let may = c.in_ok-way.ensures.may c.args.drawings [] 0 (λ k d here. absurd (omega arith)) (omega arith) in
    let same : c.in_ok-frame.frame.items ≡ c.in_ok-tiles.tiles.items = c.in_ok-frame.ensures.each ∙ sym c.in_ok-tiles.ensures.each in
    record {
      few_tiles = c.in_ok-tiles.ensures.few;
      some_rows = c.requires.some_rows;
      few_rows = c.requires.few_rows;
      underway = λ whole.
          first_underway c.in_ok-tiles.tiles.items c.args.rows c.args.drawings c.in_ok-way.way may (c.in_ok-way.ensures.tiles ∙ same)
          c.in_ok-way.ensures.room (c.in_ok-way.ensures.many ∙ ap length same);
    }

pub returns : goal.returns
returns c =
    let may = c.in_ok-way.ensures.may c.args.drawings [] 0 (λ k d here. absurd (omega arith)) (omega arith) in
    ap₂ (λ (t : List Area) (l : List Expr). planning t c.args.rows c.args.drawings l) c.in_ok-tiles.ensures.each may.held.are

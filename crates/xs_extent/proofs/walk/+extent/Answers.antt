use Rattle.std.proofs.Common.{◌≡◌, ◌≤◌, ◌-◌, ℕ, Option, All, List, map, sym, ap, ◌∙◌, subst, rules}
use Rattle.std.proofs.lemmas.List.Elements.{All-tail}
use Rattle.xs_pixel.specs.declared.operation.Op.TheVariants.{Over as OverOp}
use Rattle.xs_scene.specs.declared.node.Ref.{Ref}
use Rattle.xs_meaning.specs.Extents.{by_extent}
use Rattle.xs_meaning.specs.Walk.{above_by}
use Rattle.xs_step.specs.declared.step.Step.{Step}
use Rattle.xs_step.specs.Spots.{input_spot}
use Rattle.xs_step.specs.Ways.{LeadsTo, WaysEnd}
use Rattle.xs_step.proofs.Ways.{WaysEnd-positive, WaysEnd-step}
use Rattle.xs_extent.specs.Extent.{extent_at, extent_by}
use Rattle.xs_extent.proofs.SpotExtents.{extent-step, above-nothing}
use Rattle.xs_extent.proofs.Remembered.{right-noted, right-found}
use Rattle.xs_extent.proofs.walk.+extent.Goals as goal

pub extent-extent_by-requires : goal.extent-extent_by-requires
extent-extent_by-requires t c =
    let s = c.args.s.now in
    let spot = c.args.spot in
    let positive : 1 ≤ c.args.left = WaysEnd-positive s c.args.left spot c.requires.ends in
    let leads =
    subst (λ (t : Step). LeadsTo (WaysEnd s (c.args.left - 1)) spot t) (sym c.step_at.ensures.step)
    (WaysEnd-step s c.args.left spot c.requires.ends)
    in
    (search rules, (c.requires.all_end, (c.step_at.ensures.there, (positive, (leads, c.requires.known)))))

pub extent-returns-in-Some-clause-extent : goal.extent-returns-in-Some-clause-extent
extent-returns-in-Some-clause-extent t c =
    right-found c.args.s.now c.args.known.now c.args.spot c.in-Some.extent c.requires.known
    (sym c.find.ensures ∙ c.in-Some.is)

pub extent-returns-clause-extent : goal.extent-returns-clause-extent
extent-returns-clause-extent t c =
    let s = c.args.s.now in
    let spot = c.args.spot in
    c.in_ok-extent.ensures.extent ∙ ap (extent_by s spot) c.step_at.ensures.step ∙ sym (extent-step s c.requires.all_end spot)

pub extent-returns-clause-known : goal.extent-returns-clause-known
extent-returns-clause-known t c =
    let s = c.args.s.now in
    let spot = c.args.spot in
    right-noted s _ _ spot _ c.in_ok-note.ensures c.in_ok-extent.ensures.known
    (c.in_ok-extent.ensures.extent ∙ ap (extent_by s spot) c.step_at.ensures.step ∙ sym (extent-step s c.requires.all_end spot))

pub over_extent-loop-terminal-init : goal.over_extent-loop-terminal-init
over_extent-loop-terminal-init t c =
    let E : Ref → Option ℕ = λ t. extent_at c.args.s.now (input_spot c.args.spot.sheet t c.args.spot.row) in
    record { known = c.requires.known; extent = sym (above-nothing E c.args.terminals); ends = c.requires.ends }

pub over_extent-loop-terminal-preserved : goal.over_extent-loop-terminal-preserved
unfolding by_extent
over_extent-loop-terminal-preserved t c =
    let s = c.args.s.now in
    let spot = c.args.spot in
    let E : Ref → Option ℕ = λ t. extent_at s (input_spot spot.sheet t spot.row) in
    let ends : Ref → Type 0 = λ t. WaysEnd s c.args.left (input_spot spot.sheet t spot.row) in
    let this : c.in_ok-here.here ≡ E c.in-Some.terminal = c.in_ok-here.ensures.extent ∙ ap (extent_at s) c.input-at.ensures in
    record {
      known = c.in_ok-here.ensures.known;
      extent =
          c.loop-terminal.invariant.extent
          ∙ ap (λ (rest : List Ref). above_by by_extent c.loop-terminal.below (map E rest)) c.in-Some.ensures
          ∙ ap (λ (here : Option ℕ). above_by by_extent (by_extent.pair OverOp here c.loop-terminal.below) (map E c.in-Some.above)) (sym this)
          ∙ ap (λ (was : Option ℕ). above_by by_extent was (map E c.in-Some.above)) (sym c.pair_extent-below.ensures);
      ends =
          All-tail ends c.in-Some.terminal c.in-Some.above (subst (All ends) c.in-Some.ensures c.loop-terminal.invariant.ends);
    }

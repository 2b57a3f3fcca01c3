use Rattle.std.proofs.Common.{◌≡◌, ◌≤◌, ◌-◌, ◌&&◌, Bool, true, All, IfOk, is_none, sym, ap, ◌∙◌, subst, rules}
use Rattle.std.specs.List.{list_all}
use Rattle.std.proofs.lemmas.List.Elements.{All-tail}
use Rattle.xs_scene.specs.declared.node.Ref.{Ref}
use Rattle.xs_step.specs.declared.step.Step.{Step}
use Rattle.xs_needs.specs.Shown.{Showing, is_clear_at, shown, showing_by}
use Rattle.xs_step.specs.Spots.{input_spot}
use Rattle.xs_step.specs.Ways.{LeadsTo, WaysEnd}
use Rattle.xs_needs.proofs.Remembered.{right-noted, right-found, found-noted, found-kept}
use Rattle.xs_needs.proofs.Showings.{shown-step, composed-none}
use Rattle.xs_step.proofs.Ways.{WaysEnd-positive, WaysEnd-step}
use Rattle.xs_needs.proofs.clear.+clear.Goals as goal

pub is_clear-is_clear_by-requires : goal.is_clear-is_clear_by-requires
is_clear-is_clear_by-requires t c =
    let s = c.args.s.now in
    let spot = c.args.spot in
    let positive : 1 ≤ c.args.left = WaysEnd-positive s c.args.left spot c.requires.ends in
    let leads =
    subst (λ (t : Step). LeadsTo (WaysEnd s (c.args.left - 1)) spot t) (sym c.step_at.ensures.step)
    (WaysEnd-step s c.args.left spot c.requires.ends)
    in
    (search rules, (c.requires.all_end, (c.step_at.ensures.there, (positive, (leads, c.requires.known)))))

pub is_clear-returns-in-Some-clause-clear : goal.is_clear-returns-in-Some-clause-clear
is_clear-returns-in-Some-clause-clear t c =
    right-found c.args.s.now c.args.known.now.flags.entries c.args.spot c.in-Some.clear c.requires.known
    (sym c.find.ensures ∙ c.in-Some.is)

pub is_clear-returns-clause-clear : goal.is_clear-returns-clause-clear
is_clear-returns-clause-clear t c =
    let s = c.args.s.now in
    let spot = c.args.spot in
    c.in_ok-clear.ensures.clear
    ∙ ap (λ (t : Step). is_none (showing_by s (shown s) spot t)) c.step_at.ensures.step
    ∙ sym (ap is_none (shown-step s c.requires.all_end spot))

pub is_clear-returns-clause-known : goal.is_clear-returns-clause-known
is_clear-returns-clause-known t c =
    let s = c.args.s.now in
    let spot = c.args.spot in
    right-noted s _ _ spot _ c.in_ok-note.ensures c.in_ok-clear.ensures.known
    (c.in_ok-clear.ensures.clear
    ∙ ap (λ (t : Step). is_none (showing_by s (shown s) spot t)) c.step_at.ensures.step
    ∙ sym (ap is_none (shown-step s c.requires.all_end spot)))

pub is_clear-returns-in-Some-clause-kept : goal.is_clear-returns-in-Some-clause-kept
is_clear-returns-in-Some-clause-kept t c = λ p found. found

pub is_clear-returns-clause-kept : goal.is_clear-returns-clause-kept
is_clear-returns-clause-kept t c =
    λ p found. found-kept _ _ c.args.spot p _ c.in_ok-note.ensures (c.in_ok-clear.ensures.kept p found)

pub is_clear-returns-clause-noted : goal.is_clear-returns-clause-noted
is_clear-returns-clause-noted t c = found-noted _ _ c.args.spot _ c.in_ok-note.ensures

pub is_clear_by-returns-in-Over-clause-clear : goal.is_clear_by-returns-in-Over-clause-clear
is_clear_by-returns-in-Over-clause-clear t c =
    let s = c.args.s.now in
    let spot = c.args.spot in
    let E : Ref → Showing = λ t. shown s (input_spot spot.sheet t spot.row) in
    let same : list_all (λ t. is_none (E t)) c.in-Over.terminals
    ≡ is_none (showing_by s (shown s) spot c.args.step) =
    sym (composed-none s.levels E c.in-Over.terminals)
    ∙ ap (λ (t : Step). is_none (showing_by s (shown s) spot t)) (sym c.in-Over.is)
    in
    subst (λ (b : Bool). IfOk c.are_clear.result (λ clear. clear ≡ b)) same c.are_clear.ensures.clear

pub is_clear_by-returns-in_ok-second_clear-in-Pair-clause-kept : goal.is_clear_by-returns-in_ok-second_clear-in-Pair-clause-kept
is_clear_by-returns-in_ok-second_clear-in-Pair-clause-kept t c =
    λ p found. c.in_ok-second_clear-in-Pair.ensures.kept p (c.in_ok-first_clear-in-Pair.ensures.kept p found)

pub are_clear-loop-terminal-preserved : goal.are_clear-loop-terminal-preserved
are_clear-loop-terminal-preserved t c =
    let s = c.args.s.now in
    let spot = c.args.spot in
    let clear : Ref → Bool = λ t. is_clear_at s (input_spot spot.sheet t spot.row) in
    let ends : Ref → Type 0 = λ t. WaysEnd s c.args.left (input_spot spot.sheet t spot.row) in
    let this : clear c.in-Some.terminal ≡ true =
    sym (c.in_ok-is_clear.ensures.clear ∙ ap (is_clear_at s) c.input-at.ensures) ∙ c.if-not-branch.false in
    record {
      known = c.in_ok-is_clear.ensures.known;
      kept = λ p found. c.in_ok-is_clear.ensures.kept p (c.loop-terminal.invariant.kept p found);
      clear =
          c.loop-terminal.invariant.clear
          ∙ ap (list_all clear) c.in-Some.ensures
          ∙ ap (λ b. b && list_all clear c.in-Some.above) this;
      ends =
          All-tail ends c.in-Some.terminal c.in-Some.above (subst (All ends) c.in-Some.ensures c.loop-terminal.invariant.ends);
    }

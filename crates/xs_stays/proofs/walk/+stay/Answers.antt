use Rattle.std.proofs.Common.{◌≤◌, ◌-◌, Option, All, List, map, refl, sym, ap, ◌∙◌, subst, rules}
use Rattle.std.proofs.lemmas.List.Elements.{All-tail}
use Rattle.xs_pixel.specs.declared.operation.Op.TheVariants.{Over as OverOp}
use Rattle.xs_scene.specs.declared.node.Ref.{Ref}
use Rattle.xs_meaning.specs.Walk.{above_by}
use Rattle.xs_step.specs.declared.spot.Spot.{Spot}
use Rattle.xs_step.specs.declared.step.Step.{Step}
use Rattle.xs_step.specs.Spots.{input_spot}
use Rattle.xs_step.specs.Ways.{LeadsTo, WaysEnd}
use Rattle.xs_step.proofs.Ways.{WaysEnd-positive, WaysEnd-step}
use Rattle.xs_stays.specs.Found.{stay_of, IsFound}
use Rattle.xs_stays.specs.Stays.{Stay, by_stay, stay_at, stay_by}
use Rattle.xs_stays.proofs.SpotStays.{stay-step, above-nothing}
use Rattle.xs_stays.proofs.Noted.{right-noted, right-found}
use Rattle.xs_stays.proofs.Numbered.{found-kept, keeps-same, keeps-then, right-numbers, pair-found}
use Rattle.xs_stays.proofs.walk.+stay.Goals as goal

pub stay-stay_by-requires : goal.stay-stay_by-requires
stay-stay_by-requires t c =
    let s = c.args.s.now in
    let spot = c.args.spot in
    let positive : 1 ≤ c.args.left = WaysEnd-positive s c.args.left spot c.requires.ends in
    let leads =
    subst (λ (t : Step). LeadsTo (WaysEnd s (c.args.left - 1)) spot t) (sym c.step_at.ensures.step)
    (WaysEnd-step s c.args.left spot c.requires.ends)
    in
    (search rules, (c.requires.all_end, (c.step_at.ensures.there, (c.step_at.ensures.bounds, (positive, (leads, c.requires.known))))))

pub stay-returns-in-Some-clause-found : goal.stay-returns-in-Some-clause-found
stay-returns-in-Some-clause-found t c =
    right-found c.args.s.now c.args.known.now.sets.keys c.args.known.now.known.entries c.args.spot c.in-Some.found c.requires.known
    (sym c.find.ensures ∙ c.in-Some.is)

pub stay-returns-clause-found : goal.stay-returns-clause-found
stay-returns-clause-found t c =
    let s = c.args.s.now in
    let spot = c.args.spot in
    subst (λ sets. IsFound sets.keys c.in_ok-found.found (stay_at s spot)) (sym c.in_ok-note.ensures.sets)
    (subst (IsFound c.stay_by.new.known.sets.keys c.in_ok-found.found)
    (ap (stay_by s spot) c.step_at.ensures.step ∙ sym (stay-step s c.requires.all_end spot))
    c.in_ok-found.ensures.found)

pub stay-returns-clause-known : goal.stay-returns-clause-known
stay-returns-clause-known t c =
    let s = c.args.s.now in
    let spot = c.args.spot in
    right-noted s c.stay_by.new.known c.note.new.self spot c.in_ok-found.found c.in_ok-note.ensures.known c.in_ok-note.ensures.sets
    c.in_ok-found.ensures.known
    (subst (IsFound c.stay_by.new.known.sets.keys c.in_ok-found.found)
    (ap (stay_by s spot) c.step_at.ensures.step ∙ sym (stay-step s c.requires.all_end spot))
    c.in_ok-found.ensures.found)

pub over_stay-loop-terminal-init : goal.over_stay-loop-terminal-init
over_stay-loop-terminal-init t c =
    let s = c.args.s.now in
    let E : Ref → Option Stay = λ t. stay_at s (input_spot c.args.spot.sheet t c.args.spot.row) in
    record {
      known = c.requires.known;
      kept = keeps-same c.args.known.now.sets.keys;
      within = tt;
      stay = sym (above-nothing s E c.args.terminals);
      ends = c.requires.ends;
    }

pub over_stay-loop-terminal-preserved : goal.over_stay-loop-terminal-preserved
unfolding by_stay
over_stay-loop-terminal-preserved t c =
    let s = c.args.s.now in
    let spot = c.args.spot in
    let E : Ref → Option Stay = λ t. stay_at s (input_spot spot.sheet t spot.row) in
    let ends : Ref → Type 0 = λ t. WaysEnd s c.args.left (input_spot spot.sheet t spot.row) in
    let inv = c.loop-terminal.invariant in
    let was = c.loop-terminal.below in
    let sets = c.loop-terminal.known.sets.keys in
    let mid = c.stay.new.known.sets.keys in
    let new = c.pair.new.self in
    let kept = c.in_ok-here.ensures.kept in
    let here : IsFound mid c.in_ok-here.here (E c.in-Some.terminal) =
    subst (λ (p : Spot). IsFound mid c.in_ok-here.here (stay_at s p)) c.input-at.ensures c.in_ok-here.ensures.found in
    let below : IsFound mid was (stay_of sets was) = found-kept sets mid was (stay_of sets was) kept (record { within = inv.within; is = refl }) in
    let found =
    pair-found mid new.sets.keys OverOp c.in_ok-here.here was c.in_ok-below.below (E c.in-Some.terminal) (stay_of sets was) here below
    c.in_ok-below.ensures.found in
    record {
      known = right-numbers s c.stay.new.known new c.in_ok-below.ensures.numbers c.in_ok-here.ensures.known;
      kept =
          keeps-then c.args.known.now.sets.keys mid new.sets.keys (keeps-then c.args.known.now.sets.keys sets mid inv.kept kept)
          c.in_ok-below.ensures.numbers.kept;
      within = found.within;
      stay =
          inv.stay
          ∙ ap (λ (rest : List Ref). above_by (by_stay s) (stay_of sets was) (map E rest)) c.in-Some.ensures
          ∙ ap (λ (was : Option Stay). above_by (by_stay s) was (map E c.in-Some.above)) (sym found.is);
      ends = All-tail ends c.in-Some.terminal c.in-Some.above (subst (All ends) c.in-Some.ensures inv.ends);
    }

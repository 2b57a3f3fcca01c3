use Rattle.std.proofs.Common.{◌≡◌, ◌≤◌, ◌-◌, ◌⊎◌, ⊎_elim, ℕ, Bool, true, false, Some, None, refl, List, [], ◌∷◌, ◌++◌, append-nil, OnOk, cond, ap₂, All, Contains, sym, ap, ◌∙◌, subst, rules}
use Rattle.xs_scene.specs.declared.node.Ref.{Ref}
use Rattle.xs_scene.specs.Records.{SceneRecord}
use Rattle.xs_meaning.specs.Ends.{AllEnd}
use Rattle.xs_meaning.specs.Expressions.{staying}
use Rattle.xs_meaning.specs.Palettes.{is_clear_pixel, pixel_of}
use Rattle.xs_pixel.specs.declared.style.Style.{Style}
use Rattle.xs_base.specs.Once.{with_each}
use Rattle.xs_step.specs.declared.spot.Spot.{Spot}
use Rattle.xs_step.specs.declared.step.Step.{Step}
use Rattle.xs_step.specs.declared.step.Step.TheVariants.{Clear, Card}
use Rattle.xs_step.specs.Spots.{input_spot}
use Rattle.xs_step.specs.Steps.{step_of}
use Rattle.xs_step.specs.Ways.{LeadsTo, WaysEnd}
use Rattle.xs_step.proofs.Ways.{WaysEnd-positive, WaysEnd-step}
use Rattle.xs_needs.specs.Found.{AreWhole, IsSound}
use Rattle.xs_needs.specs.Shown.{Showing, drawings_at, drawings_in, drawings_over, first_stays, is_clear_at, second_stays, showing_by, shown}
use Rattle.xs_needs.proofs.GatherLemmas.{All-front, OnOk-both, with_none, gathered-pair, gathered-topmost, sound-note, sound-add, kept-then}
use Rattle.xs_needs.proofs.Remembered.{whole-noted, whole-found}
use Rattle.xs_needs.proofs.Showings.{shown-step, composed-drawings}
use Rattle.xs_needs.proofs.gather.+gather.Goals as goal

-- what is gathered by the step of a spot is gathered of the spot
all_gathered :
    (s : SceneRecord) → AllEnd s.sheets → (spot : Spot) (t : Step) (old new : List ℕ) → t ≡ step_of s spot
    → new ≡ with_each old (drawings_in (showing_by s (shown s) spot t))
    → new ≡ with_each old (drawings_at s spot)
all_gathered s ends spot t old new is gathers =
    gathers
    ∙ ap (λ (t : Step). with_each old (drawings_in (showing_by s (shown s) spot t))) is
    ∙ ap (λ sh. with_each old (drawings_in sh)) (sym (shown-step s ends spot))

none_drawn : (b : Bool) → drawings_in (cond b None (Some [])) ≡ []
none_drawn true = refl
none_drawn false = refl

-- where nothing or a card is seen, nothing is gathered
none_gathered :
    (s : SceneRecord) (old : List ℕ) (spot : Spot) (t : Step) → (t ≡ Clear) ⊎ ((style : Style) × (t ≡ Card style))
    → old ≡ with_each old (drawings_in (showing_by s (shown s) spot t))
none_gathered s old spot t is =
    sym (with_none old) ∙ ap (with_each old) (sym (⊎_elim clear card is))
  where
    drawn : Step → List ℕ
    drawn t = drawings_in (showing_by s (shown s) spot t)

    clear : t ≡ Clear → drawn t ≡ []
    clear is = ap drawn is

    card : (style : Style) × (t ≡ Card style) → drawn t ≡ []
    card is = ap drawn is.1 ∙ none_drawn (is_clear_pixel (pixel_of is.0))

pub gather-returns-then-has_all_of-clause-drawings : goal.gather-returns-then-has_all_of-clause-drawings
gather-returns-then-has_all_of-clause-drawings t c =
    let s = c.args.s.now in
    let spot = c.args.spot in
    let old = c.args.found.now.gathered.drawings.keys in
    let all =
    whole-found s old c.args.found.now.gathered.whole.keys spot c.requires.sound.whole
    (sym c.has_all_of.ensures ∙ c.if-has_all_of.true)
    in
    sym (ap (λ new. old ++ new) (c.each_number_is_taken_once.ensures.nothing_new old (drawings_at s spot) all) ∙ append-nil old)

pub gather-gather_by-requires : goal.gather-gather_by-requires
gather-gather_by-requires t c =
    let s = c.args.s.now in
    let spot = c.args.spot in
    let positive : 1 ≤ c.args.left = WaysEnd-positive s c.args.left spot c.requires.ends in
    let leads =
    subst (λ (t : Step). LeadsTo (WaysEnd s (c.args.left - 1)) spot t) (sym c.step_at.ensures.step)
    (WaysEnd-step s c.args.left spot c.requires.ends)
    in
    (search rules, (c.requires.all_end, (c.step_at.ensures.there, (positive, (leads, c.requires.sound)))))

pub gather-returns-clause-drawings : goal.gather-returns-clause-drawings
gather-returns-clause-drawings t c =
    let s = c.args.s.now in
    let spot = c.args.spot in
    let all = all_gathered s c.requires.all_end spot c.step_at.result c.args.found.now.gathered.drawings.keys
    c.gather_by.new.found.gathered.drawings.keys c.step_at.ensures.step c.in_ok-gather_by.ensures.drawings
    in
    subst (λ (xs : List ℕ). OnOk c.note.result (c.note.new.self.drawings.keys ≡ xs)) all c.note.ensures.drawings

pub gather-returns-clause-sound : goal.gather-returns-clause-sound
gather-returns-clause-sound t c =
    let s = c.args.s.now in
    let spot = c.args.spot in
    let old = c.args.found.now.gathered.drawings.keys in
    let new = c.gather_by.new.found in
    let all = all_gathered s c.requires.all_end spot c.step_at.result old new.gathered.drawings.keys
    c.step_at.ensures.step c.in_ok-gather_by.ensures.drawings
    in
    let has = subst (λ (xs : List ℕ). All (Contains xs) (drawings_at s spot)) (sym all) (c.each_number_is_taken_once.ensures.found old (drawings_at s spot)) in
    OnOk-both c.note.result _ _ (IsSound s (record { known = new.known; gathered = c.note.new.self }))
    (λ same is.
    sound-note s new c.note.new.self c.in_ok-gather_by.ensures.sound same
    (subst (λ (ds : List ℕ). AreWhole s ds c.note.new.self.whole.keys) (sym same)
    (whole-noted s new.gathered.drawings.keys new.gathered.whole.keys c.note.new.self.whole.keys spot is
    c.in_ok-gather_by.ensures.sound.whole has)))
    c.note.ensures.drawings c.note.ensures.whole

pub gather_by-returns-in-Clear-clause-drawings : goal.gather_by-returns-in-Clear-clause-drawings
gather_by-returns-in-Clear-clause-drawings t c =
    none_gathered c.args.s.now c.args.found.now.gathered.drawings.keys c.args.spot c.args.step c.in-Clear.is

pub gather_by-returns-in-Drawing-clause-sound : goal.gather_by-returns-in-Drawing-clause-sound
gather_by-returns-in-Drawing-clause-sound t c =
    let s = c.args.s.now in
    OnOk-both c.add.result _ _ (IsSound s (record { known = c.args.found.now.known; gathered = c.add.new.self }))
    (λ added same. sound-add s c.args.found.now c.add.new.self c.number.result c.requires.sound c.number.ensures.below added same)
    c.add.ensures.drawings c.add.ensures.whole

pub gather_by-returns-in-Over-clause-drawings : goal.gather_by-returns-in-Over-clause-drawings
gather_by-returns-in-Over-clause-drawings t c =
    let s = c.args.s.now in
    let spot = c.args.spot in
    let old = c.args.found.now.gathered.drawings.keys in
    let E : Ref → Showing = λ t. shown s (input_spot spot.sheet t spot.row) in
    let same : with_each old (drawings_over E c.in-Over.terminals)
    ≡ with_each old (drawings_in (showing_by s (shown s) spot c.args.step)) =
    ap (with_each old) (sym (composed-drawings s.levels E c.in-Over.terminals))
    ∙ ap (λ (t : Step). with_each old (drawings_in (showing_by s (shown s) spot t))) (sym c.in-Over.is)
    in
    subst (λ (xs : List ℕ). OnOk c.gather_over.result (c.gather_over.new.found.gathered.drawings.keys ≡ xs)) same
    c.gather_over.ensures.drawings

pub gather_over-loop-terminal-preserved : goal.gather_over-loop-terminal-preserved
gather_over-loop-terminal-preserved t c =
    let s = c.args.s.now in
    let spot = c.args.spot in
    let known = c.loop-terminal.found.gathered.drawings.keys in
    let below = c.in-Some.below in
    let E : Ref → Showing = λ t. shown s (input_spot spot.sheet t spot.row) in
    let gathers : c.gather.new.found.gathered.drawings.keys ≡ with_each known (drawings_in (E c.in-Some.terminal)) =
    c.in_ok-gather.ensures.drawings ∙ ap (λ (p : Spot). with_each known (drawings_at s p)) c.input-at.ensures in
    record {
      sound = c.in_ok-gather.ensures.sound;
      kept = kept-then c.args.found.now c.loop-terminal.found c.gather.new.found c.loop-terminal.invariant.kept c.in_ok-gather.ensures.kept;
      drawings =
          c.loop-terminal.invariant.drawings
          ∙ gathered-topmost c.each_number_is_taken_once.ensures.one_after_another known E c.loop-terminal.rest below
          c.in-Some.terminal c.in-Some.ensures
          ∙ sym (ap (λ xs. with_each xs (drawings_over E below)) gathers);
      ends =
          All-front (λ t. WaysEnd s c.args.left (input_spot spot.sheet t spot.row)) below (c.in-Some.terminal ∷ [])
          (subst (All (λ t. WaysEnd s c.args.left (input_spot spot.sheet t spot.row))) c.in-Some.ensures c.loop-terminal.invariant.ends);
    }

pub gather_if-returns-else-wanted-clause-drawings : goal.gather_if-returns-else-wanted-clause-drawings
gather_if-returns-else-wanted-clause-drawings t c =
    let old = c.args.found.now.gathered.drawings.keys in
    sym (with_none old)
    ∙ ap (λ b. with_each old (cond b (drawings_at c.args.s.now c.args.spot) [])) (sym c.if-wanted.false)

pub gather_pair-returns-clause-drawings : goal.gather_pair-returns-clause-drawings
gather_pair-returns-clause-drawings t c =
    let s = c.args.s.now in
    let a = c.args.inputs.0 in
    let b = c.args.inputs.1 in
    let old = c.args.found.now.gathered.drawings.keys in
    let first = c.in_ok-first_clear.ensures.clear in
    let second = c.in_ok-second_clear.ensures.clear in
    let stays = staying c.args.op (is_clear_at s a) (is_clear_at s b) in
    let first_is : c.staying-first_stays.result.0 ≡ first_stays stays =
    c.staying-first_stays.ensures.first ∙ ap₂ (λ (x y : Bool). first_stays (staying c.args.op x y)) first second in
    let second_is : c.staying-first_stays.result.1 ≡ second_stays stays =
    c.staying-first_stays.ensures.second ∙ ap₂ (λ (x y : Bool). second_stays (staying c.args.op x y)) first second in
    let mid : c.gather_if.new.found.gathered.drawings.keys ≡ with_each old (cond (first_stays stays) (drawings_at s a) []) =
    c.in_ok-gather_if.ensures.drawings ∙ ap (λ (w : Bool). with_each old (cond w (drawings_at s a) [])) first_is in
    let all =
    ap₂ (λ (xs : List ℕ) (w : Bool). with_each xs (cond w (drawings_at s b) [])) mid second_is
    ∙ gathered-pair c.each_number_is_taken_once.ensures.one_after_another old stays (shown s a) (shown s b)
    in
    subst (λ (xs : List ℕ). OnOk c.gather_if-2.result (c.gather_if-2.new.found.gathered.drawings.keys ≡ xs)) all
    c.gather_if-2.ensures.drawings

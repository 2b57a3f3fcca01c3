use Rattle.std.proofs.Common.{◌≡◌, ◌≤◌, ◌<◌, ◌+◌, ◌-◌, ℕ, Err, Some, length, sym, ap, ◌∙◌, subst, rules, arith}
use Rattle.xs_meaning.specs.Expressions.{Expr, is_clear}
use Rattle.xs_demand.specs.Blocks.{enter, spread}
use Rattle.xs_step.specs.declared.step.Step.{Step}
use Rattle.xs_build.specs.declared.state.State.{State}
use Rattle.xs_build.specs.States.{state_expr, stepped_expr, MayAsk, MayEnter, MayStep, Gives}
use Rattle.xs_build.proofs.Giving.{gives-err, gives-memory, gives-along, gives-in_place, gives-recalled, gives-remembered, same_expr}
use Rattle.xs_build.proofs.Stepping.{state-step, expr-nested, expr-card, expr-over, never-clear, may-positive, leads-in, next-same, next-keep, next-delete, next-first, next-second, next-nested, next-blur}
use Rattle.std.proofs.Common.{List, [], ◌∷◌, ◌++◌, All, map, ap₂, append-nil, append_assoc, true, false, not, Ok}
use Rattle.std.proofs.lemmas.List.{map-append}
use Rattle.std.proofs.lemmas.List.Elements.{All-push}
use Rattle.xs_meaning.specs.Expressions.{pair_of, Pair, Blur}
use Rattle.xs_scene.specs.declared.node.Ref.{Ref}
use Rattle.xs_step.specs.declared.spot.Spot.{Spot}
use Rattle.xs_step.specs.Spots.{input_spot}
use Rattle.xs_step.specs.Ways.{WaysEnd}
use Rattle.xs_demand.specs.Blocks.{Spread}
use Rattle.xs_tint.specs.Filters.{filtering}
use Rattle.xs_build.specs.Stacks.{seen_down, enter_each, stacked}
use Rattle.xs_pixel.specs.Points.{plus}
use Rattle.xs_meaning.specs.Drawings.{colours_of}
use Rattle.xs_meaning.specs.Expressions.{leaf_by}
use Rattle.xs_demand.specs.Renamed.{renamed}
use Rattle.xs_build.specs.States.{named, expr_at, IsAt, Adds, spot_expr, dropped_in, offset_of, terminal_expr, StandsIn}
use Rattle.xs_stays.specs.Found.{KeepsSets}
use Rattle.xs_build.proofs.Giving.{grows-then}
use Rattle.xs_build.proofs.Growing.{Extends, extends-enter, extends-enter_each, longer, is-at, expr-is, all_at-extends, exprs-extend}
use Rattle.xs_build.proofs.Joining.{gives-blur, blur-longer, gives-pair, pair-longer, pair-longer_first, upper-kept, gives-over, seen_down-push, enter_each-append, seen-is_one, each-longer}
use Rattle.xs_build.proofs.PutOver.{All-front, All-last}
use Rattle.xs_build.proofs.StackLemmas.{seen-seen_down}
use Rattle.xs_build.proofs.Stepping.{expr-pair, expr-blur, expr-drawing}
use Rattle.xs_build.proofs.number.+number.Goals as goal

pub number-number_normal-requires : goal.number-number_normal-requires
number-number_normal-requires t c = (search rules, c.in_ok-state.ensures.state.may)

pub number-returns-in_err-state : goal.number-returns-in_err-state
number-returns-in_err-state t c =
    let at = c.args.at.now in
    gives-memory at c.args.build.now c.normal.new.build
    (state_expr at.scene.now at.names.now c.args.build.now.sets.keys c.args.state) c.args.state.growth _ c.from_residual.ensures.1

pub number-returns : goal.number-returns
number-returns t c =
    let at = c.args.at.now in
    gives-in_place at c.args.left c.args.build.now c.normal.new.build c.number_normal.new.build
    (state_expr at.scene.now at.names.now c.args.build.now.sets.keys c.args.state) c.args.state.growth c.in_ok-state.state
    c.number_normal.result c.normal.ensures.entered c.in_ok-state.ensures.sets c.in_ok-state.ensures.state
    c.number_normal.ensures

pub number_normal-number_by-requires : goal.number_normal-number_by-requires
number_normal-number_by-requires t c =
    let s = c.args.at.now.scene.now in
    let names = c.args.at.now.names.now in
    let sets = c.args.build.now.sets.keys in
    let step = c.step_at.ensures.step in (
      search rules,
      record {
        ask = c.requires.ask;
        is = step;
        there = c.step_at.ensures.there;
        bounded = c.step_at.ensures.bounds;
        seen =
            ap (λ (x : Step). is_clear (stepped_expr s names sets c.args.state x)) step
            ∙ ap is_clear (sym (state-step s names sets c.args.state c.requires.ask.ready.ends))
            ∙ c.requires.seen;
      },
    )

pub number_normal-returns-in-Some : goal.number_normal-returns-in-Some
number_normal-returns-in-Some t c =
    let at = c.args.at.now in
    gives-recalled at c.args.build.now c.args.state c.in-Some.n c.requires.ask.sound
    (c.in-Some.ensures at.scene.now at.names.now c.requires.ask.sound)

pub number_normal-returns-in_err-n : goal.number_normal-returns-in_err-n
number_normal-returns-in_err-n t c =
    let at = c.args.at.now in
    let s = at.scene.now in
    let sets = c.args.build.now.sets.keys in
    let same : stepped_expr s at.names.now sets c.args.state c.step_at.result ≡ state_expr s at.names.now sets c.args.state =
    ap (stepped_expr s at.names.now sets c.args.state) c.step_at.ensures.step
    ∙ sym (state-step s at.names.now sets c.args.state c.requires.ask.ready.ends) in
    gives-err at c.args.build.now c.number_by.new.build (state_expr s at.names.now sets c.args.state) c.args.state.growth
    c.from_residual.result c.in_err-n.field-0.0 c.from_residual.ensures.1
    (λ is.
    subst (λ (e : Expr). at.most < length (enter e c.args.state.growth c.args.build.now.entered)) same
    (c.in_err-n.ensures.full (ap Err is)))

pub number_normal-returns : goal.number_normal-returns
number_normal-returns t c =
    let at = c.args.at.now in
    let s = at.scene.now in
    let old = c.args.build.now in
    let mid = c.number_by.new.build in
    let state = c.args.state in
    let same : stepped_expr s at.names.now old.sets.keys state c.step_at.result ≡ state_expr s at.names.now old.sets.keys state =
    ap (stepped_expr s at.names.now old.sets.keys state) c.step_at.ensures.step
    ∙ sym (state-step s at.names.now old.sets.keys state c.requires.ask.ready.ends) in
    let given = gives-along at old mid _ (state_expr s at.names.now old.sets.keys state) state.growth _ same c.in_ok-n.ensures in
    gives-remembered at old mid c.remember.new.self (state_expr s at.names.now old.sets.keys state) state.growth c.in_ok-n.n given
    c.in_ok-remember.ensures.entered c.in_ok-remember.ensures.sets
    (c.in_ok-remember.ensures.sound s at.names.now given.grows.sound
    (record {
      set = omega (arith, c.requires.ask.state.set, given.grows.sets.more);
      at =
          given.entered.at
          ∙ ap (λ (e : Expr). Some (spread e state.growth))
          (sym (same_expr s at.names.now old.sets.keys mid.sets.keys state given.grows.sets c.requires.ask.state.set));
    }))

pub number_by-unreachable-requires : goal.number_by-unreachable-requires
number_by-unreachable-requires t c =
    let at = c.args.at.now in
    let m = subst (λ (x : Step). MayStep at c.args.left c.args.state x c.args.build.now) c.in-Clear.is c.requires in
    never-clear at.scene.now at.names.now c.args.build.now.sets.keys c.args.state m.seen

pub number_by-overflow_sub-left : goal.number_by-overflow_sub-left
number_by-overflow_sub-left t c = may-positive c.args.at.now c.args.left c.args.state c.args.step c.args.build.now c.requires

pub number_by-overflow_sub-left-in-Same : goal.number_by-overflow_sub-left-in-Same
number_by-overflow_sub-left-in-Same t c = may-positive c.args.at.now c.args.left c.args.state c.args.step c.args.build.now c.requires

pub number_by-overflow_sub-left-in-Keep : goal.number_by-overflow_sub-left-in-Keep
number_by-overflow_sub-left-in-Keep t c = may-positive c.args.at.now c.args.left c.args.state c.args.step c.args.build.now c.requires

pub number_by-overflow_sub-left-in-Delete : goal.number_by-overflow_sub-left-in-Delete
number_by-overflow_sub-left-in-Delete t c = may-positive c.args.at.now c.args.left c.args.state c.args.step c.args.build.now c.requires

pub number_by-overflow_sub-left-in-Pair : goal.number_by-overflow_sub-left-in-Pair
number_by-overflow_sub-left-in-Pair t c = may-positive c.args.at.now c.args.left c.args.state c.args.step c.args.build.now c.requires

pub number_by-overflow_sub-left-in-Blur : goal.number_by-overflow_sub-left-in-Blur
number_by-overflow_sub-left-in-Blur t c = may-positive c.args.at.now c.args.left c.args.state c.args.step c.args.build.now c.requires

pub number_by-overflow_sub-left-in-Over : goal.number_by-overflow_sub-left-in-Over
number_by-overflow_sub-left-in-Over t c = may-positive c.args.at.now c.args.left c.args.state c.args.step c.args.build.now c.requires

pub number_by-number-requires-in-Same : goal.number_by-number-requires-in-Same
number_by-number-requires-in-Same t c =
    let at = c.args.at.now in
    let positive : 1 ≤ c.args.left = may-positive at c.args.left c.args.state c.args.step c.args.build.now c.requires in
    let m = subst (λ (x : Step). MayStep at c.args.left c.args.state x c.args.build.now) c.in-Same.is c.requires in (
      search rules,
      subst (λ (u : State). MayEnter at (c.args.left - 1) u c.args.build.now) (sym c.at-in-Same.ensures)
          (next-same at c.args.left c.args.state c.in-Same.next c.args.build.now m),
    )

pub number_by-number-requires-in-Nested : goal.number_by-number-requires-in-Nested
number_by-number-requires-in-Nested t c =
    let at = c.args.at.now in
    let positive : 1 ≤ c.args.left = may-positive at c.args.left c.args.state c.args.step c.args.build.now c.requires in
    let m = subst (λ (x : Step). MayStep at c.args.left c.args.state x c.args.build.now) c.in-Nested.is c.requires in (
      search rules,
      subst (λ (u : State). MayEnter at (c.args.left - 1) u c.args.build.now)
          (sym (c.at.ensures ∙ ap (λ (u : State). record u { spot = c.in-Nested.row }) c.moved-in-Nested.ensures))
          (next-nested at c.args.left c.args.state c.in-Nested.row c.in-Nested.offset c.args.build.now m),
    )

pub number_by-returns-in-Nested : goal.number_by-returns-in-Nested
number_by-returns-in-Nested t c =
    let at = c.args.at.now in
    let s = at.scene.now in
    let old = c.args.build.now in
    let state = c.args.state in
    let new = c.number-in-Nested.new.build in
    let given =
    subst (λ (u : State). Gives at old new (state_expr s at.names.now old.sets.keys u) u.growth c.number-in-Nested.result)
    (c.at.ensures ∙ ap (λ (u : State). record u { spot = c.in-Nested.row }) c.moved-in-Nested.ensures)
    c.number-in-Nested.ensures in
    gives-along at old new _ (stepped_expr s at.names.now old.sets.keys state c.args.step) state.growth c.number-in-Nested.result
    (expr-nested s at.names.now old.sets.keys state c.in-Nested.row c.in-Nested.offset
    ∙ ap (stepped_expr s at.names.now old.sets.keys state) (sym c.in-Nested.is))
    given

pub number_by-returns-in-Card : goal.number_by-returns-in-Card
number_by-returns-in-Card t c =
    let at = c.args.at.now in
    let s = at.scene.now in
    let old = c.args.build.now in
    let m = subst (λ (x : Step). MayStep at c.args.left c.args.state x old) c.in-Card.is c.requires in
    gives-along at old c.number_card.new.build _ (stepped_expr s at.names.now old.sets.keys c.args.state c.args.step)
    c.args.state.growth c.number_card.result
    (expr-card s at.names.now old.sets.keys c.args.state c.in-Card.style m.seen
    ∙ ap (stepped_expr s at.names.now old.sets.keys c.args.state) (sym c.in-Card.is))
    c.number_card.ensures

pub number_by-returns-in-Over : goal.number_by-returns-in-Over
number_by-returns-in-Over t c =
    let at = c.args.at.now in
    let s = at.scene.now in
    let old = c.args.build.now in
    gives-along at old c.number_over.new.build _ (stepped_expr s at.names.now old.sets.keys c.args.state c.args.step)
    c.args.state.growth c.number_over.result
    (expr-over s at.names.now old.sets.keys c.args.state c.in-Over.terminals
    ∙ ap (stepped_expr s at.names.now old.sets.keys c.args.state) (sym c.in-Over.is))
    c.number_over.ensures

-- ---- pairs and filters

pub number_by-number_pair-requires : goal.number_by-number_pair-requires
number_by-number_pair-requires t c =
    let at = c.args.at.now in
    let s = at.scene.now in
    let old = c.args.build.now in
    let state = c.args.state in
    let first : State = record state { spot = c.in-Pair.first } in
    let second : State = record state { spot = c.in-Pair.second } in
    let positive : 1 ≤ c.args.left = may-positive at c.args.left state c.args.step old c.requires in
    let m = subst (λ (x : Step). MayStep at c.args.left state x old) c.in-Pair.is c.requires in (
      search rules,
      (
        subst (λ (u : State). MayAsk at (c.args.left - 1) u old) (sym c.at-in-Pair.ensures)
            (next-first at c.args.left state c.in-Pair.op c.in-Pair.first c.in-Pair.second old m),
        (
          subst (λ (u : State). MayAsk at (c.args.left - 1) u old) (sym c.at-in-Pair-2.ensures)
              (next-second at c.args.left state c.in-Pair.op c.in-Pair.first c.in-Pair.second old m),
          (
            ap (λ (u : State). u.growth) c.at-in-Pair.ensures ∙ sym (ap (λ (u : State). u.growth) c.at-in-Pair-2.ensures),
            ap₂ (λ (u v : State). is_clear (pair_of c.in-Pair.op (state_expr s at.names.now old.sets.keys u) (state_expr s at.names.now old.sets.keys v)))
                c.at-in-Pair.ensures c.at-in-Pair-2.ensures
                ∙ ap is_clear (expr-pair s at.names.now old.sets.keys state c.in-Pair.op c.in-Pair.first c.in-Pair.second)
                ∙ m.seen,
          ),
        ),
      ),
    )

pub number_by-returns-in-Pair : goal.number_by-returns-in-Pair
number_by-returns-in-Pair t c =
    let at = c.args.at.now in
    let s = at.scene.now in
    let old = c.args.build.now in
    let new = c.number_pair.new.build in
    let state = c.args.state in
    let op = c.in-Pair.op in
    let first : State = record state { spot = c.in-Pair.first } in
    let second : State = record state { spot = c.in-Pair.second } in
    let one = subst (λ (u : State). Gives at old new (pair_of op (state_expr s at.names.now old.sets.keys u)
    (state_expr s at.names.now old.sets.keys c.at-in-Pair-2.result)) u.growth c.number_pair.result) c.at-in-Pair.ensures c.number_pair.ensures in
    let two = subst (λ (u : State). Gives at old new (pair_of op (state_expr s at.names.now old.sets.keys first)
    (state_expr s at.names.now old.sets.keys u)) state.growth c.number_pair.result) c.at-in-Pair-2.ensures one in
    gives-along at old new _ (stepped_expr s at.names.now old.sets.keys state c.args.step) state.growth c.number_pair.result
    (expr-pair s at.names.now old.sets.keys state op c.in-Pair.first c.in-Pair.second
    ∙ ap (stepped_expr s at.names.now old.sets.keys state) (sym c.in-Pair.is))
    two

pub number_by-number_blur-requires : goal.number_by-number_blur-requires
number_by-number_blur-requires t c =
    let at = c.args.at.now in
    let positive : 1 ≤ c.args.left = may-positive at c.args.left c.args.state c.args.step c.args.build.now c.requires in
    let m = subst (λ (x : Step). MayStep at c.args.left c.args.state x c.args.build.now) c.in-Blur.is c.requires in (
      search rules,
      subst (λ (u : State). MayEnter at (c.args.left - 1) (record u { growth = u.growth + c.in-Blur.radius }) c.args.build.now)
          (sym c.at-in-Blur.ensures)
          (next-blur at c.args.left c.args.state c.in-Blur.radius c.in-Blur.next c.args.build.now m),
    )

pub number_by-returns-in-Blur : goal.number_by-returns-in-Blur
number_by-returns-in-Blur t c =
    let at = c.args.at.now in
    let s = at.scene.now in
    let old = c.args.build.now in
    let new = c.number_blur.new.build in
    let state = c.args.state in
    let m = subst (λ (x : Step). MayStep at c.args.left state x old) c.in-Blur.is c.requires in
    let given = subst (λ (u : State). Gives at old new (Blur c.in-Blur.radius (state_expr s at.names.now old.sets.keys u)) u.growth
    c.number_blur.result) c.at-in-Blur.ensures c.number_blur.ensures in
    gives-along at old new _ (stepped_expr s at.names.now old.sets.keys state c.args.step) state.growth c.number_blur.result
    (expr-blur s at.names.now old.sets.keys state c.in-Blur.radius c.in-Blur.next m.seen
    ∙ ap (stepped_expr s at.names.now old.sets.keys state) (sym c.in-Blur.is))
    given

pub number_by-number_over-requires : goal.number_by-number_over-requires
number_by-number_over-requires t c =
    let at = c.args.at.now in
    let s = at.scene.now in
    let old = c.args.build.now in
    let state = c.args.state in
    let positive : 1 ≤ c.args.left = may-positive at c.args.left state c.args.step old c.requires in
    let m = subst (λ (x : Step). MayStep at c.args.left state x old) c.in-Over.is c.requires in (
      search rules,
      (
        m.ask.ready,
        (
          m.ask.sound,
          (
            m.ask.there,
            (
              record { room = m.ask.state.room; growth = omega (arith, m.ask.state.growth); set = m.ask.state.set },
              (
                leads-in at c.args.left state _ old m,
                ap is_clear (expr-over s at.names.now old.sets.keys state c.in-Over.terminals) ∙ m.seen,
              ),
            ),
          ),
        ),
      ),
    )

pub number_by-number_filtered-requires : goal.number_by-number_filtered-requires
number_by-number_filtered-requires t c =
    let at = c.args.at.now in
    let s = at.scene.now in
    let old = c.args.build.now in
    let state = c.args.state in
    let positive : 1 ≤ c.args.left = may-positive at c.args.left state c.args.step old c.requires in
    let m = subst (λ (x : Step). MayStep at c.args.left state x old) c.in-Keep.is c.requires in (
      search rules,
      (
        subst (λ (u : State). MayAsk at (c.args.left - 1) u old) (sym c.at-in-Keep.ensures)
            (next-keep at c.args.left state c.in-Keep.next c.in-Keep.styles old m),
        (
          m.bounded,
          ap (λ (u : State). is_clear (spot_expr s at.names.now u.spot (filtering true c.in-Keep.styles (dropped_in old.sets.keys u.dropped)) (offset_of u)))
              c.at-in-Keep.ensures ∙ m.seen,
        ),
      ),
    )

pub number_by-number_filtered-requires-in-Delete : goal.number_by-number_filtered-requires-in-Delete
number_by-number_filtered-requires-in-Delete t c =
    let at = c.args.at.now in
    let s = at.scene.now in
    let old = c.args.build.now in
    let state = c.args.state in
    let positive : 1 ≤ c.args.left = may-positive at c.args.left state c.args.step old c.requires in
    let m = subst (λ (x : Step). MayStep at c.args.left state x old) c.in-Delete.is c.requires in (
      search rules,
      (
        subst (λ (u : State). MayAsk at (c.args.left - 1) u old) (sym c.at-in-Delete.ensures)
            (next-delete at c.args.left state c.in-Delete.next c.in-Delete.styles old m),
        (
          m.bounded,
          ap (λ (u : State). is_clear (spot_expr s at.names.now u.spot (filtering false c.in-Delete.styles (dropped_in old.sets.keys u.dropped)) (offset_of u)))
              c.at-in-Delete.ensures ∙ m.seen,
        ),
      ),
    )

pub number_blur-put_blur-requires-clause-input : goal.number_blur-put_blur-requires-clause-input
number_blur-put_blur-requires-clause-input t c =
    let at = c.args.at.now in
    let old = c.args.build.now in
    let mid = c.number.new.build in
    let given = subst (λ (u : State). Gives at old mid (state_expr at.scene.now at.names.now old.sets.keys u) u.growth (Ok c.in_ok-input.input))
    c.grown.ensures c.in_ok-input.ensures in
    is-at mid.entered c.in_ok-input.input (state_expr at.scene.now at.names.now old.sets.keys c.args.state)
    (c.args.state.growth + c.args.radius) given.entered.at

pub number_blur-returns : goal.number_blur-returns
number_blur-returns t c =
    let at = c.args.at.now in
    let old = c.args.build.now in
    let mid = c.number.new.build in
    let given = subst (λ (u : State). Gives at old mid (state_expr at.scene.now at.names.now old.sets.keys u) u.growth (Ok c.in_ok-input.input))
    c.grown.ensures c.in_ok-input.ensures in
    gives-blur at old mid c.put_blur.new.entered c.args.radius (state_expr at.scene.now at.names.now old.sets.keys c.args.state)
    c.args.state.growth c.in_ok-input.input c.put_blur.result c.len.ensures.closed given c.put_blur.ensures

pub number_blur-returns-in_err-input : goal.number_blur-returns-in_err-input
number_blur-returns-in_err-input t c =
    let at = c.args.at.now in
    let old = c.args.build.now in
    let mid = c.number.new.build in
    let a = state_expr at.scene.now at.names.now old.sets.keys c.args.state in
    let given = subst (λ (u : State). Gives at old mid (state_expr at.scene.now at.names.now old.sets.keys u) u.growth (Err c.in_err-input.field-0.0))
    c.grown.ensures c.in_err-input.ensures in
    gives-err at old mid (Blur c.args.radius a) c.args.state.growth c.from_residual.result c.in_err-input.field-0.0
    c.from_residual.ensures.1
    (λ is. omega (arith, given.full (ap Err is), blur-longer c.args.radius a c.args.state.growth old.entered c.len.ensures.closed))

pub number_both-returns-in_err-upper : goal.number_both-returns-in_err-upper
number_both-returns-in_err-upper t c =
    let at = c.args.at.now in
    let old = c.args.build.now in
    let a = state_expr at.scene.now at.names.now old.sets.keys c.args.inputs.0 in
    let b = state_expr at.scene.now at.names.now old.sets.keys c.args.inputs.1 in
    gives-err at old c.number.new.build (Pair c.args.op a b) c.args.inputs.0.growth c.from_residual.result c.in_err-upper.field-0.0
    c.from_residual.ensures.1
    (λ is.
    omega (
      arith,
      c.in_err-upper.ensures.full (ap Err is),
      pair-longer_first c.args.op a b c.args.inputs.0.growth old.entered c.len.ensures.closed,
    ))

pub add_seen-returns : goal.add_seen-returns
add_seen-returns t c =
    let at = c.args.at.now in
    let s = at.scene.now in
    let names = at.names.now in
    let old = c.args.build.now in
    let mid = c.is_seen.new.build in
    let new = c.number.new.build in
    let state = c.args.state in
    let g = state.growth in
    let was = c.args.numbers.now.items in
    let n = c.in_ok-n.n in
    let e = state_expr s names old.sets.keys state in
    let seen : is_clear e ≡ false =
    c.in_ok-is_seen.ensures.seen (dropped_in old.sets.keys state.dropped) (offset_of state) ∙ ap not c.if-not-branch.false in
    let given = gives-along at mid new _ e g _ (ap (λ sets. state_expr s names sets.keys state) c.is_seen.ensures.sets) c.in_ok-n.ensures in
    let now : new.entered ≡ enter e g old.entered = given.entered.now ∙ ap (enter e g) c.is_seen.ensures.entered in
    let more = subst (Extends old.entered) (sym now) (extends-enter e g old.entered) in
    record {
      entered = now ∙ ap (λ (es : List Expr). enter_each es g old.entered) (sym (seen-is_one e seen));
      numbers = λ all. (
        subst (All (IsAt new.entered g)) (sym c.in_ok-push.ensures.items)
            (All-push (IsAt new.entered g) was n (all_at-extends old.entered new.entered g was more all)
            (is-at new.entered n e g given.entered.at)),
        ap (map (expr_at new.entered)) c.in_ok-push.ensures.items
            ∙ map-append (expr_at new.entered) was (n ∷ [])
            ∙ ap₂ (λ (xs ys : List Expr). xs ++ ys) (exprs-extend old.entered new.entered g was more all)
            (ap (λ (x : Expr). x ∷ []) (expr-is new.entered n e g given.entered.at) ∙ sym (seen-is_one e seen)),
      );
      grows =
          record {
            sound = given.grows.sound;
            sets = subst (λ sets. KeepsSets sets.keys new.sets.keys) c.is_seen.ensures.sets given.grows.sets;
            few = omega (arith, given.grows.few, ap length c.is_seen.ensures.entered);
          };
      full = λ is. let none : ⊥ = cc in absurd none;
    }

pub number_both-put_pair-requires-clause-first : goal.number_both-put_pair-requires-clause-first
number_both-put_pair-requires-clause-first t c =
    let at = c.args.at.now in
    let s = at.scene.now in
    let names = at.names.now in
    let old = c.args.build.now in
    let mid = c.number.new.build in
    let low = c.number-2.new.build in
    let i = c.args.inputs.0 in
    let j = c.args.inputs.1 in
    let a = state_expr s names old.sets.keys i in
    let b = state_expr s names mid.sets.keys j in
    let second = subst (λ (g : ℕ). Gives at mid low b g (Ok c.in_ok-lower.lower)) (sym c.requires.growth) c.in_ok-lower.ensures in
    is-at low.entered c.in_ok-upper.upper a i.growth
    (upper-kept at mid low a b i.growth c.in_ok-upper.upper c.in_ok-lower.lower c.in_ok-upper.ensures.entered.at second)

pub number_both-put_pair-requires-clause-second : goal.number_both-put_pair-requires-clause-second
number_both-put_pair-requires-clause-second t c =
    let at = c.args.at.now in
    let s = at.scene.now in
    let names = at.names.now in
    let mid = c.number.new.build in
    let low = c.number-2.new.build in
    let b = state_expr s names mid.sets.keys c.args.inputs.1 in
    let second = subst (λ (g : ℕ). Gives at mid low b g (Ok c.in_ok-lower.lower)) (sym c.requires.growth) c.in_ok-lower.ensures in
    is-at low.entered c.in_ok-lower.lower b c.args.inputs.0.growth second.entered.at

pub number_both-returns : goal.number_both-returns
number_both-returns t c =
    let at = c.args.at.now in
    let s = at.scene.now in
    let names = at.names.now in
    let old = c.args.build.now in
    let mid = c.number.new.build in
    let low = c.number-2.new.build in
    let i = c.args.inputs.0 in
    let j = c.args.inputs.1 in
    let a = state_expr s names old.sets.keys i in
    let b = state_expr s names old.sets.keys j in
    let first = c.in_ok-upper.ensures in
    let second = subst (λ (g : ℕ). Gives at mid low b g (Ok c.in_ok-lower.lower)) (sym c.requires.growth)
    (gives-along at mid low _ b j.growth _
    (same_expr s names old.sets.keys mid.sets.keys j first.grows.sets c.requires.second.ask.state.set) c.in_ok-lower.ensures) in
    gives-pair at old mid low c.put_pair.new.entered c.args.op a b i.growth c.in_ok-upper.upper c.in_ok-lower.lower
    c.put_pair.result c.len.ensures.closed first second c.put_pair.ensures

pub number_both-returns-in_err-lower : goal.number_both-returns-in_err-lower
number_both-returns-in_err-lower t c =
    let at = c.args.at.now in
    let s = at.scene.now in
    let names = at.names.now in
    let old = c.args.build.now in
    let mid = c.number.new.build in
    let low = c.number-2.new.build in
    let i = c.args.inputs.0 in
    let j = c.args.inputs.1 in
    let a = state_expr s names old.sets.keys i in
    let b = state_expr s names old.sets.keys j in
    let first = c.in_ok-upper.ensures in
    let second = subst (λ (g : ℕ). Gives at mid low b g (Err c.in_err-lower.field-0.0)) (sym c.requires.growth)
    (gives-along at mid low _ b j.growth _
    (same_expr s names old.sets.keys mid.sets.keys j first.grows.sets c.requires.second.ask.state.set) c.in_err-lower.ensures) in
    gives-err at old low (Pair c.args.op a b) i.growth c.from_residual-in_err-lower.result c.in_err-lower.field-0.0
    c.from_residual-in_err-lower.ensures.1
    (λ is.
    omega (
      arith,
      second.full (ap Err is),
      ap (λ (l : List Spread). length (enter b i.growth l)) first.entered.now,
      pair-longer c.args.op a b i.growth old.entered c.len.ensures.closed,
    ))

pub number_by-returns-in-Drawing : goal.number_by-returns-in-Drawing
number_by-returns-in-Drawing t c =
    let at = c.args.at.now in
    let s = at.scene.now in
    let names = at.names.now in
    let old = c.args.build.now in
    let new = c.number_drawing.new.build in
    let state = c.args.state in
    let moved = subst (λ (u : State). Gives at old new (renamed (named names)
    (leaf_by (colours_of s c.number.result) c.number.result u.spot.row (dropped_in old.sets.keys u.dropped) (offset_of u))) u.growth
    c.number_drawing.result) c.moved.ensures c.number_drawing.ensures in
    gives-along at old new _ (stepped_expr s names old.sets.keys state c.args.step) state.growth c.number_drawing.result
    (ap (λ (d : ℕ). renamed (named names)
    (leaf_by (colours_of s d) d state.spot.row (dropped_in old.sets.keys state.dropped) (plus (offset_of state) c.in-Drawing.offset)))
    c.number.ensures.value
    ∙ expr-drawing s names old.sets.keys state c.in-Drawing.level c.in-Drawing.index c.in-Drawing.offset
    ∙ ap (stepped_expr s names old.sets.keys state) (sym c.in-Drawing.is))
    moved

pub number_filtered-number-requires : goal.number_filtered-number-requires
number_filtered-number-requires t c = (search rules, c.in_ok-state.ensures.state.may)

pub number_filtered-returns-in_err-state : goal.number_filtered-returns-in_err-state
number_filtered-returns-in_err-state t c =
    let at = c.args.at.now in
    let old = c.args.build.now in
    let state = c.args.state in
    gives-memory at old c.filtered.new.build
    (spot_expr at.scene.now at.names.now state.spot (filtering c.args.keep c.args.styles (dropped_in old.sets.keys state.dropped)) (offset_of state))
    state.growth _ c.from_residual.ensures.1

pub number_filtered-returns : goal.number_filtered-returns
number_filtered-returns t c =
    let at = c.args.at.now in
    let old = c.args.build.now in
    let mid = c.filtered.new.build in
    let state = c.args.state in
    let e = spot_expr at.scene.now at.names.now state.spot (filtering c.args.keep c.args.styles (dropped_in old.sets.keys state.dropped)) (offset_of state) in
    gives-in_place at c.args.left old mid c.number.new.build e state.growth c.in_ok-state.state
    c.number.result c.filtered.ensures.entered c.in_ok-state.ensures.sets
    (subst (λ (styles : List ℕ). StandsIn at c.args.left mid (spot_expr at.scene.now at.names.now state.spot
    (filtering c.args.keep styles (dropped_in old.sets.keys state.dropped)) (offset_of state)) state.growth c.in_ok-state.state)
    c.items.ensures c.in_ok-state.ensures.state)
    c.number.ensures

-- ---- rows

pub number_over-loop-terminal-preserved : goal.number_over-loop-terminal-preserved
number_over-loop-terminal-preserved t c =
    let at = c.args.at.now in
    let s = at.scene.now in
    let names = at.names.now in
    let old = c.args.build.now in
    let state = c.args.state in
    let g = state.growth in
    let E = terminal_expr s names old.sets.keys state in
    let l0 = c.loop-terminal.build in
    let l1 = c.add_seen.new.build in
    let inv = c.loop-terminal.invariant in
    let terminal = c.in-Some.terminal in
    let below = c.in-Some.below in
    let was = c.loop-terminal.numbers.items in
    let now = c.add_seen.new.numbers.items in
    let u : State = record state { spot = input_spot state.spot.sheet terminal state.spot.row } in
    let u_is : c.at.result ≡ u = c.at.ensures ∙ ap (λ (p : Spot). record state { spot = p }) c.input-spot.ensures in
    let at_u = subst (λ (u : State). Adds at l0 l1 was now (state_expr s names l0.sets.keys u) u.growth (Ok c.in_ok-add_seen.field-0)) u_is c.in_ok-add_seen.ensures in
    let given = subst (λ (e : Expr). Adds at l0 l1 was now e g (Ok c.in_ok-add_seen.field-0))
    (same_expr s names old.sets.keys l0.sets.keys u inv.grows.sets c.requires.state.set) at_u in
    let split : seen_down (map E c.loop-terminal.rest) ≡ seen_down (E terminal ∷ []) ++ seen_down (map E below) =
    ap (λ (r : List Ref). seen_down (map E r)) c.in-Some.ensures
    ∙ ap seen_down (map-append E below (terminal ∷ [])) ∙ seen_down-push (map E below) (E terminal) in
    let numbered = given.numbers inv.numbers in
    record {
      grows = grows-then s names at.most old l0 l1 inv.grows given.grows;
      ends =
          All-front (λ t. WaysEnd s c.args.left (input_spot state.spot.sheet t state.spot.row)) below (terminal ∷ [])
          (subst (All (λ t. WaysEnd s c.args.left (input_spot state.spot.sheet t state.spot.row))) c.in-Some.ensures inv.ends);
      numbers = numbered.0;
      seen =
          inv.seen
          ∙ ap (λ (es : List Expr). map (expr_at l0.entered) was ++ es) split
          ∙ sym (append_assoc (map (expr_at l0.entered) was) (seen_down (E terminal ∷ [])) (seen_down (map E below)))
          ∙ ap (λ (es : List Expr). es ++ seen_down (map E below)) (sym numbered.1);
      entered =
          inv.entered
          ∙ ap (λ (es : List Expr). enter_each es g l0.entered) split
          ∙ enter_each-append (seen_down (E terminal ∷ [])) (seen_down (map E below)) g l0.entered
          ∙ ap (enter_each (seen_down (map E below)) g) (sym given.entered);
    }

pub number_over-returns-in_err-add_seen : goal.number_over-returns-in_err-add_seen
number_over-returns-in_err-add_seen t c =
    let at = c.args.at.now in
    let s = at.scene.now in
    let names = at.names.now in
    let old = c.args.build.now in
    let state = c.args.state in
    let g = state.growth in
    let E = terminal_expr s names old.sets.keys state in
    let l0 = c.loop-terminal.build in
    let l1 = c.add_seen.new.build in
    let inv = c.loop-terminal.invariant in
    let terminal = c.in-Some.terminal in
    let below = c.in-Some.below in
    let was = c.loop-terminal.numbers.items in
    let now = c.add_seen.new.numbers.items in
    let x = c.in_err-add_seen.field-0.0 in
    let u : State = record state { spot = input_spot state.spot.sheet terminal state.spot.row } in
    let u_is : c.at.result ≡ u = c.at.ensures ∙ ap (λ (p : Spot). record state { spot = p }) c.input-spot.ensures in
    let at_u = subst (λ (u : State). Adds at l0 l1 was now (state_expr s names l0.sets.keys u) u.growth (Err x)) u_is c.in_err-add_seen.ensures in
    let given = subst (λ (e : Expr). Adds at l0 l1 was now e g (Err x))
    (same_expr s names old.sets.keys l0.sets.keys u inv.grows.sets c.requires.state.set) at_u in
    let split : seen_down (map E c.loop-terminal.rest) ≡ seen_down (E terminal ∷ []) ++ seen_down (map E below) =
    ap (λ (r : List Ref). seen_down (map E r)) c.in-Some.ensures
    ∙ ap seen_down (map-append E below (terminal ∷ [])) ∙ seen_down-push (map E below) (E terminal) in
    let mid = enter_each (seen_down (E terminal ∷ [])) g l0.entered in
    let whole = inv.entered
    ∙ ap (λ (es : List Expr). enter_each es g l0.entered) split
    ∙ enter_each-append (seen_down (E terminal ∷ [])) (seen_down (map E below)) g l0.entered in
    gives-err at old l1 (stacked (seen_down (map E c.args.terminals))) g c.from_residual.result x c.from_residual.ensures.1
    (λ is.
    omega (
      arith,
      given.full (ap Err is),
      longer mid (enter_each (seen_down (map E below)) g mid) (extends-enter_each (seen_down (map E below)) g mid),
      ap length whole,
      each-longer (seen_down (map E c.args.terminals)) g old.entered c.len.ensures.closed (seen-seen_down (map E c.args.terminals)),
    ))

pub number_over-put_each_over-requires-clause-lowest : goal.number_over-put_each_over-requires-clause-lowest
number_over-put_each_over-requires-clause-lowest t c =
    All-last (IsAt c.loop-terminal.build.entered c.args.state.growth) c.pop.new.self.items c.in-Some-pop.lowest
    (subst (All (IsAt c.loop-terminal.build.entered c.args.state.growth)) c.in-Some-pop.ensures.items c.loop-terminal.invariant.numbers)

pub number_over-put_each_over-requires-clause-upper : goal.number_over-put_each_over-requires-clause-upper
number_over-put_each_over-requires-clause-upper t c =
    All-front (IsAt c.loop-terminal.build.entered c.args.state.growth) c.pop.new.self.items (c.in-Some-pop.lowest ∷ [])
    (subst (All (IsAt c.loop-terminal.build.entered c.args.state.growth)) c.in-Some-pop.ensures.items c.loop-terminal.invariant.numbers)

pub number_over-returns : goal.number_over-returns
number_over-returns t c =
    let at = c.args.at.now in
    let s = at.scene.now in
    let names = at.names.now in
    let old = c.args.build.now in
    let state = c.args.state in
    let g = state.growth in
    let E = terminal_expr s names old.sets.keys state in
    let l = c.loop-terminal.build in
    let inv = c.loop-terminal.invariant in
    let es = map (expr_at l.entered) c.pop.new.self.items in
    let lowest = expr_at l.entered c.in-Some-pop.lowest in
    let seen = seen_down (map E c.args.terminals) in
    let seen_is : seen ≡ es ++ lowest ∷ [] =
    inv.seen
    ∙ ap (λ (r : List Ref). map (expr_at l.entered) c.loop-terminal.numbers.items ++ seen_down (map E r)) c.in_default.ensures
    ∙ append-nil (map (expr_at l.entered) c.loop-terminal.numbers.items)
    ∙ ap (map (expr_at l.entered)) c.in-Some-pop.ensures.items
    ∙ map-append (expr_at l.entered) c.pop.new.self.items (c.in-Some-pop.lowest ∷ []) in
    let entered : l.entered ≡ enter_each (es ++ lowest ∷ []) g old.entered =
    sym (inv.entered ∙ ap (λ (r : List Ref). enter_each (seen_down (map E r)) g l.entered) c.in_default.ensures)
    ∙ ap (λ (xs : List Expr). enter_each xs g old.entered) seen_is in
    gives-along at old (record l { entered = c.put_each_over.new.entered }) _ (stacked seen) g c.put_each_over.result
    (ap stacked (sym seen_is))
    (gives-over at old l c.put_each_over.new.entered es lowest g c.put_each_over.result c.len.ensures.closed
    (subst (All (λ (e : Expr). is_clear e ≡ false)) seen_is (seen-seen_down (map E c.args.terminals))) inv.grows entered
    c.put_each_over.ensures)

use Rattle.std.proofs.Common.{◌≡◌, ◌<◌, ◌≤◌, ◌*◌, ℕ, List, Err, length, sym, ap, ap₂, ◌∙◌, subst, arith, ◌++◌, ◌∷◌, []}
use Rattle.xs_check.specs.Good.{files_of}
use Rattle.xs_meaning.specs.Expressions.{root_of, reach_of}
use Rattle.xs_plan.specs.declared.limits.TheConstants.{FARTHEST_REACH}
use Rattle.xs_demand.specs.Blocks.{Spread, Enters, inputs_entered}
use Rattle.xs_demand.specs.Renamed.{renamed}
use Rattle.xs_build.specs.States.{named}
use Rattle.xs_build.specs.declared.stop.Stop.{Stop}
use Rattle.xs_dryrun.specs.declared.limits.Counts.{Counts}
use Rattle.xs_dryrun.specs.declared.limits.What.TheVariants as what
use Rattle.xs_dryrun.specs.Passing.{AreCounts}
use Rattle.xs_dryrun.specs.Planned.{AreRoots}
use Rattle.xs_dryrun.specs.Trying.{TriesRoot}
use Rattle.xs_dryrun.proofs.RootNumbers.{on_any, root_kept}
use Rattle.xs_dryrun.proofs.NextRow.{room_before, next_row, fit_named, too_many, reach_passed, limit_told, tried, counts_grow, entered_within}
use Rattle.xs_dryrun.proofs.next.add_next_row.Goals as goal

pub returns-then-branch-gt-FARTHEST_REACH-clause-tries : goal.returns-then-branch-gt-FARTHEST_REACH-clause-tries
returns-then-branch-gt-FARTHEST_REACH-clause-tries c =
    let names = named c.args.names.now in
    let root = root_of c.args.s.now c.args.row in
    let far : FARTHEST_REACH < reach_of (renamed names root) =
    omega (arith, c.if-branch-gt-FARTHEST_REACH.true, c.in_ok-reach.ensures, c.names_of_drawings_change_no_image.ensures.reach names root) in
    limit_told c.args.way.now.builder c.args.way.now.builder c.args.way.now.rows c.args.way.now.rows c.args.way.now.build.entered
    c.args.way.now.build.entered c.args.names.now c.args.place (renamed names root) what.Reach c.too_much.result c.too_much.ensures
    (λ drawings roots follow.
    reach_passed drawings roots c.args.names.now c.args.place c.args.way.now.build.entered c.args.way.now.rows c.args.way.now.builder follow
    (renamed names root) far)

pub most_entered-most-requires-clause-few : goal.most_entered-most-requires-clause-few
most_entered-most-requires-clause-few c =
    let r = c.requires.next in
    let way = c.args.way.now in
    let same : length c.args.tiles.now * c.len.result ≡ length way.builder.plan.tiles * length way.build.entered =
    ap₂ (λ (m n : ℕ). m * n) (ap length (sym c.requires.tiles)) (c.len.ensures.count ∙ ap length c.entered.ensures) in
    omega (arith, same, room_before r.0 r.1 c.args.names.now c.args.place way.build.entered way.rows way.builder r.2)

pub try_row-requires-clause-next : goal.try_row-requires-clause-next
try_row-requires-clause-next c =
    let r = c.requires.next in
    let way = c.args.way.now in
    let names = named c.args.names.now in
    let root = root_of c.args.s.now c.args.row in
    let count = length (files_of c.args.s.now.levels) in
    let enters : Enters way.build.entered c.entered-in-Ok.result.now (renamed names root) 0 c.in-Ok.root =
    subst (λ (l : List Spread). Enters way.build.entered l (renamed names root) 0 c.in-Ok.root) (sym c.entered-in-Ok.ensures)
    c.in-Ok.ensures.entered in
    let counted : AreCounts way.build.entered (record { spreads = c.len.result; inputs = c.inputs.result }) =
    record { spreads = c.len.ensures.count ∙ ap length c.entered.ensures; inputs = c.inputs.ensures ∙ ap inputs_entered c.entered-2.ensures } in
    let near : reach_of (renamed names root) ≤ FARTHEST_REACH =
    omega (arith, c.if-branch-gt-FARTHEST_REACH.false, c.in_ok-reach.ensures, c.names_of_drawings_change_no_image.ensures.reach names root) in
    let fit = fit_named r.0 r.1 c.args.names.now c.args.place way.build.entered way.rows way.builder r.2 count (renamed names root)
    c.requires.names
    (λ most below. c.renaming_keeps_fit.ensures count most names below root
    (c.the_roots_of_rows_are_fit.ensures c.args.s.now c.scene.ensures.good.ranges count c.args.row
    (c.drawings_of_rows_are_there.ensures c.args.s.now c.scene.ensures.good c.args.row))) in (
      r.0,
      r.1,
      renamed names root,
      way.build.entered,
      r.2.planned,
      next_row r.0 r.1 c.args.names.now c.args.place way.build.entered way.rows way.builder r.2 (renamed names root)
          c.entered-in-Ok.result.now c.in-Ok.root (record { spreads = c.len.result; inputs = c.inputs.result }) enters fit near counted,
    )

pub try_row-requires-clause-root : goal.try_row-requires-clause-root
try_row-requires-clause-root c =
    let way = c.args.way.now in
    let expr = renamed (named c.args.names.now) (root_of c.args.s.now c.args.row) in
    omega (
      arith,
      entered_within way.build.entered c.root.new.self.entered expr c.in-Ok.root c.in-Ok.ensures.entered,
      ap length c.entered-in-Ok.ensures,
    )

pub try_row-requires-clause-spreads : goal.try_row-requires-clause-spreads
try_row-requires-clause-spreads c =
    let way = c.args.way.now in
    let expr = renamed (named c.args.names.now) (root_of c.args.s.now c.args.row) in
    let counts : Counts = record { spreads = c.len.result; inputs = c.inputs.result } in
    let counted : AreCounts way.build.entered counts =
    record { spreads = c.len.ensures.count ∙ ap length c.entered.ensures; inputs = c.inputs.ensures ∙ ap inputs_entered c.entered-2.ensures } in
    omega (
      arith,
      (counts_grow way.build.entered c.root.new.self.entered expr c.in-Ok.root counts c.in-Ok.ensures.entered counted).0,
      ap length c.entered-in-Ok.ensures,
    )

pub try_row-requires-clause-inputs : goal.try_row-requires-clause-inputs
try_row-requires-clause-inputs c =
    let way = c.args.way.now in
    let expr = renamed (named c.args.names.now) (root_of c.args.s.now c.args.row) in
    let counts : Counts = record { spreads = c.len.result; inputs = c.inputs.result } in
    let counted : AreCounts way.build.entered counts =
    record { spreads = c.len.ensures.count ∙ ap length c.entered.ensures; inputs = c.inputs.ensures ∙ ap inputs_entered c.entered-2.ensures } in
    omega (
      arith,
      (counts_grow way.build.entered c.root.new.self.entered expr c.in-Ok.root counts c.in-Ok.ensures.entered counted).1,
      ap inputs_entered c.entered-in-Ok.ensures,
    )

pub returns-in_ok-keep_root-in-Ok-clause-tries : goal.returns-in_ok-keep_root-in-Ok-clause-tries
returns-in_ok-keep_root-in-Ok-clause-tries c =
    let way = c.args.way.now in
    let names = named c.args.names.now in
    let root = root_of c.args.s.now c.args.row in
    let count = length (files_of c.args.s.now.levels) in
    let counts : Counts = record { spreads = c.len.result; inputs = c.inputs.result } in
    let enters : Enters way.build.entered c.entered-in-Ok.result.now (renamed names root) 0 c.in-Ok.root =
    subst (λ (l : List Spread). Enters way.build.entered l (renamed names root) 0 c.in-Ok.root) (sym c.entered-in-Ok.ensures)
    c.in-Ok.ensures.entered in
    let counted : AreCounts way.build.entered counts =
    record { spreads = c.len.ensures.count ∙ ap length c.entered.ensures; inputs = c.inputs.ensures ∙ ap inputs_entered c.entered-2.ensures } in
    let near : reach_of (renamed names root) ≤ FARTHEST_REACH =
    omega (arith, c.if-branch-gt-FARTHEST_REACH.false, c.in_ok-reach.ensures, c.names_of_drawings_change_no_image.ensures.reach names root) in
    subst
    (λ (now : List Spread). TriesRoot way.builder c.try_row.new.builder way.rows c.try_row.new.rows way.build.entered now c.args.names.now
    c.args.place (renamed names root) c.try_row.result) c.entered-in-Ok.ensures
    (tried way.builder c.try_row.new.builder way.rows c.try_row.new.rows way.build.entered c.entered-in-Ok.result.now c.args.names.now
    c.args.place c.in-Ok.root counts (renamed names root) c.try_row.result c.try_row.ensures.tries
    (λ drawings roots follow.
    next_row drawings roots c.args.names.now c.args.place way.build.entered way.rows way.builder follow (renamed names root)
    c.entered-in-Ok.result.now c.in-Ok.root counts enters
    (fit_named drawings roots c.args.names.now c.args.place way.build.entered way.rows way.builder follow count (renamed names root)
    c.requires.names
    (λ most below. c.renaming_keeps_fit.ensures count most names below root
    (c.the_roots_of_rows_are_fit.ensures c.args.s.now c.scene.ensures.good.ranges count c.args.row
    (c.drawings_of_rows_are_there.ensures c.args.s.now c.scene.ensures.good c.args.row))))
    near counted))

pub returns-in-Err-Full-clause-tries : goal.returns-in-Err-Full-clause-tries
returns-in-Err-Full-clause-tries c =
    let way = c.args.way.now in
    let names = named c.args.names.now in
    let root = root_of c.args.s.now c.args.row in
    let counts : Counts = record { spreads = c.len.result; inputs = c.inputs.result } in
    let counted : AreCounts way.build.entered counts =
    record { spreads = c.len.ensures.count ∙ ap length c.entered.ensures; inputs = c.inputs.ensures ∙ ap inputs_entered c.entered-2.ensures } in
    let near : reach_of (renamed names root) ≤ FARTHEST_REACH =
    omega (arith, c.if-branch-gt-FARTHEST_REACH.false, c.in_ok-reach.ensures, c.names_of_drawings_change_no_image.ensures.reach names root) in
    let same : length way.builder.plan.tiles * c.len.result ≡ length c.args.tiles.now * c.len.result =
    ap (λ (n : ℕ). n * c.len.result) (ap length c.requires.tiles) in
    limit_told way.builder way.builder way.rows way.rows way.build.entered c.root.new.self.entered c.args.names.now c.args.place
    (renamed names root) what.Aliases c.too_much-in-Err-Full.result c.too_much-in-Err-Full.ensures
    (λ drawings roots follow.
    too_many drawings roots c.args.names.now c.args.place way.build.entered way.rows way.builder follow (renamed names root) counts
    c.most_entered-most.result near counted (omega (arith, same, c.most_entered-most.ensures.is)) (c.in-Err-Full.ensures.full (ap (λ (x : Stop). Err x) c.in-Err-Full.field-0-is)))

pub returns-in_ok-keep_root-in-Ok-clause-held : goal.returns-in_ok-keep_root-in-Ok-clause-held
returns-in_ok-keep_root-in-Ok-clause-held c =
    on_any c.try_row.result _
    (λ earlier held.
    subst
    (λ (l : List ℕ). AreRoots c.root.new.self.entered l (earlier ++ renamed (named c.args.names.now) (root_of c.args.s.now c.args.row) ∷ []))
    (sym c.in_ok-keep_root-in-Ok.ensures)
    (root_kept c.args.way.now.build.entered c.root.new.self.entered (renamed (named c.args.names.now) (root_of c.args.s.now c.args.row))
    c.in-Ok.root c.in-Ok.ensures.entered c.args.way.now.roots.items earlier held))

use Rattle.std.proofs.Common.{rules, ◌≡◌, ◌++◌, ◌∷◌, [], None, length, sym, ap, ◌∙◌}
use Rattle.xs_demand.specs.Limits.{first_limit}
use Rattle.xs_dryrun.proofs.TryRow.{no_limit, is_row_of, is_entered}
use Rattle.xs_dryrun.proofs.row.try_row.Goals as goal

pub add_row-requires-clause-row : goal.add_row-requires-clause-row
add_row-requires-clause-row c =
    let r = c.requires.next in
    let old = c.args.builder.now in
    let nothing : c.passed.result ≡ None = search rules in
    let row = is_row_of r.0 r.1 r.2 r.3 c.args.entered.now c.args.rows.now old c.args.root c.args.row c.args.was r.4 r.5
    (length c.args.tiles.now) (record { spreads = c.len.result; inputs = c.inputs.result }) (ap length (sym c.requires.tiles))
    (record { spreads = c.len.ensures.count; inputs = c.inputs.ensures }) in
    let none = no_limit (first_limit old.plan.tiles (r.1 ++ r.2 ∷ []))
    (c.passed.ensures.first old.plan.tiles r.1 r.2 row r.5.none ∙ nothing) in (
      r.0,
      r.1,
      r.2,
      r.3,
      r.4,
      is_entered r.0 r.1 r.2 r.3 c.args.entered.now c.args.rows.now old c.args.root c.args.row c.args.was r.4 r.5 none,
    )

pub returns-clause-tries : goal.returns-clause-tries
returns-clause-tries c =
    let old = c.args.builder.now in
    let nothing : c.passed.result ≡ None = search rules in
    record {
      planned = λ drawings roots e was p n.
          let row = is_row_of drawings roots e was c.args.entered.now c.args.rows.now old c.args.root c.args.row c.args.was p n
          (length c.args.tiles.now) (record { spreads = c.len.result; inputs = c.inputs.result }) (ap length (sym c.requires.tiles))
          (record { spreads = c.len.ensures.count; inputs = c.inputs.ensures }) in
          let none = no_limit (first_limit old.plan.tiles (roots ++ e ∷ []))
          (c.passed.ensures.first old.plan.tiles roots e row n.none ∙ nothing) in (
            c.in_ok-add_row.ensures.planned drawings roots e was p
                (is_entered drawings roots e was c.args.entered.now c.args.rows.now old c.args.root c.args.row c.args.was p n none),
            none,
          );
      limited = λ what limit same drawings roots e was p n. cc;
    }

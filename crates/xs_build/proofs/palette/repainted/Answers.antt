use Rattle.std.proofs.Common.{sym, ◌∙◌}
use Rattle.std.proofs.lemmas.Bool.{false_from_ne_true, false≢true}
use Rattle.xs_meaning.specs.Palettes.{as_written, tint_at, tint_by, same_pixels}
use Rattle.xs_tint.specs.Filters.{dropped_by}
use Rattle.xs_demand.proofs.SameLemmas.{Decides-same_pixels}
use Rattle.xs_build.proofs.palette.repainted.Goals as goal

pub returns-then-have_one_tint : goal.returns-then-have_one_tint
returns-then-have_one_tint c =
    let tint = tint_at c.args.c.now c.args.row (dropped_by c.args.f.now) in
    let written = tint_by c.args.c.now (as_written c.args.c.now) in
    (Decides-same_pixels tint written).1
    (sym c.in_ok-shown.ensures.tint ∙ c.have_one_tint.ensures.0 c.if-have_one_tint.true ∙ c.in_ok-written.ensures)

pub returns-else-have_one_tint : goal.returns-else-have_one_tint
returns-else-have_one_tint c =
    let tint = tint_at c.args.c.now c.args.row (dropped_by c.args.f.now) in
    let written = tint_by c.args.c.now (as_written c.args.c.now) in (
      false_from_ne_true (same_pixels tint written)
          (λ same.
          false≢true
          (sym c.if-have_one_tint.false
          ∙ c.have_one_tint.ensures.1
          (c.in_ok-shown.ensures.tint ∙ (Decides-same_pixels tint written).0 same ∙ sym c.in_ok-written.ensures))),
      c.in_ok-shown.ensures.tint,
    )

use Rattle.std.proofs.Common.{◌≡◌, cond, arith, ap, ◌∙◌}
use Rattle.xs_palette.specs.Styles.{written, style_of}
use Rattle.xs_meaning.specs.Palettes.{style_at}
use Rattle.xs_tint.specs.declared.shown.TheConstants.{NO_COLOUR}
use Rattle.xs_tint.specs.Filters.{dropped_by}
use Rattle.xs_tint.proofs.ShownStyles.{style_of-shown, get_or-styles}
use Rattle.xs_tint.proofs.shown.palette_at.Goals as goal

pub returns-in-Ok : goal.returns-in-Ok
returns-in-Ok c =
    let colours = c.args.c.now in
    let f = dropped_by c.args.f.now in
    let styles = c.clear_dropped.new.styles.items in
    let shown : style_of (written styles) ≡ style_at colours c.args.row f =
    style_of-shown colours c.args.row f styles
    (λ style. c.palette_keys_are_chosen_by_row.ensures.lacking colours c.args.row style f)
    (c.clear_dropped.ensures.len ∙ c.in_ok-styles.ensures.len)
    (λ k d inside.
    c.clear_dropped.ensures.styles k d (omega (arith, c.in_ok-styles.ensures.len))
    ∙ ap (cond (f k) NO_COLOUR) (c.in_ok-styles.ensures.styles k d inside))
    in
    let same : style_of c.in-Ok.palette ≡ style_at colours c.args.row f =
    c.in-Ok.ensures.styles ∙ ap (λ xs. style_of (written xs)) c.as_slice.ensures.value ∙ shown
    in
    record { styles = same; tint = c.tint_is_canonical.ensures.any_list colours c.args.row f _ (λ id. get_or-styles c.in-Ok.palette id ∙ ap (λ g. g id) same) }

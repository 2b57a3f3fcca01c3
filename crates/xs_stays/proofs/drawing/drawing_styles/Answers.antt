use Rattle.std.proofs.Common.{◌≡◌, ℕ, Bool, not, Option, Some, List, slice_index_or, refl, sym, ap, ◌∙◌}
use Rattle.std.proofs.Math.Path.{fun_ext}
use Rattle.std.proofs.lemmas.List.{get_or_default}
use Rattle.xs_scene.specs.declared.level.Kind.TheVariants.{Colour, Cm32}
use Rattle.xs_scene.specs.Records.{SceneRecord, ColoursRecord}
use Rattle.xs_meaning.specs.Drawings.{no_colours}
use Rattle.xs_pixel.specs.Channels.{Channels}
use Rattle.xs_meaning.specs.Palettes.{none_dropped, style_at, is_clear_pixel}
use Rattle.xs_stays.specs.Sets.{styles_in}
use Rattle.xs_stays.specs.Stays.{unclear}
use Rattle.xs_stays.proofs.Levels.{colours-by_kind}
use Rattle.xs_stays.proofs.drawing.drawing_styles.Goals as goal

pub returns-in-Colour : goal.returns-in-Colour
returns-in-Colour c =
    let s = c.args.s.now in
    ap styles_in c.empty.ensures ∙ fun_ext (λ style. refl)
    ∙ ap (λ (p : Option ColoursRecord). unclear p c.args.row none_dropped) (sym (colours-by_kind s c.args.d Colour c.in-Colour.ensures.value))

pub returns-in_ok-styles-in-Cm32 : goal.returns-in_ok-styles-in-Cm32
returns-in_ok-styles-in-Cm32 c =
    let s = c.args.s.now in
    let palette = c.in-Cm32.palette in
    let held = c.index-items-palette.result in
    let colours : held ≡ slice_index_or s.palettes palette no_colours =
    c.index-items-palette.is
    ∙ ap (λ (xs : List ColoursRecord). slice_index_or xs palette held)
    (c.items.ensures ∙ ap (λ (r : SceneRecord). r.palettes) (c.behind-s.view_is ∙ c.scene.ensures.value))
    ∙ get_or_default s.palettes palette held no_colours c.in-Cm32.ensures.palette in
    let shown : (ℕ → Channels) → ℕ → Bool = λ pixels style. not (is_clear_pixel (pixels style)) in
    c.in_ok-styles-in-Cm32.ensures
    ∙ ap shown (c.in_ok-shown-in-Cm32.ensures.styles ∙ ap (style_at held c.args.row) c.none-none.ensures)
    ∙ ap (λ (p : Option ColoursRecord). unclear p c.args.row none_dropped)
    (ap (λ (x : ColoursRecord). Some x) colours ∙ sym (colours-by_kind s c.args.d (Cm32 palette) c.in-Cm32.ensures.value))

use Rattle.std.proofs.Common.{ℕ, List, map, ap, ◌∙◌}
use Rattle.std.proofs.lemmas.List.{take_at}
use Rattle.xs_cm32.specs.Word.{colour_under}
use Rattle.xs_cm32.specs.WordRows.{words}
use Rattle.xs_palette.specs.Styles.{style_of}
use Rattle.xs_pixel.specs.PixelRows.{pixels}
use Rattle.xs_pixel.specs.Points.{point}
use Rattle.xs_raster.specs.Bitmap.{bitmap}
use Rattle.xs_bench.proofs.Pictures.{words_apart, words_shown}
use Rattle.xs_bench.proofs.leaf.words.Goals as goal

pub returns-in_default : goal.returns-in_default
returns-in_default c =
    words_apart c.args.rect c.args.g.now c.args.palette.now (point c.args.to.x c.args.to.y) c.blank.result c.in_default.ensures.none c.blank.ensures

pub returns : goal.returns
returns c =
    let scratch = take_at _ _ _ (c.copy_box.auto.bytes ∙ c.deref_mut.ensures.len) in
    let stored = take_at _ _ _ (c.cm32_row.auto.to ∙ c.deref_mut-2.ensures.len) in
    let coloured : List ℕ → _ = λ row. map (colour_under (style_of c.args.palette.now)) (words row) in
    words_shown c.args.rect c.args.g.now c.args.palette.now (point c.args.to.x c.args.to.y) c.copy_box.new.bytes c.from_bytes.result
    (c.copy_box.ensures (point c.args.to.x c.args.to.y) c.in-Some.ensures.some) c.bytes.ensures.raw c.requires.cm32
    (c.from_bytes.ensures
    ∙ ap (λ (bytes : List ℕ). bitmap c.args.rect (pixels bytes)) stored
    ∙ ap (bitmap c.args.rect) (c.cm32_row.ensures.value ∙ ap coloured (c.deref.ensures.value ∙ scratch)))

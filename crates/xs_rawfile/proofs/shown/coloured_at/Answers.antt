use Rattle.std.proofs.Common.{◌≡◌, ◌<◌, ◌∙◌, [], length, get_or, sym}
use Rattle.std.proofs.lemmas.List.{get_or_default}
use Rattle.xs_cm32.specs.Word.{colour_under}
use Rattle.xs_pixel.specs.Channels.{clear}
use Rattle.xs_palette.specs.Styles.{style_of}
use Rattle.xs_rawfile.specs.declared.drawing.RawKind.TheVariants.{Cm32}
use Rattle.xs_rawfile.proofs.Boxes.{mapped_word}
use Rattle.xs_rawfile.proofs.shown.coloured_at.Goals as goal

pub returns-in-Cm32-Some : goal.returns-in-Cm32-Some
returns-in-Cm32-Some c =
    let palettes = c.args.palettes.now in
    let n = c.in-Cm32-Some.n in
    let kind : c.args.drawing.now.kind ≡ Cm32 = sym c.kind.ensures ∙ c.in-Cm32-Some.is-0 in
    let within : n < length palettes = rw c.in-Cm32-Some.is-1 at c.requires.palette in
    let palette : c.index-palettes-n.result ≡ get_or palettes n [] = c.index-palettes-n.is ∙ get_or_default palettes n _ [] within in
    let word = mapped_word (colour_under (style_of (get_or palettes n []))) clear c.args.at c.args.drawing.now.bytes c.requires.room in
    rw (kind, c.in-Cm32-Some.is-1, word, ← palette, ← c.bytes-in-Cm32-Some.ensures.value) c.word_colour_at.ensures

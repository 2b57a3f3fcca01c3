use Rattle.std.proofs.Common.{◌≡◌, ℕ, [], ◌∷◌, map, sym, ap, ◌∙◌}
use Rattle.std.specs.Simd.Lanes.{chunk}
use Rattle.std.proofs.lemmas.Simd.{chunk-fits, length-chunk}
use mir.Syntax.{w8}
use Rattle.xs_pixel.specs.Channels.{Channels}
use Rattle.xs_pixel.specs.PixelRows.{pixels}
use Rattle.xs_cm32.specs.WordRows.{words}
use Rattle.xs_cm32.specs.Word.{ink_of, paint_of}
use Rattle.xs_lanes.specs.WordColours.{looked_up, mixes_of}
use Rattle.xs_lanes.proofs.Fours.{four_words, four_pixels}
use Rattle.xs_lanes.proofs.Mixing.{colours_are}
use Rattle.xs_lanes.proofs.cm32.colours_at.Goals as goal

pub returns-clause-value : goal.returns-clause-value
returns-clause-value c =
    let at = c.args.at in
    let row = c.args.row.now in
    let style : ℕ → Channels = looked_up (pixels c.args.table.now) c.args.last in
    let four : words (chunk at 16 row) ≡ c.word_at-a.result ∷ c.word_at-b.result ∷ c.word_at-c.result ∷ c.word_at-d.result ∷ [] =
    four_words at row _ _ _ _ c.requires.room c.word_at-a.ensures c.word_at-b.ensures c.word_at-c.ensures c.word_at-d.ensures
    in
    let inks : pixels c.joined-inks.result ≡ map (λ w. style (ink_of w)) (words (chunk at 16 row)) =
    rw (four, ← c.ink.ensures.number, ← c.ink-2.ensures.number, ← c.ink-3.ensures.number, ← c.ink-4.ensures.number, c.joined-inks.ensures.value)
    (four_pixels _ _ _ _ _ _ _ _ c.entry.ensures.long c.entry-2.ensures.long c.entry-3.ensures.long c.entry-4.ensures.long
    c.entry.ensures.value c.entry-2.ensures.value c.entry-3.ensures.value c.entry-4.ensures.value)
    in
    let paints : pixels c.joined-paints.result ≡ map (λ w. style (paint_of w)) (words (chunk at 16 row)) =
    rw (four, ← c.paint.ensures.number, ← c.paint-2.ensures.number, ← c.paint-3.ensures.number, ← c.paint-4.ensures.number, c.joined-paints.ensures.value)
    (four_pixels _ _ _ _ _ _ _ _ c.entry-5.ensures.long c.entry-6.ensures.long c.entry-7.ensures.long c.entry-8.ensures.long
    c.entry-5.ensures.value c.entry-6.ensures.value c.entry-7.ensures.value c.entry-8.ensures.value)
    in
    let long = length-chunk at 16 row c.requires.room in
    let mixed = c.mixes.ensures.value ∙ ap (λ ts. mixes_of ts c.joined-inks.result c.joined-paints.result) c.tones.ensures.value in
    ap pixels mixed
    ∙ colours_are style (chunk at 16 row) c.joined-inks.result c.joined-paints.result (chunk-fits w8 at 16 row c.type_inv.row)
    (c.joined-inks.ensures.long ∙ sym long) (c.joined-paints.ensures.long ∙ sym long) inks paints

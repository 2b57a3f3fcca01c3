-- The parts of the scene and of its files that are drawn one after another
use Rattle.std.proofs.Common.{◌≡◌, ℕ, ◌+◌, ◌*◌, ◌<◌, List, pos, ◌-ℤ◌, to_z, w32, refl, ap, ap₂, ◌∙◌, arith}
use Rattle.std.proofs.lemmas.Int.{to_z_pos}
use Rattle.xs_cm32.specs.Word.{word_of}
use Rattle.xs_pixel.specs.declared.style.Style.{Style}
use Rattle.xs_rawfile.specs.declared.drawing.RawKind.TheVariants.{Cm32}
use Rattle.xs_rawfile.specs.Raw.{raw}
use Rattle.xs_scene.specs.Records.{ExposureRecord, PegKeyRecord}
use Rattle.xs_make.specs.Draws.{drawn, state_after}
use Rattle.xs_make.specs.Files.{cel_from, word_at, word_bytes}
use Rattle.xs_make.specs.Scenes.{around, exposure_from, key_from, style_from}
use Rattle.xs_make.proofs.Drawn.{drawn_more, drawn_next, state_after_more}

-- so many draws for each thing, and those for one more
pub after_one_more : (x each n : ℕ) → state_after (state_after x (each * n)) each ≡ state_after x (each * (n + 1))
after_one_more x each n =
    let same : each * n + each ≡ each * (n + 1) = omega arith in
    state_after_more x (each * n) each ∙ ap (state_after x) same

-- a word that is drawn behind others
pub word_at_more : (x k : ℕ) → word_at (state_after x (3 * k)) 0 ≡ word_at x k
unfolding state_after
word_at_more x k =
    ap₂ (λ paint tone. word_of (drawn x (3 * k) 8) paint tone) (drawn_more x (3 * k) 1 8) (drawn_more x (3 * k) 2 256)

-- a style that is drawn behind others
pub style_from_more : (x k : ℕ) → style_from (state_after x (3 * k)) 0 ≡ style_from x k
unfolding state_after
style_from_more x k =
    ap₂ (λ (g b : ℕ). let style : Style = record { r = drawn x (3 * k) 256; g = g; b = b; a = 255 } in style)
    (drawn_more x (3 * k) 1 256) (drawn_more x (3 * k) 2 256)

-- a number on either side of 0 that is drawn behind others
pub around_next : (x n most : ℕ) → around (state_after x n) 0 most ≡ around x n most
around_next x n most = ap (λ d. pos d -ℤ pos most) (drawn_next x n (2 * most + 1))

-- the key of a row whose place is drawn next
abbrev pub key_at : (x n : ℕ) → PegKeyRecord
key_at x n = record (key_from x 0) { row = 8 * n + 1 }

pub key_from_more : (x n : ℕ) → key_at (state_after x (2 * n)) n ≡ key_from x n
unfolding state_after
key_from_more x n =
    ap (λ y. let key : PegKeyRecord = record (key_from x n) { y = y } in key)
    (ap (λ d. pos d -ℤ pos 8) (drawn_more x (2 * n) 1 17))

-- the exposure of two rows whose drawing is drawn next
abbrev pub exposure_at : (x rows level j : ℕ) → ExposureRecord
exposure_at x rows level j =
    record (exposure_from x rows level 0) { from = 2 * j + 1; to = (exposure_from x rows level j).to }

pub exposure_from_more : (x rows level j : ℕ) → exposure_at (state_after x j) rows level j ≡ exposure_from x rows level j
unfolding state_after
exposure_from_more x rows level j = refl

-- the drawing of numbers that are drawn one after another
pub cel_of : (x x0 y0 one two : ℕ) (bytes : List ℕ) → x0 ≡ drawn x 0 64 → x0 < 64 → one ≡ state_after x 1 → y0 ≡ drawn one 0 32 → y0 < 32
    → two ≡ state_after one 1 → bytes ≡ word_bytes two 4096 → raw (to_z w32 x0) (to_z w32 y0) 64 64 Cm32 bytes ≡ cel_from x
cel_of x x0 y0 one two bytes right narrow first up low second words =
    let left = to_z_pos w32 x0 (omega arith) ∙ ap pos right in
    let bottom = to_z_pos w32 y0 (omega arith) ∙ ap pos (up ∙ ap (λ s. drawn s 0 32) first ∙ drawn_next x 1 32) in
    let state = second ∙ ap (λ s. state_after s 1) first ∙ state_after_more x 1 1 in
    ap₂ (λ left low. raw left low 64 64 Cm32 bytes) left bottom
    ∙ ap (λ (bs : List ℕ). raw (pos (drawn x 0 64)) (pos (drawn x 1 32)) 64 64 Cm32 bs) (words ∙ ap (λ s. word_bytes s 4096) state)

use Rattle.std.specs.Prelude.{◌≡◌, ℕ, true, false, List, slice_index_or, All, IfSome, Contains}
use Rattle.xs_cm32.specs.Word.{ink_of, paint_of}
use Rattle.xs_scene.specs.Records.{SceneRecord, ColoursRecord}
use Rattle.xs_pixel.specs.Picture.{Pictures, EachWord}
use Rattle.xs_meaning.specs.Drawings.{colours_of, no_colours}
use Rattle.xs_meaning.specs.Palettes.{Dropped, style_at, as_written}
use Rattle.xs_base.specs.Listed.{is_listed}

-- two sets of pictures agree on these drawings
abbrev pub AgreeOn : Pictures → Pictures → List ℕ → Type 0
AgreeOn pictures others drawings = (d : ℕ) → Contains drawings d → pictures d ≡ others d

abbrev pub EachStyleUsed : (ℕ → Type 0) → Pictures → Type 0
EachStyleUsed P pictures = EachWord (λ w. P (ink_of w) × P (paint_of w)) pictures

-- two sets of dropped styles agree on each style that the words of the pictures use
abbrev pub AgreeOnWords : Pictures → Dropped → Dropped → Type 0
AgreeOnWords pictures f g = EachStyleUsed (λ style. f style ≡ g style) pictures

-- no word uses a listed style; every word uses listed styles only
abbrev pub UsesNoneOf : List ℕ → Pictures → Type 0
UsesNoneOf styles pictures = EachStyleUsed (λ style. is_listed styles style ≡ false) pictures

abbrev pub UsesOnly : List ℕ → Pictures → Type 0
UsesOnly styles pictures = EachStyleUsed (λ style. is_listed styles style ≡ true) pictures

-- under two sets of dropped styles each drawing's palette gives every style the same pixel at each row
abbrev pub DropsAlike : SceneRecord → Dropped → Dropped → Type 0
DropsAlike s f g =
    (d row style : ℕ) → IfSome (colours_of s d) (λ c. style_at c row f style ≡ style_at c row g style)

-- two palettes give every style the same pixel, as written and at each row under any dropped styles
pub record ColoursAlike (c other : ColoursRecord) : Type 0 where
  pub written : (style : ℕ) → as_written c style ≡ as_written other style
  pub keyed : (row : ℕ) (f : Dropped) (style : ℕ) → style_at c row f style ≡ style_at other row f style

-- palettes of the same numbers do so
abbrev pub PalettesAlike : List ColoursRecord → List ColoursRecord → Type 0
PalettesAlike palettes others =
    (i : ℕ) → ColoursAlike (slice_index_or palettes i no_colours) (slice_index_or others i no_colours)

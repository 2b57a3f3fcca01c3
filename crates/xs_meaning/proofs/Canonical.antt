-- Palettes that give every style the same pixel have one tint
use Rattle.std.proofs.Common.{ℕ, suc, ◌≡◌, refl, sym, ap₂, ◌∙◌, List, [], ◌∷◌, get_or}
use Rattle.xs_pixel.specs.Channels.{Channels, clear}
use Rattle.xs_scene.specs.Records.{ColoursRecord}
use Rattle.xs_meaning.specs.Palettes.{Colouring, Dropped, pixels_by, as_written, style_at, before, without_clear_end, tint_by, tint_at}
use Rattle.xs_meaning.proofs.Tints.{get_or-tint_at, get_or-tint_as_written, slice_index_or-without_clear_end}

nothing_left : (xs : List Channels) → ((i : ℕ) → get_or xs i clear ≡ clear) → without_clear_end xs ≡ []
nothing_left [] all = refl
nothing_left (x ∷ xs) all =
    ap₂ before (all 0) (nothing_left xs (λ i. all (suc i)))

pub without_clear_end-same :
    (xs ys : List Channels) → ((i : ℕ) → get_or xs i clear ≡ get_or ys i clear)
    → without_clear_end xs ≡ without_clear_end ys
without_clear_end-same [] ys same = sym (nothing_left ys (λ i. sym (same i)))
without_clear_end-same (x ∷ xs) [] same = nothing_left (x ∷ xs) same
without_clear_end-same (x ∷ xs) (y ∷ ys) same =
    ap₂ before (same 0) (without_clear_end-same xs ys (λ i. same (suc i)))

-- taking the clear end away twice is taking it away once
without_clear_end-twice : (xs : List Channels) → without_clear_end (without_clear_end xs) ≡ without_clear_end xs
without_clear_end-twice xs = without_clear_end-same (without_clear_end xs) xs (slice_index_or-without_clear_end xs)

tint_by-same :
    (c other : ColoursRecord) (g h : Colouring)
    → ((style : ℕ) → get_or (tint_by c g) style clear ≡ g style)
    → ((style : ℕ) → get_or (tint_by other h) style clear ≡ h style)
    → ((style : ℕ) → g style ≡ h style)
    → tint_by c g ≡ tint_by other h
tint_by-same c other g h first second same =
    sym (without_clear_end-twice (pixels_by c g))
    ∙ without_clear_end-same (tint_by c g) (tint_by other h) (λ i. first i ∙ same i ∙ sym (second i))
    ∙ without_clear_end-twice (pixels_by other h)

pub tint_at-same :
    (c other : ColoursRecord) (row more : ℕ) (f g : Dropped)
    → ((style : ℕ) → style_at c row f style ≡ style_at other more g style)
    → tint_at c row f ≡ tint_at other more g
tint_at-same c other row more f g =
    tint_by-same c other (style_at c row f) (style_at other more g) (get_or-tint_at c row f) (get_or-tint_at other more g)

pub tint_at-any :
    (c : ColoursRecord) (row : ℕ) (f : Dropped) (pixels : List Channels)
    → ((style : ℕ) → get_or pixels style clear ≡ style_at c row f style) → without_clear_end pixels ≡ tint_at c row f
tint_at-any c row f pixels same =
    without_clear_end-same pixels (tint_at c row f) (λ i. same i ∙ sym (get_or-tint_at c row f i))
    ∙ without_clear_end-twice (pixels_by c (style_at c row f))

pub tint_by-written_same :
    (c other : ColoursRecord) → ((style : ℕ) → as_written c style ≡ as_written other style)
    → tint_by c (as_written c) ≡ tint_by other (as_written other)
tint_by-written_same c other =
    tint_by-same c other (as_written c) (as_written other) (get_or-tint_as_written c) (get_or-tint_as_written other)

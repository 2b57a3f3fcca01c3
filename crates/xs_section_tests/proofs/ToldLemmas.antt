-- Lemmas on pictures that are told
use Rattle.std.proofs.Common.{◌≡◌, ℕ, List, [], Option, Some, None, IfSome, refl, sym, subst}
use Rattle.xs_pixel.specs.Channels.{Channels}
use Rattle.xs_pixel.specs.Picture.{Picture, Pictures}
use Rattle.xs_rawfile.specs.Held.{Held, picture_of, plain_picture}
use Rattle.xs_rawfile.specs.Raw.{Raw}

-- pictures that are told to be one are that one
pub told_is :
    (pictures : Option Pictures) (told : Pictures) (d : ℕ) (q : Picture) → pictures ≡ Some (λ _. Some q) → pictures ≡ Some told → told d ≡ Some q
told_is pictures told d q one is =
    let here : IfSome pictures (λ f. f d ≡ Some q) = subst (λ (o : Option Pictures). IfSome o (λ f. f d ≡ Some q)) (sym one) refl in
    subst (λ (o : Option Pictures). IfSome o (λ f. f d ≡ Some q)) is here

-- where no palettes are held, the picture that is told is that of the drawing under them
pub told_under :
    (pictures : Option Pictures) (told : Pictures) (h : Held) (d : ℕ) (g : Raw) → h.palettes ≡ [] → pictures ≡ Some (λ _. Some (plain_picture g))
    → pictures ≡ Some told → told d ≡ Some (picture_of h.palettes g None)
told_under pictures told h d g none one is =
    subst (λ (palettes : List (List Channels)). told d ≡ Some (picture_of palettes g None)) (sym none)
    (told_is pictures told d (plain_picture g) one is)

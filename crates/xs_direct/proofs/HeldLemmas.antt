-- A frame from the drawings that are held is that of the pictures that are told
use Rattle.std.proofs.Common.{ℕ, ◌≡◌, ◌∙◌, ◌+◌, ◌<◌, ◌↔◌, All, Contains, length, take, get_or, subst, ◌++◌, Option, Some, None, IsSome, IfSome, List, [], ◌∷◌, pos, map, flat_map, slice_get, option_map, option_and_then, refl, sym, ap}
use Rattle.std.specs.List.{range_with_len}
use Rattle.std.proofs.lemmas.List.Elements.{All-contains, All-push, Contains-get_or}
use Rattle.std.proofs.lemmas.List.{take_more}
use Rattle.std.proofs.lemmas.Simd.{Each1-get_or}
use mathlib.Core.Path.{fun_ext}
use Rattle.xs_pixel.specs.Channels.{Channels, IsPixel}
use Rattle.xs_pixel.specs.Picture.{Picture}
use Rattle.xs_pixel.specs.PixelRows.{pixels}
use Rattle.xs_rect.specs.Area.{area}
use Rattle.xs_raster.specs.Bitmap.{bitmap}
use Rattle.xs_rawfile.specs.declared.drawing.RawKind.{RawKind}
use Rattle.xs_rawfile.specs.declared.drawing.RawKind.TheVariants.{Colour, Cm32}
use Rattle.xs_rawfile.specs.Raw.{Raw, Fills}
use Rattle.xs_rawfile.specs.Frame.{frame_file_of}
use Rattle.xs_rawfile.specs.Held.{Held, IsHeld, IsIn, slot_in, drawing_in, picture_of, content_of}
use Rattle.xs_scene.specs.InRange.{IsInRange}
use Rattle.xs_scene.specs.Records.{SceneRecord}
use Rattle.xs_meaning.specs.Agreement.{AgreeOn}
use Rattle.xs_pixel.specs.Picture.{Pictures, ArePixels, HoldsPixels}
use Rattle.xs_meaning.specs.Expressions.{root_of, drawings_of}
use Rattle.xs_pixel.specs.Points.{Point, point}
use Rattle.xs_pixel.specs.Images.{Image}
use Rattle.xs_meaning.specs.RowValues.{frame_pixel}
use Rattle.xs_base.specs.Once.{fresh, each_once}
use Rattle.xs_direct.specs.Frames.{frame_file}
use Rattle.xs_direct.specs.Pictures.{pictures_in, AreHeld}

pub filled : (kind : RawKind) (bytes : List ℕ) → Fills kind bytes → HoldsPixels (content_of kind bytes)
filled Colour bytes fills = λ i d lt. Each1-get_or IsPixel (pixels bytes) i d lt fills
filled Cm32 bytes fills = tt

in_slot : {X : Type 0} (o : Option (Option X)) (x : X) → option_and_then (λ (slot : Option X). slot) o ≡ Some x → o ≡ Some (Some x)
in_slot None x is = absurd (let e : None ≡ Some x = is in cc)
in_slot (Some slot) x is = ap Some is

-- what holds of each drawing that is held holds of a slot, if there is one
pub each_slot :
    (h : Held) (d : ℕ) (P : Raw → Option ℕ → Type 0) → ((g : Raw) (palette : Option ℕ) → IsIn h d g palette → P g palette)
    → IfSome (slot_in h d) (λ slot. P slot.0 slot.1)
each_slot h d P each = by_cases (slot_in h d) refl
  where
    by_cases : (slot : Option (Raw × Option ℕ)) → slot_in h d ≡ slot → IfSome slot (λ slot. P slot.0 slot.1)
    by_cases None is = tt
    by_cases (Some slot) is = each slot.0 slot.1 (in_slot (slice_get h.slots d) slot is)

pub mapped : {A B : Type 0} (f : A → B) (o : Option A) (P : B → Type 0) → IfSome o (λ a. P (f a)) → IfSome (option_map f o) P
mapped f None P has = tt
mapped f (Some a) P has = has

pub ArePixels-held : (told : Option (ℕ → Option Picture)) (h : Held) → IsHeld told h → ArePixels (pictures_in h)
unfolding pictures_in
ArePixels-held told h held d =
    mapped (λ (slot : Raw × Option ℕ). picture_of h.palettes slot.0 slot.1) (slot_in h d) (λ (q : Picture). HoldsPixels q.content)
    (each_slot h d (λ g palette. HoldsPixels (content_of g.kind g.bytes)) (λ g palette is. filled g.kind g.bytes (held.raw d g palette is).fills))

slot_same :
    (palettes : List (List Channels)) (picture : Option Picture) (slot : Option (Raw × Option ℕ)) → IsSome slot
    → IfSome slot (λ slot. picture ≡ Some (picture_of palettes slot.0 slot.1))
    → option_map (λ (slot : Raw × Option ℕ). picture_of palettes slot.0 slot.1) slot ≡ picture
slot_same palettes picture None some same = absurd (let e : IsSome {T = Raw × Option ℕ} None = some in cc)
slot_same palettes picture (Some slot) some same = sym same

pub held-agree :
    (told : Option (ℕ → Option Picture)) (h : Held) (pictures : Pictures) (ds : List ℕ) → IsHeld told h → told ≡ Some pictures
    → AreHeld h ds → AgreeOn (pictures_in h) pictures ds
unfolding pictures_in
held-agree told h pictures ds held tells are d among =
    slot_same h.palettes (pictures d) (slot_in h d) (All-contains (λ d. IsSome (slot_in h d)) ds d are among)
    (each_slot h d (λ g palette. pictures d ≡ Some (picture_of h.palettes g palette)) (λ g palette is. held.filmed pictures tells d g palette is))

same-frame :
    (s : SceneRecord) (pictures others : Pictures) (row : ℕ)
    → ((p : Point) → frame_pixel s pictures row p ≡ frame_pixel s others row p)
    → frame_file s pictures row ≡ frame_file s others row
unfolding frame_file
same-frame s pictures others row same =
    ap
    (λ (image : Image).
    frame_file_of (bitmap (area (pos 0) (pos 0) s.camera.w s.camera.h)
    (flat_map (λ y. map (λ x. image (point (pos x) (pos y))) (range_with_len 0 s.camera.w)) (range_with_len 0 s.camera.h))))
    (fun_ext same)

pub told-frame :
    (s : SceneRecord) (told : Option (ℕ → Option Picture)) (h : Held) (pictures : Pictures) (row : ℕ)
    → ((s : SceneRecord) (pictures others : Pictures) → IsInRange s → ArePixels pictures → ArePixels others → (row : ℕ)
    → AgreeOn pictures others (drawings_of (root_of s row)) → (p : Point)
    → frame_pixel s pictures row p ≡ frame_pixel s others row p)
    → IsInRange s → IsHeld told h → told ≡ Some pictures → ArePixels pictures → AreHeld h (drawings_of (root_of s row))
    → frame_file s (pictures_in h) row ≡ frame_file s pictures row
told-frame s told h pictures row own range held tells pixels are =
    same-frame s (pictures_in h) pictures row
    (own s (pictures_in h) pictures range (ArePixels-held told h held) pixels row
    (held-agree told h pictures (drawings_of (root_of s row)) held tells are))

-- ---- whether drawings are held

held_slot : (slot : Option (Raw × Option ℕ)) → (option_map (λ (slot : Raw × Option ℕ). slot.0) slot ≡ None → ⊥) → IsSome slot
held_slot None some = absurd (some refl)
held_slot (Some slot) some = refl

-- one more that is held
pub held-more :
    (h : Held) (ds : List ℕ) (i : ℕ) (d : ℕ) → i < length ds → d ≡ get_or ds i d → (drawing_in h d ≡ None → ⊥)
    → AreHeld h (take i ds) → AreHeld h (take (i + 1) ds)
held-more h ds i d within is some are =
    subst (AreHeld h) (sym (take_more ds i d within ∙ ap (λ (e : ℕ). take i ds ++ e ∷ []) (sym is)))
    (All-push (λ d. IsSome (slot_in h d)) (take i ds) d are (held_slot (slot_in h d) some))

-- of numbers that are taken once, all are held where all of the list are, and the other way round
pub held-once :
    ((known xs : List ℕ) (d : ℕ) → Contains (fresh known xs) d → Contains xs d)
    → ((known xs : List ℕ) → All (Contains (known ++ fresh known xs)) xs)
    → (h : Held) (xs ys : List ℕ) → ys ≡ each_once xs → AreHeld h ys ↔ AreHeld h xs
held-once members found h xs ys is =
    let P : ℕ → Type 0 = λ d. IsSome (slot_in h d) in (
      λ are i d lt. All-contains P (each_once xs) (get_or xs i d) (subst (AreHeld h) is are) (found [] xs i d lt),
      λ are. subst (AreHeld h) (sym is)
          (λ i d lt. All-contains P xs (get_or (each_once xs) i d) are
          (members [] xs (get_or (each_once xs) i d) (Contains-get_or (each_once xs) i d lt))),
    )

-- The value of an alias at a point
use Rattle.std.specs.Prelude.{◌≡◌, ℕ, ℤ, Option, Some, None, List, [], ◌∷◌, ◌++◌, map, slice_index_or}
use Rattle.xs_cm32.specs.Word.{colour_under}
use Rattle.xs_palette.specs.Styles.{style_of}
use Rattle.xs_pixel.specs.Channels.{Channels, clear}
use Rattle.xs_pixel.specs.Images.{Image, blurred}
use Rattle.xs_pixel.specs.Operations.{apply_of}
use Rattle.xs_pixel.specs.Picture.{Picture, Pictures, pixel_at, at_point, words_in}
use Rattle.xs_pixel.specs.Points.{point, minus}
use Rattle.xs_rect.specs.Area.{Area, Holds}
use Rattle.xs_plan.specs.declared.job.Job.{Job}
use Rattle.xs_plan.specs.declared.job.Job.TheVariants as job
use Rattle.xs_plan.specs.Record.{Entry, PlanRecord, entry_at}

-- the coloured pixel of a picture at a point: clear outside its box and without a picture
unfoldable pub plain_pixel : Option Picture → Image
plain_pixel None p = clear
plain_pixel (Some picture) p = pixel_at picture p.x p.y

-- the pixel of a picture's word at a point under a tint: clear outside its box, without a picture, and where
-- the picture has no words
unfoldable pub tinted_pixel : Option Picture → List Channels → Image
tinted_pixel None tint p = clear
tinted_pixel (Some picture) tint p =
    at_point picture (map (colour_under (style_of tint)) (words_in picture.content)) clear p.x p.y

abbrev pub no_image : Image
no_image p = clear

-- the image of an earlier alias; nothing where there is none
abbrev pub image_at : List Image → ℕ → Image
image_at images k = slice_index_or images k no_image

abbrev pub input_at : List ℕ → ℕ → ℕ
input_at inputs port = slice_index_or inputs port 0

-- the image of a job, over those of its inputs
abbrev pub image_of_job : Pictures → List (List Channels) → Job → (first second : Image) → Image
image_of_job pictures tints job.Clear first second p = clear
image_of_job pictures tints (job.Leaf drawing dx dy) first second p = plain_pixel (pictures drawing) (minus p (point dx dy))
image_of_job pictures tints (job.Tinted drawing dx dy tint) first second p =
    tinted_pixel (pictures drawing) (slice_index_or tints tint []) (minus p (point dx dy))
image_of_job pictures tints (job.Card pixel) first second p = pixel
image_of_job pictures tints (job.Pair op) first second p = apply_of op (first p) (second p)
image_of_job pictures tints (job.Blur radius) first second p = blurred radius first p

-- the image of an alias, over those of the earlier ones
abbrev pub image_of_entry : Pictures → List (List Channels) → List Image → Entry → Image
image_of_entry pictures tints images e =
    image_of_job pictures tints e.job (image_at images (input_at e.inputs 0)) (image_at images (input_at e.inputs 1))

-- the images of aliases, each over those before it, after some images
abbrev pub images_after : Pictures → List (List Channels) → List Image → List Entry → List Image
images_after pictures tints images [] = images
images_after pictures tints images (e ∷ entries) =
    images_after pictures tints (images ++ image_of_entry pictures tints images e ∷ []) entries

-- the value of an alias at a point
unfoldable pub value_in : Pictures → PlanRecord → ℕ → Image
value_in pictures p k = image_at (images_after pictures p.tints [] p.entries) k

-- ---- what a tile holds

-- the number and the rectangle of a tile are those of an alias; where the pictures are told, each of its pixels is
-- that of the alias' value
pub record HoldsValue (told : Option Pictures) (p : PlanRecord) (k : ℕ) (alias : ℕ) (area : Area) (image : Image) : Type 0 where
  pub alias_is : alias ≡ k
  pub area_is : area ≡ (entry_at p.entries k).rect
  pub pixels_are : (pictures : Pictures) → told ≡ Some pictures
      → (x y : ℤ) → Holds area x y → image (point x y) ≡ value_in pictures p k (point x y)

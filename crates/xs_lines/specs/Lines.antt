-- The printed line of an alias
use Rattle.std.specs.Prelude.{◌≡◌, ℕ, ℤ, List, [], ◌∷◌, ◌++◌, map, flat_map, take, codes, decimal}
use Rattle.std.specs.List.{range_with_len}
use Rattle.std.specs.Fmt.{signed_decimal}
use Rattle.xs_scene_text.specs.SceneData.{op_word}
use Rattle.xs_pixel.specs.Channels.{Channels}
use Rattle.xs_rect.specs.Area.{Area}
use Rattle.xs_plan.specs.declared.job.Job.{Job}
use Rattle.xs_plan.specs.declared.job.Job.TheVariants as job
use Rattle.xs_plan.specs.Record.{PlanRecord, entry_at}
use Rattle.xs_plan.specs.Reads.{readers_of}
use Rattle.xs_plan.specs.Values.{input_at}

-- a drawing and its offset
abbrev pub drawing_text : ℕ → ℤ → ℤ → List ℕ
drawing_text drawing dx dy = decimal drawing ++ codes " at " ++ signed_decimal dx ++ codes " " ++ signed_decimal dy

-- the channels of a pixel
abbrev pub pixel_text : Channels → List ℕ
pixel_text pixel = decimal pixel.r ++ codes " " ++ decimal pixel.g ++ codes " " ++ decimal pixel.b ++ codes " " ++ decimal pixel.m

-- a job, with the numbers of the aliases that it reads at ports 0 and 1
abbrev pub job_text : Job → (first second : ℕ) → List ℕ
job_text job.Clear first second = codes "clear"
job_text (job.Leaf drawing dx dy) first second = codes "leaf " ++ drawing_text drawing dx dy
job_text (job.Tinted drawing dx dy tint) first second =
    codes "tinted " ++ drawing_text drawing dx dy ++ codes " by " ++ decimal tint
job_text (job.Card pixel) first second = codes "card " ++ pixel_text pixel
job_text (job.Pair op) first second = op_word op ++ codes " " ++ decimal first ++ codes " " ++ decimal second
job_text (job.Blur radius) first second = codes "blur " ++ decimal radius ++ codes " " ++ decimal first

-- a rectangle: its corner and its sides
abbrev pub rect_text : Area → List ℕ
rect_text rect =
    signed_decimal rect.x ++ codes " " ++ signed_decimal rect.y ++ codes " " ++ decimal rect.w ++ codes " " ++ decimal rect.h

-- what is printed of an alias: its number, its job, its rectangle, and how often it is read
abbrev pub line_text : ℕ → List ℕ → List ℕ → ℕ → List ℕ
line_text k job rect readers = decimal k ++ codes ": " ++ job ++ codes "; tile " ++ rect ++ codes "; readers " ++ decimal readers

-- the line of an alias without its end
unfoldable pub alias_line : PlanRecord → ℕ → List ℕ
alias_line p k =
    let e = entry_at p.entries k in
    line_text k (job_text e.job (input_at e.inputs 0) (input_at e.inputs 1)) (rect_text e.rect) (readers_of p k)

-- the lines of so many aliases from one on
abbrev pub alias_lines : PlanRecord → (from count : ℕ) → List (List ℕ)
alias_lines p from count = map (alias_line p) (range_with_len from count)

-- lines one after another, each with its end
abbrev pub with_ends : List (List ℕ) → List ℕ
with_ends lines = flat_map (λ line. line ++ 10 ∷ []) lines

-- bytes are a front part of some lines: those of whole lines, and a front part of the next
pub record IsFront (lines : List (List ℕ)) (bytes : List ℕ) : Type 0 where
  pub done : List (List ℕ)
  pub line : List ℕ
  pub rest : List (List ℕ)
  pub split : lines ≡ done ++ line ∷ rest
  pub written : ℕ
  pub are : bytes ≡ with_ends done ++ take written (line ++ 10 ∷ [])

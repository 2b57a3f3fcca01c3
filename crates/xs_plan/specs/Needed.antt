-- Which drawings a section needs
use Rattle.std.specs.Prelude.{ℕ, ◌*◌, ◌==◌, nat_le, nat_lt, Bool, true, Option, Some, None, List, reverse, length, filter, filter_map, find, sum_by}
use Rattle.std.specs.List.{range_with_len}
use Rattle.std.specs.Option.{option_map_or}
use Rattle.xs_base.specs.Listed.{is_listed}
use Rattle.xs_base.specs.Once.{fresh, each_once}
use Rattle.xs_pixel.specs.Picture.{Picture, Pictures}
use Rattle.xs_plan.specs.Record.{PlanRecord, entry_at, drawing_of}
use Rattle.xs_plan.specs.Sections.{first_section, sections_in}

-- the drawings of the aliases whose first section passes a test, by the aliases' numbers
abbrev pub drawings_where : PlanRecord → (ℕ → Bool) → List ℕ
drawings_where p passes =
    filter_map (λ k. drawing_of (entry_at p.entries k).job)
    (filter (λ k. passes (first_section p k)) (range_with_len 0 (length p.entries)))

-- the drawings that a section needs, and those that sections before it need
abbrev pub needs : PlanRecord → ℕ → List ℕ
needs p s = drawings_where p (λ t. t == s)

abbrev pub needs_before : PlanRecord → ℕ → List ℕ
needs_before p s = drawings_where p (λ t. nat_lt t s)

-- those that it is the first to need, each once, by their least aliases
unfoldable pub new_drawings : PlanRecord → ℕ → List ℕ
new_drawings p s = fresh (needs_before p s) (needs p s)

-- the last section that needs a drawing, where one does
unfoldable pub last_section_of : PlanRecord → ℕ → Option ℕ
last_section_of p d = find (λ s. is_listed (needs p s) d) (reverse (range_with_len 0 (sections_in p)))

-- the drawings that are held in a section: from the first section that needs one to the last
unfoldable pub held : PlanRecord → ℕ → List ℕ
held p s =
    filter (λ d. option_map_or (λ last. nat_le s last) (last_section_of p d) true)
    (each_once (drawings_where p (λ t. nat_le t s)))

-- the bytes of a picture, four for each point of its box
abbrev pub picture_bytes : Option Picture → ℕ
picture_bytes None = 0
picture_bytes (Some picture) = 4 * (picture.w * picture.h)

-- the bytes of a section: those of the drawings that are held in it
abbrev pub section_bytes : Pictures → PlanRecord → ℕ → ℕ
section_bytes pictures p s = sum_by (λ d. picture_bytes (pictures d)) (held p s)

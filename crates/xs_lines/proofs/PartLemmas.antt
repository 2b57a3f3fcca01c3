-- The two parts of a line, and what a line ends with
use Rattle.std.proofs.Common.{◌≡◌, ℕ, ◌-◌, List, ◌++◌, length, drop, ap, sym, ◌∙◌, arith, append_assoc, length-append}
use Rattle.std.proofs.Math.Seq.{drop-append_seam}
use Rattle.xs_plan.specs.Record.{PlanRecord, entry_at}
use Rattle.xs_plan.specs.Reads.{readers_of}
use Rattle.xs_lines.specs.Lines.{alias_line}
use Rattle.xs_lines.specs.Parts.{EndsWith, head_text, tail_text}

line-apart : (p : PlanRecord) (k : ℕ) → alias_line p k ≡ head_text p k ++ tail_text p k
unfolding alias_line head_text tail_text
line-apart p k = simp append_assoc

-- the head of a line in front of its tail is the line
pub line_of_parts :
    (p : PlanRecord) (k : ℕ) (text tail : List ℕ) → text ≡ head_text p k ++ tail → tail ≡ tail_text p k → text ≡ alias_line p k
line_of_parts p k text tail is end = is ∙ ap (λ t. head_text p k ++ t) end ∙ sym (line-apart p k)

ends_with : (front tail : List ℕ) → EndsWith (front ++ tail) (length tail) tail
ends_with front tail =
    let long = length-append front tail in
    let ahead : length (front ++ tail) - length tail ≡ length front = omega (arith, long) in
    record { within = omega (arith, long); ends = ap (λ n. drop n (front ++ tail)) ahead ∙ drop-append_seam front tail }

line_ends : (p : PlanRecord) (k : ℕ) (front : List ℕ) → EndsWith (front ++ alias_line p k) (length (tail_text p k)) (tail_text p k)
line_ends p k front =
    rw (line-apart p k, ← append_assoc front (head_text p k) (tail_text p k)) (ends_with (front ++ head_text p k) (tail_text p k))

-- a text that ends with the line of an alias ends with its tail
pub ends_with_tail :
    (p : PlanRecord) (k : ℕ) (front text : List ℕ) (count : ℕ) → text ≡ front ++ alias_line p k → count ≡ length (tail_text p k)
    → EndsWith text count (tail_text p k)
ends_with_tail p k front text count is long = rw (is, long) (line_ends p k front)

-- aliases on one rectangle that are read as often have one tail
pub same_tail :
    (p : PlanRecord) (j k : ℕ) → (entry_at p.entries j).rect ≡ (entry_at p.entries k).rect → readers_of p j ≡ readers_of p k
    → tail_text p j ≡ tail_text p k
unfolding tail_text
same_tail p j k rect readers = rw (rect, readers)

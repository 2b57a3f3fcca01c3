-- The lines of a plan's aliases, piece by piece.
use Rattle.std.proofs.Common.{◌≡◌, ℕ, zero, suc, ◌+◌, ◌-◌, ◌<◌, ◌≤◌, List, [], ◌∷◌, ◌++◌, length, map, Result, Ok, Err, refl, sym, ap, ◌∙◌, subst, arith}
use Rattle.std.specs.List.{range_with_len}
use Rattle.std.proofs.lemmas.List.{map-append}
use Rattle.xs_plan.specs.Record.{PlanRecord}
use Rattle.xs_lines.specs.Lines.{alias_line, alias_lines, with_ends}
use Rattle.xs_top.specs.declared.status.Status.{Status}
use Rattle.xs_top.specs.declared.status.Status.TheVariants as answers
use Rattle.xs_top.specs.Trace.{Contents}
use Rattle.xs_top.specs.Seen.{Seen}
use Rattle.xs_top.specs.Writes.{with_bytes, StopsWriting, Writes}
use Rattle.xs_top.proofs.RowRanges.{range-append}
use Rattle.xs_top.proofs.Writing.{FrontLaw, writes_text, writes_longer, writes_then, wants_memory}

lines_apart : (p : PlanRecord) (from first then : ℕ) → alias_lines p from (first + then) ≡ alias_lines p from first ++ alias_lines p (from + first) then
lines_apart p from first then =
    ap (map (alias_line p)) (sym (range-append from first then)) ∙ map-append (alias_line p) (range_with_len from first) (range_with_len (from + first) then)

-- the lines up to an alias, and then the others
pub lines_to : (p : PlanRecord) (from next end : ℕ) → from ≤ next → next ≤ end
    → alias_lines p from (end - from) ≡ alias_lines p from (next - from) ++ alias_lines p next (end - next)
lines_to p from next end above below =
    let all : end - from ≡ (next - from) + (end - next) = omega arith in
    let start : from + (next - from) ≡ next = omega arith in
    ap (alias_lines p from) all
    ∙ (lines_apart p from (next - from) (end - next) ∙ ap (λ k. alias_lines p from (next - from) ++ alias_lines p k (end - next)) start)

-- where there are some, there is a first
lines_first : (p : PlanRecord) (from end : ℕ) → from < end → alias_lines p from (end - from) ≡ alias_line p from ∷ alias_lines p (from + 1) (end - (from + 1))
lines_first p from end below =
    lines_to p from (from + 1) end (omega arith) (omega arith)
    ∙ ap (λ n. alias_lines p from n ++ alias_lines p (from + 1) (end - (from + 1))) (let one : from + 1 - from ≡ 1 = omega arith in one)

pub wants_lines : (p : PlanRecord) (from end : ℕ) (seen : Seen) → from < end → StopsWriting (alias_lines p from (end - from)) seen seen answers.Memory
wants_lines p from end seen below =
    subst (λ (ls : List (List ℕ)). StopsWriting ls seen seen answers.Memory) (sym (lines_first p from end below)) (wants_memory _ _ seen)

module _ (law : FrontLaw) (p : PlanRecord) (from next : ℕ) (text : List ℕ) (above : from < next)
    (is : text ++ 10 ∷ [] ≡ with_ends (alias_lines p from (next - from))) (s u : Seen) where
  -- the text of a piece is its lines
  pub piece_writes : (A : Type 0) (result : Result A Status) → Writes {A = A} (text ∷ []) s u result → Writes {A = A} (alias_lines p from (next - from)) s u result
  piece_writes A result wrote =
      let first = lines_first p from next above in
      subst (λ (ls : List (List ℕ)). Writes {A = A} ls s u result) (sym first)
      (writes_text law text (alias_line p from) (alias_lines p (from + 1) (next - (from + 1))) (is ∙ ap with_ends first) s u A result wrote)

  pub piece_stops : (end : ℕ) (status : Status) → next ≤ end → StopsWriting (text ∷ []) s u status → StopsWriting (alias_lines p from (end - from)) s u status
  piece_stops end status within stops =
      subst (λ (ls : List (List ℕ)). StopsWriting ls s u status) (sym (lines_to p from next end (omega (arith, above)) within))
      (writes_longer (Unit {0}) (alias_lines p from (next - from)) (alias_lines p next (end - next)) s u status (piece_writes (Unit {0}) (Err status) stops))

-- those of the first aliases, and then the others
all_to : (p : PlanRecord) (next end : ℕ) → next ≤ end → alias_lines p 0 end ≡ alias_lines p 0 next ++ alias_lines p next (end - next)
all_to p next end below =
    let all : end ≡ next + (end - next) = omega (arith, below) in
    let start : 0 + next ≡ next = omega arith in
    ap (alias_lines p 0) all
    ∙ (lines_apart p 0 next (end - next) ∙ ap (λ k. alias_lines p 0 next ++ alias_lines p k (end - next)) start)

-- pieces one after another
pub pieces_then : (A : Type 0) (p : PlanRecord) (next end : ℕ) (s t u : Seen) (result : Result A Status) → next ≤ end
    → t.told ≡ with_bytes s.told (with_ends (alias_lines p 0 next)) → t.faults.notes ≡ s.faults.notes
    → Writes {A = A} (alias_lines p next (end - next)) t u result → Writes {A = A} (alias_lines p 0 end) s u result
pieces_then A p next end s t u result below first still wrote =
    subst (λ (ls : List (List ℕ)). Writes {A = A} ls s u result) (sym (all_to p next end below))
    (writes_then A (alias_lines p 0 next) (alias_lines p next (end - next)) s t u result first still wrote)

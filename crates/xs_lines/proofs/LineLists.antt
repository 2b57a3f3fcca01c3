-- Lines one after another
use Rattle.std.proofs.Common.{◌≡◌, ℕ, zero, suc, ◌+◌, ◌-◌, ◌≤◌, List, [], ◌∷◌, ◌++◌, length, take, refl, sym, ap, ◌∙◌, arith, subst, append_assoc, inl, inr}
use Rattle.std.proofs.lemmas.Bool.{cases_lt}
use Rattle.std.proofs.lemmas.List.{append-nil, take-append-le}
use Rattle.std.proofs.Math.Seq.{take-append-add}
use Rattle.std.proofs.lemmas.List.Concat.{flat_map-append}
use Rattle.xs_plan.specs.Record.{PlanRecord}
use Rattle.xs_lines.specs.Lines.{alias_line, alias_lines, with_ends, IsFront}

lines_more : (p : PlanRecord) (from n : ℕ) → alias_lines p from (n + 1) ≡ alias_lines p from n ++ alias_line p (from + n) ∷ []
lines_more p from zero = ap (λ k. alias_line p k ∷ []) (let same : from ≡ from + 0 = omega arith in same)
lines_more p from (suc n) =
    ap (alias_lines p from) (let same : suc n + 1 ≡ suc (n + 1) = omega arith in same)
    ∙ ap (λ lines. alias_line p from ∷ lines)
    (lines_more p (from + 1) n
    ∙ ap (λ k. alias_lines p (from + 1) n ++ alias_line p k ∷ []) (let same : from + 1 + n ≡ from + suc n = omega arith in same))

-- a text without its last end, behind which an end and one line more come
pub one_more_line : (p : PlanRecord) (from n : ℕ) (text : List ℕ) → text ++ 10 ∷ [] ≡ with_ends (alias_lines p from n)
    → (text ++ 10 ∷ alias_line p (from + n)) ++ 10 ∷ [] ≡ with_ends (alias_lines p from (n + 1))
one_more_line p from n text is =
    let line = alias_line p (from + n) in
    let apart : (text ++ 10 ∷ line) ++ 10 ∷ [] ≡ (text ++ 10 ∷ []) ++ (line ++ 10 ∷ []) =
    append_assoc text (10 ∷ line) (10 ∷ []) ∙ sym (append_assoc text (10 ∷ []) (line ++ 10 ∷ [])) in
    apart ∙ ap (λ front. front ++ (line ++ 10 ∷ [])) is
    ∙ sym
    (ap with_ends (lines_more p from n)
    ∙ (flat_map-append (λ l. l ++ 10 ∷ []) (alias_lines p from n) (line ∷ [])
    ∙ ap (λ end. with_ends (alias_lines p from n) ++ end) (append-nil (line ++ 10 ∷ []))))

pub first_line : (p : PlanRecord) (from : ℕ) (text : List ℕ) → text ≡ alias_line p from → text ++ 10 ∷ [] ≡ with_ends (alias_lines p from 1)
first_line p from text is = ap (λ t. t ++ 10 ∷ []) is ∙ sym (append-nil (alias_line p from ++ 10 ∷ []))

-- ---- front parts

front_more : (line : List ℕ) (lines : List (List ℕ)) (bytes : List ℕ) → IsFront lines bytes → IsFront (line ∷ lines) ((line ++ 10 ∷ []) ++ bytes)
front_more line lines bytes front = record {
  done = line ∷ front.done;
  line = front.line;
  rest = front.rest;
  split = ap (λ ls. line ∷ ls) front.split;
  written = front.written;
  are = ap (λ bs. (line ++ 10 ∷ []) ++ bs) front.are
      ∙ sym (append_assoc (line ++ 10 ∷ []) (with_ends front.done) (take front.written (front.line ++ 10 ∷ [])));
}

front_in_first : (line : List ℕ) (lines : List (List ℕ)) (n : ℕ) → take n (with_ends (line ∷ lines)) ≡ take n (line ++ 10 ∷ [])
    → IsFront (line ∷ lines) (take n (with_ends (line ∷ lines)))
front_in_first line lines n same = record { done = []; line = line; rest = lines; split = refl; written = n; are = same }

front_past : (line : List ℕ) (lines : List (List ℕ)) (n : ℕ) → length (line ++ 10 ∷ []) ≤ n
    → IsFront lines (take (n - length (line ++ 10 ∷ [])) (with_ends lines)) → IsFront (line ∷ lines) (take n (with_ends (line ∷ lines)))
front_past line lines n past front =
    let count : n ≡ length (line ++ 10 ∷ []) + (n - length (line ++ 10 ∷ [])) = omega (arith, past) in
    subst (λ (bytes : List ℕ). IsFront (line ∷ lines) bytes)
    (sym
    (ap (λ k. take k (with_ends (line ∷ lines))) count
    ∙ take-append-add (line ++ 10 ∷ []) (with_ends lines) (n - length (line ++ 10 ∷ []))))
    (front_more line lines _ front)

pub front_of : (line : List ℕ) (lines : List (List ℕ)) (n : ℕ) → IsFront (line ∷ lines) (take n (with_ends (line ∷ lines)))
front_of line [] n = front_in_first line [] n (ap (take n) (append-nil (line ++ 10 ∷ [])))
front_of line (next ∷ lines) n =
    elim (cases_lt n (length (line ++ 10 ∷ []))) [
      | inl within ↦
          front_in_first line (next ∷ lines) n (take-append-le n (line ++ 10 ∷ []) (with_ends (next ∷ lines)) (omega (arith, within)))
      | inr past ↦ front_past line (next ∷ lines) n past (front_of next lines (n - length (line ++ 10 ∷ [])))
    ]

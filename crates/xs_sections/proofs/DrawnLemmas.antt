-- Lemmas on the drawings of a plan
use Rattle.std.proofs.Common.{◌≡◌, ◌<◌, ◌≤◌, ℕ, length, sym, subst, inl, inr, arith}
use Rattle.std.proofs.lemmas.Bool.{cases_lt}
use Rattle.std.proofs.lemmas.List.{get_or_past}
use Rattle.xs_rawfile.specs.Held.{Held}
use Rattle.xs_plan.specs.Record.{Entry, PlanRecord, entry_at, no_entry}
use Rattle.xs_bench.specs.Inputs.{HasDrawing}
use Rattle.xs_sections.specs.Drawn.{AreAllDrawn}

-- no drawing is wanted past the last alias
pub all_from : (p : PlanRecord) (h : Held) (n : ℕ) → length p.entries ≤ n → ((k : ℕ) → k < n → HasDrawing h (entry_at p.entries k).job) → AreAllDrawn p h
all_from p h n whole drawn k = elim (cases_lt k n) [
  | inl there ↦ drawn k there
  | inr past ↦
      let none : entry_at p.entries k ≡ no_entry = get_or_past p.entries k no_entry (omega (arith, past, whole)) in
      subst (λ (e : Entry). HasDrawing h e.job) (sym none) tt
]

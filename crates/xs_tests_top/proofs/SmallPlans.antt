-- Lemmas on small plans
use Rattle.std.proofs.Common.{◌<◌, ◌≤◌, ℕ, zero, suc, List, [], ◌∷◌, IfSome, All, Contains, length, arith}
use Rattle.std.proofs.lemmas.List.Elements.{All-cons}
use Rattle.xs_plan.specs.Record.{Entry, entry_at, drawing_of}
use Rattle.xs_plan.specs.Valid.{Reaches}

-- the second of two aliases reaches the first one, which it reads
pub reaches-both :
    ((entries : List Entry) (k : ℕ) → Reaches entries k k)
    → ((entries : List Entry) (k input last : ℕ) → Contains (entry_at entries k).inputs input → Reaches entries input last → Reaches entries k last)
    → (e f : Entry) → Contains f.inputs 0 → (j : ℕ) → 0 ≤ j → j < length (e ∷ f ∷ []) → Reaches (e ∷ f ∷ []) 1 j
reaches-both itself input e f reads zero from lt = input (e ∷ f ∷ []) 1 0 0 reads (itself (e ∷ f ∷ []) 0)
reaches-both itself input e f reads (suc zero) from lt = itself (e ∷ f ∷ []) 1
reaches-both itself input e f reads (suc (suc j)) from lt = absurd (omega arith)

-- what two aliases need is below a number where what each needs is
pub needed-below_two :
    (count : ℕ) (e f : Entry) → IfSome (drawing_of e.job) (λ d. d < count) → IfSome (drawing_of f.job) (λ d. d < count)
    → All (λ (e : Entry). IfSome (drawing_of e.job) (λ d. d < count)) (e ∷ f ∷ [])
needed-below_two count e f first second =
    All-cons (λ (e : Entry). IfSome (drawing_of e.job) (λ d. d < count)) e (f ∷ []) first
    (All-cons (λ (e : Entry). IfSome (drawing_of e.job) (λ d. d < count)) f [] second (λ i d lt. absurd (omega arith)))

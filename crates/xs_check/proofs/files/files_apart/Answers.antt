use Rattle.std.proofs.Common.{◌∙◌, ℕ, List, map, ap, refl, Bor}
use Rattle.xs_check.proofs.Repeats.{files_first}
use Rattle.xs_check.proofs.files.files_apart.Goals as goal

pub returns-in-Some : goal.returns-in-Some
returns-in-Some c =
    files_first c.args.levels.now (map (λ (f : Bor (List ℕ)). f.now) c.deref.result.now) c.in_ok-d.field-0
    (ap (λ (l : List (Bor (List ℕ))). map (λ (f : Bor (List ℕ)). f.now) l) c.deref.ensures.value ∙ c.in_ok-files.ensures)
    c.in_ok-d.ensures
    ∙ rw (c.in-Some.is, c.in_ok-path-in-Some.ensures) refl

pub returns : goal.returns
returns c =
    files_first c.args.levels.now (map (λ (f : Bor (List ℕ)). f.now) c.deref.result.now) c.in_ok-d.field-0
    (ap (λ (l : List (Bor (List ℕ))). map (λ (f : Bor (List ℕ)). f.now) l) c.deref.ensures.value ∙ c.in_ok-files.ensures)
    c.in_ok-d.ensures
    ∙ rw c.in-None.is refl

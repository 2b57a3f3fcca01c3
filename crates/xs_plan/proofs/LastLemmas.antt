-- Lemmas on the last section that needs each drawing
use Rattle.std.proofs.Common.{◌≡◌, ◌≢◌, ◌<◌, ◌+◌, ℕ, List, Option, Some, None, IfSome, length, slice_index, slice_index_or, slice_set, refl, sym, ap, ◌∙◌, subst, ⊎_elim, arith, get_or-set_other, get_or-set_same}
use Rattle.std.proofs.lemmas.Bool.{cases_lt, cases_eq}
use Rattle.xs_plan.specs.Record.{Entry, PlanRecord, entry_at, drawing_of}
use Rattle.xs_plan.specs.Sections.{first_section}
use Rattle.xs_plan.specs.Needed.{last_section_of}
use Rattle.xs_plan.specs.Draft.{AreLast}
use Rattle.xs_plan.specs.Kept.{IsLastAmong, TellFirsts, with_section}
use Rattle.xs_plan.proofs.NeedLemmas.{first_section-rises}
use Rattle.xs_plan.proofs.HeldLemmas.{needs-by_aliases, last_section-is, no_last_section}

-- an alias more that does not need the drawing
kept : (entries : List Entry) (firsts : List ℕ) (k d : ℕ) (o : Option ℕ) → ¬ (drawing_of (entry_at entries k).job ≡ Some d)
    → IsLastAmong entries firsts k d o → IsLastAmong entries firsts (k + 1) d o
kept entries firsts k d None other none = λ j lt is.
    ⊎_elim (λ before. none j before is)
    (λ from. other (subst (λ (n : ℕ). drawing_of (entry_at entries n).job ≡ Some d) (let e : j ≡ k = omega arith in e) is))
    (cases_lt j k)
kept entries firsts k d (Some s) other last = (
  last.0,
  omega (arith, last.1),
  last.2,
  last.3,
  λ later after lt is.
      ⊎_elim (λ before. last.4 later after before is)
      (λ from. other (subst (λ (n : ℕ). drawing_of (entry_at entries n).job ≡ Some d) (let e : later ≡ k = omega arith in e) is))
      (cases_lt later k),
)

-- the section of one alias more is told of its drawing
pub IsLastAmong-more :
    (entries : List Entry) (firsts : List ℕ) (last : List (Option ℕ)) (k : ℕ) (o : Option ℕ) → drawing_of (entry_at entries k).job ≡ o
    → IfSome o (λ d. d < length last) → ((d : ℕ) → IsLastAmong entries firsts k d (slice_index_or last d None))
    → (d : ℕ) → IsLastAmong entries firsts (k + 1) d (slice_index_or (with_section last o (slice_index firsts k)) d None)
IsLastAmong-more entries firsts last k None is below was d =
    kept entries firsts k d (slice_index_or last d None) (λ needs. let no : ◌≡◌ {A = Option ℕ} None (Some d) = sym is ∙ needs in cc) (was d)
IsLastAmong-more entries firsts last k (Some x) is below was d =
    ⊎_elim
    (λ same.
    subst (λ (o : Option ℕ). IsLastAmong entries firsts (k + 1) d o)
    (sym
    (ap (λ (n : ℕ). slice_index_or (slice_set last x (Some (slice_index firsts k))) n None) same
    ∙ get_or-set_same last x (Some (slice_index firsts k)) None below))
    (k, omega arith, is ∙ ap Some (sym same), refl, λ later after lt. absurd (omega arith)))
    (λ (other : d ≢ x).
    subst (λ (o : Option ℕ). IsLastAmong entries firsts (k + 1) d o)
    (sym (get_or-set_other last x d (Some (slice_index firsts k)) None other))
    (kept entries firsts k d (slice_index_or last d None)
    (λ needs. let same : ◌≡◌ {A = Option ℕ} (Some x) (Some d) = sym is ∙ needs in let e : d ≡ x = cc in other e) (was d)))
    (cases_eq d x)

-- the last alias that needs a drawing comes first in the last section that needs it
told-last :
    (p : PlanRecord) (firsts : List ℕ) → TellFirsts p p.entries firsts → (d : ℕ) (o : Option ℕ)
    → IsLastAmong p.entries firsts (length p.entries) d o → o ≡ last_section_of p d
told-last p firsts tell d None none =
    sym (no_last_section p d (λ s lt has. let needer = (needs-by_aliases p s d).0 has in none needer.0 needer.1 needer.3))
told-last p firsts tell d (Some s) last =
    let at : s ≡ first_section p last.0 = last.3 ∙ tell.first last.0 last.1 in
    sym
    (last_section-is p d s (omega (arith, tell.below last.0 last.1)) ((needs-by_aliases p s d).1 (last.0, last.1, sym at, last.2))
    (λ t after lt has.
    let needer = (needs-by_aliases p t d).0 has in
    ⊎_elim
    (λ later. last.4 needer.0 later needer.1 needer.3)
    (λ before. omega (arith, first_section-rises p needer.0 last.0 before, needer.2))
    (cases_lt last.0 needer.0)))

pub AreLast-told :
    (p : PlanRecord) (entries : List Entry) (firsts : List ℕ) (last : List (Option ℕ))
    → ((d : ℕ) → IsLastAmong entries firsts (length entries) d (slice_index_or last d None))
    → TellFirsts p entries firsts → AreLast p last
AreLast-told p entries firsts last among tell d =
    told-last p firsts (record { aliases = refl; first = tell.first; below = tell.below }) d (slice_index_or last d None)
    (subst (λ (l : List Entry). IsLastAmong l firsts (length l) d (slice_index_or last d None)) (sym tell.aliases) (among d))

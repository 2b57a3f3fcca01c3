use Rattle.std.proofs.Common.{◌≡◌, ℕ, Bool, Option, Some, not, ◌&&◌, sym, ap, ap₂, ◌∙◌, subst}
use Rattle.xs_meaning.specs.Palettes.{none_dropped}
use Rattle.xs_tint.specs.Filters.{dropped_by, filtering}
use Rattle.xs_stays.specs.declared.found.Found.{Found}
use Rattle.xs_stays.specs.Found.{stay_of, IsFound}
use Rattle.xs_stays.specs.Stays.{less}
use Rattle.xs_stays.proofs.Numbered.{found-filtered}
use Rattle.xs_stays.proofs.found.Remembered.filtered.Goals as goal

pub returns-clause-found : goal.returns-clause-found
returns-clause-found c =
    let sets = c.args.self.now.sets.keys in
    let filter : dropped_by c.in_ok-filter.filter ≡ filtering c.args.keep c.args.styles.now none_dropped =
    c.in_ok-filter.ensures ∙ ap (filtering c.args.keep c.args.styles.now) c.none.ensures in
    let but : (ℕ → Bool) → (ℕ → Bool) → ℕ → Bool = λ f g style. f style && not (g style) in
    let found : Option Found = Some (record c.in-Some.found { styles = c.in_ok-styles.styles }) in
    subst
    (λ (x : Option Found). IsFound c.number.new.self.sets.keys found
    (less (filtering c.args.keep c.args.styles.now none_dropped) (stay_of sets x)))
    (sym c.in-Some.is)
    (found-filtered sets c.number.new.self.sets.keys (filtering c.args.keep c.args.styles.now none_dropped) c.in-Some.found
    c.in_ok-styles.styles c.in_ok-styles.ensures.within
    (c.in_ok-styles.ensures.styles ∙ c.in_ok-left.ensures
    ∙ ap₂ but c.styles.ensures filter))

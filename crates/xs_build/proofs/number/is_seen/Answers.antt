use Rattle.std.proofs.Common.{◌≡◌, ℕ, not, Option, Some, None, is_none, is_some, refl, sym, ap, ◌∙◌}
use Rattle.xs_meaning.specs.Expressions.{by_offsets}
use Rattle.xs_step.specs.Readings.{answer_at}
use Rattle.xs_demand.proofs.RenamedImages.{clear-renamed}
use Rattle.xs_build.specs.States.{named}
use Rattle.xs_build.proofs.number.is_seen.Goals as goal

none_or_some : (o : Option ℕ) → is_none o ≡ not (is_some o)
none_or_some None = refl
none_or_some (Some n) = refl

pub returns-clause-seen : goal.returns-clause-seen
returns-clause-seen c = λ f o.
    let s = c.args.at.now.scene.now in
    let spot = c.args.state.spot in
    clear-renamed (named c.args.at.now.names.now) (answer_at (by_offsets s) s spot f o)
    ∙ c.extents_know_neither_offset_nor_filters.ensures.clear s spot f o
    ∙ ap is_none (sym c.in_ok-extent.ensures.extent)
    ∙ none_or_some c.in_ok-extent.extent
    ∙ ap not (sym c.is_some.ensures)

use Rattle.xs_direct.specs.declared.filters.Filters.{Filters, fold-Filters}
use Rattle.xs_direct.specs.declared.filters.Filters.TheOpen.{Filters-F}
use Rattle.xs_meaning.specs.Palettes.{Dropped, none_dropped, keeping, deleting}

abbrev pub dropped_step : Filters-F Dropped → Dropped
dropped_step Filters-F.Open = none_dropped
dropped_step (Filters-F.Keep styles outer) = keeping styles.now outer.now
dropped_step (Filters-F.Delete styles outer) = deleting styles.now outer.now

-- the styles that palette filters drop: each filter adds to what those further out drop
abbrev pub dropped_of : Filters → Dropped
dropped_of = fold-Filters Dropped dropped_step

use Rattle.std.proofs.Common.{◌≡◌, map}
use Rattle.std.specs.List.{range_with_len}
use Rattle.xs_meaning.specs.Palettes.{without_clear_end}
use Rattle.xs_palette.specs.Styles.{style_of}
use Rattle.xs_tint.specs.Tints.{tint_of}
use Rattle.xs_tint.proofs.tints.styles_shown.Given as goal

abbrev pub invariant-loop-count : goal.invariant-loop-count
invariant-loop-count l = without_clear_end (map (style_of l.p) (range_with_len 0 l.count)) ≡ tint_of l.p

abbrev pub decreases-loop-count : goal.decreases-loop-count
decreases-loop-count l = l.count

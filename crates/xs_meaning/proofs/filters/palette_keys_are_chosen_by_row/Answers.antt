use Rattle.xs_meaning.proofs.StyleKeys.{key_at-is, style_at-keyed, style_at-written}
use Rattle.xs_meaning.proofs.Tints.{style_at-past}
use Rattle.xs_meaning.proofs.filters.palette_keys_are_chosen_by_row.Goals as goal

pub returns : goal.returns
returns c = record { in_force = key_at-is; sets = style_at-keyed; without_key = style_at-written; lacking = λ c row style f. style_at-past c row f style }

use Rattle.std.proofs.Common.{refl, rules}
use Rattle.xs_rawfile.proofs.drawing.Drawing.new.Goals as goal

pub returns-then-fills-clause-valid : goal.returns-then-fills-clause-valid
returns-then-fills-clause-valid c = (
  λ yes. record {
    side_w = search rules;
    side_h = search rules;
    place_x = search rules;
    place_y = search rules;
    whole = search rules;
    fills = search rules;
  },
  λ raw. refl,
)

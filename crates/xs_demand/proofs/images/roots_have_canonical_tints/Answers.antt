use Rattle.std.proofs.Common.{map}
use Rattle.xs_meaning.specs.Expressions.{root_of}
use Rattle.xs_demand.proofs.CanonicalTints.{AreTints, tints_within-canonical, tints_of-canonical, rows-canonical}
use Rattle.xs_demand.proofs.ShownLemmas.{plan_shows_roots}
use Rattle.xs_demand.proofs.images.roots_have_canonical_tints.Goals as goal

pub returns : goal.returns
returns c =
    let law = c.tint_is_canonical.ensures in
    let are : AreTints = record { pixels = law.pixels; one = law.any_list } in
    record {
      expressions = tints_within-canonical are;
      aliases = tints_of-canonical;
      rows = λ s tiles rows. tints_of-canonical tiles (map (root_of s) rows) (rows-canonical are s rows);
      plans = λ s tiles rows drawings.
          plan_shows_roots tiles (map (root_of s) rows) drawings
          (tints_of-canonical tiles (map (root_of s) rows) (rows-canonical are s rows));
    }

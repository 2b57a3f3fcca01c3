use Rattle.xs_meaning.proofs.ChosenKeys.{key_in_force-is, key_after-is, key_in_force-only, key_after-only}
use Rattle.xs_meaning.proofs.rules.keys_are_chosen_by_row.Goals as goal

pub returns : goal.returns
returns c =
    record {
      in_force = key_in_force-is;
      after = key_after-is;
      only_in_force = key_in_force-only;
      only_after = key_after-only;
    }

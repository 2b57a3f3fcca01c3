use Rattle.std.proofs.Common.{refl, arith}
use Rattle.xs_words.specs.declared.command.Command.{Command}
use Rattle.xs_words.specs.declared.command.Command.TheVariants.{Render, Dry, Show, Make, Again}
use Rattle.xs_words.specs.Grammar.{reading_of}
use Rattle.xs_words.specs.Commands.{IsReadBack}
use Rattle.xs_words.proofs.Bounds.{within_passes, last_row_passes, base_passes, decimal_passes, number_in-decimal}

pub read_back : (command : Command) → IsReadBack command
unfolding reading_of
read_back (Render scene from to workers base) is =
    rw (
      number_in-decimal from (omega arith),
      number_in-decimal to (omega arith),
      number_in-decimal workers (omega arith),
      decimal_passes from (omega arith),
      decimal_passes to (omega arith),
      decimal_passes workers (omega arith),
      within_passes 1 9999 from is.1.0.0 is.1.0.1,
      last_row_passes from 4095 to is.1.1 is.1.2 is.1.3,
      within_passes 1 64 workers is.2.0 is.2.1,
      is.0,
      base_passes base is.3,
    )
    refl
read_back (Dry scene from to) is =
    rw (
      number_in-decimal from (omega arith),
      number_in-decimal to (omega arith),
      decimal_passes from (omega arith),
      decimal_passes to (omega arith),
      within_passes 1 9999 from is.1.0.0 is.1.0.1,
      last_row_passes from 4095 to is.1.1 is.1.2 is.1.3,
      is.0,
    )
    refl
read_back (Show scene) is = rw is refl
read_back (Make seed rows workers) is =
    rw (
      number_in-decimal seed (omega arith),
      number_in-decimal rows (omega arith),
      number_in-decimal workers (omega arith),
      decimal_passes seed (omega arith),
      decimal_passes rows (omega arith),
      decimal_passes workers (omega arith),
      within_passes 1 240 rows is.1 is.2,
      within_passes 1 64 workers is.3.0 is.3.1,
    )
    refl
read_back (Again old new from to workers base) is =
    rw (
      number_in-decimal from (omega arith),
      number_in-decimal to (omega arith),
      number_in-decimal workers (omega arith),
      decimal_passes from (omega arith),
      decimal_passes to (omega arith),
      decimal_passes workers (omega arith),
      within_passes 1 9999 from is.2.0.0 is.2.0.1,
      last_row_passes from 2047 to is.2.1 is.2.2 is.2.3,
      within_passes 1 64 workers is.3.0 is.3.1,
      is.0,
      is.1,
      base_passes base is.4,
    )
    refl

use Rattle.xs_levels.proofs.LevelCodes.{level_kept}
use Rattle.xs_levels.proofs.stock.read.Goals as goal

pub returns-in-Err-clause-unread : goal.returns-in-Err-clause-unread
returns-in-Err-clause-unread c =
    let fault = rw c.into_items.ensures at c.in-Err.ensures.fault in
    (fault, level_kept c.args.kind c.args.bytes c.in-Err.code fault)

use Rattle.xs_meaning.proofs.DroppedStyles.{deleted, not_deleted, kept, not_kept}
use Rattle.xs_meaning.proofs.filters.filters_drop_styles.Goals as goal

pub returns : goal.returns
returns c = record { deleted = deleted; not_deleted = not_deleted; kept = kept; not_kept = not_kept }

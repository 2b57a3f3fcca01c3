use Rattle.xs_meaning.proofs.TableLemmas.{columns-follow, nodes-follow, rows-follow}
use Rattle.xs_meaning.proofs.rules.values_follow_the_tables.Goals as goal

pub returns : goal.returns
returns c = record { columns = columns-follow; nodes = nodes-follow; rows = rows-follow }

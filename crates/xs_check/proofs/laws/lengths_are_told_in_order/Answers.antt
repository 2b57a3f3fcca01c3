use Rattle.std.proofs.Common.{length, refl}
use Rattle.std.proofs.lemmas.Bool.{lt-leb}
use Rattle.xs_base.specs.declared.limits.TheConstants.{MOST_STYLES, MOST_STYLE_KEYS, LONGEST_SHUFFLE, MOST_COLUMNS, MOST_NODES, MOST_TERMINALS}
use Rattle.xs_check.specs.Finding.{in_list}
use Rattle.xs_check.proofs.laws.lengths_are_told_in_order.Goals as goal

pub returns-clause-styles : goal.returns-clause-styles
unfolding in_list
returns-clause-styles c = λ styles keys columns nodes out more. rw (lt-leb (length styles) MOST_STYLES more) refl

pub returns-clause-keys : goal.returns-clause-keys
unfolding in_list
returns-clause-keys c = λ keys columns nodes out more. rw (lt-leb (length keys) MOST_STYLE_KEYS more) refl

pub returns-clause-columns : goal.returns-clause-columns
unfolding in_list
returns-clause-columns c = λ columns nodes out more. rw (lt-leb (length columns) MOST_COLUMNS more) refl

pub returns-clause-nodes : goal.returns-clause-nodes
unfolding in_list
returns-clause-nodes c = λ nodes out more. rw (lt-leb (length nodes) MOST_NODES more) refl

pub returns-clause-entries : goal.returns-clause-entries
unfolding in_list
returns-clause-entries c = λ input list out more. rw (lt-leb (length list) LONGEST_SHUFFLE more) refl

pub returns-clause-out : goal.returns-clause-out
unfolding in_list
returns-clause-out c = λ out more. rw (lt-leb (length out) MOST_TERMINALS more) refl

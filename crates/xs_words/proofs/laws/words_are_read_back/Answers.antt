use Rattle.xs_words.proofs.ReadBack.{read_back}
use Rattle.xs_words.proofs.laws.words_are_read_back.Goals as goal

pub returns : goal.returns
returns c = read_back

use Rattle.xs_word_desk.proofs.reads.read.Given as goal

abbrev pub ghosts-turn_as : goal.ghosts-turn_as
ghosts-turn_as g a = record { read = a.e; plan = a.shared.now.key }

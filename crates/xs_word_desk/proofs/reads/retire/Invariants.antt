use Rattle.xs_word_desk.proofs.reads.retire.Given as goal

abbrev pub ghosts-retire_as : goal.ghosts-retire_as
ghosts-retire_as g a = record { read = a.e; plan = a.shared.now.key }

use Rattle.xs_sheet.proofs.pegs.+place_up.Given as goal

abbrev pub decreases-place_up : goal.decreases-place_up
decreases-place_up g l = l.most

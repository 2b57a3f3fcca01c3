use Rattle.xs_word_desk.proofs.SeatLaws.{turn_shown, turner_shown, served_by, server_shown, leaving_shown, leaver_shown, claim_shown, winner_shown}
use Rattle.xs_word_desk.proofs.laws.seats_are_shown_as_their_views_say.Goals as goal

pub returns-clause-turn : goal.returns-clause-turn
returns-clause-turn c = λ told p s traced. turn_shown told p s traced.board

pub returns-clause-turner : goal.returns-clause-turner
returns-clause-turner c = λ told p s traced. turner_shown told p s traced.board

pub returns-clause-served : goal.returns-clause-served
returns-clause-served c = λ told p s traced. served_by told p s traced.board

pub returns-clause-server : goal.returns-clause-server
returns-clause-server c = λ told p s traced. server_shown told p s traced.board

pub returns-clause-leaving : goal.returns-clause-leaving
returns-clause-leaving c = λ told p s traced. leaving_shown told p s traced.board

pub returns-clause-leaver : goal.returns-clause-leaver
returns-clause-leaver c = λ told p s traced. leaver_shown told p s traced.board

pub returns-clause-claimed : goal.returns-clause-claimed
returns-clause-claimed c = λ told p s traced id k v me. claim_shown told p s traced.board id k v me (traced.own id v me)

pub returns-clause-winner : goal.returns-clause-winner
returns-clause-winner c = λ told p s traced. winner_shown told p s traced.board

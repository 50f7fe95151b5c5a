use Rattle.cat_threads.proofs.history.steps.seat.Given as goal

-- the session that gets a pass
abbrev pub ghosts-seat_as : goal.ghosts-seat_as
ghosts-seat_as a = record { session = a.session }

use Rattle.cat_callers.proofs.front.Front.end_all.Given as goal

abbrev pub decreases-sessions : goal.decreases-sessions
decreases-sessions g l = goal.left-sessions g l

use Rattle.catalogue_check.proofs.running.do_task.Goals as goal

pub returns-in-Judge : goal.returns-in-Judge
returns-in-Judge g c = rw c.in-Judge.is c.do_judge.ensures

pub returns-in-DropTorn : goal.returns-in-DropTorn
returns-in-DropTorn g c = rw c.in-DropTorn.is c.do_drop.ensures

pub returns-in-Usage : goal.returns-in-Usage
returns-in-Usage g c = rw c.in-Usage.is c.tell_usage.ensures

use Rattle.cat_protocol.proofs.replies.Told.{one_line}
use Rattle.cat_protocol.proofs.replies.telling.send_news.Goals as goal

pub returns-in-Idle : goal.returns-in-Idle
returns-in-Idle g c = rw c.in-Idle.is (one_line _ _ _ _ c.send_told.ensures)

pub returns-in-Busy : goal.returns-in-Busy
returns-in-Busy g c = rw c.in-Busy.is (one_line _ _ _ _ c.send_told-in-Busy.ensures)

pub returns-in-BegunMerge : goal.returns-in-BegunMerge
returns-in-BegunMerge g c = rw c.in-BegunMerge.is (one_line _ _ _ _ c.send_counted.ensures)

pub returns-in-Copied : goal.returns-in-Copied
returns-in-Copied g c = rw c.in-Copied.is (one_line _ _ _ _ c.send_counted-in-Copied.ensures)

pub returns-in-Done : goal.returns-in-Done
returns-in-Done g c = rw c.in-Done.is (one_line _ _ _ _ c.send_told-in-Done.ensures)

pub returns-in-BegunWarming : goal.returns-in-BegunWarming
returns-in-BegunWarming g c = rw c.in-BegunWarming.is (one_line _ _ _ _ c.send_told-in-BegunWarming.ensures)

pub returns-in-Warmed : goal.returns-in-Warmed
returns-in-Warmed g c = rw c.in-Warmed.is (one_line _ _ _ _ c.send_counted-in-Warmed.ensures)

pub returns-in-Stored : goal.returns-in-Stored
returns-in-Stored g c = rw c.in-Stored.is (one_line _ _ _ _ c.send_told-in-Stored.ensures)

pub returns-in-Swept : goal.returns-in-Swept
returns-in-Swept g c = rw c.in-Swept.is (one_line _ _ _ _ c.send_line.ensures)

pub returns-in-State : goal.returns-in-State
returns-in-State g c = rw c.in-State.is c.send_stat.ensures

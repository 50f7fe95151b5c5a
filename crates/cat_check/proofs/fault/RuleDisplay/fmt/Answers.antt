use Rattle.cat_check.proofs.fault.RuleDisplay.fmt.Goals as goal

pub returns-in-OtherLiveRows-clause-writes : goal.returns-in-OtherLiveRows-clause-writes
returns-in-OtherLiveRows-clause-writes g c = rw c.in-OtherLiveRows.is c.write-in-OtherLiveRows.ensures.writes

pub returns-in-OtherRows-clause-writes : goal.returns-in-OtherRows-clause-writes
returns-in-OtherRows-clause-writes g c = rw c.in-OtherRows.is c.write-in-OtherRows.ensures.writes

pub returns-in-OtherSize-clause-writes : goal.returns-in-OtherSize-clause-writes
returns-in-OtherSize-clause-writes g c = rw c.in-OtherSize.is c.write-in-OtherSize.ensures.writes

use Rattle.cat_protocol.proofs.lines.WordsSpelled.{no_command_alone}
use Rattle.cat_protocol.proofs.lines.command.Command.alone.Goals as goal

pub returns-in_default : goal.returns-in_default
returns-in_default c =
    let other = c.in_default in
    no_command_alone c.args.name.now c.requires.one_word other.not-REFRESH other.not-OPEN other.not-COMMIT other.not-SNAP other.not-MERGE other.not-FORCE other.not-WARM other.not-SWEEP other.not-STAT

pub returns-in-REFRESH : goal.returns-in-REFRESH
returns-in-REFRESH c = record { form = tt; spelled = c.in-REFRESH.is }

pub returns-in-OPEN : goal.returns-in-OPEN
returns-in-OPEN c = record { form = tt; spelled = c.in-OPEN.is }

pub returns-in-COMMIT : goal.returns-in-COMMIT
returns-in-COMMIT c = record { form = tt; spelled = c.in-COMMIT.is }

pub returns-in-SNAP : goal.returns-in-SNAP
returns-in-SNAP c = record { form = tt; spelled = c.in-SNAP.is }

pub returns-in-MERGE : goal.returns-in-MERGE
returns-in-MERGE c = record { form = tt; spelled = c.in-MERGE.is }

pub returns-in-FORCE : goal.returns-in-FORCE
returns-in-FORCE c = record { form = tt; spelled = c.in-FORCE.is }

pub returns-in-WARM : goal.returns-in-WARM
returns-in-WARM c = record { form = tt; spelled = c.in-WARM.is }

pub returns-in-SWEEP : goal.returns-in-SWEEP
returns-in-SWEEP c = record { form = tt; spelled = c.in-SWEEP.is }

pub returns-in-STAT : goal.returns-in-STAT
returns-in-STAT c = record { form = tt; spelled = c.in-STAT.is }

use Rattle.cat_protocol.proofs.lines.WordsSpelled.{no_command}
use Rattle.cat_protocol.proofs.lines.command.Command.not_writing.Goals as goal

pub returns-in_default : goal.returns-in_default
returns-in_default c =
    let other = c.in_default in
    let writes = c.requires.others in
    no_command c.args.name.now c.args.rest.now c.requires.one_word writes.0 writes.1 writes.2 other.not-OPEN other.not-CLOSE other.not-FIND other.not-FACETS
    other.not-GET other.not-FILES other.not-COMMIT other.not-NOTE other.not-UNSNAP other.not-PRUNE

pub returns-in-OPEN : goal.returns-in-OPEN
returns-in-OPEN c = rw c.in-OPEN.is c.open_at.ensures

pub returns-in-CLOSE : goal.returns-in-CLOSE
returns-in-CLOSE c = rw c.in-CLOSE.is c.close.ensures

pub returns-in-FIND : goal.returns-in-FIND
returns-in-FIND c = rw c.in-FIND.is c.find.ensures

pub returns-in-FACETS : goal.returns-in-FACETS
returns-in-FACETS c = rw c.in-FACETS.is c.facets.ensures

pub returns-in-GET : goal.returns-in-GET
returns-in-GET c = rw c.in-GET.is c.get.ensures

pub returns-in-FILES : goal.returns-in-FILES
returns-in-FILES c = rw c.in-FILES.is c.files.ensures

pub returns-in-COMMIT : goal.returns-in-COMMIT
returns-in-COMMIT c = rw c.in-COMMIT.is c.commit.ensures

pub returns-in-NOTE : goal.returns-in-NOTE
returns-in-NOTE c = rw c.in-NOTE.is c.note.ensures

pub returns-in-UNSNAP : goal.returns-in-UNSNAP
returns-in-UNSNAP c = rw c.in-UNSNAP.is c.unsnapshot.ensures

pub returns-in-PRUNE : goal.returns-in-PRUNE
returns-in-PRUNE c = rw c.in-PRUNE.is c.prune.ensures

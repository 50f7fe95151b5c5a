use Rattle.catalogue_check.proofs.running.judge.Goals as goal

pub returns : goal.returns
returns g c = record {
  told = c.tell_found-judged.new.system;
  found = c.tell_found-judged.ensures.found;
  now = c.tell_found-judged.new.folder;
  same = c.tell_found-judged.ensures.frame;
  leaves = c.leave.ensures;
}

use Rattle.catalogue_check.proofs.running.do_drop.Goals as goal

pub returns : goal.returns
returns g c = (
  c.lock-answer.result,
  c.drop_locked-judged.result,
  c.lock-answer.new.self,
  c.drop_locked-judged.new.system,
  c.lock-answer.ensures,
  c.drop_locked-judged.ensures,
  c.ending_after.ensures,
)

use Rattle.catalogue_check.proofs.running.do_judge.Goals as goal

pub returns : goal.returns
returns g c = (
  c.share-answer.result,
  c.judge_shared-judged.result,
  c.share-answer.new.self,
  c.judge_shared-judged.new.system,
  c.share-answer.ensures,
  c.judge_shared-judged.ensures,
  c.ending_after.ensures,
)

use Rattle.catalogue_check.proofs.running.drop_under.Goals as goal

pub returns : goal.returns
returns g c = (c.drop_at-judged.new.system, c.drop_at-judged.ensures, c.unlock.ensures)

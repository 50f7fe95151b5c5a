use Rattle.catalogue.proofs.running.serve_locked.Goals as goal

pub returns : goal.returns
returns g c = (c.serve_at-served.new.system, (c.serve_at-served.result, c.serve_at-served.ensures, c.told.ensures), c.unlock.ensures)

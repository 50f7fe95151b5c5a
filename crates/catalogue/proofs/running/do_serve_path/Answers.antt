use Rattle.catalogue.proofs.running.do_serve_path.Goals as goal

pub returns : goal.returns
returns g c = (c.serve_path-served.result, c.serve_path-served.new.system, c.serve_path-served.ensures, c.ending_after.ensures)

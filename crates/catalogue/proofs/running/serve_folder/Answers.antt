use Rattle.catalogue.proofs.running.serve_folder.Goals as goal

pub returns : goal.returns
returns g c = (c.serve_streams-device.result.device, c.serve_streams-device.new.system, c.serve_streams-device.ensures, c.leave.ensures)

use Rattle.cat_items.proofs.file_parts.Numbers.{byte_here, byte_not}
use Rattle.cat_items.proofs.file_parts.cursor.take_u8.Goals as goal

pub returns-in-Err : goal.returns-in-Err
returns-in-Err c = byte_not c.args.cursor.now c.in-Err.ensures.err.2

pub returns-in-Ok : goal.returns-in-Ok
returns-in-Ok c = byte_here c.args.cursor.now c.take_u8.new.self c.in-Ok.found c.in-Ok.ensures.ok

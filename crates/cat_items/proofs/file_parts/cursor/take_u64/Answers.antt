use Rattle.std.proofs.Common.{arith}
use Rattle.cat_items.proofs.file_parts.Numbers.{u64_here, u64_not}
use Rattle.cat_items.proofs.file_parts.cursor.take_u64.Goals as goal

pub returns-in-Err : goal.returns-in-Err
returns-in-Err c = u64_not c.args.cursor.now c.in-Err.ensures.err.2

pub returns-in-Ok : goal.returns-in-Ok
returns-in-Ok c = u64_here c.args.cursor.now c.take_u64.new.self c.in-Ok.found (omega arith) c.in-Ok.ensures.ok

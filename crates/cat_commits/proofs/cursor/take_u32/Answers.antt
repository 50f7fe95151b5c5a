use Rattle.std.proofs.Common.{arith, sym}
use Rattle.cat_items.proofs.file_parts.Numbers.{u32_here, u32_not}
use Rattle.cat_commits.proofs.cursor.take_u32.Goals as goal

pub returns-in-Err : goal.returns-in-Err
returns-in-Err c = sym (u32_not c.args.cursor.now c.in-Err.ensures.err.2)

pub returns-in-Ok : goal.returns-in-Ok
returns-in-Ok c = sym (u32_here c.args.cursor.now c.take_u32.new.self c.in-Ok.found (omega arith) c.in-Ok.ensures.ok)

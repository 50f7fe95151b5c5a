use Rattle.std.proofs.Common.{arith, sym}
use Rattle.cat_items.proofs.file_parts.Numbers.{u64_here, u64_not}
use Rattle.cat_commits.proofs.cursor.take_u64.Goals as goal

pub returns-in-Err : goal.returns-in-Err
returns-in-Err c = sym (u64_not c.args.cursor.now c.in-Err.ensures.err.2)

pub returns-in-Ok : goal.returns-in-Ok
returns-in-Ok c = sym (u64_here c.args.cursor.now c.take_u64.new.self c.in-Ok.found (omega arith) c.in-Ok.ensures.ok)

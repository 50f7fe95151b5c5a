use Rattle.std.proofs.Common.{sym}
use Rattle.cat_items.proofs.file_parts.Numbers.{string_here, string_not}
use Rattle.cat_commits.proofs.cursor.take_bytes.Goals as goal

pub returns-in-Err : goal.returns-in-Err
returns-in-Err c = sym (string_not c.args.cursor.now c.in-Err.ensures.err.2)

pub returns-in-Ok : goal.returns-in-Ok
returns-in-Ok c = sym (string_here c.args.cursor.now c.take_bytes.new.self c.in-Ok.found.now c.in-Ok.ensures.ok.1 c.in-Ok.ensures.ok.0)

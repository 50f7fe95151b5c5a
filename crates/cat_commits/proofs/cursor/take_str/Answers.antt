use Rattle.std.proofs.Common.{sym}
use Rattle.cat_items.proofs.file_parts.Numbers.{text_here, text_not}
use Rattle.cat_commits.proofs.cursor.take_str.Goals as goal

pub returns-in-Ok : goal.returns-in-Ok
returns-in-Ok c = rw c.in-Ok.ensures.cases.0 (sym (text_here c.args.cursor.now c.in_ok-bytes.bytes.now c.take_bytes.new.cursor (sym c.in_ok-bytes.ensures) c.in-Ok.ensures.cases.1))

pub returns-in-Err : goal.returns-in-Err
returns-in-Err c = sym (text_not c.args.cursor.now c.in_ok-bytes.bytes.now c.take_bytes.new.cursor (sym c.in_ok-bytes.ensures) c.in-Err.ensures.cases.0)

use Rattle.cat_live_table.proofs.buffer.Entries.{last_put}
use Rattle.cat_live_table.proofs.buffer.buffer.put_last.Goals as goal

pub returns-clause-ok : goal.returns-clause-ok
returns-clause-ok c =
    let gone = c.shift_remove.ensures in
    last_put c.args.id c.args.last _ c.shift_remove.new.self.entries c.reserve.new.self.entries c.args.entries.now.entries c.in_ok-insert.ensures.entries gone.updates.1 gone.entries
    c.in_ok-reserve.ensures.entries

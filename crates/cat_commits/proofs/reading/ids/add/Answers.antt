use Rattle.cat_columns.proofs.Members.{text_more, same_text_sym}
use Rattle.cat_commits.proofs.reading.ids.add.Goals as goal

pub returns-clause-ok : goal.returns-clause-ok
returns-clause-ok c = λ q. text_more _ _ _ _ (same_text_sym q c.args.text.now) (c.in_ok-insert.ensures.updates.0 (record { ref_ptr = c.args.text.ref_ptr; now = q }))

pub returns-clause-fresh : goal.returns-clause-fresh
returns-clause-fresh c = c.in_ok-insert.ensures.added

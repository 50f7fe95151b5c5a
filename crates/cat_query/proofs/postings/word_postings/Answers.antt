use Rattle.cat_query.proofs.postings.word_postings.Goals as goal

pub returns-in-Word : goal.returns-in-Word
returns-in-Word c = rw c.in-Word.is (rw c.as_str.ensures at c.postings.ensures)

use Rattle.cat_query.specs.Reading.{asks_of}
use Rattle.cat_query.proofs.Meanings.{keyword_means}
use Rattle.cat_query.proofs.meaning.test.Goals as goal

pub returns-in-Keyword : goal.returns-in-Keyword
returns-in-Keyword c = λ f. rw c.in-Keyword.is (keyword_means f (asks_of c.args.value), c.in_keyword.ensures f)

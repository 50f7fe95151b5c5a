use Rattle.cat_query.proofs.Cuts.{plain_cut}
use Rattle.cat_query.proofs.escapes.plain.Goals as goal

pub split_at-requires : goal.split_at-requires
split_at-requires c = rw (c.plain_len.ensures, c.as_bytes.ensures.value) (plain_cut c.args.text.now)

pub returns-clause-front : goal.returns-clause-front
returns-clause-front c = rw (c.plain_len.ensures, c.as_bytes.ensures.value) at c.split_at.ensures.front

pub returns-clause-behind : goal.returns-clause-behind
returns-clause-behind c = rw (c.plain_len.ensures, c.as_bytes.ensures.value) at c.split_at.ensures.back

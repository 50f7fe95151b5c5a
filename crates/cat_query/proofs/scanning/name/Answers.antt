use Rattle.cat_query.proofs.Cuts.{name_cut}
use Rattle.cat_query.proofs.scanning.name.Goals as goal

pub split_at-requires : goal.split_at-requires
split_at-requires c = rw (c.name_len.ensures, c.as_bytes.ensures.value) (name_cut c.args.text.now c.utf8.text)

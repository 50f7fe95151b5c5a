use Rattle.cat_query.proofs.Cuts.{bare_cut}
use Rattle.cat_query.proofs.scanning.bare.Goals as goal

pub split_at-requires : goal.split_at-requires
split_at-requires c = rw (c.bare_len.ensures, c.as_bytes.ensures.value) (bare_cut c.args.text.now)

use Rattle.std.proofs.Common.{length, refl, ap}
use Rattle.cat_protocol.proofs.replies.Listed.{stat_words_by}
use Rattle.cat_protocol.proofs.replies.telling.stat_words.Goals as goal

pub returns : goal.returns
returns c = stat_words_by _ _ _ _ _ _ c.args.stat.now refl refl (ap length c.as_slice.ensures.value) refl refl refl

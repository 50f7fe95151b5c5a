use Rattle.std.proofs.Common.{length, ap}
use Rattle.cat_protocol.proofs.replies.Listed.{page_words_by}
use Rattle.cat_protocol.proofs.replies.lists.page_words.Goals as goal

pub returns : goal.returns
returns c = page_words_by _ _ c.args.page.now (ap length c.entries.ensures) c.total.ensures

use Rattle.cat_items.proofs.TalkTexts.{bytes_agree}
use Rattle.cat_items.proofs.laws.held_reads_agree_in_bytes.Goals as goal

pub returns : goal.returns
returns c = bytes_agree

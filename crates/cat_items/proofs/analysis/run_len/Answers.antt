use borrow.Author.Count.{below_more}
use Rattle.std.proofs.Common.{◌≡◌, ◌∙◌, sym, get_or, true}
use Rattle.cat_model.specs.Words.{is_word_byte}
use Rattle.cat_items.proofs.analysis.run_len.Goals as goal

pub loop-i-preserved : goal.loop-i-preserved
loop-i-preserved c =
    below_more (λ k. is_word_byte (get_or c.args.bytes.now k 0) ≡ true) c.loop-i.i c.loop-i.invariant (sym c.is_word_byte.ensures ∙ c.if-not-is_word_byte.false)

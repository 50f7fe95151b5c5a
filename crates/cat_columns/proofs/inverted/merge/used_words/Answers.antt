use Rattle.std.proofs.Common.{ℕ, [], ◌∙◌, rules, arith}
use Rattle.smallvec.specs.SmallVec.{SmallVec}
use Rattle.std.proofs.lemmas.List.{get_or_default}
use Rattle.std.proofs.lemmas.Grind.{elements}
use Rattle.cat_columns.proofs.inverted.Merging.{used_more}
use Rattle.cat_columns.proofs.inverted.merge.used_words.Goals as goal
use Rattle.cat_columns.proofs.inverted.merge.used_words.Goals.{then-not-is_empty+in_ok-copy+in_ok-push, else-not-is_empty}

pub loop-ordinal-preserved : goal.loop-ordinal-preserved
loop-ordinal-preserved c =
    let more = used_more (λ (v : SmallVec ℕ). v.items) c.args.words.now c.args.lists.now c.loop-ordinal.ordinal c.index-lists-ordinal.result (omega (arith, c.loop-ordinal-test.true, c.requires)) c.loop-ordinal-test.true c.index-lists-ordinal.is in
    elim c.if-not-is_empty.branch [
      | then-not-is_empty+in_ok-copy+in_ok-push w ↦ (let at = w.index-words-ordinal.is ∙ get_or_default c.args.words.now c.loop-ordinal.ordinal w.index-words-ordinal.result [] (omega (arith, c.loop-ordinal-test.true, c.requires)) in search rules)
      | else-not-is_empty w ↦ search rules
    ]

pub returns : goal.returns
returns c = grind (arith, elements)

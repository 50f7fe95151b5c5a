use Rattle.std.proofs.Common.{◌++◌, map, sym, ap, ◌∙◌, subst, arith}
use Rattle.std.proofs.lemmas.List.{append-nil}
use Rattle.std.specs.List.{list_any}
use Rattle.std.proofs.lemmas.Grind.{common_steps}
use Rattle.cat_base.specs.Texts.{sorted_set, IsTextSet}
use Rattle.cat_base.proofs.TextSets.{IsTextSet-sorted_set}
use Rattle.cat_model.specs.Text.{same_text}
use Rattle.cat_columns.proofs.inverted.Gathering.{words_found}
use Rattle.cat_columns.proofs.inverted.Rows.{if_ok}
use Rattle.cat_columns.proofs.inverted.build.words_of.Goals as goal

pub returns-clause-ok : goal.returns-clause-ok
returns-clause-ok c =
    let items = sym (append-nil c.loop-word.words.items) ∙ ap (λ rest. c.loop-word.words.items ++ map (λ k. k.now) rest) (sym c.in-None.ensures.steps.0) ∙ c.loop-word.invariant in
    if_ok _ _ (λ d is q. ap (list_any (same_text q)) (is ∙ ap sorted_set items) ∙ words_found q c.args.postings.now.entries) c.of.result c.of.ensures.ok

pub returns-clause-sorted : goal.returns-clause-sorted
returns-clause-sorted c = if_ok _ _ (λ d is. subst IsTextSet (sym is) (IsTextSet-sorted_set c.loop-word.words.items)) c.of.result c.of.ensures.ok

pub loop-word-preserved : goal.loop-word-preserved
loop-word-preserved c = grind (arith, common_steps)

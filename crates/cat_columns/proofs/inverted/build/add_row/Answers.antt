use Rattle.std.proofs.Common.{[], ◌∷◌, ◌++◌, ◌||◌, if◌then◌else◌, is_some, ap, ◌∙◌}
use Rattle.cat_model.specs.Text.{same_text}
use Rattle.cat_columns.specs.inverted.Gathered.{found, listed}
use Rattle.cat_columns.proofs.inverted.Gathering.{word_more, key_more}
use Rattle.cat_columns.proofs.inverted.build.add_row.Goals as goal

pub loop-word-preserved : goal.loop-word-preserved
loop-word-preserved c =
    let i = c.loop-word.word-index in
    let word = c.word-item.result in
    let before = c.loop-word.postings in
    record {
      lists = λ q. word_more c.args.words.now i word c.loop-word-test.true c.word-item.is c.requires q c.args.row _ (listed q before) _ (c.in_ok-add_posting.ensures.lists q ∙ ap (λ w. listed q before ++ (if same_text q w then c.args.row ∷ [] else [])) c.as_str.ensures) (c.loop-word.invariant.lists q);
      keys = λ q. key_more c.args.words.now i word c.loop-word-test.true c.word-item.is q _ (is_some (found q before)) _ (c.in_ok-add_posting.ensures.keys q ∙ ap (λ w. is_some (found q before) || same_text q w) c.as_str.ensures) (c.loop-word.invariant.keys q);
    }

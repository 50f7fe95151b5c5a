use Rattle.std.proofs.Common.{ℕ, List, length, map, ap, ◌∙◌}
use Rattle.std.proofs.lemmas.List.{take_all}
use Rattle.std.specs.List.{flat_map}
use Rattle.cat_model.specs.Text.{Text}
use Rattle.cat_columns.specs.inverted.Gathered.{listed, ends_from}
use Rattle.cat_columns.proofs.inverted.Gathering.{laid_more, ends_more}
use Rattle.cat_columns.proofs.inverted.build.laid.Goals as goal

pub loop-word-preserved : goal.loop-word-preserved
loop-word-preserved c =
    let i = c.loop-word.word-index in
    let word = c.word-item.result in
    let f = λ (w : List ℕ). listed w c.args.postings.now in
    let part = c.rows_of.ensures ∙ ap f c.as_str.ensures in
    let rows = laid_more f c.args.words.now i word c.loop-word-test.true c.word-item.is c.loop-word.rows.items c.add_list.new.rows.items c.rows_of.result.now c.loop-word.invariant.rows part c.in_ok-add_list.ensures.rows in
    record {
      ends = ends_more f c.args.words.now i word c.loop-word-test.true c.word-item.is c.loop-word.ends.items c.add_list.new.ends.items (length c.add_list.new.rows.items) c.loop-word.invariant.ends c.in_ok-add_list.ensures.ends (ap length rows);
      rows = rows;
      few = c.in_ok-add_list.ensures.few;
    }

pub returns : goal.returns
returns c =
    let all = take_all c.loop-word.word-index c.args.words.now c.loop-word-test.false in
    record {
      ends = c.loop-word.invariant.ends ∙ ap (λ (ws : List Text). ends_from 0 (map (λ w. listed w c.args.postings.now) ws)) all;
      rows = c.loop-word.invariant.rows ∙ ap (λ (ws : List Text). flat_map (λ part. part) (map (λ w. listed w c.args.postings.now) ws)) all;
      few = c.loop-word.invariant.few;
    }

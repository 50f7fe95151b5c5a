use Rattle.std.proofs.Common.{map, List, [], ◌∷◌, ◌++◌, ◌||◌, if◌then◌else◌, sym, ap, ◌∙◌}
use Rattle.std.proofs.lemmas.List.{take_all}
use Rattle.std.specs.Borrow.{Bor}
use Rattle.std.specs.List.{list_any}
use Rattle.cat_model.specs.Text.{Text, same_text}
use Rattle.cat_model.specs.Ordinals.{postings_of}
use Rattle.cat_columns.proofs.inverted.Gathering.{postings_more, keys_more}
use Rattle.cat_columns.proofs.inverted.build.gathered.Goals as goal

pub loop-row-preserved : goal.loop-row-preserved
loop-row-preserved c =
    let i = c.loop-row.row in
    let row = c.index-rows-row.result in
    record {
      lists = λ q. c.in_ok-add_row.ensures.lists q ∙ ap (λ l. l ++ (if list_any (same_text q) row.now then i ∷ [] else [])) (c.loop-row.invariant.lists q) ∙ sym (postings_more c.args.rows.now i row c.loop-row-test.true c.index-rows-row.is q);
      keys = λ q. c.in_ok-add_row.ensures.keys q ∙ ap (λ b. b || list_any (same_text q) row.now) (c.loop-row.invariant.keys q) ∙ sym (keys_more c.args.rows.now i row c.loop-row-test.true c.index-rows-row.is q);
    }

pub returns : goal.returns
returns c =
    let all = take_all c.loop-row.row c.args.rows.now c.loop-row-test.false in
    record {
      lists = λ q. c.loop-row.invariant.lists q ∙ ap (λ (rows : List (Bor (List Text))). postings_of q (map (λ r. r.now) rows)) all;
      keys = λ q. c.loop-row.invariant.keys q ∙ ap (λ (rows : List (Bor (List Text))). list_any (list_any (same_text q)) (map (λ r. r.now) rows)) all;
    }

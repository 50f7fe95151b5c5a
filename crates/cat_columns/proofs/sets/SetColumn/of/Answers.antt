use Rattle.cat_columns.proofs.Cuts.{sets_there, laid_rows, IsSets-of}
use Rattle.cat_columns.proofs.sets.SetColumn.of.Goals as goal

pub laid-requires-clause-there : goal.laid-requires-clause-there
laid-requires-clause-there c = sets_there c.args.rows.now c.in_ok-labels_in.field-0.keys _ c.in_ok-dictionary.ensures.ok c.in_ok-labels_in.ensures.ok

pub invariant_of-result : goal.invariant_of-result
invariant_of-result c =
    IsSets-of c.args.rows.now c.in_ok-labels_in.field-0.keys _ c.in_ok-dictionary.ensures.ok c.in_ok-labels_in.ensures.ok
    c.in_ok-ends.ends.items c.in_ok-ends.ordinals.items c.in_ok-ends.ensures.ends c.in_ok-ends.ensures.ordinals c.requires.few c.requires.sets c.in_ok-ends.ensures.bound

pub returns : goal.returns
returns c = record {
  ok = (laid_rows c.args.rows.now c.in_ok-labels_in.field-0.keys _ c.in_ok-dictionary.ensures.ok c.in_ok-labels_in.ensures.ok
      c.in_ok-ends.ends.items c.in_ok-ends.ordinals.items c.in_ok-ends.ensures.ends c.in_ok-ends.ensures.ordinals);
}

use Rattle.cat_base.proofs.TextSets.{IsTextSet-sorted_set, sorted_set_members, sorted_set_only}
use Rattle.cat_base.proofs.text.sorted_sets_are_sets.Goals as goal

pub returns : goal.returns
returns c = record {
  rising = IsTextSet-sorted_set;
  members = sorted_set_members;
  only = sorted_set_only;
}

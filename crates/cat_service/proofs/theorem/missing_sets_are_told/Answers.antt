use Rattle.cat_items.specs.Reading.{json}
use Rattle.cat_directory.specs.Names.{by_names}
use Rattle.cat_service.proofs.theorem.MissingSets.{missing_sets}
use Rattle.cat_service.proofs.theorem.missing_sets_are_told.Goals as goal

pub returns : goal.returns
returns g c = missing_sets json (by_names g.D.Holder.bytes g.D.Holder.may_leave g.D.Holder.can_fail g.D.Holder.fault_count)

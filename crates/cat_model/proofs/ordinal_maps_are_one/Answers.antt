use Rattle.cat_model.proofs.GlobalOrdinals.{ordinal_maps_are_one}
use Rattle.cat_model.proofs.ordinal_maps_are_one.Goals as goal

pub returns : goal.returns
returns c = ordinal_maps_are_one

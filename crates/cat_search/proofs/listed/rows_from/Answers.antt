use Rattle.std.proofs.Common.{◌∙◌, Ok, Err, inl, inr, refl}
use Rattle.cat_search.proofs.ListedRows.{rows_from_place}
use Rattle.cat_search.proofs.listed.rows_from.Goals as goal

pub returns-in-Ok : goal.returns-in-Ok
returns-in-Ok c = λ set within is. rows_from_place c.args.rows.now c.args.from (Ok c.in-Ok.place) c.in-Ok.place (inl refl) c.in-Ok.ensures.position set within is

pub returns-in-Err : goal.returns-in-Err
returns-in-Err c = λ set within is. rows_from_place c.args.rows.now c.args.from (Err c.in-Err.place) c.in-Err.place (inr refl) c.in-Err.ensures.position set within is

use Rattle.std.proofs.lemmas.Result.{err_from_is_err_and}
use Rattle.cat_base.specs.declared.refusal.Refusal.TheVariants.{Damaged}
use Rattle.cat_items.specs.file_parts.Reading.{u32_at, with_front}
use Rattle.cat_items.specs.file_parts.Layouts.{list_at}
use Rattle.cat_items.proofs.file_parts.Loop.{fails_none}
use Rattle.cat_items.proofs.file_parts.Pieces.{list_goes, list_not}
use Rattle.cat_items.proofs.file_parts.lists.read_list.Goals as goal

pub returns-in_err-count : goal.returns-in_err-count
returns-in_err-count c =
    let p = err_from_is_err_and c.from_residual.result c.from_residual.ensures.1 in
    rw (p.1, p.2) (fails_none Damaged (u32_at c.args.cursor.now) (with_front c.args.out.now.items (list_at c.args.cursor.now)) c.in_err-count.ensures (list_not c.args.out.now.items c.args.cursor.now))

pub returns-in_err-read_onto : goal.returns-in_err-read_onto
returns-in_err-read_onto c =
    let p = err_from_is_err_and c.from_residual-in_err-read_onto.result c.from_residual-in_err-read_onto.ensures.1 in
    rw (p.1, p.2, list_goes c.args.cursor.now _ _ c.in_ok-count.ensures) c.in_err-read_onto.ensures

pub returns : goal.returns
returns c = rw (list_goes c.args.cursor.now _ _ c.in_ok-count.ensures) c.in_ok-read_onto.ensures

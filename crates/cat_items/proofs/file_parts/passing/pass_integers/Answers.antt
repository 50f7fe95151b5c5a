use Rattle.cat_model.specs.Item.{Kind}
use Rattle.cat_items.specs.file_parts.Layouts.{cell_at, column_at}
use Rattle.cat_items.specs.file_parts.Reading.{many_at}
use Rattle.cat_items.proofs.file_parts.Rests.{pass_as, integers_rest}
use Rattle.cat_items.proofs.file_parts.passing.pass_integers.Goals as goal

pub returns : goal.returns
returns c =
    pass_as c.pass_cells.new.cursor c.pass_cells.result (column_at Kind.number c.args.rows c.args.cursor.now) (many_at cell_at c.args.rows c.args.cursor.now)
    (integers_rest c.args.rows c.args.cursor.now) c.pass_cells.ensures

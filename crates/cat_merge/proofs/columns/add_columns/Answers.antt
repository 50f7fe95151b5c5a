use Rattle.std.proofs.Common.{sym, ◌∙◌}
use Rattle.cat_merge.proofs.columns.add_columns.Goals as goal

pub loop-init : goal.loop-init
loop-init c = record {
  many = sym (c.len-counter.ensures ∙ c.args.columns.now.ok.0);
  orders = c.requires.orders;
  columns = c.requires.columns;
}

use Rattle.std.proofs.Common.{◌<◌, Bool, false, List, length, slice_set, sym, ap, subst, ◌∙◌}
use Rattle.cat_segment.proofs.live.Live.kill.Goals as goal

pub remove-requires : goal.remove-requires
remove-requires c = subst (λ (rows : List Bool). c.args.row < length rows) (sym c.self.view_is) c.requires

pub returns : goal.returns
returns c = c.remove.ensures ∙ ap (λ (rows : List Bool). slice_set rows c.args.row false) c.self.view_is

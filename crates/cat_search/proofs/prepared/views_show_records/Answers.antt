use Rattle.cat_search.proofs.Shown.{views_show_records}
use Rattle.cat_search.proofs.prepared.views_show_records.Goals as goal

pub returns : goal.returns
returns c = views_show_records

-- The ids of hits.
use Rattle.cat_model.specs.Text.{Text}
use Rattle.cat_search.specs.declared.ids.Id.{Id}
use Rattle.cat_search.specs.declared.ids.Id.TheVariants.{Short, Long}

-- the id, wherever it lies
abbrev pub id_text : Id → Text
id_text (Short id) = id.bytes
id_text (Long id) = id

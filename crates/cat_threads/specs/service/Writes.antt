-- Writes as code has them.
use Rattle.cat_model.specs.Item.{IsItem, Schema}
use Rattle.cat_model.specs.Write as model
use Rattle.cat_commands.specs.cat_ledger.cat_ledger_state.cat_query.View.{query_of}
use Rattle.cat_threads.specs.declared.service.writes.Write.{Write}

-- the write that is meant
abbrev pub write_of : Write → model.Write
write_of (Write.Put item) = model.Write.put item
write_of (Write.Delete id) = model.Write.delete id
write_of (Write.DeleteWhere query) = model.Write.delete_where (query_of query)

-- it puts an item of another schema
abbrev pub PutsForeign : Schema → model.Write → Type 0
PutsForeign schema (model.Write.put item) = IsItem schema item → ⊥
PutsForeign schema (model.Write.delete id) = ⊥
PutsForeign schema (model.Write.delete_where query) = ⊥

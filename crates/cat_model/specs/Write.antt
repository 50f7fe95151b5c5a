-- Writes, and which items each takes out: Lucene's IndexWriter.updateDocument, and IndexWriter.deleteDocuments by id and by
-- query. Numbers of writes, and that one that takes out nothing counts too, are our own.
use Rattle.std.specs.Prelude.{Bool}
use Rattle.cat_model.specs.Text.{Text, same_text}
use Rattle.cat_model.specs.Item.{Item}
use Rattle.cat_model.specs.Query.{Query, matches}

-- an item that is put in the place of the one of its id, an id whose item goes, or a query whose matches all go
pub data Write : Type 0 where
  put : Item → Write
  delete : Text → Write
  delete_where : Query → Write

-- the write takes the item out: it puts or deletes its id, or deletes by a query that matches the item
abbrev pub removes : Write → Item → Bool
removes (Write.put j) i = same_text j.id i.id
removes (Write.delete id) i = same_text id i.id
removes (Write.delete_where q) i = matches q i

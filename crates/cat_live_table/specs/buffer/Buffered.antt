-- What the write buffer holds: Lucene's documents of a DocumentsWriterPerThread that are not yet flushed.
use Rattle.std.specs.Prelude.{◌≡◌, ◌≢◌, ℕ, ◌<◌, ◌≤◌, Bool, List, length, All, AllPairs, String, string_bytes}
use Rattle.std.specs.List.{AllByRecursion, list_any, flat_map}
use Rattle.cat_model.specs.Text.{Text, same_text}
use Rattle.cat_model.specs.Item.{Schema, Record, IsItem}

-- the fields of the items, and the items that wait, each under the number of the write that put it
pub record Buffered : Type 0 where
  pub schema : Schema
  pub records : List Record

-- how many items wait at most (MAX_BUFFERED_ITEMS)
abbrev pub most_buffered : ℕ
most_buffered = 1024

-- items of the schema, at most so many as may wait; their numbers are at least 1 and rise, and their ids differ
pub record IsBuffered (b : Buffered) : Type 0 where
  pub few : length b.records ≤ most_buffered
  pub items : All (λ r. IsItem b.schema r.item) b.records
  pub positive : All (λ r. 1 ≤ r.number) b.records
  pub rising : AllPairs (λ r s. r.number < s.number) b.records
  pub distinct : AllPairs (λ r s. r.item.id ≢ s.item.id) b.records

-- some record has the id
abbrev pub some_has_id : Text → List Record → Bool
some_has_id id records = list_any (λ r. same_text id r.item.id) records

-- the texts that the items came as, one after the other
abbrev pub sources_of : List Record → Text
sources_of records = flat_map (λ r. r.item.source) records

-- each entry of the map stands under the id of its item
abbrev pub AreKeyed : {A : Type 0} → List (String A × Record) → Type 0
AreKeyed entries = AllByRecursion (λ e. string_bytes e.0 ≡ e.1.item.id) entries

-- The buffer's records are as the rows of a segment have to be.
use Rattle.std.proofs.Common.{◌≡◌, ◌≢◌, ◌<◌, ◌≤◌, List, [], map, length, AllPairs, sym, ap, ◌∙◌, arith}
use Rattle.std.proofs.lemmas.List.{length-map, get_or-map}
use Rattle.std.proofs.lemmas.Simd.{map-map}
use Rattle.std.proofs.lemmas.List.Elements.{All-map}
use Rattle.cat_model.specs.Item.{Record, AreFields}
use Rattle.cat_model.specs.View.{Row, row_of, AreRows}
use Rattle.cat_views.specs.cat_segment.Fields.{row_record}
use Rattle.cat_views.specs.cat_segment.declared.segment.Row as given
use Rattle.cat_live_table.specs.buffer.Buffered.{Buffered, IsBuffered}

-- the rows that a segment is made of, where they are made of the records
pub rows-made : (rows items : List given.Row) (records : List Record) → rows ≡ items → map row_record items ≡ records → map (λ r. row_of (row_record r)) rows ≡ map row_of records
rows-made rows items records same made = ap (map (λ r. row_of (row_record r))) same ∙ sym (map-map row_of row_record items) ∙ ap (map row_of) made

-- pairs of rows are pairs of records
pairs-rows : (R : Row → Row → Type 0) (rs : List Record) → AllPairs (λ r s. R (row_of r) (row_of s)) rs → AllPairs R (map row_of rs)
pairs-rows R rs h i j d before within =
    let none : Record = record { number = 0; item = record { id = []; fields = []; source = [] } } in
    let in_records : j < length rs = omega (arith, within, length-map rs row_of) in
    rw (get_or-map row_of rs i none d (omega (arith, before, in_records)), get_or-map row_of rs j none d in_records) (h i j none before in_records)

pub AreRows-of : (b : Buffered) → IsBuffered b → 1 ≤ length b.records → AreRows b.schema (map row_of b.records)
AreRows-of b is some = record {
  some = omega (arith, some, length-map b.records row_of);
  few = omega (arith, is.few, length-map b.records row_of);
  fields = All-map (λ r. AreFields b.schema r.fields) row_of b.records is.items;
  positive = All-map (λ r. 1 ≤ r.number) row_of b.records is.positive;
  rising = pairs-rows (λ r s. r.number < s.number) b.records is.rising;
  distinct = pairs-rows (λ r s. r.id ≢ s.id) b.records is.distinct;
}

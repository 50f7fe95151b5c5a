-- A write keeps what always holds of the buffer.
use Rattle.std.proofs.Common.{◌≡◌, ◌≢◌, ℕ, ◌<◌, ◌≤◌, Bool, true, not, [], length, take, All, AllPairs, bytes_eq, refl, sym, arith}
use Rattle.std.proofs.lemmas.List.{length_push, length-take, get_or-take}
use Rattle.std.proofs.lemmas.List.Elements.{All-filter, All-push, All-nil, All-take, filter_passes, All-weaker}
use Rattle.std.proofs.lemmas.List.Filters.{length-filter_both}
use Rattle.std.proofs.lemmas.List.Kept.{AllPairs-filter}
use Rattle.std.proofs.lemmas.List.Quantifiers.{all_pairs_push}
use Rattle.std.proofs.lemmas.Slice.Eq.{bytes_eq-Decides}
use Rattle.cat_model.specs.Item.{Schema, Item, Record, IsItem}
use Rattle.cat_model.specs.Write.{Write, removes}
use Rattle.cat_model.specs.Table.{without, after}
use Rattle.cat_live_table.specs.buffer.Buffered.{Buffered, IsBuffered}

-- no item
pub IsBuffered-empty : (schema : Schema) → IsBuffered (record { schema = schema; records = [] })
IsBuffered-empty schema = record {
  few = omega arith;
  items = All-nil (λ r. IsItem schema r.item);
  positive = All-nil (λ r. 1 ≤ r.number);
  rising = λ i j d p q. absurd (omega arith);
  distinct = λ i j d p q. absurd (omega arith);
}

pub IsBuffered-without : (b : Buffered) (w : Write) → IsBuffered b → IsBuffered (record { schema = b.schema; records = without b.records w })
IsBuffered-without b w is =
    let stays : Record → Bool = λ r. not (removes w r.item) in
    let both = length-filter_both stays (λ r. not (stays r)) (λ r. refl) b.records in
    record {
      few = omega (arith, both, is.few);
      items = All-filter stays (λ r. IsItem b.schema r.item) b.records is.items;
      positive = All-filter stays (λ r. 1 ≤ r.number) b.records is.positive;
      rising = AllPairs-filter (λ r s. r.number < s.number) stays b.records is.rising;
      distinct = AllPairs-filter (λ r s. r.item.id ≢ s.item.id) stays b.records is.distinct;
    }

not_removed : (item : Item) (r : Record) → not (removes (Write.put item) r.item) ≡ true → r.item.id ≢ item.id
not_removed item r stays same =
    let is : bytes_eq item.id r.item.id ≡ true = (bytes_eq-Decides item.id r.item.id).1 (sym same) in
    let no : not true ≡ true = rw is at stays in cc

pub IsBuffered-put : (b : Buffered) (n : ℕ) (item : Item) → IsBuffered b → length b.records < 1024 → 1 ≤ n → All (λ r. r.number < n) b.records → IsItem b.schema item
    → IsBuffered (record { schema = b.schema; records = after b.records n (Write.put item) })
IsBuffered-put b n item is space positive newest fits =
    let w = Write.put item in
    let stays : Record → Bool = λ r. not (removes w r.item) in
    let less = IsBuffered-without b w is in
    let both = length-filter_both stays (λ r. not (stays r)) (λ r. refl) b.records in
    let last : Record = record { number = n; item = item } in
    let rest = without b.records w in
    let below : All (λ r. r.number < n) rest = All-filter stays (λ r. r.number < n) b.records newest in
    let others : All (λ r. r.item.id ≢ item.id) rest = All-weaker (λ r. stays r ≡ true) (λ r. r.item.id ≢ item.id) (not_removed item) rest (filter_passes stays b.records) in
    record {
      few = omega (arith, both, space, length_push rest last);
      items = All-push (λ r. IsItem b.schema r.item) rest last less.items fits;
      positive = All-push (λ r. 1 ≤ r.number) rest last less.positive positive;
      rising = all_pairs_push (λ r s. r.number < s.number) rest last less.rising below;
      distinct = all_pairs_push (λ r s. r.item.id ≢ s.item.id) rest last less.distinct others;
    }

-- a first part of the records may stand alone
pub IsBuffered-take : (b : Buffered) (n : ℕ) → IsBuffered b → IsBuffered (record { schema = b.schema; records = take n b.records })
IsBuffered-take b n is = record {
  few = omega (arith, is.few, length-take n b.records);
  items = All-take (λ r. IsItem b.schema r.item) n b.records is.items;
  positive = All-take (λ r. 1 ≤ r.number) n b.records is.positive;
  rising = pairs (λ r s. r.number < s.number) is.rising;
  distinct = pairs (λ r s. r.item.id ≢ s.item.id) is.distinct;
}
  where
    pairs : (R : Record → Record → Type 0) → AllPairs R b.records → AllPairs R (take n b.records)
    pairs R h i j d p q =
        let within : j < n = omega (arith, length-take n b.records, q) in
        let long : j < length b.records = omega (arith, length-take n b.records, q) in
        rw (get_or-take n b.records i d (omega (arith, p, within)), get_or-take n b.records j d within) (h i j d p long)

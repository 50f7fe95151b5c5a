-- What pages go by.
use Rattle.std.specs.declared.cmp.Ordering.{Ordering}
use Rattle.std.specs.Ordering.{ordering_reverse}
use Rattle.cat_model.specs.Item.{Record}
use Rattle.cat_model.specs.Page.{Entry, Key, Sort, key, key_cmp}
use Rattle.cat_service_tests.specs.declared.plain.pages.KeyRef.{KeyRef}
use Rattle.cat_service_tests.specs.declared.plain.pages.KeyRef.TheVariants as borrowed

-- the sort key that is borrowed
abbrev pub key_ref_of : KeyRef → Key
key_ref_of (borrowed.Number z) = Key.number z
key_ref_of (borrowed.Keyword s) = Key.keyword s.now

-- how keys compare under the sort
abbrev pub key_order : Sort → Key → Key → Ordering
key_order Sort.added = key_cmp
key_order (Sort.rising f) = key_cmp
key_order (Sort.falling f) = λ a b. ordering_reverse (key_cmp a b)

-- the record as a page shows it
abbrev pub shown_by : Sort → Record → Entry
shown_by sort r = record { number = r.number; id = r.item.id; key = key sort r }

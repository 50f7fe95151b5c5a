-- Hits, their order, and pages of them: Lucene's IndexSearcher.search with a Sort, and IndexSearcher.searchAfter. That a
-- mark is the number of any record, a hit or not, and that a missing value is last both ways, are our own.
use Rattle.std.specs.Prelude.{ℕ, ℤ, Bool, true, false, ltb, min, List, length, filter, filter_map, find, count_by, Option, Some, None, option_map, ◌&&◌, map, ◌==◌}
use Rattle.std.specs.List.{range_with_len, list_any}
use Rattle.std.specs.declared.cmp.Ordering.{Ordering}
use Rattle.std.specs.declared.cmp.Ordering.TheVariants.{Less, Equal, Greater}
use Rattle.std.specs.Ordering.{int_cmp, ordering_reverse}
use Rattle.cat_model.specs.Text.{Text, text_cmp}
use Rattle.cat_model.specs.Item.{Record, Content, content_of}
use Rattle.cat_model.specs.Query.{Query, matches}

-- in order of addition (Sort.INDEXORDER), or by a field, the least or the greatest value first (SortField)
pub data Sort : Type 0 where
  added : Sort
  rising : Text → Sort
  falling : Text → Sort

-- a sort key
pub data Key : Type 0 where
  number : ℤ → Key
  keyword : Text → Key

-- the records whose items match, in order of addition
abbrev pub hits : List Record → Query → List Record
hits rs q = filter (λ r. matches q r.item) rs

-- the sort key of what an item has in a field: a keyword or a number
abbrev pub key_in : Option Content → Option Key
key_in (Some (Content.keyword k)) = option_map Key.keyword k
key_in (Some (Content.number z)) = option_map Key.number z
key_in _ = None

-- the sort key of a record, if it has one under this sort
abbrev pub key : Sort → Record → Option Key
key Sort.added r = None
key (Sort.rising f) r = key_in (content_of f r.item)
key (Sort.falling f) r = key_in (content_of f r.item)

-- numbers compare as numbers and keywords by bytes; a field never has both
abbrev pub key_cmp : Key → Key → Ordering
key_cmp (Key.number a) (Key.number b) = int_cmp a b
key_cmp (Key.keyword a) (Key.keyword b) = text_cmp a b
key_cmp (Key.number a) (Key.keyword b) = Less
key_cmp (Key.keyword a) (Key.number b) = Greater

-- less is yes, greater is no, and a tie is as it is said
abbrev pub decided : Ordering → Bool → Bool
decided Less tie = true
decided Equal tie = tie
decided Greater tie = false

-- a value comes before none; where both or neither have one and these are equal, the tie decides
abbrev pub comes_before : (Key → Key → Ordering) → Option Key → Option Key → Bool → Bool
comes_before cmp (Some a) (Some b) tie = decided (cmp a b) tie
comes_before cmp (Some a) None tie = true
comes_before cmp None (Some b) tie = false
comes_before cmp None None tie = tie

-- the one record comes before the other: by their keys, and by their numbers where these tie
abbrev pub before : Sort → Record → Record → Bool
before Sort.added a b = ltb a.number b.number
before (Sort.rising f) a b = comes_before key_cmp (key (Sort.rising f) a) (key (Sort.rising f) b) (ltb a.number b.number)
before (Sort.falling f) a b =
    comes_before (λ x y. ordering_reverse (key_cmp x y)) (key (Sort.falling f) a) (key (Sort.falling f) b) (ltb a.number b.number)

-- the one that exactly k others come before
abbrev pub ranked : {X : Type 0} → (X → X → Bool) → List X → ℕ → Option X
ranked lt xs k = find (λ x. count_by (λ y. lt y x) xs == k) xs

-- the first n in the order
abbrev pub first_ranked : {X : Type 0} → (X → X → Bool) → List X → ℕ → List X
first_ranked lt xs n = filter_map (ranked lt xs) (range_with_len 0 (min n (length xs)))

-- a hit as it is shown
pub record Entry : Type 0 where
  pub number : ℕ
  pub id : Text
  pub key : Option Key

-- a page: how many hits there are at all, and those that are shown (TopFieldDocs)
pub record Page : Type 0 where
  pub total : ℕ
  pub entries : List Entry

-- the hits that the mark comes before, and all without a mark
abbrev pub rest : Sort → List Record → Option ℕ → List Record → List Record
rest sort rs None hs = hs
rest sort rs (Some mark) hs = filter (λ h. list_any (λ m. (m.number == mark) && before sort m h) rs) hs

-- the page of the first n hits behind the mark, with the number of all hits, whatever the mark
abbrev pub page_of : List Record → Query → Sort → Option ℕ → ℕ → Page
page_of rs q sort mark n = record {
  total = length (hits rs q);
  entries =
      map (λ h. record { number = h.number; id = h.item.id; key = key sort h }) (first_ranked (before sort) (rest sort rs mark (hits rs q)) n);
}

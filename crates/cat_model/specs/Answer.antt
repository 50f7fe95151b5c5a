-- What a read answers over a table: a page (IndexSearcher.searchAfter), counts (SortedSetDocValuesFacetCounts) or a stored
-- item (StoredFields.document). The bounds and the order of the refusals are our own.
use Rattle.std.specs.Prelude.{ℕ, Bool, true, false, ltb, List, find as first_where, Option, Some, None, IfSome, option_map, Result, Ok, Err, cond, ◌==◌}
use Rattle.std.specs.List.{list_any}
use Rattle.cat_base.specs.declared.refusal.Refusal.{Refusal}
use Rattle.cat_base.specs.declared.refusal.Refusal.TheVariants.{Count, SortField, NotFacet, Mark}
use Rattle.cat_model.specs.Text.{Text, IsOneLine, same_text}
use Rattle.cat_model.specs.Item.{Schema, Kind, kind_of, Record}
use Rattle.cat_model.specs.Query.{Query}
use Rattle.cat_model.specs.Page.{Sort, Page, hits, page_of}
use Rattle.cat_model.specs.Facets.{Facets, facets_of}
use Rattle.cat_model.specs.Limits.{page_limit}

-- A read without its token. A text that spells no query is the refusal of its fault, and so is a wrong id.
pub data Read : Type 0 where
  find : ℕ → Sort → Option ℕ → Result Query Refusal → Read
  facets : Text → ℕ → Result Query Refusal → Read
  get : Result Text Refusal → Read

-- what is answered OK to a read
pub data Found : Type 0 where
  page : Page → Found
  facets : Facets → Found
  source : Option Text → Found

-- the source of the record of this id, if there is one
abbrev pub stored : List Record → Text → Option Text
stored rs id = option_map (λ r. r.item.source) (first_where (λ r. same_text r.item.id id) rs)

-- the source, if there is one, has no line feed
abbrev pub HasNoLineFeed : Option Text → Type 0
HasNoLineFeed stored = IfSome stored IsOneLine

-- one sorts by keywords and numbers
abbrev pub is_sort_kind : Option Kind → Bool
is_sort_kind (Some Kind.keyword) = true
is_sort_kind (Some Kind.number) = true
is_sort_kind _ = false

-- one counts over facets
abbrev pub is_facet_kind : Option Kind → Bool
is_facet_kind (Some Kind.facet) = true
is_facet_kind _ = false

-- the sort is by order of addition, or by a field that can be sorted by
abbrev pub can_sort : Schema → Sort → Bool
can_sort schema Sort.added = true
can_sort schema (Sort.rising f) = is_sort_kind (kind_of schema f)
can_sort schema (Sort.falling f) = is_sort_kind (kind_of schema f)

-- the mark is the number of some record, or there is none
abbrev pub has_mark : List Record → Option ℕ → Bool
has_mark rs None = true
has_mark rs (Some mark) = list_any (λ r. r.number == mark) rs

-- the refusal that the read's own text deserves, its query or its id, which is told before a token is looked at
abbrev pub query_refusal : Read → Option Refusal
query_refusal (Read.find n sort mark (Err e)) = Some e
query_refusal (Read.facets dim n (Err e)) = Some e
query_refusal (Read.get (Err e)) = Some e
query_refusal _ = None

-- the answer to a read: the refusal of its text comes first, then of a page the count, the sort field and the mark are looked at, in this
-- order, and of counts the dimension and the count
abbrev pub answer : Schema → List Record → Read → Result Found Refusal
answer schema rs (Read.find n sort mark (Err e)) = Err e
answer schema rs (Read.find n sort mark (Ok q)) =
    cond (ltb page_limit n)
    (Err Count)
    (cond (can_sort schema sort) (cond (has_mark rs mark) (Ok (Found.page (page_of rs q sort mark n))) (Err Mark)) (Err SortField))
answer schema rs (Read.facets dim n (Err e)) = Err e
answer schema rs (Read.facets dim n (Ok q)) =
    cond (is_facet_kind (kind_of schema dim))
    (cond (ltb page_limit n) (Err Count) (Ok (Found.facets (facets_of (hits rs q) dim n))))
    (Err NotFacet)
answer schema rs (Read.get (Err e)) = Err e
answer schema rs (Read.get (Ok id)) = Ok (Found.source (stored rs id))

-- The rows of a segment as hits, by the column of the sort's field.
use Rattle.std.proofs.Common.{◌≡◌, ℕ, zero, suc, ◌<◌, List, [], ◌∷◌, length, map, get_or, Option, Some, None, option_map, find, ◌==◌, true, slice_get, refl, sym, ap, ◌∙◌, arith}
use Rattle.std.specs.Prelude.{replicate, MatchOption}
use Rattle.std.specs.Borrow.{Bor}
use Rattle.std.specs.List.{HoldsAt}
use Rattle.std.proofs.lemmas.List.{length-map}
use Rattle.cat_model.specs.Answer.{has_mark}
use Rattle.cat_model.specs.Item.{Content, content_of}
use Rattle.cat_model.specs.Page.{Sort, Key, key, key_in}
use Rattle.cat_model.specs.Text.{Text}
use Rattle.cat_model.specs.View.{Row, item_in}
use Rattle.cat_views.specs.cat_segment.Contents.{contents_of}
use Rattle.cat_views.specs.cat_segment.declared.column.Column.{Column}
use Rattle.cat_search.specs.declared.sort.Order.{Order}
use Rattle.cat_search.specs.Standings.{HitStanding}
use Rattle.cat_search.specs.Pages.{rank_with}
use Rattle.cat_search.specs.Sorts.{sort_in}
use Rattle.cat_search.specs.Rows.{bare_record, keys_by, mark_in_rows, row_standing, keyed_standings}
use Rattle.cat_search.proofs.Defined.{map_map}
use Rattle.cat_search.proofs.Marks.{has}

-- the keys that rows have in the field of the name
abbrev pub keys_in : Text → List Row → List (Option Key)
keys_in name rows = map (λ r. key_in (content_of name (item_in r))) rows

keyed : (name : Text) (rows : List Row) → map key_in (map (λ r. content_of name (item_in r)) rows) ≡ keys_in name rows
keyed name rows = map_map key_in (λ r. content_of name (item_in r)) (λ r. key_in (content_of name (item_in r))) (λ r. refl) rows

none_mapped : (n : ℕ) → map key_in (replicate n None) ≡ replicate n None
none_mapped zero = refl
none_mapped (suc n) = ap (λ ks. None ∷ ks) (none_mapped n)

-- where no segment has the field, its rows have no keys
no_column : (name : Text) (rows : List Row) → map (λ r. content_of name (item_in r)) rows ≡ replicate (length rows) None → keys_by None (length rows) ≡ keys_in name rows
no_column name rows e = sym (none_mapped (length rows)) ∙ ap (map key_in) (sym e) ∙ keyed name rows

some_column : (name : Text) (rows : List Row) (column : Bor Column) → map (λ x. Some x) (contents_of column.now) ≡ map (λ r. content_of name (item_in r)) rows → keys_by (Some column) (length rows) ≡ keys_in name rows
some_column name rows column e = sym (map_map key_in (λ x. Some x) (λ x. key_in (Some x)) (λ x. refl) (contents_of column.now)) ∙ ap (map key_in) e ∙ keyed name rows

pub column_keys : (name : Text) (rows : List Row) (o : Option (Bor Column))
    → MatchOption o (map (λ r. content_of name (item_in r)) rows ≡ replicate (length rows) None) (λ c. map (λ x. Some x) (contents_of c.now) ≡ map (λ r. content_of name (item_in r)) rows)
    → keys_by o (length rows) ≡ keys_in name rows
column_keys name rows None h = no_column name rows h
column_keys name rows (Some c) h = some_column name rows c h

pub no_keys : (rows : List Row) → replicate (length rows) None ≡ map (λ r. key Sort.added (bare_record r)) rows
no_keys [] = refl
no_keys (r ∷ rows) = ap (λ ks. None ∷ ks) (no_keys rows)

-- ---- standings

pub standings-by_keys : (o : Order) (rows : List Row) → keyed_standings o (map (λ r. key (sort_in o) (bare_record r)) rows) rows ≡ map (row_standing o) rows
standings-by_keys o [] = refl
standings-by_keys o (r ∷ rows) = ap (λ ps. row_standing o r ∷ ps) (standings-by_keys o rows)

pub length-standings : (o : Order) (ks : List (Option Key)) (rows : List Row) → length ks ≡ length rows → length (keyed_standings o ks rows) ≡ length rows
length-standings o [] [] e = refl
length-standings o [] (r ∷ rows) e = absurd (omega arith)
length-standings o (k ∷ ks) [] e = absurd (omega arith)
length-standings o (k ∷ ks) (r ∷ rows) e = let h : length (keyed_standings o ks rows) ≡ length rows = length-standings o ks rows (omega arith) in omega (arith, h)

pub keyed-at : (o : Order) (ks : List (Option Key)) (rows : List Row) (i : ℕ) (d : HitStanding) (k : Option Key) (number : ℕ) (id : Text) → length ks ≡ length rows → i < length rows
    → get_or ks i None ≡ k → HoldsAt (λ r. r.number ≡ number) rows i → HoldsAt (λ r. r.id ≡ id) rows i
    → ◌≡◌ {A = HitStanding} (record { rank = rank_with o k; number = number; id = id }) (get_or (keyed_standings o ks rows) i d)
keyed-at o [] [] i d k number id e h at n t = absurd (omega arith)
keyed-at o [] (r ∷ rows) i d k number id e h at n t = absurd (omega arith)
keyed-at o (x ∷ ks) [] i d k number id e h at n t = absurd (omega arith)
keyed-at o (x ∷ ks) (r ∷ rows) zero d k number id e h at n t =
    let numbered : r.number ≡ number = n r in
    let named : r.id ≡ id = t r in
    λ j. record { rank = rank_with o ((sym at) j); number = (sym numbered) j; id = (sym named) j }
keyed-at o (x ∷ ks) (r ∷ rows) (suc i) d k number id e h at n t = keyed-at o ks rows i d k number id (omega arith) (omega arith) at n t

-- ---- keys

pub key-at : (column : Bor Column) (rows i : ℕ) → i < length (contents_of column.now) → get_or (keys_by (Some column) rows) i None ≡ key_in (slice_get (contents_of column.now) i)
key-at column rows i h = of_list (contents_of column.now) i
  where
    of_list : (xs : List Content) (k : ℕ) → get_or (map (λ x. key_in (Some x)) xs) k None ≡ key_in (slice_get xs k)
    of_list [] k = refl
    of_list (x ∷ xs) zero = refl
    of_list (x ∷ xs) (suc k) = of_list xs k

pub no_key-at : (rows i : ℕ) → ◌≡◌ {A = Option Key} (get_or (replicate rows None) i None) None
no_key-at zero i = refl
no_key-at (suc n) zero = refl
no_key-at (suc n) (suc i) = no_key-at n i

-- how many keys a column has
pub length-keys : (column : Bor Column) (rows : ℕ) → length (keys_by (Some column) rows) ≡ length (contents_of column.now)
length-keys column rows = length-map (contents_of column.now) (λ x. key_in (Some x))

-- nothing in a text or facet field is a key
pub no_key_in_words : (xs : List (List Text)) (i : ℕ) → ◌≡◌ {A = Option Key} None (key_in (slice_get (map Content.words xs) i))
no_key_in_words [] i = refl
no_key_in_words (x ∷ xs) zero = refl
no_key_in_words (x ∷ xs) (suc i) = no_key_in_words xs i

pub no_key_in_labels : (xs : List (List Text)) (i : ℕ) → ◌≡◌ {A = Option Key} None (key_in (slice_get (map Content.labels xs) i))
no_key_in_labels [] i = refl
no_key_in_labels (x ∷ xs) zero = refl
no_key_in_labels (x ∷ xs) (suc i) = no_key_in_labels xs i

-- ---- the row of the mark

none : Row
none = record { number = 0; id = []; fields = []; length = 0 }

pub found_mark : (o : Order) (rows : List Row) (mark : Option ℕ) (number : ℕ) → mark ≡ Some number
    → (ps : List HitStanding) (here : List Row) (i : ℕ) (p : HitStanding) → ps ≡ map (row_standing o) here
    → (i < length here) × HoldsAt (λ r. find (λ t. t.number == number) rows ≡ Some r) here i → HoldsAt (λ q. p ≡ q) ps i
    → (Some p ≡ mark_in_rows o rows mark) × (has_mark (map bare_record rows) mark ≡ true)
found_mark o rows mark number is ps here i p e h at =
    let there : find (λ t. t.number == number) rows ≡ Some (get_or here i none) = h.1 none in
    let standing : p ≡ row_standing o (get_or here i none) = at (row_standing o none) ∙ ap (λ qs. get_or qs i (row_standing o none)) e ∙ get_or-map (row_standing o) here i none h.0 in
    (ap Some standing ∙ sym (ap (mark_in_rows o rows) is ∙ ap (option_map (row_standing o)) there), has bare_record rows mark number is (Some (get_or here i none)) there)
  where
    get_or-map : {X Y : Type 0} (f : X → Y) (xs : List X) (k : ℕ) (d : X) → k < length xs → get_or (map f xs) k (f d) ≡ f (get_or xs k d)
    get_or-map f [] k d q = absurd (omega arith)
    get_or-map f (x ∷ xs) zero d q = refl
    get_or-map f (x ∷ xs) (suc k) d q = get_or-map f xs k d (omega arith)

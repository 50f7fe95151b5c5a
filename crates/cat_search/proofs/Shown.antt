-- An answer to a FIND asks for no source, so over the records that a view shows it is the answer over its bare_record rows.
use Rattle.std.proofs.Common.{◌≡◌, ℕ, min, List, [], ◌∷◌, length, map, filter, Bool, cond, ltb, Option, Some, None, option_map, find, ◌&&◌, ◌||◌, ◌==◌, Ok, Err, refl, sym, ap, ◌∙◌}
use Rattle.std.specs.Prelude.{filter_map, count_by, replicate}
use Rattle.std.specs.List.{list_any, cons_option, range_with_len}
use Rattle.std.proofs.lemmas.List.{length-map, length-replicate}
use Rattle.std.proofs.lemmas.List.Sums.{length-filter}
use Rattle.cat_base.specs.declared.refusal.Refusal.TheVariants.{Count, SortField, Mark}
use Rattle.cat_model.specs.Answer.{Read, Found, answer, can_sort, has_mark}
use Rattle.cat_model.specs.Item.{Item, Record, Schema}
use Rattle.cat_model.specs.Page.{Sort, Entry, key, hits, before, ranked, first_ranked, rest, page_of}
use Rattle.cat_model.specs.Query.{Query, Primary, obeys, supports, obeyed, supported, primary_matches, matches}
use Rattle.cat_model.specs.View.{Row, View, Shows, row_of, rows_in}
use Rattle.cat_search.specs.Views.{ViewsShowRecords}
use Rattle.cat_search.specs.Rows.{bare_record}
use Rattle.cat_search.proofs.Defined.{filter-map, map_map}
use Rattle.cat_search.proofs.Marks.{find-map}

-- the item, and the record, without the source
abbrev stripped : Item → Item
stripped i = record { id = i.id; fields = i.fields; source = [] }

abbrev strip : Record → Record
strip r = record { number = r.number; item = stripped r.item }

-- ---- no query asks for the source

mutual
  obeyed_alike : (q : Query) (i : Item) → obeyed q (stripped i) ≡ obeyed q i
  obeyed_alike Query.no_clause i = refl
  obeyed_alike (Query.clause s p q) i = ap (λ b. obeys s b && obeyed q (stripped i)) (primary_alike p i) ∙ ap (λ b. obeys s (primary_matches p i) && b) (obeyed_alike q i)

  supported_alike : (q : Query) (i : Item) → supported q (stripped i) ≡ supported q i
  supported_alike Query.no_clause i = refl
  supported_alike (Query.clause s p q) i = ap (λ b. supports s b || supported q (stripped i)) (primary_alike p i) ∙ ap (λ b. supports s (primary_matches p i) || b) (supported_alike q i)

  primary_alike : (p : Primary) (i : Item) → primary_matches p (stripped i) ≡ primary_matches p i
  primary_alike Primary.everything i = refl
  primary_alike (Primary.word f w) i = refl
  primary_alike (Primary.word_prefix f p) i = refl
  primary_alike (Primary.keyword f k) i = refl
  primary_alike (Primary.keyword_prefix f p) i = refl
  primary_alike (Primary.keyword_range f low high) i = refl
  primary_alike (Primary.number f n) i = refl
  primary_alike (Primary.number_range f low high) i = refl
  primary_alike (Primary.label f l) i = refl
  primary_alike (Primary.label_prefix f p) i = refl
  primary_alike (Primary.group q) i = ap (λ b. b && supported q (stripped i)) (obeyed_alike q i) ∙ ap (λ b. obeyed q i && b) (supported_alike q i)

matches_alike : (q : Query) (i : Item) → matches q (stripped i) ≡ matches q i
matches_alike q i = ap (λ b. b && supported q (stripped i)) (obeyed_alike q i) ∙ ap (λ b. obeyed q i && b) (supported_alike q i)

hits_alike : (rs : List Record) (q : Query) → hits (map strip rs) q ≡ map strip (hits rs q)
hits_alike rs q = filter-map (λ r. matches q r.item) strip rs ∙ ap (λ p. map strip (filter p rs)) (λ i r. matches_alike q r.item i)

-- ---- nor does a sort

before_alike : (s : Sort) (a b : Record) → before s (strip a) (strip b) ≡ before s a b
before_alike Sort.added a b = refl
before_alike (Sort.rising f) a b = refl
before_alike (Sort.falling f) a b = refl

key_alike : (s : Sort) (r : Record) → key s (strip r) ≡ key s r
key_alike Sort.added r = refl
key_alike (Sort.rising f) r = refl
key_alike (Sort.falling f) r = refl

any-map : {X Y : Type 0} (p : Y → Bool) (f : X → Y) (xs : List X) → list_any p (map f xs) ≡ list_any (λ x. p (f x)) xs
any-map p f [] = refl
any-map p f (x ∷ xs) = ap (λ b. p (f x) || b) (any-map p f xs)

count-map : {X Y : Type 0} (p : Y → Bool) (f : X → Y) (xs : List X) → count_by p (map f xs) ≡ count_by (λ x. p (f x)) xs
count-map p f xs = sym (length-filter p (map f xs)) ∙ ap length (filter-map p f xs) ∙ length-map (filter (λ x. p (f x)) xs) f ∙ length-filter (λ x. p (f x)) xs

each_found : {X Y : Type 0} (f : X → Y) (g : ℕ → Option X) (ks : List ℕ) → filter_map (λ k. option_map f (g k)) ks ≡ map f (filter_map g ks)
each_found f g [] = refl
each_found {X} {Y} f g (k ∷ ks) =
    elim (g k) as (λ o. cons_option (option_map f o) (filter_map (λ j. option_map f (g j)) ks) ≡ map f (cons_option o (filter_map g ks))) [
      | None ↦ each_found f g ks
      | Some x ↦ ap (λ ys. f x ∷ ys) (each_found f g ks)
    ]

ranked_alike : (s : Sort) (rs : List Record) (k : ℕ) → ranked (before s) (map strip rs) k ≡ option_map strip (ranked (before s) rs k)
ranked_alike s rs k =
    find-map (λ x. count_by (λ y. before s y x) (map strip rs) == k) strip rs
    ∙ ap (λ p. option_map strip (find p rs)) (λ i x. (count-map (λ y. before s y (strip x)) strip rs ∙ ap (λ p. count_by p rs) (λ j y. before_alike s y x j)) i == k)

first_alike : (s : Sort) (rs : List Record) (n : ℕ) → first_ranked (before s) (map strip rs) n ≡ map strip (first_ranked (before s) rs n)
first_alike s rs n =
    ap (λ m. filter_map (ranked (before s) (map strip rs)) (range_with_len 0 (min n m))) (length-map rs strip)
    ∙ ap (λ g. filter_map g (range_with_len 0 (min n (length rs)))) (λ i k. ranked_alike s rs k i)
    ∙ each_found strip (ranked (before s) rs) (range_with_len 0 (min n (length rs)))

rest_alike : (s : Sort) (rs : List Record) (m : Option ℕ) (hs : List Record) → rest s (map strip rs) m (map strip hs) ≡ map strip (rest s rs m hs)
rest_alike s rs None hs = refl
rest_alike s rs (Some mark) hs =
    filter-map (λ h. list_any (λ r. (r.number == mark) && before s r h) (map strip rs)) strip hs
    ∙ ap (λ p. map strip (filter p hs)) (λ i h. (any-map (λ r. (r.number == mark) && before s r (strip h)) strip rs ∙ ap (λ p. list_any p rs) (λ j r. (r.number == mark) && before_alike s r h j)) i)

abbrev entry : Sort → Record → Entry
entry s h = record { number = h.number; id = h.item.id; key = key s h }

entry_alike : (s : Sort) (h : Record) → entry s (strip h) ≡ entry s h
entry_alike s h = ap (λ k. record { number = h.number; id = h.item.id; key = k }) (key_alike s h)

page_alike : (rs : List Record) (q : Query) (s : Sort) (m : Option ℕ) (n : ℕ) → page_of (map strip rs) q s m n ≡ page_of rs q s m n
page_alike rs q s m n =
    let total : length (hits (map strip rs) q) ≡ length (hits rs q) = ap length (hits_alike rs q) ∙ length-map (hits rs q) strip in
    let entries : map (entry s) (first_ranked (before s) (rest s (map strip rs) m (hits (map strip rs) q)) n) ≡ map (entry s) (first_ranked (before s) (rest s rs m (hits rs q)) n) =
    ap (λ hs. map (entry s) (first_ranked (before s) (rest s (map strip rs) m hs) n)) (hits_alike rs q)
    ∙ ap (λ hs. map (entry s) (first_ranked (before s) hs n)) (rest_alike s rs m (hits rs q))
    ∙ ap (map (entry s)) (first_alike s (rest s rs m (hits rs q)) n)
    ∙ map_map (entry s) strip (entry s) (entry_alike s) (first_ranked (before s) (rest s rs m (hits rs q)) n) in
    λ i. record { total = total i; entries = entries i }

marks_alike : (rs : List Record) (m : Option ℕ) → has_mark (map strip rs) m ≡ has_mark rs m
marks_alike rs None = refl
marks_alike rs (Some mark) = any-map (λ r. r.number == mark) strip rs

answer_alike : (schema : Schema) (rs : List Record) (q : Query) (s : Sort) (m : Option ℕ) (n : ℕ) → answer schema (map strip rs) (Read.find n s m (Ok q)) ≡ answer schema rs (Read.find n s m (Ok q))
answer_alike schema rs q s m n =
    ap (λ p. cond (ltb 1000 n) (Err Count) (cond (can_sort schema s) (cond (has_mark (map strip rs) m) (Ok (Found.page p)) (Err Mark)) (Err SortField))) (page_alike rs q s m n)
    ∙ ap (λ b. cond (ltb 1000 n) (Err Count) (cond (can_sort schema s) (cond b (Ok (Found.page (page_of rs q s m n))) (Err Mark)) (Err SortField))) (marks_alike rs m)

pub answers_shown : (view : View) (q : Query) (s : Sort) (m : Option ℕ) (n : ℕ) (rs : List Record) → Shows view rs
    → answer view.schema rs (Read.find n s m (Ok q)) ≡ answer view.schema (map bare_record (rows_in view)) (Read.find n s m (Ok q))
answers_shown view q s m n rs shows =
    let rows : map strip rs ≡ map bare_record (rows_in view) = sym (map_map bare_record row_of strip (λ r. refl) rs) ∙ ap (map bare_record) shows in
    sym (answer_alike view.schema rs q s m n) ∙ ap (λ ts. answer view.schema ts (Read.find n s m (Ok q))) rows

-- ---- records with these rows

recorded : Row → Record
recorded row = record { number = row.number; item = record { id = row.id; fields = row.fields; source = replicate row.length 0 } }

rows-recorded : (rows : List Row) → map row_of (map recorded rows) ≡ rows
unfolding recorded
rows-recorded [] = refl
rows-recorded (row ∷ rows) =
    ap (λ n. record { number = row.number; id = row.id; fields = row.fields; length = n } ∷ map row_of (map recorded rows)) (length-replicate row.length 0)
    ∙ ap (λ rs. row ∷ rs) (rows-recorded rows)

pub views_show_records : ViewsShowRecords
views_show_records view = (map recorded (rows_in view), rows-recorded (rows_in view))

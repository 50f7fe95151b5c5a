-- What the columns of a segment say of its rows.
use Rattle.std.proofs.Common.{◌≡◌, ◌+◌, ◌<◌, ◌≤◌, ℕ, suc, Bor, List, [], ◌∷◌, length, map, replicate, nat_lt, Bool, true, false, cond, not, Option, Some, None, refl, sym, ap, ◌∙◌, arith}
use Rattle.std.specs.Prelude.{◌≢◌, option_map, slice_get, slice_index_or, find, All, IfSome, MatchOption}
use Rattle.std.specs.List.{prefix_len, position, HoldsAt, range_with_len}
use Rattle.std.proofs.lemmas.Bool.Decides.{nat_tests}
use Rattle.std.proofs.lemmas.Option.{cond_some, none-some, slice_get_past, slice_get_read}
use Rattle.std.proofs.lemmas.List.{length-map, length-replicate, get_or-map, get_or-replicate}
use Rattle.std.proofs.lemmas.List.FromFn.{length-map-range_with_len, fill_by_all}
use Rattle.std.proofs.lemmas.Simd.{map-map}
use Rattle.cat_model.specs.Text.{Text, same_text}
use Rattle.cat_model.specs.Item.{Content, Schema, content_of}
use Rattle.cat_model.specs.View.{Row, item_in}
use Rattle.cat_segment.specs.declared.column.Column.{Column}
use Rattle.cat_segment.specs.Contents.{contents_of}
use Rattle.cat_segment.specs.Body.{column_content_at, row_fields_at, Body, row_at, rows_of, IsBody}

pub length-rows_of : (body : Body) → length (rows_of body) ≡ length body.numbers
length-rows_of body = length-map-range_with_len (row_at body) 0 (length body.numbers)

pub row_within : (body : Body) (row : ℕ) → row < length (rows_of body) → row < length body.numbers
row_within body row lt = omega (arith, length-rows_of body)

-- a field that each row of a segment has
pub map-rows_of : {X : Type 0} (f : Row → X) (body : Body) → map f (rows_of body) ≡ map (λ k. f (row_at body k)) (range_with_len 0 (length body.numbers))
map-rows_of f body = map-map f (row_at body) (range_with_len 0 (length body.numbers))

-- the part of a name is the column of that name's first field
part_named : (name : Text) (fs : Schema) (cs : List Column) (row : ℕ) → length cs ≡ length fs
    → option_map (λ c. column_content_at c row) (slice_get cs (prefix_len (λ f. not (same_text f.name name)) fs)) ≡ option_map (λ p. p.content) (find (λ p. same_text p.name name) (row_fields_at fs cs row))
part_named name [] [] row e = refl
part_named name [] (c ∷ cs) row e = absurd (omega arith)
part_named name (f ∷ fs) [] row e = absurd (omega arith)
part_named name (f ∷ fs) (c ∷ cs) row e = at (same_text f.name name) (part_named name fs cs row (omega arith))
  where
    at : (b : Bool) → option_map (λ c. column_content_at c row) (slice_get cs (prefix_len (λ f. not (same_text f.name name)) fs)) ≡ option_map (λ p. p.content) (find (λ p. same_text p.name name) (row_fields_at fs cs row))
        → option_map (λ c. column_content_at c row) (slice_get (c ∷ cs) (cond (not b) (1 + prefix_len (λ f. not (same_text f.name name)) fs) 0))
        ≡ option_map (λ p. p.content) (cond b (Some (record { name = f.name; content = column_content_at c row })) (find (λ p. same_text p.name name) (row_fields_at fs cs row)))
    at true h = refl
    at false h = let e : 1 + prefix_len (λ f. not (same_text f.name name)) fs ≡ suc (prefix_len (λ f. not (same_text f.name name)) fs) = omega arith in rw e h

-- where no field has the name, the count of those before it is of all
no_place : (n len : ℕ) → None ≡ cond (nat_lt n len) (Some n) None → len ≤ n
no_place n len e = at (nat_lt n len) refl
  where
    at : (b : Bool) → nat_lt n len ≡ b → len ≤ n
    at true is = absurd (none-some n (e ∙ ap (λ b. cond b (Some n) None) is))
    at false is = grind (arith, nat_tests, is)

-- the place of the first field of the name is the count of those before it
pub placed_at : (name : Text) (fs : Schema) (index : ℕ) → Some index ≡ position (λ f. same_text f.name name) fs → index ≡ prefix_len (λ f. not (same_text f.name name)) fs
placed_at name fs index e = sym (cond_some (nat_lt (prefix_len (λ f. not (same_text f.name name)) fs) (length fs)) (prefix_len (λ f. not (same_text f.name name)) fs) index (sym e)).1

module _ (body : Body) (is : IsBody body) (name : Text) (index : ℕ) (found : index ≡ prefix_len (λ f. not (same_text f.name name)) body.schema) where
  abbrev content_in : Row → Option Content
  content_in r = content_of name (item_in r)

  in_row : (k : ℕ) → content_of name (item_in (row_at body k)) ≡ option_map (λ c. column_content_at c k) (slice_get body.columns index)
  in_row k = sym (ap (λ i. option_map (λ c. column_content_at c k) (slice_get body.columns i)) found ∙ part_named name body.schema body.columns k is.columns)

  -- what `columns.get` answers is the column of the name
  pub column_named : (r : Option (Bor Column)) → MatchOption r (length body.columns ≤ index) (λ x. (index < length body.columns) × HoldsAt (λ y. x.now ≡ y) body.columns index)
      → MatchOption r (map (λ r. content_of name (item_in r)) (rows_of body) ≡ replicate (length (rows_of body)) None)
      (λ c. map (λ x. Some x) (contents_of c.now) ≡ map (λ r. content_of name (item_in r)) (rows_of body))
  column_named None past =
      map-rows_of content_in body
      ∙ sym (fill_by_all (λ k. content_in (row_at body k)) (replicate (length (rows_of body)) None) (length body.numbers) None
      (length-replicate (length (rows_of body)) None ∙ length-rows_of body)
      (λ k lt. get_or-replicate (length (rows_of body)) k None None (omega (arith, length-rows_of body)) ∙ sym (in_row k ∙ ap (option_map (λ c. column_content_at c k)) (slice_get_past body.columns index past))))
  column_named (Some c) here =
      let long = is.contents index c.now here.0 in
      let len = ap (λ d. length (contents_of d)) (here.1 c.now) ∙ long in
      fill_by_all (λ k. content_in (row_at body k)) (map (λ x. Some x) (contents_of c.now)) (length body.numbers) None
      (length-map (contents_of c.now) (λ x. Some x) ∙ len)
      (λ k lt. get_or-map (λ x. Some x) (contents_of c.now) k (Content.words []) None (omega (arith, len)) ∙ sym (in_row k ∙ ap (option_map (λ c. column_content_at c k)) (slice_get_read body.columns (length body.columns) index c.now refl here.0 (here.1 c.now))))
      ∙ sym (map-rows_of content_in body)

pub numbers_are : (body : Body) → map (λ r. r.number) (rows_of body) ≡ body.numbers
numbers_are body = map-rows_of (λ r. r.number) body ∙ sym (fill_by_all (λ k. slice_index_or body.numbers k 0) body.numbers (length body.numbers) 0 refl (λ k lt. refl))

-- no row has a part of a name that no field has
pub column_missing : (body : Body) (is : IsBody body) (name : Text) → None ≡ position (λ f. same_text f.name name) body.schema
    → map (λ r. content_of name (item_in r)) (rows_of body) ≡ replicate (length (rows_of body)) None
column_missing body is name e =
    let past = no_place (prefix_len (λ f. not (same_text f.name name)) body.schema) (length body.schema) e in
    column_named body is name _ refl None (rw is.columns past)

module _ (body : Body) (is : IsBody body) where
  pub ids_are : map (λ r. r.id) (rows_of body) ≡ body.ids
  ids_are = map-rows_of (λ r. r.id) body ∙ sym (fill_by_all (λ k. slice_index_or body.ids k []) body.ids (length body.numbers) [] is.ids (λ k lt. refl))

  pub lengths_are : map (λ r. r.length) (rows_of body) ≡ body.lengths
  lengths_are = map-rows_of (λ r. r.length) body ∙ sym (fill_by_all (λ k. slice_index_or body.lengths k 0) body.lengths (length body.numbers) 0 is.lengths (λ k lt. refl))

-- the row of an id among the ids is the row of that id
pub row_named : (rows : List Row) (id : Text) (found : Option ℕ) → MatchOption found (All (λ i. i ≢ id) (map (λ r. r.id) rows)) (λ row. HoldsAt (λ i. i ≡ id) (map (λ r. r.id) rows) row)
    → IfSome found (λ row. row < length rows) → MatchOption found (All (λ r. r.id ≢ id) rows) (λ row. HoldsAt (λ r. r.id ≡ id) rows row)
row_named rows id None absent within = λ k d lt same. absent k [] (omega (arith, length-map rows (λ r. r.id))) (get_or-map (λ r. r.id) rows k d [] lt ∙ same)
row_named rows id (Some row) here within = λ d. sym (get_or-map (λ r. r.id) rows row d [] within) ∙ here []

-- no row has an id that leads to this number, where no id does
pub none_hashed : (rows : List Row) (hash_of : Text → ℕ) (hash : ℕ) → All (λ i. hash_of i ≢ hash) (map (λ r. r.id) rows) → All (λ r. hash_of r.id ≢ hash) rows
none_hashed rows hash_of hash absent = λ k d lt same.
    absent k [] (omega (arith, length-map rows (λ r. r.id))) (ap hash_of (get_or-map (λ r. r.id) rows k d [] lt) ∙ same)

-- What is noted once live rows have come to other places.
use Rattle.std.proofs.Common.{◌≡◌, ◌≢◌, List, [], ◌∷◌, ◌++◌, map, false, cond, Option, Some, None, inl, inr, refl, sym, ap, ◌∙◌, subst, append_assoc}
use Rattle.std.specs.List.{AllByRecursion}
use Rattle.std.proofs.lemmas.Bool.{cases_Bool}
use Rattle.std.proofs.lemmas.List.{map-append}
use Rattle.cat_model.specs.Text.{Text, same_text}
use Rattle.cat_model.specs.View.{Row}
use Rattle.cat_model.proofs.Places.{EachPair}
use Rattle.cat_live_table.specs.declared.current.places.Place.{Place}
use Rattle.cat_live_table.specs.current.Places.{PlacedRow, PlacedId, place_in, placed_id_of, moved_at, moved_in_turn}
use Rattle.cat_live_table.proofs.current.Standing.{is_same, differ_text, same_sym, the_row, the_rows, All-from_map, earlier}

abbrev Apart : Row → Row → Type 0
Apart a b = a.id ≢ b.id

one_moved : (ss : List PlacedRow) (w t : PlacedRow) (zs : List PlacedRow) (id : Text) → w.row ≡ t.row → AllByRecursion (λ s. s.row.id ≢ t.row.id) ss
    → moved_at (placed_id_of t) id (place_in (ss ++ w ∷ zs) id) ≡ place_in (ss ++ t ∷ zs) id
one_moved [] w t zs id e a =
    let has : same_text id w.row.id ≡ same_text id t.row.id = ap (λ (r : Row). same_text id r.id) e in
    rw (has, same_sym t.row.id id) (elim (cases_Bool (same_text id t.row.id)) [
      | inl k ↦ rw k refl
      | inr k ↦ rw k refl
    ])
one_moved (s ∷ ss) w t zs id e a = elim (cases_Bool (same_text id s.row.id)) [
  | inl k ↦
      let other : same_text t.row.id id ≡ false = differ_text t.row.id id (λ q. a.0 (sym (is_same id s.row.id k) ∙ sym q)) in
      rw (k, other) refl
  | inr k ↦ rw k (one_moved ss w t zs id e a.1)
]

-- these rows stand elsewhere, one for one
pub all_moved : (xs ws ts zs : List PlacedRow) (id : Text) → the_rows ws ≡ the_rows ts → EachPair Apart (the_rows xs ++ the_rows ts)
    → moved_in_turn (map placed_id_of ts) id (place_in (xs ++ (ws ++ zs)) id) ≡ place_in (xs ++ (ts ++ zs)) id
all_moved xs [] [] zs id e d = refl
all_moved xs [] (t ∷ ts) zs id e d = let no : [] ≡ t.row ∷ the_rows ts = e in cc
all_moved xs (w ∷ ws) [] zs id e d = let no : w.row ∷ the_rows ws ≡ [] = e in cc
all_moved xs (w ∷ ws) (t ∷ ts) zs id e d =
    let both : w.row ∷ the_rows ws ≡ t.row ∷ the_rows ts = e in
    let row : w.row ≡ t.row = cc in
    let rest : the_rows ws ≡ the_rows ts = cc in
    let apart : AllByRecursion (λ s. s.row.id ≢ t.row.id) xs = All-from_map the_row (λ r. r.id ≢ t.row.id) xs (earlier Apart (the_rows xs) t.row (the_rows ts) d) in
    let assoc : (ys : List PlacedRow) → (xs ++ t ∷ []) ++ ys ≡ xs ++ t ∷ ys = append_assoc xs (t ∷ []) in
    let rows : the_rows xs ++ (t.row ∷ the_rows ts) ≡ the_rows (xs ++ t ∷ []) ++ the_rows ts =
    sym (append_assoc (the_rows xs) (t.row ∷ []) (the_rows ts)) ∙ ap (λ l. l ++ the_rows ts) (sym (map-append the_row xs (t ∷ []))) in
    ap (moved_in_turn (map placed_id_of ts) id) (one_moved xs w t (ws ++ zs) id row apart ∙ ap (λ l. place_in l id) (sym (assoc (ws ++ zs))))
    ∙ all_moved (xs ++ t ∷ []) ws ts zs id rest (subst (EachPair Apart) rows d)
    ∙ ap (λ l. place_in l id) (assoc (ts ++ zs))

-- the place of one id is written over, where it has one
pub written_over : (k : PlacedId) (q : Text) (old new here : Option Place) (noted : Place) → here ≡ Some noted → (k.id ≡ q → old ≡ here)
    → new ≡ cond (same_text k.id q) (Some k.place) old → new ≡ moved_at k q old
written_over k q old new here noted there same is = elim (cases_Bool (same_text k.id q)) [
  | inl t ↦
      let found : old ≡ Some noted = same (is_same k.id q t) ∙ there in
      is ∙ rw (t, found) refl
  | inr f ↦ is ∙ rw f refl
]

-- and nothing changes where it has none
pub none_over : (k : PlacedId) (q : Text) (old here : Option Place) → here ≡ None → (k.id ≡ q → old ≡ here) → old ≡ moved_at k q old
none_over k q old here none same = elim (cases_Bool (same_text k.id q)) [
  | inl t ↦
      let found : old ≡ None = same (is_same k.id q t) ∙ none in
      rw (t, found) refl
  | inr f ↦ rw f refl
]

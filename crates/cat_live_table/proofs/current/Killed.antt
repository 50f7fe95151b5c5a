-- The row that a place names is the one that a delete of its id takes out.
use Rattle.std.proofs.Common.{◌≡◌, ◌≢◌, ℕ, zero, suc, ◌+◌, ◌<◌, ◌≤◌, List, [], ◌∷◌, ◌++◌, length, set, get_or, Bool, true, false, Option, Some, None, option_map, ◌⊎◌, inl, inr, refl, sym, ap, ap₂, ◌∙◌, subst, arith}
use Rattle.std.specs.List.{AllByRecursion, flat_map}
use Rattle.std.specs.Option.{option_or}
use Rattle.std.proofs.lemmas.Bool.{cases_Bool, ne_eqb, eq-eqb}
use Rattle.cat_model.specs.Text.{Text, same_text}
use Rattle.cat_model.specs.Write.{Write}
use Rattle.cat_model.specs.View.{Row, Leaf, live_rows, selected}
use Rattle.cat_model.proofs.Lists.{All-weaken}
use Rattle.cat_model.proofs.Places.{EachPair}
use Rattle.cat_views.proofs.Selected.{All-left, All-right, Pairs-left, Pairs-right}
use Rattle.cat_ledger_laws.specs.model.Leaves.{live_rows_after, leaves_after}
use Rattle.cat_live_table.specs.declared.current.places.Place.{Place}
use Rattle.cat_live_table.specs.current.Places.{PlacedRow, standing_from, standing_in, standing, place_in}
use Rattle.cat_live_table.specs.current.Indices.{index_in}
use Rattle.cat_live_table.proofs.current.Standing.{is_same, differ_text, the_rows, rows_in, missing, place-append, All-to_map}

abbrev Apart : Row → Row → Type 0
Apart a b = a.id ≢ b.id

module _ (id : Text) where
  abbrev NotId : Row → Type 0
  NotId r = same_text id r.id ≡ false

  unmarked : (live : List Bool) (rows : List Row) → AllByRecursion NotId (selected live rows) → live_rows_after (Write.delete id) live rows ≡ live
  unmarked [] rows a = refl
  unmarked (b ∷ bs) [] a = refl
  unmarked (true ∷ bs) (r ∷ rs) a = let e : same_text id r.id ≡ false = a.0 in rw e (ap (λ l. true ∷ l) (unmarked bs rs a.1))
  unmarked (false ∷ bs) (r ∷ rs) a = ap (λ l. false ∷ l) (unmarked bs rs a)

  -- no live row has the id
  pub unchanged : (leaves : List Leaf) → AllByRecursion NotId (flat_map live_rows leaves) → leaves_after (Write.delete id) leaves ≡ leaves
  unchanged [] a = refl
  unchanged (l ∷ ls) a =
      ap₂ (λ (x : List Bool) (ys : List Leaf). record { segment = l.segment; live = x } ∷ ys)
      (unmarked l.live l.segment.rows (All-left NotId (live_rows l) (flat_map live_rows ls) a))
      (unchanged ls (All-right NotId (live_rows l) (flat_map live_rows ls) a))

  pub not_found : (ss : List PlacedRow) → place_in ss id ≡ None → AllByRecursion NotId (the_rows ss)
  not_found ss e = All-to_map (λ s. s.row) NotId ss (missing ss id e)

  -- the rows that differ from one of the id don't have it
  others : (r : Row) (rs : List Row) → same_text id r.id ≡ true → AllByRecursion (Apart r) rs → AllByRecursion NotId rs
  others r rs t a = All-weaken (Apart r) NotId (λ s ne. differ_text id s.id (λ e. ne (sym (is_same id r.id t) ∙ e))) rs a

  found_low : (n i : ℕ) (live : List Bool) (rows : List Row) (p : Place) → place_in (selected live (standing_from n i rows)) id ≡ Some p → i ≤ p.row
  found_low n i [] rows p e = let no : None ≡ Some p = e in cc
  found_low n i (b ∷ bs) [] p e = let no : None ≡ Some p = e in cc
  found_low n i (false ∷ bs) (r ∷ rs) p e = let h : suc i ≤ p.row = found_low n (suc i) bs rs p e in omega (arith, h)
  found_low n i (true ∷ bs) (r ∷ rs) p e = elim (cases_Bool (same_text id r.id)) [
    | inl t ↦
        let here : Place = record { segment = n; row = i } in
        let same : Some here ≡ Some p = rw t at e in
        let one : here ≡ p = cc in
        let row : i ≡ p.row = ap (λ (q : Place). q.row) one in omega (arith, row)
    | inr f ↦ let h : suc i ≤ p.row = found_low n (suc i) bs rs p (rw f at e) in omega (arith, h)
  ]

  found_number : (n i : ℕ) (live : List Bool) (rows : List Row) (p : Place) → place_in (selected live (standing_from n i rows)) id ≡ Some p → p.segment ≡ n
  found_number n i [] rows p e = let no : None ≡ Some p = e in cc
  found_number n i (b ∷ bs) [] p e = let no : None ≡ Some p = e in cc
  found_number n i (false ∷ bs) (r ∷ rs) p e = found_number n (suc i) bs rs p e
  found_number n i (true ∷ bs) (r ∷ rs) p e = elim (cases_Bool (same_text id r.id)) [
    | inl t ↦
        let here : Place = record { segment = n; row = i } in
        let same : Some here ≡ Some p = rw t at e in
        let one : here ≡ p = cc in
        sym (ap (λ (q : Place). q.segment) one)
    | inr f ↦ found_number n (suc i) bs rs p (rw f at e)
  ]

  -- what a delete makes of the live set of a leaf, by the index of the row
  abbrev Kills : List Bool → List Row → ℕ → Type 0
  Kills live rows j = (j < length rows) × (set live j false ≡ live_rows_after (Write.delete id) live rows)

  killed_from : (n i : ℕ) (live : List Bool) (rows : List Row) (p : Place) (j : ℕ) → place_in (selected live (standing_from n i rows)) id ≡ Some p
      → EachPair Apart (selected live rows) → p.row ≡ i + j → Kills live rows j
  killed_from n i [] rows p j e d h = let no : None ≡ Some p = e in cc
  killed_from n i (b ∷ bs) [] p j e d h = let no : None ≡ Some p = e in cc
  killed_from n i (false ∷ bs) (r ∷ rs) p zero e d h = let low : suc i ≤ p.row = found_low n (suc i) bs rs p e in absurd (omega (arith, low, h))
  killed_from n i (false ∷ bs) (r ∷ rs) p (suc j) e d h =
      let rest : Kills bs rs j = killed_from n (suc i) bs rs p j e d (omega (arith, h)) in
      (omega (arith, rest.0), ap (λ l. false ∷ l) rest.1)
  killed_from n i (true ∷ bs) (r ∷ rs) p zero e d h = elim (cases_Bool (same_text id r.id)) [
    | inl t ↦ (omega arith, rw t (ap (λ l. false ∷ l) (sym (unmarked bs rs (others r (selected bs rs) t d.0)))))
    | inr f ↦ let low : suc i ≤ p.row = found_low n (suc i) bs rs p (rw f at e) in absurd (omega (arith, low, h))
  ]
  killed_from n i (true ∷ bs) (r ∷ rs) p (suc j) e d h = elim (cases_Bool (same_text id r.id)) [
    | inl t ↦
        let here : Place = record { segment = n; row = i } in
        let same : Some here ≡ Some p = rw t at e in
        let one : here ≡ p = cc in
        let row : i ≡ p.row = ap (λ (q : Place). q.row) one in absurd (omega (arith, row, h))
    | inr f ↦
        let rest : Kills bs rs j = killed_from n (suc i) bs rs p j (rw f at e) d.1 (omega (arith, h)) in
        (omega (arith, rest.0), rw f (ap (λ l. true ∷ l) rest.1))
  ]

  -- where the found row's segment is, and that killing it there is the delete
  pub record FoundAt (leaves : List Leaf) (p : Place) (d : Leaf) : Type 0 where
    pub index : ℕ
    pub is : index_in p.segment leaves ≡ Some index
    pub within : index < length leaves
    pub row : p.row < length (get_or leaves index d).segment.rows
    pub kills : set leaves index (record { segment = (get_or leaves index d).segment; live = set (get_or leaves index d).live p.row false })
        ≡ leaves_after (Write.delete id) leaves

  -- the rows behind one of the id don't have it
  rest_lacks : (ss : List PlacedRow) (rs : List Row) (p : Place) → place_in ss id ≡ Some p → EachPair Apart (the_rows ss ++ rs) → AllByRecursion NotId rs
  rest_lacks [] rs p e d = let no : None ≡ Some p = e in cc
  rest_lacks (s ∷ ss) rs p e d = elim (cases_Bool (same_text id s.row.id)) [
    | inl t ↦ others s.row rs t (All-right (Apart s.row) (the_rows ss) rs d.0)
    | inr f ↦ rest_lacks ss rs p (rw f at e) d.1
  ]

  -- the row stands in the first leaf, or in a later one
  split : (l : Leaf) (ls : List Leaf) (p : Place) (o : Option Place) → place_in (standing_in l) id ≡ o → place_in (standing (l ∷ ls)) id ≡ Some p
      → (place_in (standing_in l) id ≡ Some p) ⊎ ((place_in (standing_in l) id ≡ None) × (place_in (standing ls) id ≡ Some p))
  split l ls p (Some q) f e =
      let both : option_or (place_in (standing_in l) id) (place_in (standing ls) id) ≡ Some p = sym (place-append (standing_in l) (standing ls) id) ∙ e in
      let here : Some q ≡ Some p = rw f at both in inl (f ∙ here)
  split l ls p None f e =
      let both : option_or (place_in (standing_in l) id) (place_in (standing ls) id) ≡ Some p = sym (place-append (standing_in l) (standing ls) id) ∙ e in
      let there : place_in (standing ls) id ≡ Some p = rw f at both in inr (f, there)

  later_number : (ls : List Leaf) (n : ℕ) (p : Place) → AllByRecursion (λ l. n ≢ l.segment.number) ls → place_in (standing ls) id ≡ Some p → n ≢ p.segment
  later_number [] n p a e = let no : None ≡ Some p = e in cc
  later_number (l ∷ ls) n p a e = elim (split l ls p (place_in (standing_in l) id) refl e) [
    | inl f ↦ let number : p.segment ≡ l.segment.number = found_number l.segment.number 0 l.live l.segment.rows p f in λ q. a.0 (q ∙ number)
    | inr f ↦ later_number ls n p a.1 f.1
  ]

  found_here : (l : Leaf) (ls : List Leaf) (p : Place) (d : Leaf) → place_in (standing_in l) id ≡ Some p → EachPair Apart (live_rows l ++ flat_map live_rows ls) → FoundAt (l ∷ ls) p d
  found_here l ls p d f ids =
      let number : p.segment ≡ l.segment.number = found_number l.segment.number 0 l.live l.segment.rows p f in
      let start : p.row ≡ 0 + p.row = omega arith in
      let k : Kills l.live l.segment.rows p.row = killed_from l.segment.number 0 l.live l.segment.rows p p.row f (Pairs-left Apart (live_rows l) (flat_map live_rows ls) ids) start in
      let rest : AllByRecursion NotId (flat_map live_rows ls) =
      rest_lacks (standing_in l) (flat_map live_rows ls) p f (subst (λ rs. EachPair Apart (rs ++ flat_map live_rows ls)) (sym (rows_in l)) ids) in
      record {
        index = 0;
        is = rw (eq-eqb l.segment.number p.segment (sym number)) refl;
        within = omega arith;
        row = k.0;
        kills = ap₂ (λ (x : List Bool) (ys : List Leaf). record { segment = l.segment; live = x } ∷ ys) k.1 (sym (unchanged ls rest));
      }

  found_later : (l : Leaf) (ls : List Leaf) (p : Place) (d : Leaf) → place_in (standing_in l) id ≡ None → l.segment.number ≢ p.segment → FoundAt ls p d → FoundAt (l ∷ ls) p d
  found_later l ls p d none ne rest =
      let lacks : AllByRecursion NotId (live_rows l) = subst (AllByRecursion NotId) (rows_in l) (not_found (standing_in l) none) in
      record {
        index = suc rest.index;
        is = rw (ne_eqb l.segment.number p.segment ne) (ap (option_map suc) rest.is);
        within = omega (arith, rest.within);
        row = rest.row;
        kills = ap₂ (λ (x : List Bool) (ys : List Leaf). record { segment = l.segment; live = x } ∷ ys) (sym (unmarked l.live l.segment.rows lacks)) rest.kills;
      }

  pub found_at : (leaves : List Leaf) (p : Place) (d : Leaf) → place_in (standing leaves) id ≡ Some p
      → EachPair (λ a b. a.segment.number ≢ b.segment.number) leaves → EachPair (λ a b. a.id ≢ b.id) (flat_map live_rows leaves) → FoundAt leaves p d
  found_at [] p d e numbers ids = let no : None ≡ Some p = e in cc
  found_at (l ∷ ls) p d e numbers ids = elim (split l ls p (place_in (standing_in l) id) refl e) [
    | inl f ↦ found_here l ls p d f ids
    | inr f ↦ found_later l ls p d f.0 (later_number ls l.segment.number p numbers.0 f.1)
        (found_at ls p d f.1 numbers.1 (Pairs-right Apart (live_rows l) (flat_map live_rows ls) ids))
  ]

-- What a delete by a query makes of leaves, and what is kept then.
use Rattle.std.proofs.Common.{◌≡◌, ℕ, suc, ◌+◌, ◌<◌, List, [], ◌∷◌, ◌++◌, length, map, filter, take, set, get_or, Bool, true, false, Option, inl, inr, refl, sym, ap, ap₂, ◌∙◌, arith, append_assoc, append-nil}
use Rattle.std.specs.List.{flat_map, range_with_len}
use Rattle.std.proofs.Math.Seq.{set-append_seam}
use Rattle.std.proofs.lemmas.Bool.{cases_Bool}
use Rattle.std.proofs.lemmas.Grind.{flat_map-append}
use Rattle.std.proofs.lemmas.List.{length_push, take_more}
use Rattle.std.proofs.lemmas.List.Elements.{filter-append}
use Rattle.cat_model.specs.Query.{Query}
use Rattle.cat_model.specs.RowSets.{joined, both, first_only, has_row, indices}
use Rattle.cat_model.specs.Text.{Text}
use Rattle.cat_model.specs.View.{Row, Leaf, live_rows, row_matches}
use Rattle.cat_model.specs.Write.{Write}
use Rattle.cat_views.proofs.Selected.{selected-joined}
use Rattle.cat_ledger_laws.specs.model.Leaves.{live_rows_after, leaf_after, leaves_after}
use Rattle.cat_live_table.specs.declared.current.places.Place.{Place}
use Rattle.cat_live_table.specs.current.Places.{standing, place_in, forgotten}
use Rattle.cat_live_table.specs.current.Removals.{Removed, removed_from, lost}
use Rattle.cat_live_table.specs.current.Currents.{IsCurrent}
use Rattle.cat_live_table.proofs.current.Standing.{ids_differ, rows_standing}
use Rattle.cat_live_table.proofs.current.Noted.{some_forgotten, forgotten-append}
use Rattle.cat_live_table.proofs.current.After.{standing_after, AreLeaves-after, index_after, length_after}

-- ---- one leaf

-- the live set once these rows are killed
abbrev pub killed : List ℕ → List Bool → List Bool
killed [] live = live
killed (i ∷ is) live = killed is (set live i false)

next : (a k : ℕ) → a + 1 + k ≡ a + suc k
next a k = omega arith

first : (a : ℕ) → a + 0 ≡ a
first a = omega arith

killed_from : (t : ℕ → Bool) (a : ℕ) (front live rows : List Bool) → length front ≡ a → ((k : ℕ) → t (a + k) ≡ get_or rows k false) → length rows ≡ length live
    → killed (filter t (range_with_len a (length rows))) (front ++ live) ≡ front ++ joined first_only live rows
killed_from t a front [] [] e ts long = refl
killed_from t a front [] (r ∷ rs) e ts long = absurd (omega arith)
killed_from t a front (b ∷ bs) [] e ts long = absurd (omega arith)
killed_from t a front (b ∷ bs) (true ∷ rs) e ts long =
    let here : t a ≡ true = ap t (sym (first a)) ∙ ts 0 in
    let more : length (front ++ false ∷ []) ≡ a + 1 = length_push front false ∙ ap (λ (n : ℕ). n + 1) e in
    let one : set (front ++ b ∷ bs) a false ≡ (front ++ false ∷ []) ++ bs =
    ap (λ (n : ℕ). set (front ++ b ∷ bs) n false) (sym e) ∙ set-append_seam front b bs false ∙ sym (append_assoc front (false ∷ []) bs) in
    let rest : killed (filter t (range_with_len (a + 1) (length rs))) ((front ++ false ∷ []) ++ bs) ≡ (front ++ false ∷ []) ++ joined first_only bs rs =
    killed_from t (a + 1) (front ++ false ∷ []) bs rs more (λ k. ap t (next a k) ∙ ts (suc k)) (omega arith) in
    rw here (ap (killed (filter t (range_with_len (a + 1) (length rs)))) one ∙ rest ∙ append_assoc front (false ∷ []) (joined first_only bs rs)
    ∙ ap (λ x. front ++ x ∷ joined first_only bs rs) (sym (dead b)))
  where
    dead : (b : Bool) → first_only b true ≡ false
    dead true = refl
    dead false = refl
killed_from t a front (b ∷ bs) (false ∷ rs) e ts long =
    let here : t a ≡ false = ap t (sym (first a)) ∙ ts 0 in
    let more : length (front ++ b ∷ []) ≡ a + 1 = length_push front b ∙ ap (λ (n : ℕ). n + 1) e in
    let rest : killed (filter t (range_with_len (a + 1) (length rs))) ((front ++ b ∷ []) ++ bs) ≡ (front ++ b ∷ []) ++ joined first_only bs rs =
    killed_from t (a + 1) (front ++ b ∷ []) bs rs more (λ k. ap t (next a k) ∙ ts (suc k)) (omega arith) in
    rw here (ap (killed (filter t (range_with_len (a + 1) (length rs)))) (sym (append_assoc front (b ∷ []) bs)) ∙ rest
    ∙ append_assoc front (b ∷ []) (joined first_only bs rs) ∙ ap (λ x. front ++ x ∷ joined first_only bs rs) (sym (same b)))
  where
    same : (b : Bool) → first_only b false ≡ b
    same true = refl
    same false = refl

-- all rows of a set are killed
pub all_killed : (live rows : List Bool) → length rows ≡ length live → killed (indices rows) live ≡ joined first_only live rows
all_killed live rows long = killed_from (has_row rows) 0 [] live rows refl (λ k. ap (has_row rows) (zeroed k)) long
  where
    zeroed : (k : ℕ) → 0 + k ≡ k
    zeroed k = omega arith

-- what is forgotten of one leaf more
pub lost-more : (rs : List Removed) (i : ℕ) (r : Removed) (id : Text) (old now new : Option Place) → i < length rs → r ≡ get_or rs i r
    → now ≡ forgotten (flat_map lost (take i rs)) id old → new ≡ forgotten (lost r) id now → new ≡ forgotten (flat_map lost (take (i + 1) rs)) id old
lost-more rs i r id old now new h at before is =
    let parts : take (i + 1) rs ≡ take i rs ++ r ∷ [] = take_more rs i r h ∙ ap (λ (x : Removed). take i rs ++ x ∷ []) (sym at) in
    is ∙ ap (forgotten (lost r) id) before ∙ forgotten-append (flat_map lost (take i rs)) (lost r) id old
    ∙ ap (λ rows. forgotten rows id old)
    (sym (ap (flat_map lost) parts ∙ flat_map-append lost (take i rs) (r ∷ []) ∙ ap (λ rows. flat_map lost (take i rs) ++ rows) (append-nil (lost r))))

module _ (q : Query) where
  -- those that live and match
  pub matched_killed : (live : List Bool) (rows : List Row) → length live ≡ length rows
      → joined first_only live (joined both (map (row_matches q) rows) live) ≡ live_rows_after (Write.delete_where q) live rows
  matched_killed [] [] e = refl
  matched_killed [] (r ∷ rs) e = absurd (omega arith)
  matched_killed (b ∷ bs) [] e = absurd (omega arith)
  matched_killed (true ∷ bs) (r ∷ rs) e = elim (cases_Bool (row_matches q r)) [
    | inl t ↦ rw t (ap (λ l. false ∷ l) (matched_killed bs rs (omega arith)))
    | inr f ↦ rw f (ap (λ l. true ∷ l) (matched_killed bs rs (omega arith)))
  ]
  matched_killed (false ∷ bs) (r ∷ rs) e = ap (λ l. false ∷ l) (matched_killed bs rs (omega arith))

  -- what is made of one leaf
  pub removed_is : (leaf after : Leaf) (hits : List Bool) → length leaf.live ≡ length leaf.segment.rows → hits ≡ joined both (map (row_matches q) leaf.segment.rows) leaf.live
      → after ≡ record { segment = leaf.segment; live = joined first_only leaf.live hits } → removed_from q leaf ≡ record { hits = hits; leaf = after }
  removed_is leaf after hits long set is =
      let live : joined first_only leaf.live hits ≡ live_rows_after (Write.delete_where q) leaf.live leaf.segment.rows =
      ap (joined first_only leaf.live) set ∙ matched_killed leaf.live leaf.segment.rows long in
      let left : after ≡ leaf_after (Write.delete_where q) leaf = is ∙ ap (λ (b : List Bool). let l : Leaf = record { segment = leaf.segment; live = b } in l) live in
      ap₂ (λ (h : List Bool) (l : Leaf). let r : Removed = record { hits = h; leaf = l } in r) (sym set) (sym left)

  -- ---- all leaves

  pub leaves_removed : (leaves : List Leaf) → map (λ r. r.leaf) (map (removed_from q) leaves) ≡ leaves_after (Write.delete_where q) leaves
  leaves_removed [] = refl
  leaves_removed (l ∷ ls) = ap (λ ks. (removed_from q l).leaf ∷ ks) (leaves_removed ls)

  lost_rows : (leaves : List Leaf) → flat_map lost (map (removed_from q) leaves) ≡ filter (row_matches q) (flat_map live_rows leaves)
  lost_rows [] = refl
  lost_rows (l ∷ ls) =
      ap₂ (λ (a b : List Row). a ++ b) (selected-joined (row_matches q) l.live l.segment.rows) (lost_rows ls)
      ∙ sym (filter-append (row_matches q) (live_rows l) (flat_map live_rows ls))

  pub removed : (place_of place_after : Text → Option Place) (index_of : ℕ → Option ℕ) (count : ℕ) (leaves : List Leaf) → IsCurrent place_of index_of count leaves
      → ((id : Text) → place_after id ≡ forgotten (flat_map lost (map (removed_from q) leaves)) id (place_of id))
      → IsCurrent place_after index_of count (leaves_after (Write.delete_where q) leaves)
  removed place_of place_after index_of count leaves c places = record {
    apart = AreLeaves-after (Write.delete_where q) leaves c.apart;
    placed = λ id.
        places id ∙ ap (λ rs. forgotten rs id (place_of id)) (lost_rows leaves ∙ ap (filter (row_matches q)) (sym (rows_standing leaves)))
        ∙ ap (forgotten (filter (row_matches q) (map (λ s. s.row) (standing leaves))) id) (c.placed id)
        ∙ some_forgotten (row_matches q) (standing leaves) id (ids_differ leaves c.apart.ids)
        ∙ ap (λ ss. place_in ss id) (sym (standing_after (Write.delete_where q) leaves));
    indexed = λ n. c.indexed n ∙ sym (index_after (Write.delete_where q) n leaves);
    counted = c.counted ∙ sym (length_after (Write.delete_where q) leaves);
  }

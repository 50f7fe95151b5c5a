-- What is kept of the segments that stand by each call.
use Rattle.std.proofs.Common.{◌≡◌, ◌≢◌, ℕ, suc, ◌+◌, ◌<◌, List, [], ◌∷◌, ◌++◌, length, map, set, get_or, false, cond, Option, Some, None, option_map, is_some, eqb, inl, inr, refl, sym, ap, ◌∙◌, subst, append-nil, arith}
use Rattle.std.specs.List.{AllByRecursion, flat_map, list_any}
use Rattle.std.proofs.lemmas.Bool.{cases_Bool, ne_eqb, eqb-true}
use Rattle.std.proofs.lemmas.Grind.{flat_map-append}
use Rattle.std.proofs.lemmas.List.{length_push}
use Rattle.cat_model.specs.Text.{Text, same_text}
use Rattle.cat_model.specs.Write.{Write}
use Rattle.cat_model.specs.View.{Leaf, live_rows}
use Rattle.cat_model.proofs.Places.{EachPair, each_pair, all_pairs}
use Rattle.cat_views.proofs.Selected.{Pairs-left}
use Rattle.cat_ledger_laws.specs.model.Leaves.{AreLeaves, has_live_id, leaves_after}
use Rattle.cat_live_table.specs.declared.current.places.Place.{Place}
use Rattle.cat_live_table.specs.current.Places.{placed_id_of, standing_in, standing, place_in, placed_in_turn}
use Rattle.cat_live_table.specs.current.Indices.{index_in}
use Rattle.cat_live_table.specs.current.Currents.{IsCurrent}
use Rattle.cat_live_table.proofs.current.Standing.{IdsDiffer, ids_differ, place_there, rows_standing, earlier}
use Rattle.cat_live_table.proofs.current.Noted.{all_placed, one_forgotten}
use Rattle.cat_live_table.proofs.current.After.{standing_after, AreLeaves-after, index_after, length_after}
use Rattle.cat_live_table.proofs.current.Killed.{FoundAt, found_at, not_found, unchanged}

-- the first leaves of several
pub AreLeaves-front : (ls ks : List Leaf) → AreLeaves (ls ++ ks) → AreLeaves ls
AreLeaves-front ls ks a = record {
  numbers = all_pairs (λ x y. x.segment.number ≢ y.segment.number) ls (Pairs-left (λ x y. x.segment.number ≢ y.segment.number) ls ks
      (each_pair (λ x y. x.segment.number ≢ y.segment.number) (ls ++ ks) a.numbers));
  ids = all_pairs (λ r s. r.id ≢ s.id) (flat_map live_rows ls) (Pairs-left (λ r s. r.id ≢ s.id) (flat_map live_rows ls) (flat_map live_rows ks)
      (subst (EachPair (λ r s. r.id ≢ s.id)) (flat_map-append live_rows ls ks) (each_pair (λ r s. r.id ≢ s.id) (flat_map live_rows (ls ++ ks)) a.ids)));
}

-- no segment
pub IsCurrent-none : (place_of : Text → Option Place) (index_of : ℕ → Option ℕ) (count : ℕ)
    → ((q : Text) → place_of q ≡ None) → ((n : ℕ) → index_of n ≡ None) → count ≡ 0 → IsCurrent place_of index_of count []
IsCurrent-none place_of index_of count places indices none = record {
  apart = record { numbers = λ i j d p q. absurd (omega arith); ids = λ i j d p q. absurd (omega arith) };
  placed = places;
  indexed = indices;
  counted = none;
}

-- the index of a segment that comes last
pub index_push : (n : ℕ) (leaves : List Leaf) (leaf : Leaf) → AllByRecursion (λ l. l.segment.number ≢ leaf.segment.number) leaves
    → cond (eqb leaf.segment.number n) (Some (length leaves)) (index_in n leaves) ≡ index_in n (leaves ++ leaf ∷ [])
index_push n [] leaf a = refl
index_push n (l ∷ ls) leaf a =
    let rest = index_push n ls leaf a.1 in
    elim (cases_Bool (eqb l.segment.number n)) [
      | inl t ↦
          let other : eqb leaf.segment.number n ≡ false = ne_eqb leaf.segment.number n (λ e. a.0 (eqb-true l.segment.number n t ∙ sym e)) in
          rw (t, other) refl
      | inr f ↦ rw f (elim (cases_Bool (eqb leaf.segment.number n)) [
        | inl k ↦ rw k (ap (option_map suc) (rw k at rest))
        | inr k ↦ rw k (ap (option_map suc) (rw k at rest))
      ])
    ]

pub standing-push : (leaves : List Leaf) (leaf : Leaf) → standing (leaves ++ leaf ∷ []) ≡ standing leaves ++ standing_in leaf
standing-push leaves leaf = flat_map-append standing_in leaves (leaf ∷ []) ∙ ap (λ l. standing leaves ++ l) (append-nil (standing_in leaf))

module _ (place_of : Text → Option Place) (index_of : ℕ → Option ℕ) (count : ℕ) (leaves : List Leaf) (c : IsCurrent place_of index_of count leaves) where
  pub contained : (id : Text) → is_some (place_of id) ≡ has_live_id id leaves
  contained id = ap is_some (c.placed id) ∙ place_there (standing leaves) id ∙ ap (list_any (λ r. same_text id r.id)) (rows_standing leaves)

  pub nothing : (id : Text) → place_of id ≡ None → leaves ≡ leaves_after (Write.delete id) leaves
  nothing id e =
      sym (unchanged id leaves (subst (AllByRecursion (λ r. same_text id r.id ≡ false)) (rows_standing leaves) (not_found id (standing leaves) (sym (c.placed id) ∙ e))))

  pub found : (id : Text) (p : Place) (d : Leaf) → place_of id ≡ Some p → FoundAt id leaves p d
  found id p d e =
      found_at id leaves p d (sym (c.placed id) ∙ e)
      (each_pair (λ a b. a.segment.number ≢ b.segment.number) leaves c.apart.numbers)
      (each_pair (λ r s. r.id ≢ s.id) (flat_map live_rows leaves) c.apart.ids)

  pub no_leaf : Leaf
  no_leaf = record { segment = record { number = 0; schema = []; rows = [] }; live = [] }

  pub is_indexed : (id : Text) (p : Place) → place_of id ≡ Some p → index_of p.segment ≡ None → ⊥
  is_indexed id p e none =
      let f = found id p no_leaf e in
      let clash : Some f.index ≡ None = sym f.is ∙ sym (c.indexed p.segment) ∙ none in cc

  module _ (id : Text) (p : Place) (d : Leaf) (k : ℕ) (e : place_of id ≡ Some p) (at : index_of p.segment ≡ Some k) where
    index_is : (found id p d e).index ≡ k
    index_is = let same : Some (found id p d e).index ≡ Some k = sym (found id p d e).is ∙ sym (c.indexed p.segment) ∙ at in cc

    pub kill_within : k < length leaves
    kill_within = subst (λ i. i < length leaves) index_is (found id p d e).within

    pub kill_row : d ≡ get_or leaves k d → p.row < length d.segment.rows
    kill_row read = subst (λ (l : Leaf). p.row < length l.segment.rows) (sym read) (subst (λ i. p.row < length (get_or leaves i d).segment.rows) index_is (found id p d e).row)

    kills : d ≡ get_or leaves k d → set leaves k (record { segment = d.segment; live = set d.live p.row false }) ≡ leaves_after (Write.delete id) leaves
    kills read =
        ap (λ (l : Leaf). set leaves k (record { segment = l.segment; live = set l.live p.row false })) read
        ∙ subst (λ i. set leaves i (record { segment = (get_or leaves i d).segment; live = set (get_or leaves i d).live p.row false }) ≡ leaves_after (Write.delete id) leaves)
        index_is (found id p d e).kills

    pub killed_there : (killed : Leaf) → d ≡ get_or leaves k d → killed ≡ record { segment = d.segment; live = set d.live p.row false }
        → set leaves k killed ≡ leaves_after (Write.delete id) leaves
    killed_there killed read is = ap (λ (l : Leaf). set leaves k l) is ∙ kills read

  pub deleted : (id : Text) (after : Text → Option Place) → ((q : Text) → after q ≡ cond (same_text id q) None (place_of q))
      → IsCurrent after index_of count (leaves_after (Write.delete id) leaves)
  deleted id after upd = record {
    apart = AreLeaves-after (Write.delete id) leaves c.apart;
    placed = λ q.
        upd q ∙ ap (cond (same_text id q) None) (c.placed q) ∙ one_forgotten id (standing leaves) q
        ∙ ap (λ ss. place_in ss q) (sym (standing_after (Write.delete id) leaves));
    indexed = λ n. c.indexed n ∙ sym (index_after (Write.delete id) n leaves);
    counted = c.counted ∙ sym (length_after (Write.delete id) leaves);
  }

  -- what is noted may lie elsewhere
  pub renoted : (place_after : Text → Option Place) (index_then : ℕ → Option ℕ) (same_count : ℕ)
      → ((q : Text) → place_after q ≡ place_of q) → ((n : ℕ) → index_then n ≡ index_of n) → same_count ≡ count → IsCurrent place_after index_then same_count leaves
  renoted place_after index_then same_count places indices same = record {
    apart = c.apart;
    placed = λ q. places q ∙ c.placed q;
    indexed = λ n. indices n ∙ c.indexed n;
    counted = same ∙ c.counted;
  }

  pub pushed : (leaf : Leaf) (place_after : Text → Option Place) (index_then : ℕ → Option ℕ) (more : ℕ) → AreLeaves (leaves ++ leaf ∷ [])
      → ((q : Text) → place_after q ≡ placed_in_turn (map placed_id_of (standing_in leaf)) q (place_of q))
      → ((n : ℕ) → index_then n ≡ cond (eqb leaf.segment.number n) (Some (length leaves)) (index_of n))
      → more ≡ count + 1 → IsCurrent place_after index_then more (leaves ++ leaf ∷ [])
  pushed leaf place_after index_then more apart places indices one = record {
    apart = apart;
    placed = λ q.
        places q ∙ ap (placed_in_turn (map placed_id_of (standing_in leaf)) q) (c.placed q)
        ∙ all_placed (standing leaves) (standing_in leaf) q (subst IdsDiffer (standing-push leaves leaf) (ids_differ (leaves ++ leaf ∷ []) apart.ids))
        ∙ ap (λ ss. place_in ss q) (sym (standing-push leaves leaf));
    indexed = λ n. indices n ∙ ap (cond (eqb leaf.segment.number n) (Some (length leaves))) (c.indexed n)
        ∙ index_push n leaves leaf (earlier (λ a b. a.segment.number ≢ b.segment.number) leaves leaf []
        (each_pair (λ a b. a.segment.number ≢ b.segment.number) (leaves ++ leaf ∷ []) apart.numbers));
    counted = one ∙ ap (λ n. n + 1) c.counted ∙ sym (length_push leaves leaf);
  }

  -- the number of a segment that comes is not noted
  pub is_new : (leaf : Leaf) → AreLeaves (leaves ++ leaf ∷ []) → index_of leaf.segment.number ≡ None
  is_new leaf apart = c.indexed leaf.segment.number ∙ unnumbered leaves
      (earlier (λ a b. a.segment.number ≢ b.segment.number) leaves leaf [] (each_pair (λ a b. a.segment.number ≢ b.segment.number) (leaves ++ leaf ∷ []) apart.numbers))
    where
      unnumbered : (ls : List Leaf) → AllByRecursion (λ l. l.segment.number ≢ leaf.segment.number) ls → index_in leaf.segment.number ls ≡ None
      unnumbered [] a = refl
      unnumbered (l ∷ ls) a = rw (ne_eqb l.segment.number leaf.segment.number a.0) (ap (option_map suc) (unnumbered ls a.1))

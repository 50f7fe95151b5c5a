-- The counts over the live rows of segments, and the hits of a query for everything.
use Rattle.std.proofs.Common.{◌≡◌, ℕ, ◌+◌, ◌<◌, ◌≤◌, Bool, true, false, not, List, [], ◌∷◌, ◌++◌, length, map, get_or, take, replicate, refl, sym, ap, ◌∙◌, subst}
use Rattle.std.proofs.lemmas.List.{get_or-replicate, length-replicate, map-append, take_all, take_more}
use Rattle.std.proofs.Math.Bool.{beq}
use Rattle.std.specs.Cmp.{booleans_Decides}
use Rattle.std.specs.Cmp.Lexicographic.{pointwise, pointwise_decides}
use Rattle.std.specs.List.{flat_map}
use Rattle.cat_model.specs.Item.{Item}
use Rattle.cat_model.specs.Query.{Query, matches}
use Rattle.cat_model.specs.Text.{Text}
use Rattle.cat_model.specs.View.{Leaf, Segment, live_rows, segments_of}
use Rattle.cat_search.proofs.Gathered.{everything}
use Rattle.cat_facets.specs.declared.live.LiveCounts.{LiveCounts}
use Rattle.cat_facets.specs.LiveTotals.{counted_labels, leaves_with, live_labels, live_sets, AreLiveCounts}
use Rattle.cat_facets.specs.Tallies.{hit_labels, labelled_count, labels_at, AreCounts}

-- leaves are their segments with their live sets
leaves_again : (leaves : List Leaf) → leaves_with (segments_of leaves) (live_sets leaves) ≡ leaves
leaves_again [] = refl
leaves_again (leaf ∷ leaves) = ap (λ ls. leaf ∷ ls) (leaves_again leaves)

-- what a query for everything hits are the live rows
hits_live : (q : Query) (dimension : Text) → ((i : Item) → matches q i ≡ true) → (leaves : List Leaf) → flat_map (live_labels dimension) leaves ≡ flat_map (hit_labels q dimension) leaves
hits_live q dimension all [] = refl
hits_live q dimension all (leaf ∷ leaves) =
    ap (λ ts. live_labels dimension leaf ++ ts) (hits_live q dimension all leaves)
    ∙ ap (λ rows. map (labels_at dimension) rows ++ flat_map (hit_labels q dimension) leaves) (sym (everything q all (live_rows leaf)))

pub counted_hits : (q : Query) (dimension : Text) → ((i : Item) → matches q i ≡ true) → (leaves : List Leaf) (sets : List (List Bool)) → sets ≡ live_sets leaves
    → counted_labels dimension (segments_of leaves) sets ≡ flat_map (hit_labels q dimension) leaves
counted_hits q dimension all leaves sets are =
    ap (counted_labels dimension (segments_of leaves)) are ∙ ap (flat_map (live_labels dimension)) (leaves_again leaves) ∙ hits_live q dimension all leaves

-- before rows are counted
none_with : (segments : List Segment) → leaves_with segments [] ≡ []
none_with [] = refl
none_with (s ∷ segments) = refl

pub none_counted : (dimension : Text) (all : List Text) (segments : List Segment) (kept : LiveCounts) → kept.live.items ≡ [] → kept.labelled ≡ 0 → kept.totals.items ≡ replicate (length all) 0
    → AreLiveCounts dimension all segments kept
none_counted dimension all segments kept live labelled totals =
    let rows : counted_labels dimension segments kept.live.items ≡ [] = ap (counted_labels dimension segments) live ∙ ap (flat_map (live_labels dimension)) (none_with segments) in
    record {
      labelled = labelled ∙ sym (ap labelled_count rows);
      counts = subst (λ ts. AreCounts all (counted_labels dimension segments kept.live.items) ts) (sym totals)
          (subst (λ rs. AreCounts all rs (replicate (length all) 0)) (sym rows) (record { long = length-replicate (length all) 0; each = λ o lt. get_or-replicate (length all) o 0 0 lt }));
    }

-- what is kept of live rows goes by the segments and the dimension
pub live_alike : (dimension d : Text) (all : List Text) (mine theirs : List Segment) (kept : LiveCounts) → d ≡ dimension → theirs ≡ mine → AreLiveCounts d all theirs kept → AreLiveCounts dimension all mine kept
live_alike dimension d all mine theirs kept named same are =
    subst (λ ss. AreLiveCounts dimension all ss kept) same (subst (λ x. AreLiveCounts x all theirs kept) named are)

-- ---- whether live sets are those of leaves

live_at : (leaves : List Leaf) (i : ℕ) (leaf : Leaf) → i < length leaves → live_sets (take (i + 1) leaves) ≡ live_sets (take i leaves) ++ (get_or leaves i leaf).live ∷ []
live_at leaves i leaf lt = ap live_sets (take_more leaves i leaf lt) ∙ map-append (λ (l : Leaf). l.live) (take i leaves) (get_or leaves i leaf ∷ [])

not_false : (b : Bool) → false ≡ not b → b ≡ true
not_false true e = refl
not_false false e = absurd (cc)

-- sets that aren't found to differ are the same
pub same_sets : (xs ys : List Bool) → false ≡ not (pointwise beq xs ys) → xs ≡ ys
same_sets xs ys e = (pointwise_decides booleans_Decides xs ys).0 (not_false (pointwise beq xs ys) e)

-- one set more is that of the leaf
pub one_live_more : (sets : List (List Bool)) (leaves : List Leaf) (i : ℕ) (set : List Bool) (leaf : Leaf) → i < length sets → i < length leaves → take i sets ≡ live_sets (take i leaves)
    → set ≡ get_or sets i set → leaf ≡ get_or leaves i leaf → set ≡ leaf.live → take (i + 1) sets ≡ live_sets (take (i + 1) leaves)
one_live_more sets leaves i set leaf some lt are at here same =
    take_more sets i set some ∙ ap (λ x. take i sets ++ x ∷ []) (sym at ∙ same ∙ ap (λ (l : Leaf). l.live) here) ∙ ap (λ xs. xs ++ (get_or leaves i leaf).live ∷ []) are
    ∙ sym (live_at leaves i leaf lt)

pub all_live : (sets : List (List Bool)) (leaves : List Leaf) (i : ℕ) → length sets ≤ i → length leaves ≤ i → take i sets ≡ live_sets (take i leaves) → sets ≡ live_sets leaves
all_live sets leaves i some few are = sym (take_all i sets some) ∙ are ∙ ap live_sets (take_all i leaves few)

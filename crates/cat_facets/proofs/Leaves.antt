-- What is known of the segments of a view, and the labels of hits among those of all rows.
use Rattle.std.proofs.Common.{◌≡◌, ℕ, zero, suc, ◌+◌, ◌<◌, List, [], ◌∷◌, ◌++◌, length, get_or, take, map, filter, Bool, true, false, cond, ◌||◌, refl, sym, ap, ◌∙◌, arith, subst, inl, inr, append-nil}
use Rattle.std.proofs.lemmas.Bool.{cases_lt}
use Rattle.std.proofs.lemmas.Grind.{flat_map-append}
use Rattle.std.proofs.lemmas.List.{take_more, get_or_default}
use Rattle.std.proofs.lemmas.List.Elements.{recursion_from_All}
use Rattle.std.specs.List.{list_any, flat_map, AllByRecursion}
use Rattle.std.specs.Prelude.{All, Contains}
use Rattle.cat_base.proofs.TextSets.{has-Decides}
use Rattle.cat_model.specs.Ordinals.{dictionary_of, text_at}
use Rattle.cat_model.specs.Query.{Query}
use Rattle.cat_model.specs.Text.{Text}
use Rattle.cat_model.specs.View.{Leaf, Row, View, live_rows, row_matches, selected}
use Rattle.cat_model.proofs.Lists.{list_any-append}
use Rattle.cat_search.specs.Rows.{leaf_hits}
use Rattle.cat_search.proofs.views_laws.Selected.{selected-map}
use Rattle.cat_model.specs.GlobalOrdinals.{leaf_dictionary, texts_in_leaf, view_dictionary}
use Rattle.cat_facets.specs.States.{HasLabels}
use Rattle.cat_facets.specs.Tallies.{has_label, hit_labels, label_count, labels_at, leaf_labels, AreCounts}
use Rattle.cat_facets.proofs.Counted.{count_by-both}
use Rattle.cat_facets.proofs.Globals.{heard, same_has}

-- ---- one leaf more

pub hits_more : (q : Query) (dimension : Text) (leaves : List Leaf) (i : ℕ) (leaf : Leaf) (hits : List Bool) → i < length leaves → leaf ≡ get_or leaves i leaf
    → selected hits leaf.segment.rows ≡ leaf_hits leaf q
    → flat_map (hit_labels q dimension) (take i leaves) ++ selected hits (leaf_labels dimension leaf) ≡ flat_map (hit_labels q dimension) (take (i + 1) leaves)
hits_more q dimension leaves i leaf hits lt at found =
    let f : Leaf → List (List Text) = hit_labels q dimension in
    let piece : selected hits (leaf_labels dimension leaf) ≡ f leaf = selected-map (labels_at dimension) hits leaf.segment.rows ∙ ap (map (labels_at dimension)) found in
    ap (λ ts. flat_map f (take i leaves) ++ ts) (piece ∙ ap f at)
    ∙ sym (ap (flat_map f) (take_more leaves i leaf lt) ∙ flat_map-append f (take i leaves) (get_or leaves i leaf ∷ [])
    ∙ ap (λ ts. flat_map f (take i leaves) ++ ts) (append-nil (f (get_or leaves i leaf))))

-- the counts of the rows so far, and of those of one leaf more
pub counts_more : (labels : List Text) (before piece : List (List Text)) (old new : List ℕ) → AreCounts labels before old → length new ≡ length old
    → ((g : ℕ) → g < length labels → get_or new g 0 ≡ get_or old g 0 + label_count (text_at labels g) piece) → AreCounts labels (before ++ piece) new
counts_more labels before piece old new are long each = record {
  long = long ∙ are.long;
  each = λ g lt.
      each g lt ∙ ap (λ n. n + label_count (text_at labels g) piece) (are.each g lt) ∙ sym (count_by-both (has_label (text_at labels g)) before piece);
}

-- ---- the labels of hits are labels of rows

or_left : (a b c : Bool) → (a ≡ true → b ≡ true) → (a || c) ≡ true → (b || c) ≡ true
or_left true b c h e = let here : b ≡ true = h refl in rw here refl
or_left false true c h e = refl
or_left false false c h e = e

or_true : (b : Bool) → (b || true) ≡ true
or_true true = refl
or_true false = refl

or_right : (a b c : Bool) → (b ≡ true → c ≡ true) → (a || b) ≡ true → (a || c) ≡ true
or_right true b c h e = refl
or_right false b c h e = h e

any_selected : {X : Type 0} (p : X → Bool) (set : List Bool) (xs : List X) → list_any p (selected set xs) ≡ true → list_any p xs ≡ true
any_selected p [] xs e = absurd (cc)
any_selected p (b ∷ bs) [] e = absurd (cc)
any_selected p (true ∷ bs) (x ∷ xs) e = or_right (p x) (list_any p (selected bs xs)) (list_any p xs) (any_selected p bs xs) e
any_selected p (false ∷ bs) (x ∷ xs) e = or_right (p x) true (list_any p xs) (λ _. any_selected p bs xs e) (or_true (p x))

any_filtered : {X : Type 0} (p t : X → Bool) (xs : List X) → list_any p (filter t xs) ≡ true → list_any p xs ≡ true
any_filtered p t [] e = absurd (cc)
any_filtered {X} p t (x ∷ xs) e = by (any_filtered p t xs) (t x) e
  where
    by : (list_any p (filter t xs) ≡ true → list_any p xs ≡ true) → (b : Bool) → list_any p (cond b (x ∷ filter t xs) (filter t xs)) ≡ true → (p x || list_any p xs) ≡ true
    by rest true h = or_right (p x) (list_any p (filter t xs)) (list_any p xs) rest h
    by rest false h = ap (λ b. p x || b) (rest h) ∙ or_true (p x)

any-map : {X Y : Type 0} (p : Y → Bool) (f : X → Y) (xs : List X) → list_any p (map f xs) ≡ list_any (λ x. p (f x)) xs
any-map p f [] = refl
any-map p f (x ∷ xs) = ap (λ b. p (f x) || b) (any-map p f xs)

-- a label of a hit is one of a row
leaf_heard : (q : Query) (dimension t : Text) (leaf : Leaf) → list_any (has_label t) (hit_labels q dimension leaf) ≡ true → list_any (has_label t) (leaf_labels dimension leaf) ≡ true
leaf_heard q dimension t leaf e =
    let p : Row → Bool = λ row. has_label t (labels_at dimension row) in
    any-map (has_label t) (labels_at dimension) leaf.segment.rows
    ∙ any_selected p leaf.live leaf.segment.rows (any_filtered p (row_matches q) (live_rows leaf) (sym (any-map (has_label t) (labels_at dimension) (leaf_hits leaf q)) ∙ e))

leaves_heard : (q : Query) (dimension t : Text) (leaves : List Leaf) → list_any (has_label t) (flat_map (hit_labels q dimension) leaves) ≡ true
    → list_any (has_label t) (flat_map (leaf_labels dimension) leaves) ≡ true
leaves_heard q dimension t [] e = absurd (cc)
leaves_heard q dimension t (leaf ∷ leaves) e =
    let parts : (list_any (has_label t) (hit_labels q dimension leaf) || list_any (has_label t) (flat_map (hit_labels q dimension) leaves)) ≡ true =
    sym (list_any-append (has_label t) (hit_labels q dimension leaf) (flat_map (hit_labels q dimension) leaves)) ∙ e in
    list_any-append (has_label t) (leaf_labels dimension leaf) (flat_map (leaf_labels dimension) leaves)
    ∙ or_right (list_any (has_label t) (leaf_labels dimension leaf)) (list_any (has_label t) (flat_map (hit_labels q dimension) leaves)) (list_any (has_label t) (flat_map (leaf_labels dimension) leaves))
    (leaves_heard q dimension t leaves)
    (or_left (list_any (has_label t) (hit_labels q dimension leaf)) (list_any (has_label t) (leaf_labels dimension leaf)) (list_any (has_label t) (flat_map (hit_labels q dimension) leaves))
    (leaf_heard q dimension t leaf) parts)

-- ---- the dictionary of all segments

dictionaries_heard : (dimension t : Text) (leaves : List Leaf) → AllByRecursion (HasLabels dimension) leaves
    → list_any (has_label t) (map (leaf_dictionary dimension) leaves) ≡ list_any (has_label t) (flat_map (leaf_labels dimension) leaves)
dictionaries_heard dimension t [] a = refl
dictionaries_heard dimension t (leaf ∷ leaves) a =
    ap (λ b. b || list_any (has_label t) (map (leaf_dictionary dimension) leaves)) (heard t (texts_in_leaf dimension leaf) ∙ ap (list_any (has_label t)) a.0)
    ∙ ap (λ b. list_any (has_label t) (leaf_labels dimension leaf) || b) (dictionaries_heard dimension t leaves a.1)
    ∙ sym (list_any-append (has_label t) (leaf_labels dimension leaf) (flat_map (leaf_labels dimension) leaves))

-- it has the labels of the hits
pub hits_heard : (q : Query) (dimension : Text) (view : View) (t : Text) → All (HasLabels dimension) view.leaves → list_any (has_label t) (flat_map (hit_labels q dimension) view.leaves) ≡ true
    → has_label t (view_dictionary dimension view) ≡ true
hits_heard q dimension view t texts e =
    heard t (map (leaf_dictionary dimension) view.leaves) ∙ dictionaries_heard dimension t view.leaves (recursion_from_All (HasLabels dimension) view.leaves texts)
    ∙ leaves_heard q dimension t view.leaves e

-- each text of a segment's dictionary is one of all
pub texts_there : (sets : List (List Text)) (i : ℕ) (set : List Text) → i < length sets → set ≡ get_or sets i set → All (Contains (dictionary_of sets)) set
texts_there sets i set lt at = λ k d low.
    let t = get_or set k d in
    let own : has_label t set ≡ true = sym (same_has t set) ∙ (has-Decides t set).1 (k, low, get_or_default set k t d low) in
    let any : list_any (has_label t) sets ≡ true = among t sets i lt (subst (λ (ts : List Text). has_label t ts ≡ true) at own) in
    (has-Decides t (dictionary_of sets)).0 (same_has t (dictionary_of sets) ∙ heard t sets ∙ any)
  where
    among : (t : Text) (ss : List (List Text)) (i : ℕ) → i < length ss → has_label t (get_or ss i set) ≡ true → list_any (has_label t) ss ≡ true
    among t [] i lt e = absurd (omega arith)
    among t (s ∷ ss) zero lt e = ap (λ b. b || list_any (has_label t) ss) e
    among t (s ∷ ss) (suc i) lt e = ap (λ b. has_label t s || b) (among t ss i (omega arith) e) ∙ or_true (has_label t s)

-- ---- one more at the end of a list

at_left : {X : Type 0} (xs ys : List X) (i : ℕ) (d : X) → i < length xs → get_or (xs ++ ys) i d ≡ get_or xs i d
at_left [] ys i d lt = absurd (omega arith)
at_left (x ∷ xs) ys zero d lt = refl
at_left (x ∷ xs) ys (suc i) d lt = at_left xs ys i d (omega arith)

at_end : {X : Type 0} (xs : List X) (x d : X) → get_or (xs ++ x ∷ []) (length xs) d ≡ x
at_end [] x d = refl
at_end (y ∷ ys) x d = at_end ys x d

pub each_push : {X : Type 0} (P : ℕ → X → Type 0) (xs : List X) (x : X) → ((i : ℕ) (d : X) → i < length xs → P i (get_or xs i d)) → P (length xs) x
    → (i : ℕ) (d : X) → i < length xs + 1 → P i (get_or (xs ++ x ∷ []) i d)
each_push P xs x each last i d lt = elim (cases_lt i (length xs)) [
  | inl below ↦ subst (P i) (sym (at_left xs (x ∷ []) i d below)) (each i d below)
  | inr above ↦
      let same : length xs ≡ i = omega arith in
      subst (λ k. P k (get_or (xs ++ x ∷ []) k d)) same (subst (P (length xs)) (sym (at_end xs x d)) last)
]

-- Sets of texts that are merged, and what is told of elements by their codes.
use Rattle.std.proofs.Common.{◌≡◌, ◌+◌, inl, inr, List, [], ◌∷◌, ◌++◌, take, map, Bool, true, Result, Ok, Err, refl, sym, ap, ◌∙◌, subst, append_assoc, append-nil, nat_eq, ℕ}
use Rattle.std.proofs.lemmas.Bool.{cases_Bool}
use Rattle.std.proofs.lemmas.Grind.{flat_map-append}
use Rattle.std.proofs.lemmas.List.{map-append}
use Rattle.std.proofs.lemmas.List.Elements.{Contains-append_left, Contains-append_right, Contains-append_cases}
use Rattle.std.proofs.lemmas.List.Kept.{Contains-dedup, Contains-from_dedup}
use Rattle.std.proofs.lemmas.List.Sorted.{Contains-permutation, IsPermutation-refl, IsPermutation-sym, IsPermutation-cons, IsPermutation-middle, IsPermutation-trans, IsPermutation-map}
use Rattle.std.proofs.lemmas.Slice.Eq.{bytes_eq-Decides}
use Rattle.std.specs.Borrow.{Bor}
use Rattle.std.specs.Cmp.Lexicographic.{pointwise, nat_list_eq_equiv}
use Rattle.std.specs.List.{flat_map, dedup, dedup_from}
use Rattle.std.specs.List.Sorted.{IsPermutation}
use Rattle.std.specs.Prelude.{Contains, IfOk, ◌↔◌, Vec}
use Rattle.itertools.specs.List.{merge_at, merge_by}
use Rattle.cat_base.specs.Texts.{sorted_set}
use Rattle.cat_base.proofs.TextSets.{sorted_set_members, sorted_set_only, IsTextSet-sorted_set}
use Rattle.cat_model.specs.Text.{Text}
use Rattle.cat_model.specs.Ordinals.{dictionary_of}
use Rattle.cat_columns.specs.Merged.{HaveSame, texts_in}

pub if_ok : {X E : Type 0} (P Q : X → Type 0) → ((x : X) → P x → Q x) → (r : Result X E) → IfOk r P → IfOk r Q
if_ok P Q f (Ok x) h = f x h
if_ok P Q f (Err e) h = tt

pub if_ok_both : {X E : Type 0} (P Q R : X → Type 0) → ((x : X) → P x → Q x → R x) → (r : Result X E) → IfOk r P → IfOk r Q → IfOk r R
if_ok_both P Q R f (Ok x) h k = f x h k
if_ok_both P Q R f (Err e) h k = tt

-- ---- sets of texts

abbrev pub seen : List (Bor Text) → List Text
seen xs = map (λ t. t.now) xs

-- a merge has the texts of both lists, in an order of its own
merge_at_permutes : {X : Type 0} (first : X → X → Bool) (x : X) (xs : List X) (after : List X → List X) → ((ys : List X) → IsPermutation (xs ++ ys) (after ys)) → (ys : List X)
    → IsPermutation ((x ∷ xs) ++ ys) (merge_at first x xs after ys)
merge_at_permutes first x xs after rest [] = subst (λ l. IsPermutation l (x ∷ xs)) (sym (append-nil (x ∷ xs))) (IsPermutation-refl (x ∷ xs))
merge_at_permutes first x xs after rest (y ∷ ys) = elim (cases_Bool (first x y)) [
  | inl goes ↦ rw goes (IsPermutation-cons x (xs ++ y ∷ ys) (after (y ∷ ys)) (rest (y ∷ ys)))
  | inr waits ↦ rw waits (IsPermutation-trans ((x ∷ xs) ++ y ∷ ys) (y ∷ ((x ∷ xs) ++ ys)) (y ∷ merge_at first x xs after ys) (IsPermutation-middle (x ∷ xs) y ys)
      (IsPermutation-cons y ((x ∷ xs) ++ ys) (merge_at first x xs after ys) (merge_at_permutes first x xs after rest ys)))
]

merge_permutes : {X : Type 0} (first : X → X → Bool) (xs ys : List X) → IsPermutation (xs ++ ys) (merge_by first xs ys)
merge_permutes first [] ys = IsPermutation-refl ys
merge_permutes first (x ∷ xs) ys = merge_at_permutes first x xs (merge_by first xs) (merge_permutes first xs) ys

-- what is dropped behind references is what is dropped of the texts
abbrev same_texts : Text → Text → Bool
same_texts text kept = pointwise nat_eq text kept

abbrev same_seen : Bor Text → Bor Text → Bool
same_seen text kept = same_texts text.now kept.now

seen_kept_from : (kept : Bor Text) (xs : List (Bor Text)) → seen (dedup_from same_seen kept xs) ≡ dedup_from same_texts kept.now (seen xs)
seen_kept_from kept [] = refl
seen_kept_from kept (x ∷ xs) = elim (cases_Bool (same_texts x.now kept.now)) [
  | inl same ↦ rw same (seen_kept_from kept xs)
  | inr other ↦ rw other (ap (λ (l : List Text). kept.now ∷ l) (seen_kept_from x xs))
]

seen_kept : (xs : List (Bor Text)) → seen (dedup same_seen xs) ≡ dedup same_texts (seen xs)
seen_kept [] = refl
seen_kept (x ∷ xs) = seen_kept_from x xs

-- each text once has the same texts
kept_have_same : (xs : List Text) → HaveSame (dedup same_texts xs) xs
kept_have_same xs t = (λ h. Contains-from_dedup same_texts xs t h, λ h. Contains-dedup nat_list_eq_equiv (λ x y e. (bytes_eq-Decides x y).0 e) xs t h)

-- the texts of two lists that are merged, without doubles
merged_have_same : (first : Bor Text → Bor Text → Bool) (left right : List (Bor Text)) → HaveSame (seen (dedup same_seen (merge_by first left right))) (seen left ++ seen right)
merged_have_same first left right t =
    let whole : IsPermutation (seen left ++ seen right) (seen (merge_by first left right)) =
    subst (λ (l : List Text). IsPermutation l (seen (merge_by first left right))) (map-append (λ (t : Bor Text). t.now) left right)
    (IsPermutation-map (λ (t : Bor Text). t.now) (left ++ right) (merge_by first left right) (merge_permutes first left right)) in
    let kept : seen (dedup same_seen (merge_by first left right)) ≡ dedup same_texts (seen (merge_by first left right)) = seen_kept (merge_by first left right) in
    let same = kept_have_same (seen (merge_by first left right)) t in (
      λ h. Contains-permutation (seen (merge_by first left right)) (seen left ++ seen right) t (IsPermutation-sym (seen left ++ seen right) (seen (merge_by first left right)) whole)
          (same.0 (subst (λ (l : List Text). Contains l t) kept h)),
      λ h. subst (λ (l : List Text). Contains l t) (sym kept) (same.1 (Contains-permutation (seen left ++ seen right) (seen (merge_by first left right)) t whole h)),
    )

-- and where they are added to none, and the doubles dropped
pub taken_have_same : (first : Bor Text → Bor Text → Bool) (left right none xs all kept : List (Bor Text)) → none ≡ [] → xs ≡ merge_by first left right → all ≡ none ++ xs → kept ≡ dedup same_seen all
    → HaveSame (seen kept) (seen left ++ seen right)
taken_have_same first left right none xs all kept empty merged added dropped =
    let is : all ≡ merge_by first left right = added ∙ ap (λ (l : List (Bor Text)). l ++ xs) empty ∙ merged in
    subst (λ (l : List (Bor Text)). HaveSame (seen l) (seen left ++ seen right)) (sym (dropped ∙ ap (dedup same_seen) is)) (merged_have_same first left right)

-- a part that is joined with those behind it
pub part_joined : (front below part all whole : List Text) → HaveSame all (below ++ part) → HaveSame ((front ++ below) ++ part) whole → HaveSame (front ++ all) whole
part_joined front below part all whole both same t = (
  λ h. (same t).0 (subst (λ (l : List Text). Contains l t) (sym (append_assoc front below part)) (elim (Contains-append_cases front all t h) [
    | inl there ↦ Contains-append_left front (below ++ part) t there
    | inr there ↦ Contains-append_right front (below ++ part) t ((both t).0 there)
  ])),
  λ h. elim (Contains-append_cases front (below ++ part) t (subst (λ (l : List Text). Contains l t) (append_assoc front below part) ((same t).1 h))) [
    | inl there ↦ Contains-append_left front all t there
    | inr there ↦ Contains-append_right front all t ((both t).1 there)
  ],
)

-- the texts of the parts once one stands behind them
pub texts_in-push : {A : Type 0} (parts : List (Vec (Bor Text) A)) (part : Vec (Bor Text) A) → texts_in (parts ++ part ∷ []) ≡ texts_in parts ++ map (λ t. t.now) part.items
texts_in-push parts part = flat_map-append (λ p. map (λ t. t.now) p.items) parts (part ∷ []) ∙ ap (λ (l : List Text). texts_in parts ++ l) (append-nil (map (λ t. t.now) part.items))

-- what is said of lists that are read elsewhere
pub same_read : (all left left' right right' : List (Bor Text)) → left' ≡ left → right' ≡ right → HaveSame (seen all) (seen left' ++ seen right') → HaveSame (seen all) (seen left ++ seen right)
same_read all left left' right right' as_left as_right same =
    subst (λ (r : List (Bor Text)). HaveSame (seen all) (seen left ++ seen r)) as_right (subst (λ (l : List (Bor Text)). HaveSame (seen all) (seen l ++ seen right')) as_left same)

-- what is the same stays the same
pub same_itself : (xs : List Text) → HaveSame xs xs
same_itself xs t = (λ h. h, λ h. h)

pub same_by : (xs ys zs : List Text) → HaveSame xs ys → HaveSame ys zs → HaveSame xs zs
same_by xs ys zs one other t = (λ h. (other t).0 ((one t).0 h), λ h. (one t).1 ((other t).1 h))

pub same_front : (front xs ys : List Text) → HaveSame xs ys → HaveSame (front ++ xs) (front ++ ys)
same_front front xs ys same t = (
  λ h. elim (Contains-append_cases front xs t h) [
    | inl there ↦ Contains-append_left front ys t there
    | inr there ↦ Contains-append_right front ys t ((same t).0 there)
  ],
  λ h. elim (Contains-append_cases front ys t h) [
    | inl there ↦ Contains-append_left front xs t there
    | inr there ↦ Contains-append_right front xs t ((same t).1 there)
  ],
)

pub same_back : (xs ys back : List Text) → HaveSame xs ys → HaveSame (xs ++ back) (ys ++ back)
same_back xs ys back same t = (
  λ h. elim (Contains-append_cases xs back t h) [
    | inl there ↦ Contains-append_left ys back t ((same t).0 there)
    | inr there ↦ Contains-append_right ys back t there
  ],
  λ h. elim (Contains-append_cases ys back t h) [
    | inl there ↦ Contains-append_left xs back t ((same t).1 there)
    | inr there ↦ Contains-append_right xs back t there
  ],
)

-- a set that is added to the parts
pub set_added : (olds one two threes small part last set : List Text) → threes ≡ two ++ last → HaveSame (two ++ last) (one ++ part) → HaveSame part (small ++ set) → HaveSame (one ++ small) (olds ++ [])
    → HaveSame threes (olds ++ set)
set_added olds one two threes small part last set pushed settled joined before =
    subst (λ (l : List Text). HaveSame l (olds ++ set)) (sym pushed)
    (same_by (two ++ last) (one ++ part) (olds ++ set) settled
    (same_by (one ++ part) (one ++ (small ++ set)) (olds ++ set) (same_front one part (small ++ set) joined)
    (subst (λ (l : List Text). HaveSame l (olds ++ set)) (append_assoc one small set)
    (subst (λ (l : List Text). HaveSame ((one ++ small) ++ set) (l ++ set)) (append-nil olds) (same_back (one ++ small) (olds ++ []) set before)))))

-- one set more
pub more_sets : (sets : List (Bor (List Text))) (i : ℕ) (set : Bor (List Text)) (olds news : List Text) → take (i + 1) sets ≡ take i sets ++ set ∷ [] → HaveSame olds (flat_map (λ s. s.now) (take i sets)) → HaveSame news (olds ++ set.now)
    → HaveSame news (flat_map (λ s. s.now) (take (i + 1) sets))
more_sets sets i set olds news next before added =
    let all : flat_map (λ s. s.now) (take (i + 1) sets) ≡ flat_map (λ s. s.now) (take i sets) ++ set.now =
    ap (flat_map (λ s. s.now)) next ∙ flat_map-append (λ (s : Bor (List Text)). s.now) (take i sets) (set ∷ []) ∙ ap (λ (l : List Text). flat_map (λ s. s.now) (take i sets) ++ l) (append-nil set.now) in
    subst (HaveSame news) (sym all) (same_by news (olds ++ set.now) (flat_map (λ s. s.now) (take i sets) ++ set.now) added (same_back olds (flat_map (λ s. s.now) (take i sets)) set.now before))

flat_seen : (sets : List (Bor (List Text))) → flat_map (λ s. s.now) sets ≡ flat_map (λ l. l) (map (λ s. s.now) sets)
flat_seen [] = refl
flat_seen (s ∷ sets) = ap (λ (l : List Text). s.now ++ l) (flat_seen sets)

-- what has the texts of all sets makes the dictionary of them
pub union_is : (sets : List (Bor (List Text))) (copies : List Text) (gathered : List (Bor Text)) → copies ≡ seen gathered → ((q : Text) → Contains (seen gathered) q ↔ Contains (flat_map (λ s. s.now) sets) q)
    → sorted_set copies ≡ dictionary_of (map (λ s. s.now) sets)
union_is sets copies gathered are members =
    ap sorted_set are
    ∙ sorted_set_only (flat_map (λ s. s.now) sets) (sorted_set (seen gathered)) (IsTextSet-sorted_set (seen gathered)) (λ q. (λ h. (members q).0 ((sorted_set_members (seen gathered) q).0 h), λ h. (sorted_set_members (seen gathered) q).1 ((members q).1 h)))
    ∙ ap sorted_set (flat_seen sets)

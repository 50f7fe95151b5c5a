-- The distinct labels of a list: which are among those gathered so far, and the dictionary that they make.
use Rattle.std.proofs.Common.{◌≡◌, ℕ, suc, ◌+◌, ◌<◌, ◌≤◌, List, [], ◌∷◌, ◌++◌, length, get_or, take, map, Bool, true, false, cond, ◌||◌, refl, sym, ap, ◌∙◌, arith, Ordering, Less, Equal, Greater, nat_cmp}
use Rattle.std.proofs.lemmas.List.{take_more, append-nil, get_or_default}
use Rattle.std.proofs.lemmas.Grind.{flat_map-append}
use Rattle.std.specs.Prelude.{All, Contains}
use Rattle.std.specs.Borrow.{Bor}
use Rattle.std.specs.List.{list_any, flat_map}
use Rattle.std.specs.Ordering.{match_ordering}
use Rattle.std.specs.Cmp.Lexicographic.{slice_cmp, texts_ties, nat_list_eq_equiv}
use Rattle.std.specs.BTreeSet.{insert_key}
use Rattle.cat_base.specs.Texts.{sorted_set}
use Rattle.cat_base.proofs.TextSets.{has, has-sorted_set, has-Decides, same_set, IsTextSet-sorted_set}
use Rattle.cat_model.specs.Text.{Text, same_text}
use Rattle.cat_model.proofs.Lists.{list_any-append}

pub same_text_sym : (a b : Text) → same_text a b ≡ same_text b a
same_text_sym a b = nat_list_eq_equiv.symm a b

-- a label more
pub text_more : (a b c d : Bool) → d ≡ a → c ≡ cond a true b → c ≡ (b || d)
text_more true true c d e h = h ∙ by d
  where
    by : (d : Bool) → true ≡ (true || d)
    by d = refl
text_more true false c d e h = h ∙ sym e
text_more false true c d e h = h
text_more false false c d e h = h ∙ sym e

or_regrouped : (a b c : Bool) → ((a || b) || c) ≡ (a || (b || c))
or_regrouped true b c = refl
or_regrouped false b c = refl

or_false : (b : Bool) → (b || false) ≡ b
or_false true = refl
or_false false = refl

any_one : (p : Text → Bool) (x : Text) → list_any p (x ∷ []) ≡ p x
any_one p x = or_false (p x)

-- what was gathered of the first rows, and of the next one
pub any_seen_more : {X : Type 0} (f : X → List Text) (p : Text → Bool) (rows : List X) (i : ℕ) (d : X) → i < length rows
    → list_any p (flat_map f (take (i + 1) rows)) ≡ (list_any p (flat_map f (take i rows)) || list_any p (f (get_or rows i d)))
any_seen_more f p rows i d lt =
    ap (λ l. list_any p (flat_map f l)) (take_more rows i d lt) ∙ ap (list_any p) (flat_map-append f (take i rows) (get_or rows i d ∷ []))
    ∙ list_any-append p (flat_map f (take i rows)) (f (get_or rows i d) ++ [])
    ∙ ap (λ l. list_any p (flat_map f (take i rows)) || list_any p l) (append-nil (f (get_or rows i d)))

pub any_text_more : (p : Text → Bool) (row : List Text) (i : ℕ) (d : Text) (a b c : Bool) → i < length row → b ≡ (a || list_any p (take i row)) → c ≡ (b || p (get_or row i d))
    → c ≡ (a || list_any p (take (i + 1) row))
any_text_more p row i d a b c lt before step =
    step ∙ ap (λ t. t || p (get_or row i d)) before ∙ or_regrouped a (list_any p (take i row)) (p (get_or row i d))
    ∙ ap (λ t. a || t) (sym (ap (list_any p) (take_more row i d lt) ∙ list_any-append p (take i row) (get_or row i d ∷ []) ∙ ap (λ t. list_any p (take i row) || t) (any_one p (get_or row i d))))

same_has : (q : Text) (xs : List Text) → has q xs ≡ list_any (same_text q) xs
same_has q [] = refl
same_has q (x ∷ xs) = ap (λ b. b || has q xs) (sym (texts_ties q x)) ∙ ap (λ b. same_text q x || b) (same_has q xs)

-- lists with the same texts make one dictionary
pub same_members : (xs ys : List Text) → ((q : Text) → list_any (same_text q) xs ≡ list_any (same_text q) ys) → sorted_set xs ≡ sorted_set ys
same_members xs ys same =
    same_set (sorted_set xs) (sorted_set ys) (IsTextSet-sorted_set xs) (IsTextSet-sorted_set ys)
    (λ q. has-sorted_set q xs ∙ same_has q xs ∙ same q ∙ sym (has-sorted_set q ys ∙ same_has q ys))

any_now : (q : Text) (ks : List (Bor Text)) → list_any (same_text q) (map (λ k. k.now) ks) ≡ list_any (λ k. same_text q k.now) ks
any_now q [] = refl
any_now q (k ∷ ks) = ap (λ b. same_text q k.now || b) (any_now q ks)

pub gathered_all : (ks : List (Bor Text)) (texts : List Text) → ((q : Text) → list_any (λ k. same_text q k.now) ks ≡ list_any (same_text q) texts)
    → sorted_set (map (λ k. k.now) ks) ≡ sorted_set texts
gathered_all ks texts same = same_members (map (λ k. k.now) ks) texts (λ q. any_now q ks ∙ same q)

-- each text of a list is in the dictionary of the list
pub each_there : (xs : List Text) → All (Contains (sorted_set xs)) xs
each_there xs k d lt = (has-Decides (get_or xs k d) (sorted_set xs)).0 (has-sorted_set (get_or xs k d) xs ∙ (has-Decides (get_or xs k d) xs).1 (k, lt, get_or_default xs k (get_or xs k d) d lt))

length-insert_key : (k : Text) (xs : List Text) → length (insert_key (slice_cmp nat_cmp) xs k) ≤ suc (length xs)
length-insert_key k [] = omega arith
length-insert_key k (x ∷ xs) = by (length-insert_key k xs) (slice_cmp nat_cmp k x)
  where
    by : length (insert_key (slice_cmp nat_cmp) xs k) ≤ suc (length xs) → (r : Ordering) → length (match_ordering r (k ∷ x ∷ xs) (x ∷ xs) (x ∷ insert_key (slice_cmp nat_cmp) xs k)) ≤ suc (suc (length xs))
    by le Less = omega arith
    by le Equal = omega arith
    by le Greater = omega arith

-- a dictionary has no more texts than its list
pub length-sorted_set : (xs : List Text) → length (sorted_set xs) ≤ length xs
length-sorted_set [] = omega arith
length-sorted_set (x ∷ xs) = omega (arith, length-sorted_set xs, length-insert_key x (sorted_set xs))

-- A list of texts that are one text has a set of one.
use Rattle.std.proofs.Common.{◌≡◌, ◌⊎◌, ◌≤◌, List, [], ◌∷◌, length, map, Option, Some, None, Bool, true, false, cond, refl, sym, ap, ◌∙◌, inl, inr, arith, true≢false, Ordering, Less, Equal, Greater, nat_cmp, nat_eq}
use Rattle.std.specs.Ordering.{match_ordering, is_eq}
use Rattle.std.specs.Cmp.Lexicographic.{slice_cmp}
use Rattle.std.specs.BTreeSet.{insert_key}
use Rattle.std.proofs.lemmas.Map.Text.{is_eq-slice_cmp}
use Rattle.std.proofs.lemmas.Slice.Eq.{bytes_eq-Decides}
use Rattle.cat_base.specs.Texts.{sorted_set}
use Rattle.cat_model.specs.Text.{Text, same_text}
use Rattle.cat_model.specs.Words.{lowered, runs}
use Rattle.std.proofs.lemmas.Bool.{ne_eqb}
use Rattle.cat_query.specs.Runs.{only}

-- the text so far, if the ones that come are the same
abbrev pub agreed : Option Text → List Text → Option Text
agreed found [] = found
agreed None (w ∷ ws) = agreed (Some w) ws
agreed (Some v) (w ∷ ws) = cond (same_text v w) (agreed (Some v) ws) None

is_one : (a b : Text) → same_text a b ≡ true → a ≡ b
is_one a b e = (bytes_eq-Decides a b).0 e

one_is : (a b : Text) → a ≡ b → same_text a b ≡ true
one_is a b e = (bytes_eq-Decides a b).1 e

abbrev order : Text → Text → Ordering
order = slice_cmp nat_cmp

-- what an order of two texts says of their being one
told : (a b : Text) (o : Ordering) → order a b ≡ o → same_text a b ≡ is_eq o
told a b o e = sym (is_eq-slice_cmp a b) ∙ ap is_eq e

grows : (xs : List Text) (k : Text) → length xs ≤ length (insert_key order xs k)
grows [] k = omega arith
grows (x ∷ xs) k = at (order k x) (grows xs k)
  where
    at : (o : Ordering) → length xs ≤ length (insert_key order xs k) → length (x ∷ xs) ≤ length (match_ordering o (k ∷ x ∷ xs) (x ∷ xs) (x ∷ insert_key order xs k))
    at Less h = omega arith
    at Equal h = omega arith
    at Greater h = omega arith

many_only : (xs : List Text) → 2 ≤ length xs → only xs ≡ None
many_only [] h = absurd (omega arith)
many_only (x ∷ []) h = absurd (omega arith)
many_only (x ∷ y ∷ xs) h = refl

-- texts that are all v, and have the set of v
record AreOne (v : Text) (ws : List Text) : Type 0 where
  set : sorted_set ws ≡ v ∷ []
  ends : (u : Text) → agreed (Some u) ws ≡ cond (same_text u v) (Some u) None

-- texts that aren't all one
record AreMany (ws : List Text) : Type 0 where
  set : 2 ≤ length (sorted_set ws)
  ends : (u : Text) → agreed (Some u) ws ≡ None

none_either_way : (b : Bool) → cond {A = Option Text} b None None ≡ None
none_either_way true = refl
none_either_way false = refl

both_tests : (a b : Bool) (o : Option Text) → (a ≡ true → b ≡ true → ⊥) → cond a (cond b o None) None ≡ None
both_tests true true o h = absurd (h refl refl)
both_tests true false o h = refl
both_tests false b o h = refl

same_tests : (a b : Bool) (o : Option Text) → a ≡ b → cond a (cond b o None) None ≡ cond a o None
same_tests true true o e = refl
same_tests true false o e = absurd cc
same_tests false b o e = refl

-- one text before another
differ : (w v : Text) (ws : List Text) (o : Ordering) → order w v ≡ o → is_eq o ≡ false → AreOne v ws → (u : Text) → agreed (Some u) (w ∷ ws) ≡ None
differ w v ws o e other one u =
    ap (λ (x : Option Text). cond (same_text u w) x None) (one.ends u)
    ∙ both_tests (same_text u w) (same_text u v) (Some u)
    (λ p q. true≢false (sym (one_is w v (sym (is_one u w p) ∙ is_one u v q)) ∙ told w v o e ∙ other))

more_one : (w v : Text) (ws : List Text) (o : Ordering) → order w v ≡ o → AreOne v ws → AreOne w (w ∷ ws) ⊎ AreMany (w ∷ ws)
more_one w v ws Equal e one =
    let same : w ≡ v = is_one w v (told w v Equal e) in
    inl (record {
      set = ap (λ (s : List Text). insert_key order s w) one.set ∙ ap (λ (o : Ordering). match_ordering o (w ∷ v ∷ []) (v ∷ []) (v ∷ w ∷ [])) e ∙ ap (λ (x : Text). x ∷ []) (sym same);
      ends = λ u. ap (λ (x : Option Text). cond (same_text u w) x None) (one.ends u) ∙ same_tests (same_text u w) (same_text u v) (Some u) (ap (same_text u) same);
    })
more_one w v ws Less e one =
    let set : sorted_set (w ∷ ws) ≡ w ∷ v ∷ [] = ap (λ (s : List Text). insert_key order s w) one.set ∙ ap (λ (o : Ordering). match_ordering o (w ∷ v ∷ []) (v ∷ []) (v ∷ w ∷ [])) e in
    inr (record { set = rw set (omega arith); ends = differ w v ws Less e refl one })
more_one w v ws Greater e one =
    let set : sorted_set (w ∷ ws) ≡ v ∷ w ∷ [] = ap (λ (s : List Text). insert_key order s w) one.set ∙ ap (λ (o : Ordering). match_ordering o (w ∷ v ∷ []) (v ∷ []) (v ∷ w ∷ [])) e in
    inr (record { set = rw set (omega arith); ends = differ w v ws Greater e refl one })

more_many : (w : Text) (ws : List Text) → AreMany ws → AreMany (w ∷ ws)
more_many w ws many = record {
  set = let more = grows (sorted_set ws) w in let some = many.set in omega arith;
  ends = λ u. ap (λ (x : Option Text). cond (same_text u w) x None) (many.ends u) ∙ none_either_way (same_text u w);
}

judged : (w : Text) (ws : List Text) → AreOne w (w ∷ ws) ⊎ AreMany (w ∷ ws)
judged w [] = inl (record { set = refl; ends = λ u. refl })
judged w (v ∷ ws) = elim (judged v ws) [
  | inl one ↦ more_one w v (v ∷ ws) (order w v) refl one
  | inr many ↦ inr (more_many w (v ∷ ws) many)
]

pub agreed_only : (ws : List Text) → agreed None ws ≡ only (sorted_set ws)
agreed_only [] = refl
agreed_only (w ∷ ws) =
    let itself = one_is w w refl in
    let begun : agreed (Some w) (w ∷ ws) ≡ agreed None (w ∷ ws) = ap (λ (b : Bool). cond b (agreed (Some w) ws) None) itself in
    sym begun ∙ elim (judged w ws) [
      | inl one ↦ one.ends w ∙ ap (λ (b : Bool). cond b (Some w) None) itself ∙ sym (ap only one.set)
      | inr many ↦ many.ends w ∙ sym (many_only (sorted_set (w ∷ ws)) many.set)
    ]

-- ---- a walk over the runs of a text

module _ (v w : Text) (ws rest : List Text) (total : Option Text) (begins : w ∷ ws ≡ rest) where
  pub first_run : agreed None rest ≡ total → agreed (Some w) ws ≡ total
  first_run h = ap (agreed None) begins ∙ h

  pub other_run : agreed (Some v) rest ≡ total → false ≡ same_text v w → total ≡ None
  other_run h e = sym h ∙ sym (ap (agreed (Some v)) begins) ∙ ap (λ (b : Bool). cond b (agreed (Some v) ws) None) (sym e)

  pub same_run : agreed (Some v) rest ≡ total → true ≡ same_text v w → agreed (Some v) ws ≡ total
  same_run h e = ap (λ (b : Bool). cond b (agreed (Some v) ws) None) e ∙ ap (agreed (Some v)) begins ∙ h

pub nothing_left : (found : Option Text) (rest : Text) (total : Option Text) → true ≡ nat_eq (length rest) 0 → agreed found (map lowered (runs rest)) ≡ total → found ≡ total
nothing_left found [] total e h = h
nothing_left found (b ∷ bs) total e h = absurd (true≢false (e ∙ ne_eqb (length (b ∷ bs)) 0 (omega arith)))

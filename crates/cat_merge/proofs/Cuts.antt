-- Lists behind one another, with one more.
use Rattle.std.proofs.Common.{◌≡◌, ℕ, suc, ◌-◌, ◌<◌, ◌≤◌, ◌^◌, true, false, List, [], ◌∷◌, ◌++◌, length, take, drop, refl, sym, ap, ap₂, ◌∙◌, subst, arith}
use Rattle.std.proofs.lemmas.List.{take-append-le, drop-append-le, drop_at, take_at, take_all, length-append, length-drop}
use Rattle.std.specs.Prelude.{Result, Ok, Err, OnOk, OnErr, IsOk, is_ok, if◌then◌else◌}
use Rattle.cat_model.specs.Layout.{pieces, AreEnds}

ends_within : (from : ℕ) (ends : List ℕ) (total : ℕ) → AreEnds from ends total → from ≤ total
ends_within from [] total are = omega arith
ends_within from (e ∷ es) total are = omega (arith, are.0, ends_within e es total are.1)

pub pieces_more : {A : Type 0} (from : ℕ) (ends : List ℕ) (xs list : List A) → AreEnds from ends (length xs) → pieces from (ends ++ length (xs ++ list) ∷ []) (xs ++ list) ≡ pieces from ends xs ++ list ∷ []
pieces_more from [] xs list are =
    ap (λ l. take (length (xs ++ list) - from) l ∷ []) (drop_at xs list from (sym are))
    ∙ ap (λ l. l ∷ []) (take_all (length (xs ++ list) - from) list (omega (arith, are, length-append xs list)))
pieces_more from (e ∷ es) xs list are =
    let within : e ≤ length xs = ends_within e es (length xs) are.1 in
    ap₂ (λ a b. a ∷ b)
    (ap (take (e - from)) (drop-append-le from xs list (omega (arith, are.0, within))) ∙ take-append-le (e - from) (drop from xs) list (omega (arith, within, length-drop from xs)))
    (pieces_more e es xs list are.1)

pub ends_more : (from : ℕ) (ends : List ℕ) (m n : ℕ) → AreEnds from ends m → m ≤ n → AreEnds from (ends ++ n ∷ []) n
ends_more from [] m n are le = (omega (arith, are, le), refl)
ends_more from (e ∷ es) m n are le = (are.0, ends_more e es m n are.1 le)

pub length-pieces : {A : Type 0} (from : ℕ) (ends : List ℕ) (xs : List A) → length (pieces from ends xs) ≡ length ends
length-pieces from [] xs = refl
length-pieces from (e ∷ es) xs = ap suc (length-pieces e es xs)

-- ---- a list that was added or not

module _ (ends numbers mid ends' numbers' list : List ℕ) (start : ℕ) (are : AreEnds 0 ends (length numbers)) where
  -- once it is
  pub list_added : mid ≡ numbers ++ list → numbers' ≡ mid → ends' ≡ ends ++ length mid ∷ [] → (pieces 0 ends' numbers' ≡ pieces 0 ends numbers ++ list ∷ []) × AreEnds 0 ends' (length numbers')
  list_added e f g = (
    ap₂ (λ a b. pieces 0 a b) (g ∙ ap (λ l. ends ++ length l ∷ []) e) (f ∙ e) ∙ pieces_more 0 ends numbers list are,
    subst (λ l. AreEnds 0 l (length numbers')) (sym (g ∙ ap (λ l. ends ++ length l ∷ []) (sym f)))
        (ends_more 0 ends (length numbers) (length numbers') are (omega (arith, ap length (f ∙ e), length-append numbers list))),
  )

  -- where it isn't, what began with the others is cut to them
  pub list_refused : take (length numbers) mid ≡ numbers → start ≡ length numbers → numbers' ≡ take start mid → ends' ≡ ends → AreEnds 0 ends' (length numbers') × (length numbers' ≡ length numbers)
  list_refused front at f g =
      let same : numbers' ≡ numbers = f ∙ ap (λ n. take n mid) at ∙ front in
      (subst (λ l. AreEnds 0 l (length numbers')) (sym g) (subst (λ l. AreEnds 0 ends (length l)) (sym same) are), ap length same)

-- what a list is extended by, if it is
pub extended : {E : Type 0} (xs mid list : List ℕ) (r : Result (Unit {0}) E) → mid ≡ (if is_ok r then xs ++ list else xs) → OnOk r (mid ≡ xs ++ list) × (take (length xs) mid ≡ xs)
extended xs mid list (Ok x) e = (e, ap (take (length xs)) e ∙ take_at xs list (length xs) refl)
extended xs mid list (Err x) e = (tt, ap (take (length xs)) e ∙ take_all (length xs) xs (omega arith))

pub on_ok : {T E : Type 0} (r : Result T E) (P Q : Type 0) → OnOk r P → (P → Q) → OnOk r Q
on_ok (Ok x) P Q p f = f p
on_ok (Err x) P Q p f = tt

-- what is there in the end, added or not
pub list_settled : {E : Type 0} (ends numbers mid ends' numbers' list : List ℕ) (start : ℕ) (added r : Result (Unit {0}) E) → AreEnds 0 ends (length numbers) × (length numbers < 2 ^ 32)
    → start ≡ length numbers → OnOk added (mid ≡ numbers ++ list) → take (length numbers) mid ≡ numbers
    → OnOk r (IsOk added) → OnOk r (numbers' ≡ mid) → OnOk r (ends' ≡ ends ++ length mid ∷ []) → OnOk r (length mid < 2 ^ 32)
    → OnErr r ((ends' ≡ ends) × (numbers' ≡ take start mid))
    → (AreEnds 0 ends' (length numbers') × (length numbers' < 2 ^ 32)) × OnOk r (pieces 0 ends' numbers' ≡ pieces 0 ends numbers ++ list ∷ [])
list_settled ends numbers mid ends' numbers' list start (Ok x) (Ok y) are at e front ok same ended few err =
    let both = list_added ends numbers mid ends' numbers' list start are.0 e same ended in
    ((both.1, omega (arith, few, ap length same)), both.0)
list_settled ends numbers mid ends' numbers' list start (Err x) (Ok y) are at e front ok same ended few err = absurd (let never : false ≡ true = ok in cc)
list_settled ends numbers mid ends' numbers' list start added (Err y) are at e front ok same ended few err =
    let both = list_refused ends numbers mid ends' numbers' list start are.0 front at err.1 err.0 in
    ((both.0, omega (arith, both.1, are.1)), tt)

-- What is gathered of what is offered.
use Rattle.std.proofs.Common.{◌≡◌, ℕ, zero, suc, ◌-◌, ◌≤◌, ◌<◌, List, [], ◌∷◌, ◌++◌, length, get_or, take, drop, AllPairs, Bool, true, false, refl, sym, ◌∙◌, ap, subst, arith, inl, inr, length-append}
use Rattle.std.specs.Cmp.{IsStrictWeakOrder}
use Rattle.std.specs.List.{AllByRecursion}
use Rattle.std.specs.declared.cmp.Ordering.{Ordering}
use Rattle.std.specs.declared.cmp.Ordering.TheVariants.{Less, Equal, Greater}
use Rattle.std.specs.Ordering.{is_lt, is_ge}
use Rattle.std.proofs.lemmas.Bool.{true≢false}
use Rattle.std.proofs.lemmas.List.{length-take, take-append-le, take-append-drop, get_or-take}
use Rattle.cat_model.specs.Page.{first_ranked}
use Rattle.cat_model.specs.Ranks.{AreApart, insert_by, insert_all, sorted}
use Rattle.cat_model.proofs.Insert.{which, sorted-push, take-insert, strict_from_weak}
use Rattle.cat_model.proofs.Places.{each_pair}
use Rattle.cat_model.proofs.Ranked.{first_sorted}
use Rattle.cat_search.specs.BestItems.{BestItems, IsBestOf, InOrder}
use Rattle.cat_search.proofs.InOrder.{each_take, insert_last, take_first, insert_all-append, sorted-in_order, in_order-take, in_order-sorted, not_before_last}

take_again : {X : Type 0} (n : ℕ) (xs : List X) → take n (take n xs) ≡ take n xs
take_again zero xs = refl
take_again (suc n) [] = refl
take_again (suc n) (x ∷ xs) = ap (λ ys. x ∷ ys) (take_again n xs)

take_less : {X : Type 0} (n m : ℕ) (xs : List X) → n ≤ m → take n (take m xs) ≡ take n xs
take_less zero m xs h = refl
take_less (suc n) zero xs h = absurd (omega arith)
take_less (suc n) (suc m) [] h = refl
take_less (suc n) (suc m) (x ∷ xs) h = ap (λ ys. x ∷ ys) (take_less n m xs (omega arith))

pub not_less_from_test : (o : Ordering) (b : Bool) → b ≡ is_ge o → b ≡ true → is_lt o ≡ false
not_less_from_test Less b e t = absurd (cc)
not_less_from_test Equal b e t = refl
not_less_from_test Greater b e t = refl

-- one more is offered, and one more is gathered
one_more : {X : Type 0} (lt : X → X → Bool) (n : ℕ) (x : X) (xs ys : List X) → take n (sorted lt xs) ≡ take n (sorted lt ys) → take n (sorted lt (xs ++ x ∷ [])) ≡ take n (insert_by lt x (take n (sorted lt ys)))
one_more lt n x xs ys e = ap (take n) (sorted-push lt [] xs x) ∙ sym (take-insert lt n x (sorted lt xs)) ∙ ap (λ zs. take n (insert_by lt x zs)) e

pub best_pushed : {X : Type 0} (lt : X → X → Bool) (old new : BestItems X) (x : X) → new.limit ≡ old.limit → new.items ≡ old.items ++ x ∷ [] → new.ready ≡ old.ready
    → (offered : List X) → IsBestOf lt old offered → IsBestOf lt new (offered ++ x ∷ [])
best_pushed lt old new x l i r offered b =
    let long = length-append old.items (x ∷ []) in
    let within = b.ready in
    record {
      first = ap (λ n. take n (sorted lt new.items)) l ∙ ap (λ xs. take old.limit (sorted lt xs)) i
          ∙ one_more lt old.limit x old.items offered b.first ∙ sym (one_more lt old.limit x offered offered refl)
          ∙ ap (λ n. take n (sorted lt (offered ++ x ∷ []))) (sym l);
      ready = omega (arith, r, within, ap length i, long);
      front = subst (InOrder lt) (sym (ap (λ n. take n new.items) r ∙ ap (take old.ready) i ∙ take-append-le old.ready old.items (x ∷ []) within)) b.front;
    }

-- nothing is wanted
pub best_of_none : {X : Type 0} (lt : X → X → Bool) (kept : BestItems X) (x : X) → kept.limit ≡ 0 → (offered : List X) → IsBestOf lt kept offered → IsBestOf lt kept (offered ++ x ∷ [])
best_of_none lt kept x z offered b = record {
  first = ap (λ n. take n (sorted lt kept.items)) z ∙ ap (λ n. take n (sorted lt (offered ++ x ∷ []))) (sym z);
  ready = b.ready;
  front = b.front;
}

module _ {X : Type 0} (lt : X → X → Bool) (o : IsStrictWeakOrder lt) where
  -- those gathered are put in order and cut
  pub best_cut : (old new : BestItems X) → new.limit ≡ old.limit → new.items ≡ take old.limit (sorted lt old.items) → new.ready ≡ length new.items
      → (offered : List X) → IsBestOf lt old offered → IsBestOf lt new offered
  best_cut old new l i r offered b =
      let order : InOrder lt new.items = subst (InOrder lt) (sym i) (in_order-take lt o old.limit (sorted lt old.items) (in_order-sorted lt o old.items)) in
      record {
        first = ap (λ n. take n (sorted lt new.items)) l ∙ ap (take old.limit) (sorted-in_order lt new.items order ∙ i) ∙ take_again old.limit (sorted lt old.items)
            ∙ b.first ∙ ap (λ n. take n (sorted lt offered)) (sym l);
        ready = omega (arith, r);
        front = in_order-take lt o new.ready new.items order;
      }

  -- ---- what doesn't come before the last that is wanted

  before_later : (x y z : X) → lt y z ≡ true → lt x z ≡ false → lt x y ≡ false
  before_later x y z e f = elim (which (lt x y)) [
    | inl t ↦ absurd (true≢false (sym ((strict_from_weak lt o).transitive x y z t e) ∙ f))
    | inr g ↦ g
  ]

  fewer_late : (x : X) (n : ℕ) (ys : List X) → AllByRecursion (λ z. lt x z ≡ false) (take (suc n) ys) → AllByRecursion (λ z. lt x z ≡ false) (take n ys)
  fewer_late x n ys a = subst (AllByRecursion (λ z. lt x z ≡ false)) (take_less n (suc n) ys (omega arith)) (each_take (λ z. lt x z ≡ false) n (take (suc n) ys) a)

  late_insert : (x y : X) (n : ℕ) (ys : List X) → n ≤ length ys → AllByRecursion (λ z. lt x z ≡ false) (take n ys) → AllByRecursion (λ z. lt x z ≡ false) (take n (insert_by lt y ys))
  late_insert x y zero ys h a = tt
  late_insert x y (suc n) [] h a = absurd (omega arith)
  late_insert x y (suc n) (z ∷ zs) h a = elim (which (lt y z)) [
    | inl e ↦ rw e (before_later x y z e a.0, fewer_late x n (z ∷ zs) a)
    | inr e ↦ rw e (a.0, late_insert x y n zs (omega arith) a.1)
  ]

  length-insert_by : (y : X) (ys : List X) → length (insert_by lt y ys) ≡ suc (length ys)
  length-insert_by y [] = refl
  length-insert_by y (z ∷ zs) = elim (which (lt y z)) [
    | inl e ↦ rw e refl
    | inr e ↦ rw e (ap suc (length-insert_by y zs))
  ]

  late_insert_all : (x : X) (n : ℕ) (ys xs : List X) → n ≤ length ys → AllByRecursion (λ z. lt x z ≡ false) (take n ys)
      → AllByRecursion (λ z. lt x z ≡ false) (take n (insert_all lt ys xs)) × (n ≤ length (insert_all lt ys xs))
  late_insert_all x n ys [] h a = (a, h)
  late_insert_all x n ys (y ∷ xs) h a =
      let long = length-insert_by y ys in
      late_insert_all x n (insert_by lt y ys) xs (omega arith) (late_insert x y n ys h a)

  -- where the first n are in order, what doesn't come before the last of them is behind the first n of all
  late : (x last : X) (n : ℕ) (items : List X) → 0 < n → n ≤ length items → InOrder lt (take n items) → last ≡ get_or items (n - 1) last → lt x last ≡ false
      → take n (insert_by lt x (take n (sorted lt items))) ≡ take n (sorted lt items)
  late x last n items some h order at e =
      let front = take n items in
      let first = take n (sorted lt items) in
      let long : length front ≡ n = omega (arith, length-take n items) in
      let there : get_or front (length front - 1) last ≡ last = ap (λ k. get_or front (k - 1) last) long ∙ get_or-take n items (n - 1) last (omega arith) ∙ sym at in
      let behind = not_before_last lt o x front last order (omega arith) (ap (lt x) there ∙ e) in
      let parts : sorted lt items ≡ insert_all lt front (drop n items) =
      ap (sorted lt) (sym (take-append-drop n items)) ∙ insert_all-append lt [] front (drop n items) ∙ ap (λ ys. insert_all lt ys (drop n items)) (sorted-in_order lt front order) in
      let all = late_insert_all x n front (drop n items) (omega arith) (each_take (λ z. lt x z ≡ false) n front behind) in
      let late_first : AllByRecursion (λ z. lt x z ≡ false) first = subst (λ ys. AllByRecursion (λ z. lt x z ≡ false) (take n ys)) (sym parts) all.0 in
      let whole : n ≤ length (sorted lt items) = subst (λ ys. n ≤ length ys) (sym parts) all.1 in
      ap (take n) (insert_last lt x first late_first) ∙ take_first n first x (omega (arith, length-take n (sorted lt items)))

  -- it leaves what is gathered as good as it was
  pub best_late : (kept : BestItems X) (x last : X) → 0 < kept.limit → kept.limit ≤ kept.ready → last ≡ get_or kept.items (kept.limit - 1) last → lt x last ≡ false
      → (offered : List X) → IsBestOf lt kept offered → IsBestOf lt kept (offered ++ x ∷ [])
  best_late kept x last some full at e offered b =
      let n = kept.limit in
      let within = b.ready in
      let order : InOrder lt (take n kept.items) = subst (InOrder lt) (take_less n kept.ready kept.items full) (in_order-take lt o n (take kept.ready kept.items) b.front) in
      record {
        first = sym (one_more lt n x offered kept.items (sym b.first) ∙ late x last n kept.items some (omega arith) order at e);
        ready = within;
        front = b.front;
      }

  -- where one of any two comes before the other, they are the first by rank
  pub best_ranked : (kept : BestItems X) (offered : List X) (items : List X) → items ≡ take kept.limit (sorted lt offered) → AllPairs (AreApart lt) offered → items ≡ first_ranked lt offered kept.limit
  best_ranked kept offered items e apart = e ∙ sym (first_sorted lt (strict_from_weak lt o) offered kept.limit (each_pair (AreApart lt) offered apart))

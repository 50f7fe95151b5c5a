-- Lists that are made of another's elements, one more at a time.
use Rattle.std.proofs.Common.{◌≡◌, ℕ, ◌+◌, ◌<◌, Bool, true, false, cond, List, [], ◌∷◌, ◌++◌, length, take, map, get_or, sym, ap, ◌∙◌}
use Rattle.std.specs.List.{filter}
use Rattle.std.proofs.lemmas.List.{append-nil, map-append, take_more}
use Rattle.std.proofs.lemmas.List.Elements.{filter_more}

module _ {X : Type 0} (xs : List X) (i : ℕ) (d : X) (lt : i < length xs) where
  -- one copy more
  pub copied_more : (made more : List X) (x : X) → made ≡ take i xs → more ≡ made ++ x ∷ [] → x ≡ get_or xs i d → more ≡ take (i + 1) xs
  copied_more made more x before now is = now ∙ ap (λ l. l ++ x ∷ []) before ∙ ap (λ y. take i xs ++ y ∷ []) is ∙ sym (take_more xs i d lt)

  -- what is made of one more
  pub mapped_more : {Y : Type 0} (f : X → Y) (made more : List Y) (y : Y) → made ≡ map f (take i xs) → more ≡ made ++ y ∷ [] → y ≡ f (get_or xs i d) → more ≡ map f (take (i + 1) xs)
  mapped_more f made more y before now is =
      now ∙ ap (λ l. l ++ y ∷ []) before ∙ ap (λ z. map f (take i xs) ++ z ∷ []) is ∙ sym (ap (map f) (take_more xs i d lt) ∙ map-append f (take i xs) (get_or xs i d ∷ []))

  module _ (p : X → Bool) (made : List X) (before : made ≡ filter p (take i xs)) where
    -- one more that passes the test
    pub passed_more : (more : List X) (x : X) → more ≡ made ++ x ∷ [] → x ≡ get_or xs i d → p (get_or xs i d) ≡ true → more ≡ filter p (take (i + 1) xs)
    passed_more more x now is passes =
        now ∙ ap (λ l. l ++ x ∷ []) before ∙ ap (λ y. filter p (take i xs) ++ y ∷ []) is
        ∙ sym (filter_more p xs i d lt ∙ ap (λ b. filter p (take i xs) ++ cond b (get_or xs i d ∷ []) []) passes)

    -- one that fails it
    pub failed_more : p (get_or xs i d) ≡ false → made ≡ filter p (take (i + 1) xs)
    failed_more fails =
        before
        ∙ sym (append-nil (filter p (take i xs)))
        ∙ sym (filter_more p xs i d lt ∙ ap (λ b. filter p (take i xs) ++ cond b (get_or xs i d ∷ []) []) fails)

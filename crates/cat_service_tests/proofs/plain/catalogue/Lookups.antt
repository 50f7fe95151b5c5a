-- The first that passes a test, looked for one by one.
use Rattle.std.proofs.Common.{◌≡◌, ℕ, ◌+◌, ◌<◌, List, [], ◌∷◌, ◌++◌, length, take, drop, get_or, Bool, true, false, cond, Option, Some, None, find, refl, sym, ap, ◌∙◌, append_assoc, take-append-drop, inl, inr}
use Rattle.std.specs.Prelude.{◌==◌}
use Rattle.std.proofs.lemmas.Bool.Decides.{eqb_tells}
use Rattle.std.proofs.lemmas.List.{take_more}

-- ---- numbers

pub same_number : (a b : ℕ) → a ≡ b → (a == b) ≡ true
same_number a b same = elim (eqb_tells a b) [ inl k ↦ k.0 | inr k ↦ absurd (k.1 same) ]

pub other_number : (a b : ℕ) → (a ≡ b → ⊥) → (a == b) ≡ false
other_number a b other = elim (eqb_tells a b) [ inl k ↦ absurd (other k.1) | inr k ↦ k.0 ]

-- ---- lists

-- none of the first part passes
find_behind : {X : Type 0} (p : X → Bool) (a b : List X) → find p a ≡ None → find p (a ++ b) ≡ find p b
find_behind p [] b none = refl
find_behind p (x ∷ a) b none = by (p x) (find_behind p a b) none
  where
    by : (t : Bool) → (find p a ≡ None → find p (a ++ b) ≡ find p b) → cond t (Some x) (find p a) ≡ None → cond t (Some x) (find p (a ++ b)) ≡ find p b
    by true behind e = absurd (let unlike : Some x ≡ None = e in cc)
    by false behind e = behind e

module _ {X : Type 0} (p : X → Bool) (xs : List X) (i : ℕ) where
  -- nor does the next
  pub find_more : (d : X) → i < length xs → find p (take i xs) ≡ None → p (get_or xs i d) ≡ false → find p (take (i + 1) xs) ≡ None
  find_more d lt none fails =
      ap (find p) (take_more xs i d lt) ∙ find_behind p (take i xs) (get_or xs i d ∷ []) none ∙ ap (λ b. cond b (Some (get_or xs i d)) None) fails

  -- the next does
  pub find_hit : (d : X) → i < length xs → find p (take i xs) ≡ None → p (get_or xs i d) ≡ true → Some (get_or xs i d) ≡ find p xs
  find_hit d lt none passes =
      sym (ap (find p) (sym (take-append-drop (i + 1) xs) ∙ ap (λ l. l ++ drop (i + 1) xs) (take_more xs i d lt) ∙ append_assoc (take i xs) (get_or xs i d ∷ []) (drop (i + 1) xs))
      ∙ find_behind p (take i xs) (get_or xs i d ∷ drop (i + 1) xs) none
      ∙ ap (λ b. cond b (Some (get_or xs i d)) (find p (drop (i + 1) xs))) passes)

-- Maps by text, whose entries lie in another order.
use Rattle.std.proofs.Common.{◌≡◌, ℕ, List, [], ◌∷◌, None, bytes_eq, string_bytes, string_eq, String, HashMap, ◌⊎◌, inl, inr, refl, sym, ◌∙◌, subst}
use Rattle.std.specs.Map.{lookup}
use Rattle.std.specs.HashMap.{get, get_by_text}
use Rattle.std.proofs.lemmas.Bool.{cases_Bool}
use Rattle.std.proofs.lemmas.Slice.Eq.{bytes_eq-Decides}

-- a key that the text finds, or none
text_key : {A X : Type 0} (bs : List ℕ) (es : List (String A × X)) → ((k : String A) × (string_bytes k ≡ bs)) ⊎ (lookup (λ k. bytes_eq bs (string_bytes k)) es ≡ None)
text_key bs [] = inr refl
text_key bs (e ∷ es) = elim (cases_Bool (bytes_eq bs (string_bytes e.0))) [
  | inl t ↦ inl (e.0, sym ((bytes_eq-Decides bs (string_bytes e.0)).0 t))
  | inr f ↦ elim (text_key bs es) [
    | inl k ↦ inl k
    | inr n ↦ inr (rw f n)
  ]
]

module _ {A X S : Type 0} (m n : HashMap (String A) X S) (same : (k : String A) → get string_eq n k ≡ get string_eq m k) where
  by_key : (k : String A) (bs : List ℕ) → string_bytes k ≡ bs → get_by_text n bs ≡ get_by_text m bs
  by_key k bs e = subst (λ b. get_by_text n b ≡ get_by_text m b) e (same k)

  pub reordered_text : (bs : List ℕ) → get_by_text n bs ≡ get_by_text m bs
  reordered_text bs = elim (text_key bs n.entries) [
    | inl k ↦ by_key k.0 bs k.1
    | inr none ↦ elim (text_key bs m.entries) [
      | inl k ↦ by_key k.0 bs k.1
      | inr neither ↦ none ∙ sym neither
    ]
  ]

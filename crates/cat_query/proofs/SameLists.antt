-- The end of a comparison of two lists of clauses.
use Rattle.std.proofs.Common.{◌≡◌, ℕ, ◌-◌, ◌≤◌, List, [], ◌∷◌, length, drop, Bool, nat_eq, inl, inr, sym, ap, ◌∙◌, refl, eq-eqb, arith, length-drop}
use Rattle.std.proofs.lemmas.Bool.{ne_eqb, cases_eq}
use Rattle.std.proofs.lemmas.List.{drop_all}
use Rattle.cat_model.specs.Query.{Query}
use Rattle.cat_query.specs.View.{clauses_of}
use Rattle.cat_query.specs.Same.{same_query}
use Rattle.cat_query.specs.declared.query.Clause.{Clause}

none_left : (ds : List Clause) → same_query Query.no_clause (clauses_of ds) ≡ nat_eq 0 (length ds)
none_left [] = refl
none_left (d ∷ ds) = sym (ne_eqb 0 (length (d ∷ ds)) (omega arith))

lengths : (a b i : ℕ) → a ≡ i → i ≤ b → nat_eq a b ≡ nat_eq 0 (b - i)
lengths a b i e le = elim (cases_eq a b) [
  | inl h ↦ eq-eqb a b h ∙ sym (eq-eqb 0 (b - i) (omega arith))
  | inr h ↦ ne_eqb a b h ∙ sym (ne_eqb 0 (b - i) (λ z. h (omega arith)))
]

pub compared : (a b : List Clause) (i : ℕ) (total : Bool) → length a ≤ i → i ≤ length a → i ≤ length b → same_query (clauses_of (drop i a)) (clauses_of (drop i b)) ≡ total → nat_eq (length a) (length b) ≡ total
compared a b i total le ge lb h =
    lengths (length a) (length b) i (omega arith) lb
    ∙ ap (nat_eq 0) (sym (length-drop i b))
    ∙ sym (none_left (drop i b))
    ∙ ap (λ (x : List Clause). same_query (clauses_of x) (clauses_of (drop i b))) (sym (drop_all i a le))
    ∙ h

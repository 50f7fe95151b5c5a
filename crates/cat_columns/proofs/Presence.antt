-- What the two lists of a number column say of its rows.
use Rattle.std.proofs.Common.{◌≡◌, ℕ, ℤ, pos, zero, suc, ◌<◌, inl, inr, sym, Bool, true, false, ◌&&◌, List, [], ◌∷◌, length, map, get_or, refl, ap, ◌∙◌, Option, Some, None, arith, unwrap_or}
use Rattle.std.specs.Prelude.{is_some}
use Rattle.std.proofs.lemmas.Bool.{cases_lt}
use Rattle.std.proofs.lemmas.List.{get_or-map, get_or_past}
use Rattle.cat_model.specs.RowSets.{joined, both}
use Rattle.cat_model.specs.Query.{has_some}
use Rattle.cat_columns.specs.Columns.{number_at, numbers}

pub length-numbers : (bs : List Bool) (ns : List ℤ) → length bs ≡ length ns → length (numbers bs ns) ≡ length ns
length-numbers [] [] e = refl
length-numbers [] (n ∷ ns) e = absurd (cc)
length-numbers (b ∷ bs) [] e = absurd (cc)
length-numbers (b ∷ bs) (n ∷ ns) e = ap suc (length-numbers bs ns (cc))

pub get_or-numbers : (bs : List Bool) (ns : List ℤ) (row : ℕ) → length bs ≡ length ns → row < length bs
    → get_or (numbers bs ns) row None ≡ number_at (get_or bs row false) (get_or ns row (pos 0))
get_or-numbers [] ns row e lt = absurd (omega arith)
get_or-numbers (b ∷ bs) [] row e lt = absurd (cc)
get_or-numbers (b ∷ bs) (n ∷ ns) zero e lt = refl
get_or-numbers (b ∷ bs) (n ∷ ns) (suc row) e lt = get_or-numbers bs ns row (cc) (omega arith)

number_test : (test : ℤ → Bool) (b : Bool) (n : ℤ) → (test n && b) ≡ has_some test (number_at b n)
number_test test true n = elim (test n) as (λ t. (t && true) ≡ t) [ true ↦ refl | false ↦ refl ]
number_test test false n = elim (test n) as (λ t. (t && false) ≡ false) [ true ↦ refl | false ↦ refl ]

-- a test of all numbers, kept where there is one
pub numbers_set : (test : ℤ → Bool) (bs : List Bool) (ns : List ℤ) → joined both (map test ns) bs ≡ map (has_some test) (numbers bs ns)
numbers_set test [] [] = refl
numbers_set test [] (n ∷ ns) = refl
numbers_set test (b ∷ bs) [] = refl
numbers_set test (b ∷ bs) (n ∷ ns) = ap (λ c. c ∷ joined both (map test ns) bs) (number_test test b n) ∙ ap (λ l. has_some test (number_at b n) ∷ l) (numbers_set test bs ns)

pub numbers_there : (vs : List (Option ℤ)) → numbers (map is_some vs) (map (λ n. unwrap_or n (pos 0)) vs) ≡ vs
numbers_there [] = refl
numbers_there (None ∷ vs) = ap (λ l. None ∷ l) (numbers_there vs)
numbers_there (Some n ∷ vs) = ap (λ l. Some n ∷ l) (numbers_there vs)

at_some : (b : Bool) (m n : ℤ) → number_at b m ≡ Some n → m ≡ n
at_some true m n e = ap (λ o. unwrap_or o m) e
at_some false m n e = absurd (cc)

not_both : (o : Option ℤ) (n : ℤ) → o ≡ None → o ≡ Some n → ⊥
not_both o n a b = absurd (cc)

-- a test of all numbers, at a row that has one
pub number_tested : (test : ℤ → Bool) (bs : List Bool) (ns : List ℤ) (vs : List (Option ℤ)) (row : ℕ) (n : ℤ) → length bs ≡ length ns → numbers bs ns ≡ vs → get_or vs row None ≡ Some n
    → get_or (map test ns) row false ≡ test n
number_tested test bs ns vs row n same view there =
    elim (cases_lt row (length ns)) [
      | inl within ↦
          let at : number_at (get_or bs row false) (get_or ns row (pos 0)) ≡ Some n =
          sym (get_or-numbers bs ns row same (omega arith)) ∙ ap (λ (l : List (Option ℤ)). get_or l row None) view ∙ there in
          get_or-map test ns row (pos 0) false within ∙ ap test (at_some (get_or bs row false) (get_or ns row (pos 0)) n at)
      | inr past ↦
          let long : length vs ≡ length ns = sym (ap length view) ∙ length-numbers bs ns same in
          absurd (not_both (get_or vs row None) n (get_or_past vs row None (omega arith)) there)
    ]

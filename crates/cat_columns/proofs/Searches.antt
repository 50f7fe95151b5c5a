-- What a binary search finds in a sorted list of texts.
use Rattle.std.proofs.Common.{◌≡◌, ℕ, ◌+◌, ◌<◌, List, [], length, get_or, sym, ap, ◌∙◌, inl, inr, arith, Ordering, Less, Equal, Greater, nat_cmp}
use Rattle.std.proofs.lemmas.Bool.{cases_lt, cases_order}
use Rattle.std.proofs.lemmas.Map.Keys.{Less-from_sorted}
use Rattle.std.proofs.lemmas.Map.Lookups.{exact_bytes}
use Rattle.std.proofs.lemmas.List.Sorted.{searchable_from_sorted}
use Rattle.std.specs.Cmp.{tied_itself}
use Rattle.std.specs.Cmp.Lexicographic.{slice_cmp, nat_list_cmp_total}
use Rattle.std.specs.Ordering.{is_lt, ordering_reverse}
use Rattle.std.specs.Prelude.{Result, Ok, Err}
use Rattle.std.specs.Result.{result_ok}
use Rattle.std.specs.List.Sorted.{IsBinarySearchResult, IsSearchInRange}
use Rattle.cat_base.specs.Texts.{IsTextSet}
use Rattle.cat_model.specs.Ordinals.{IsOrdinal}

abbrev order : List ℕ → List ℕ → Ordering
order = slice_cmp nat_cmp

apart : (x : List ℕ) → order x x ≡ Less → ⊥
apart x e = let same = tied_itself nat_list_cmp_total x in let no : Equal ≡ Less = sym same ∙ e in cc

apart_over : (x : List ℕ) → order x x ≡ Greater → ⊥
apart_over x e = let same = tied_itself nat_list_cmp_total x in let no : Equal ≡ Greater = sym same ∙ e in cc

pub found : (ds : List (List ℕ)) (t : List ℕ) → IsTextSet ds → (r : Result ℕ ℕ) → IsSearchInRange r (length ds) → IsBinarySearchResult (λ y. order y t) ds r → IsOrdinal ds t (result_ok r)
found ds t sorted (Ok k) within at = (within, exact_bytes (get_or ds k []) t (at []))
found ds t sorted (Err i) within parted = λ has.
    let p = parted (searchable_from_sorted nat_list_cmp_total (λ y. y) ds t (λ k d a b.
    ap is_lt (nat_list_cmp_total.antisymm (get_or ds (k + 1) d) (get_or ds k d) ∙ ap ordering_reverse (Less-from_sorted order ds k (k + 1) d sorted (omega arith) (omega arith))))) in
    elim (cases_lt has.0 i) [
      | inl before ↦ apart t (sym (ap (λ y. order y t) has.2) ∙ p.0 has.0 t (omega arith) before)
      | inr after ↦ apart_over t (sym (ap (λ y. order y t) has.2) ∙ p.1 has.0 t after has.1)
    ]

-- a text has one index
pub one_place : (ds : List (List ℕ)) (j k : ℕ) → IsTextSet ds → j < length ds → k < length ds → get_or ds j [] ≡ get_or ds k [] → j ≡ k
one_place ds j k sorted ltj ltk e =
    elim (cases_order j k) [
      | inl same ↦ same
      | inr other ↦ elim other [
        | inl under ↦ absurd (apart (get_or ds k []) (ap (λ y. order y (get_or ds k [])) (sym e) ∙ Less-from_sorted order ds j k [] sorted under ltk))
        | inr over ↦ absurd (apart (get_or ds j []) (ap (λ y. order y (get_or ds j [])) e ∙ Less-from_sorted order ds k j [] sorted over ltj))
      ]
    ]

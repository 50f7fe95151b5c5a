-- A dictionary has one map to the global ordinals.
use Rattle.std.proofs.Common.{◌≡◌, ℕ, ◌<◌, List, [], ◌∷◌, length, map, get_or, sym, ap, ◌∙◌, inl, inr, refl, Ordering, Less, Equal, nat_cmp}
use Rattle.std.specs.List.{AllByRecursion}
use Rattle.std.proofs.lemmas.Bool.{cases_order}
use Rattle.std.proofs.lemmas.Map.Keys.{Less-from_sorted}
use Rattle.std.proofs.lemmas.List.Elements.{recursion_from_All}
use Rattle.std.specs.Cmp.{tied_itself}
use Rattle.std.specs.Cmp.Lexicographic.{slice_cmp, nat_list_cmp_total}
use Rattle.cat_base.specs.Texts.{IsTextSet}
use Rattle.cat_model.specs.Text.{Text}
use Rattle.cat_model.specs.Ordinals.{text_at}
use Rattle.cat_model.specs.SegmentLaws.{OrdinalMapsAreOne}

abbrev order : Text → Text → Ordering
order = slice_cmp nat_cmp

not_below_itself : (x : Text) → order x x ≡ Less → ⊥
not_below_itself x e = let same = tied_itself nat_list_cmp_total x in let no : Equal ≡ Less = sym same ∙ e in cc

one_ordinal : (ds : List Text) (j k : ℕ) → IsTextSet ds → j < length ds → k < length ds → text_at ds j ≡ text_at ds k → j ≡ k
one_ordinal ds j k sorted ltj ltk e =
    elim (cases_order j k) [
      | inl same ↦ same
      | inr other ↦ elim other [
        | inl under ↦ absurd (not_below_itself (get_or ds k []) (ap (λ y. order y (get_or ds k [])) (sym e) ∙ Less-from_sorted order ds j k [] sorted under ltk))
        | inr over ↦ absurd (not_below_itself (get_or ds j []) (ap (λ y. order y (get_or ds j [])) e ∙ Less-from_sorted order ds k j [] sorted over ltj))
      ]
    ]

one_map : (ds : List Text) (xs ys : List ℕ) → IsTextSet ds → AllByRecursion (λ g. g < length ds) xs → AllByRecursion (λ g. g < length ds) ys → map (text_at ds) xs ≡ map (text_at ds) ys → xs ≡ ys
one_map ds [] [] sorted a b e = refl
one_map ds [] (y ∷ ys) sorted a b e = absurd (cc e)
one_map ds (x ∷ xs) [] sorted a b e = absurd (cc e)
one_map ds (x ∷ xs) (y ∷ ys) sorted a b e =
    let head : x ≡ y = one_ordinal ds x y sorted a.0 b.0 (cc e) in
    let rest : xs ≡ ys = one_map ds xs ys sorted a.1 b.1 (cc e) in
    λ i. head i ∷ rest i

pub ordinal_maps_are_one : OrdinalMapsAreOne
ordinal_maps_are_one all own xs ys sorted one two =
    one_map all xs ys sorted (recursion_from_All _ xs one.within) (recursion_from_All _ ys two.within) (one.texts ∙ sym two.texts)

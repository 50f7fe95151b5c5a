-- Where a word stands among words in byte order, and which rows have it.
use Rattle.std.proofs.Common.{◌≡◌, ℕ, zero, suc, ◌<◌, List, [], ◌∷◌, length, get_or, take, drop, false, refl, sym, ap, ◌∙◌, inl, inr, arith, Ordering, Less, Equal, nat_cmp, subst}
use Rattle.std.proofs.lemmas.Bool.{cases_order, cases_Bool}
use Rattle.std.proofs.lemmas.List.{append-nil, get_or_default}
use Rattle.std.proofs.lemmas.Map.Keys.{Less-from_sorted}
use Rattle.std.proofs.lemmas.Slice.Eq.{bytes_eq-Decides}
use Rattle.std.specs.Cmp.{tied_itself}
use Rattle.std.specs.Cmp.Lexicographic.{slice_cmp, nat_list_cmp_total}
use Rattle.std.specs.List.{filter, range_with_len}
use Rattle.std.specs.Prelude.{Contains}
use Rattle.cat_base.specs.Texts.{IsTextSet}
use Rattle.cat_model.specs.Text.{Text, same_text}
use Rattle.cat_model.specs.RowSets.{indices}
use Rattle.cat_model.specs.Ordinals.{postings_of}
use Rattle.cat_model.specs.Layout.{pieces}
use Rattle.cat_columns.specs.inverted.Postings.{is_among, IsPostings, words_of_rows, IsTerms}
use Rattle.cat_columns.specs.inverted.Intervals.{IsInterval}
use Rattle.cat_columns.proofs.inverted.Parts.{joined, length-pieces}
use Rattle.cat_columns.proofs.inverted.Rows.{rows_of_interval, places_of_test}

abbrev order : Text → Text → Ordering
order = slice_cmp nat_cmp

apart : (x : Text) → order x x ≡ Less → ⊥
apart x e = let same = tied_itself nat_list_cmp_total x in let no : Equal ≡ Less = sym same ∙ e in cc

-- a word has one place
pub one_place : (words : List Text) (j k : ℕ) → IsTextSet words → j < length words → k < length words → get_or words j [] ≡ get_or words k [] → j ≡ k
one_place words j k sorted ltj ltk e =
    elim (cases_order j k) [
      | inl same ↦ same
      | inr other ↦ elim other [
        | inl under ↦ absurd (apart (get_or words k []) (ap (λ y. order y (get_or words k [])) (sym e) ∙ Less-from_sorted order words j k [] sorted under ltk))
        | inr over ↦ absurd (apart (get_or words j []) (ap (λ y. order y (get_or words j [])) e ∙ Less-from_sorted order words k j [] sorted over ltj))
      ]
    ]

other_word : (words : List Text) (word : Text) (o j : ℕ) → IsTextSet words → o < length words → j < length words → get_or words o [] ≡ word → (j ≡ o → ⊥) → same_text word (get_or words j []) ≡ false
other_word words word o j sorted lto ltj at ne =
    elim (cases_Bool (same_text word (get_or words j []))) [
      | inl yes' ↦ absurd (ne (one_place words j o sorted ltj lto (sym ((bytes_eq-Decides word (get_or words j [])).0 yes') ∙ sym at)))
      | inr no' ↦ no'
    ]

-- a word that is there is an interval of one word
pub word_interval : (words : List Text) (word : Text) (o : ℕ) → IsTextSet words → o < length words → get_or words o [] ≡ word → IsInterval (same_text word) words o 1
word_interval words word o sorted lt at = record {
  before = λ j under l. other_word words word o j sorted lt l at (λ e. absurd (omega arith));
  inside = λ j from to l. let same : j ≡ o = omega arith in (bytes_eq-Decides word (get_or words j [])).1 (sym at ∙ ap (λ k. get_or words k []) (sym same));
  after = λ j over l. other_word words word o j sorted lt l at (λ e. absurd (omega arith));
}

-- and one that isn't is an interval of none
pub no_interval : (words : List Text) (word : Text) → (Contains words word → ⊥) → IsInterval (same_text word) words 0 0
no_interval words word missing = record {
  before = λ j under l. absurd (omega arith);
  inside = λ j from to l. absurd (omega arith);
  after = λ j over l. elim (cases_Bool (same_text word (get_or words j []))) [
    | inl yes' ↦ absurd (missing (j, l, get_or_default words j word [] l ∙ sym ((bytes_eq-Decides word (get_or words j [])).0 yes')))
    | inr no' ↦ no'
  ];
}

pub one_part : (parts : List (List ℕ)) (o : ℕ) → o < length parts → joined (take 1 (drop o parts)) ≡ get_or parts o []
one_part [] o lt = absurd (omega arith)
one_part (r ∷ parts) zero lt = append-nil r
one_part (r ∷ parts) (suc o) lt = one_part parts o (omega arith)

module _ (len : ℕ) (words : List Text) (ends rows : List ℕ) (terms : IsTerms len words ends rows) (word : Text) where
  abbrev parts : List (List ℕ)
  parts = pieces 0 ends rows

  paired : length parts ≡ length words
  paired = length-pieces 0 ends rows ∙ terms.paired

  -- the rows of an interval that has just the word
  rows_are : (first count : ℕ) → IsInterval (same_text word) words first count → postings_of word (words_of_rows len words parts) ≡ filter (is_among (joined (take count (drop first parts)))) (range_with_len 0 len)
  rows_are first count h = ap indices (rows_of_interval (same_text word) len words parts first count h paired) ∙ places_of_test (is_among (joined (take count (drop first parts)))) len

  pub postings_are : (o : ℕ) → o < length words → get_or words o [] ≡ word → joined (take 1 (drop o parts)) ≡ postings_of word (words_of_rows len words parts)
  postings_are o lt at =
      let inside : o < length parts = omega (arith, paired) in
      let one = one_part parts o inside in
      subst (IsPostings len) (sym one) (terms.posted o [] inside).1 ∙ sym (rows_are o 1 (word_interval words word o terms.sorted lt at))

  pub no_postings : (Contains words word → ⊥) → [] ≡ postings_of word (words_of_rows len words parts)
  no_postings missing = sym (rows_are 0 0 (no_interval words word missing) ∙ nowhere (range_with_len 0 len))
    where
      nowhere : (rs : List ℕ) → filter (λ r. false) rs ≡ []
      nowhere [] = refl
      nowhere (r ∷ rs) = nowhere rs

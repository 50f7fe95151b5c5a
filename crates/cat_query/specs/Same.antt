-- Whether two queries are one.
use Rattle.std.specs.Prelude.{◌≡◌, Bool, true, false, ◌&&◌, ℤ, Option, Some, None}
use Rattle.std.specs.Bool.{Decides}
use Rattle.std.specs.Ordering.{int_eq}
use Rattle.std.proofs.Common.{refl, ap, subst}
use Rattle.std.proofs.lemmas.Bool.{and_parts}
use Rattle.std.proofs.lemmas.Bool.Decides.{Decides-int_eq}
use Rattle.std.proofs.lemmas.Slice.Eq.{bytes_eq-Decides}
use Rattle.cat_model.specs.Text.{Text, same_text}
use Rattle.cat_model.specs.Query.{Query, Primary, Sign}
use Rattle.cat_query.specs.declared.query.Test.{Test}
use Rattle.cat_query.specs.declared.query.Test.TheVariants as test

abbrev pub same_sign : Sign → Sign → Bool
same_sign Sign.must Sign.must = true
same_sign Sign.must_not Sign.must_not = true
same_sign Sign.should Sign.should = true
same_sign _ _ = false

-- the ends of two ranges
abbrev pub same_end : {X : Type 0} → (X → X → Bool) → Option X → Option X → Bool
same_end same None None = true
same_end same (Some a) (Some b) = same a b
same_end same _ _ = false

abbrev mutual
  pub same_primary : Primary → Primary → Bool
  same_primary Primary.everything Primary.everything = true
  same_primary (Primary.word f a) (Primary.word g b) = same_text f g && same_text a b
  same_primary (Primary.word_prefix f a) (Primary.word_prefix g b) = same_text f g && same_text a b
  same_primary (Primary.keyword f a) (Primary.keyword g b) = same_text f g && same_text a b
  same_primary (Primary.keyword_prefix f a) (Primary.keyword_prefix g b) = same_text f g && same_text a b
  same_primary (Primary.keyword_range f a b) (Primary.keyword_range g c d) = same_text f g && (same_end same_text a c && same_end same_text b d)
  same_primary (Primary.number f a) (Primary.number g b) = same_text f g && int_eq a b
  same_primary (Primary.number_range f a b) (Primary.number_range g c d) = same_text f g && (same_end int_eq a c && same_end int_eq b d)
  same_primary (Primary.label f a) (Primary.label g b) = same_text f g && same_text a b
  same_primary (Primary.label_prefix f a) (Primary.label_prefix g b) = same_text f g && same_text a b
  same_primary (Primary.group a) (Primary.group b) = same_query a b
  same_primary _ _ = false

  pub same_query : Query → Query → Bool
  same_query Query.no_clause Query.no_clause = true
  same_query (Query.clause s p a) (Query.clause t q b) = same_sign s t && (same_primary p q && same_query a b)
  same_query _ _ = false

-- two tests, whatever their fields
abbrev pub same_test : Test → Test → Bool
same_test (test.Word a) (test.Word b) = same_text a b
same_test (test.WordPrefix a) (test.WordPrefix b) = same_text a b
same_test (test.Keyword a) (test.Keyword b) = same_text a b
same_test (test.KeywordPrefix a) (test.KeywordPrefix b) = same_text a b
same_test (test.KeywordRange a b) (test.KeywordRange c d) = same_end same_text a c && same_end same_text b d
same_test (test.Number a) (test.Number b) = int_eq a b
same_test (test.NumberRange a b) (test.NumberRange c d) = same_end int_eq a c && same_end int_eq b d
same_test (test.Label a) (test.Label b) = same_text a b
same_test (test.LabelPrefix a) (test.LabelPrefix b) = same_text a b
same_test _ _ = false

-- ---- that the test decides it

sign_is : (s t : Sign) → same_sign s t ≡ true → s ≡ t
sign_is Sign.must Sign.must e = refl
sign_is Sign.must_not Sign.must_not e = refl
sign_is Sign.should Sign.should e = refl
sign_is _ _ e = absurd cc

text_is : (a b : Text) → same_text a b ≡ true → a ≡ b
text_is a b e = (bytes_eq-Decides a b).0 e

int_is : (a b : ℤ) → int_eq a b ≡ true → a ≡ b
int_is a b e = (Decides-int_eq a b).0 e

module _ {X : Type 0} (same : X → X → Bool) where
  end_is : ((a b : X) → same a b ≡ true → a ≡ b) → (a b : Option X) → same_end same a b ≡ true → a ≡ b
  end_is h None None e = refl
  end_is h (Some a) (Some b) e = ap (λ (x : X). Some x) (h a b e)
  end_is h None (Some b) e = absurd cc
  end_is h (Some a) None e = absurd cc

  end_itself : ((a : X) → same a a ≡ true) → (a : Option X) → same_end same a a ≡ true
  end_itself h None = refl
  end_itself h (Some a) = h a

texts_are : (f g a b : Text) → (same_text f g && same_text a b) ≡ true → (f ≡ g) × (a ≡ b)
texts_are f g a b e = let p = and_parts (same_text f g) (same_text a b) e in (text_is f g p.0, text_is a b p.1)

mutual
  primary_is : (p q : Primary) → same_primary p q ≡ true → p ≡ q
  primary_is Primary.everything Primary.everything e = refl
  primary_is (Primary.word f a) (Primary.word g b) e = let p = texts_are f g a b e in λ i. Primary.word (p.0 i) (p.1 i)
  primary_is (Primary.word_prefix f a) (Primary.word_prefix g b) e = let p = texts_are f g a b e in λ i. Primary.word_prefix (p.0 i) (p.1 i)
  primary_is (Primary.keyword f a) (Primary.keyword g b) e = let p = texts_are f g a b e in λ i. Primary.keyword (p.0 i) (p.1 i)
  primary_is (Primary.keyword_prefix f a) (Primary.keyword_prefix g b) e = let p = texts_are f g a b e in λ i. Primary.keyword_prefix (p.0 i) (p.1 i)
  primary_is (Primary.keyword_range f a b) (Primary.keyword_range g c d) e =
      let p = and_parts (same_text f g) (same_end same_text a c && same_end same_text b d) e in
      let r = and_parts (same_end same_text a c) (same_end same_text b d) p.1 in
      λ i. Primary.keyword_range (text_is f g p.0 i) (end_is same_text text_is a c r.0 i) (end_is same_text text_is b d r.1 i)
  primary_is (Primary.number f a) (Primary.number g b) e =
      let p = and_parts (same_text f g) (int_eq a b) e in
      λ i. Primary.number (text_is f g p.0 i) (int_is a b p.1 i)
  primary_is (Primary.number_range f a b) (Primary.number_range g c d) e =
      let p = and_parts (same_text f g) (same_end int_eq a c && same_end int_eq b d) e in
      let r = and_parts (same_end int_eq a c) (same_end int_eq b d) p.1 in
      λ i. Primary.number_range (text_is f g p.0 i) (end_is int_eq int_is a c r.0 i) (end_is int_eq int_is b d r.1 i)
  primary_is (Primary.label f a) (Primary.label g b) e = let p = texts_are f g a b e in λ i. Primary.label (p.0 i) (p.1 i)
  primary_is (Primary.label_prefix f a) (Primary.label_prefix g b) e = let p = texts_are f g a b e in λ i. Primary.label_prefix (p.0 i) (p.1 i)
  primary_is (Primary.group a) (Primary.group b) e = ap Primary.group (query_is a b e)
  primary_is _ _ e = absurd cc

  query_is : (a b : Query) → same_query a b ≡ true → a ≡ b
  query_is Query.no_clause Query.no_clause e = refl
  query_is (Query.clause s p a) (Query.clause t q b) e =
      let x = and_parts (same_sign s t) (same_primary p q && same_query a b) e in
      let y = and_parts (same_primary p q) (same_query a b) x.1 in
      λ i. Query.clause (sign_is s t x.0 i) (primary_is p q y.0 i) (query_is a b y.1 i)
  query_is _ _ e = absurd cc

sign_itself : (s : Sign) → same_sign s s ≡ true
sign_itself Sign.must = refl
sign_itself Sign.must_not = refl
sign_itself Sign.should = refl

text_itself : (a : Text) → same_text a a ≡ true
text_itself a = (bytes_eq-Decides a a).1 refl

int_itself : (a : ℤ) → int_eq a a ≡ true
int_itself a = (Decides-int_eq a a).1 refl

mutual
  primary_itself : (p : Primary) → same_primary p p ≡ true
  primary_itself Primary.everything = refl
  primary_itself (Primary.word f a) = rw (text_itself f, text_itself a) refl
  primary_itself (Primary.word_prefix f a) = rw (text_itself f, text_itself a) refl
  primary_itself (Primary.keyword f a) = rw (text_itself f, text_itself a) refl
  primary_itself (Primary.keyword_prefix f a) = rw (text_itself f, text_itself a) refl
  primary_itself (Primary.keyword_range f a b) = rw (text_itself f, end_itself same_text text_itself a, end_itself same_text text_itself b) refl
  primary_itself (Primary.number f a) = rw (text_itself f, int_itself a) refl
  primary_itself (Primary.number_range f a b) = rw (text_itself f, end_itself int_eq int_itself a, end_itself int_eq int_itself b) refl
  primary_itself (Primary.label f a) = rw (text_itself f, text_itself a) refl
  primary_itself (Primary.label_prefix f a) = rw (text_itself f, text_itself a) refl
  primary_itself (Primary.group q) = query_itself q

  query_itself : (q : Query) → same_query q q ≡ true
  query_itself Query.no_clause = refl
  query_itself (Query.clause s p q) = rw (sign_itself s, primary_itself p, query_itself q) refl

-- it is true just where they are
pub same_query-Decides : (a b : Query) → Decides (same_query a b) (a ≡ b)
same_query-Decides a b = (query_is a b, λ e. subst (λ (q : Query). same_query a q ≡ true) e (query_itself a))

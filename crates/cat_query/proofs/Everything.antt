-- Queries of more clauses than one, or of none.
use Rattle.std.proofs.Common.{◌≡◌, ◌≢◌, List, [], ◌∷◌, length, false, refl}
use Rattle.cat_model.specs.Query.{Query, Primary, Sign}
use Rattle.cat_query.specs.View.{signed, clauses_of, is_everything}
use Rattle.cat_query.specs.declared.query.Clause.{Clause}

more_clauses : (s : Sign) (p : Primary) (t : Sign) (x : Primary) (q : Query) → is_everything (Query.clause s p (Query.clause t x q)) ≡ false
more_clauses Sign.must_not p t x q = refl
more_clauses Sign.must Primary.everything t x q = refl
more_clauses Sign.must (Primary.word f a) t x q = refl
more_clauses Sign.must (Primary.word_prefix f a) t x q = refl
more_clauses Sign.must (Primary.keyword f a) t x q = refl
more_clauses Sign.must (Primary.keyword_prefix f a) t x q = refl
more_clauses Sign.must (Primary.keyword_range f a b) t x q = refl
more_clauses Sign.must (Primary.number f a) t x q = refl
more_clauses Sign.must (Primary.number_range f a b) t x q = refl
more_clauses Sign.must (Primary.label f a) t x q = refl
more_clauses Sign.must (Primary.label_prefix f a) t x q = refl
more_clauses Sign.must (Primary.group g) t x q = refl
more_clauses Sign.should Primary.everything t x q = refl
more_clauses Sign.should (Primary.word f a) t x q = refl
more_clauses Sign.should (Primary.word_prefix f a) t x q = refl
more_clauses Sign.should (Primary.keyword f a) t x q = refl
more_clauses Sign.should (Primary.keyword_prefix f a) t x q = refl
more_clauses Sign.should (Primary.keyword_range f a b) t x q = refl
more_clauses Sign.should (Primary.number f a) t x q = refl
more_clauses Sign.should (Primary.number_range f a b) t x q = refl
more_clauses Sign.should (Primary.label f a) t x q = refl
more_clauses Sign.should (Primary.label_prefix f a) t x q = refl
more_clauses Sign.should (Primary.group g) t x q = refl

pub not_one_clause : (cs : List Clause) → length cs ≢ 1 → is_everything (clauses_of cs) ≡ false
not_one_clause [] some = refl
not_one_clause (c ∷ []) some = absurd (some refl)
not_one_clause (c ∷ d ∷ cs) some = more_clauses (signed c).0 (signed c).1 (signed d).0 (signed d).1 (clauses_of cs)

-- What a hasher is fed of clauses, one after another, and of a primary.
use Rattle.std.proofs.Common.{◌≡◌, ℕ, ◌+◌, ◌<◌, ◌≤◌, List, ◌++◌, length, get_or, drop, refl, sym, ap, ◌∙◌}
use Rattle.std.specs.Global.{Vec}
use Rattle.std.specs.Hash as fed
use Rattle.std.specs.List.{fold}
use Rattle.std.proofs.lemmas.List.{drop_all}
use Rattle.std.proofs.lemmas.List.Sums.{fold-append}
use Rattle.cat_model.specs.Text.{Text}
use Rattle.cat_query.specs.declared.query.Clause.{Clause}
use Rattle.cat_query.specs.declared.query.Primary.{Primary}
use Rattle.cat_query.specs.declared.query.Primary.TheVariants.{Everything, Group, Field}
use Rattle.cat_query.specs.declared.query.Test.{Test}
use Rattle.cat_query.specs.declared.query.Test.TheVariants as test
use Rattle.cat_query.specs.View.{sign_of, tested, primary_of, clauses_of}
use Rattle.cat_query.specs.Fed.{kind_number, fed_test, fed_sign, fed_primary, fed_query}
use Rattle.cat_query.proofs.RowTests.{clauses_from, everything_is, group_is, field_is}

fed_tested : (name : Text) (t : Test) → fed_primary (tested name t) ≡ fed.u8 (kind_number t) ++ (fed.str name ++ fed_test t)
fed_tested name (test.Word w) = refl
fed_tested name (test.WordPrefix p) = refl
fed_tested name (test.Keyword k) = refl
fed_tested name (test.KeywordPrefix p) = refl
fed_tested name (test.KeywordRange low high) = refl
fed_tested name (test.Number n) = refl
fed_tested name (test.NumberRange low high) = refl
fed_tested name (test.Label l) = refl
fed_tested name (test.LabelPrefix p) = refl

module _ {S : Type 0} (write : S → List ℕ → S) where
  module _ (cs : List Clause) (i : ℕ) (c : Clause) (lt : i < length cs) (at : c ≡ get_or cs i c) where
    pub fed_more : (s behind_sign behind_clause total : S) → behind_sign ≡ fold write s (fed_sign (sign_of c.sign))
        → behind_clause ≡ fold write behind_sign (fed_primary (primary_of c.primary))
        → fold write s (fed_query (clauses_of (drop i cs))) ≡ total → fold write behind_clause (fed_query (clauses_of (drop (i + 1) cs))) ≡ total
    fed_more s behind_sign behind_clause total signs asks so_far =
        let more = fed_query (clauses_of (drop (i + 1) cs)) in
        let one = fed_primary (primary_of c.primary) in
        ap (λ x. fold write x more) (asks ∙ ap (λ x. fold write x one) signs)
        ∙ sym (fold-append write (fold write s (fed_sign (sign_of c.sign))) one more)
        ∙ sym (fold-append write s (fed_sign (sign_of c.sign)) (one ++ more))
        ∙ ap (λ q. fold write s (fed_query q)) (sym (clauses_from cs i c lt at))
        ∙ so_far

  pub fed_all : (cs : List Clause) (i : ℕ) → length cs ≤ i → (s ended total : S) → ended ≡ fold write s (fed.u8 0)
      → fold write s (fed_query (clauses_of (drop i cs))) ≡ total → ended ≡ total
  fed_all cs i past s ended total end so_far = end ∙ ap (λ l. fold write s (fed_query (clauses_of l))) (sym (drop_all i cs past)) ∙ so_far

  pub fed_everything : (p : Primary) → p ≡ Everything → (s ended : S) → ended ≡ fold write s (fed.u8 0) → ended ≡ fold write s (fed_primary (primary_of p))
  fed_everything p is s ended end = end ∙ ap (λ q. fold write s (fed_primary q)) (sym (ap primary_of is ∙ everything_is))

  pub fed_group : (p : Primary) (group : Vec Clause) → p ≡ Group group → (cs : List Clause) → cs ≡ group.items → (s behind_kind ended : S)
      → behind_kind ≡ fold write s (fed.u8 10) → ended ≡ fold write behind_kind (fed_query (clauses_of cs)) → ended ≡ fold write s (fed_primary (primary_of p))
  fed_group p group is cs same s behind_kind ended kind end =
      end ∙ ap (λ x. fold write x (fed_query (clauses_of cs))) kind
      ∙ ap (λ l. fold write (fold write s (fed.u8 10)) (fed_query (clauses_of l))) same
      ∙ sym (fold-append write s (fed.u8 10) (fed_query (clauses_of group.items)))
      ∙ ap (λ q. fold write s (fed_primary q)) (sym (ap primary_of is ∙ group_is group))

  pub fed_field : (p : Primary) (name : Text) (t : Test) → p ≡ Field name t → (kind : ℕ) → kind ≡ kind_number t → (spelled : Text) → spelled ≡ name → (s behind_kind behind_name ended : S)
      → behind_kind ≡ fold write s (fed.u8 kind) → behind_name ≡ fold write behind_kind (fed.str spelled) → ended ≡ fold write behind_name (fed_test t)
      → ended ≡ fold write s (fed_primary (primary_of p))
  fed_field p name t is kind same_kind spelled same s behind_kind behind_name ended kinds names end =
      end
      ∙ ap (λ x. fold write x (fed_test t)) (names ∙ ap (λ l. fold write behind_kind (fed.str l)) same ∙ ap (λ x. fold write x (fed.str name)) (kinds ∙ ap (λ k. fold write s (fed.u8 k)) same_kind))
      ∙ sym (fold-append write (fold write s (fed.u8 (kind_number t))) (fed.str name) (fed_test t))
      ∙ sym (fold-append write s (fed.u8 (kind_number t)) (fed.str name ++ fed_test t))
      ∙ ap (λ q. fold write s q) (sym (fed_tested name t))
      ∙ ap (λ q. fold write s (fed_primary q)) (sym (ap primary_of is ∙ field_is name t))

-- A copy of clauses as it grows: what is copied, with what is left of the source, is the source.
use Rattle.std.proofs.Common.{◌≡◌, ℕ, ◌+◌, ◌<◌, ◌≤◌, List, [], ◌∷◌, ◌++◌, length, map, get_or, drop, sym, ap, ◌∙◌, append_assoc}
use Rattle.std.proofs.lemmas.List.{append-nil, drop_all, drop_more, map-append}
use Rattle.std.specs.Global.{Vec}
use Rattle.cat_model.specs.Query as model
use Rattle.cat_model.specs.Text.{Text}
use Rattle.cat_query.specs.declared.query.Clause.{Clause}
use Rattle.cat_query.specs.declared.query.Primary.{Primary}
use Rattle.cat_query.specs.declared.query.Primary.TheVariants.{Group, Field}
use Rattle.cat_query.specs.declared.query.Sign.{Sign}
use Rattle.cat_query.specs.declared.query.Test.{Test}
use Rattle.cat_query.specs.declared.query.Primary.TheFolds.{fold_out-Clause}
use Rattle.cat_query.specs.View.{sign_of, tested, primary_of, Signed, primary_step, clause_step, signed, query_from, clauses_of}
use Rattle.cat_query.proofs.RowTests.{group_is, field_is}

signed_is : (c : Clause) → signed c ≡ (sign_of c.sign, primary_of c.primary)
signed_is c = fold_out-Clause model.Primary Signed primary_step clause_step c

abbrev pair : model.Sign → model.Primary → Signed
pair s p = (s, p)

one_copied : (c d : Clause) → d.sign ≡ c.sign → primary_of d.primary ≡ primary_of c.primary → signed d ≡ signed c
one_copied c d sign same =
    signed_is d ∙ ap (λ (s : Sign). pair (sign_of s) (primary_of d.primary)) sign ∙ ap (λ (p : model.Primary). pair (sign_of c.sign) p) same ∙ sym (signed_is c)

pub copied_more : (cs : List Clause) (i : ℕ) (c : Clause) → i < length cs → c ≡ get_or cs i c → (before after : List Clause) (d : Clause) → after ≡ before ++ d ∷ []
    → d.sign ≡ c.sign → primary_of d.primary ≡ primary_of c.primary
    → map signed before ++ map signed (drop i cs) ≡ map signed cs → map signed after ++ map signed (drop (i + 1) cs) ≡ map signed cs
copied_more cs i c lt at before after d added sign same so_far =
    ap (λ ds. map signed ds ++ map signed (drop (i + 1) cs)) added
    ∙ ap (λ xs. xs ++ map signed (drop (i + 1) cs)) (map-append signed before (d ∷ []))
    ∙ append_assoc (map signed before) (signed d ∷ []) (map signed (drop (i + 1) cs))
    ∙ ap (λ x. map signed before ++ x ∷ map signed (drop (i + 1) cs)) (one_copied c d sign same ∙ ap signed at)
    ∙ ap (λ xs. map signed before ++ map signed xs) (sym (drop_more cs i c lt))
    ∙ so_far

pub all_copied : (cs : List Clause) (i : ℕ) → length cs ≤ i → (ds : List Clause) → map signed ds ++ map signed (drop i cs) ≡ map signed cs → clauses_of ds ≡ clauses_of cs
all_copied cs i past ds so_far = ap query_from (sym (append-nil (map signed ds)) ∙ ap (λ l. map signed ds ++ map signed l) (sym (drop_all i cs past)) ∙ so_far)

pub group_copied : (p : Primary) (group copy : Vec Clause) → p ≡ Group group → (cs : List Clause) → cs ≡ group.items → clauses_of copy.items ≡ clauses_of cs → primary_of (Group copy) ≡ primary_of p
group_copied p group copy is cs same copied =
    group_is copy ∙ ap (λ q. model.Primary.group q) (copied ∙ ap clauses_of same) ∙ sym (ap primary_of is ∙ group_is group)

pub field_copied : (p : Primary) (name copy : Text) (t like : Test) → p ≡ Field name t → copy ≡ name → like ≡ t → primary_of (Field copy like) ≡ primary_of p
field_copied p name copy t like is same_name same_test =
    field_is copy like ∙ ap (λ n. tested n like) same_name ∙ ap (tested name) same_test ∙ sym (ap primary_of is ∙ field_is name t)

-- What was tried stays so over calls in a row.
use Rattle.std.proofs.Common.{◌≡◌, ◌⊎◌, ℕ, ◌≤◌, List, [], ◌∷◌, ◌++◌, Option, Some, None, refl, sym, ◌∙◌, ap, subst, arith, inl, inr}
use Rattle.std.specs.Prelude.{IfSome}
use Rattle.cat_model.specs.Told.{FileContent}
use Rattle.cat_directory.specs.declared.name.FileName.{FileName}
use Rattle.cat_ledger_laws.specs.shape.Shapes.{Shape}
use Rattle.cat_ledger_laws.specs.shape.Tried.{AreTrials, IsFreshAhead, IsTrial, IsTriedCommit, Trial, TrialsStay, TriedCommit}
use Rattle.cat_ledger_laws.proofs.shape.Tried.{tried_stay}

module _ {D : Type 0} (left : D → FileName → FileContent → Type 0) where
  -- what isn't given out is fresh still
  fresh_still : (d : D) (s : Shape) (x : Trial D) → IsTrial left d s x → IsFreshAhead (left d) s → IsFreshAhead (left x.device) x.shape
  fresh_still d s x trial fresh g low e after =
      let rises : s.next_generation ≤ x.shape.next_generation = trial.spares.generations in
      elim (trial.ahead g low e after) [ inl before ↦ fresh g (omega (arith, rises, low)) e before | inr gone ↦ gone ]

  fresh_on : (d last : D) (s new : Shape) (calls : List (Trial D)) → AreTrials left d s calls last new → IsFreshAhead (left d) s → IsFreshAhead (left last) new
  fresh_on d last s new [] same fresh = subst (λ (t : D). IsFreshAhead (left t) new) same.0 (subst (IsFreshAhead (left d)) same.1 fresh)
  fresh_on d last s new (x ∷ calls) leads fresh = fresh_on x.device last x.shape new calls leads.1 (fresh_still d s x leads.0 fresh)

  -- what was tried before is so at the end
  kept_on : (d last : D) (s new : Shape) (calls : List (Trial D)) (t : TriedCommit) → AreTrials left d s calls last new → IsTriedCommit (left d) s t
      → IsTriedCommit (left last) new t
  kept_on d last s new [] t same tried = subst (λ (k : D). IsTriedCommit (left k) new t) same.0 (subst (λ (r : Shape). IsTriedCommit (left d) r t) same.1 tried)
  kept_on d last s new (x ∷ calls) t leads tried = kept_on x.device last x.shape new calls t leads.1 (tried_stay left d x.device s x.shape t leads.0.spares tried)

  -- what one of them tried
  own_trial : (d : D) (s : Shape) (x : Trial D) (t : TriedCommit) → IsTrial left d s x → IsFreshAhead (left d) s → x.tried ≡ Some t
      → IsTriedCommit (left x.device) x.shape t
  own_trial d s x t trial fresh is = subst (λ (o : Option TriedCommit). IfSome o (λ u. IsFreshAhead (left d) s → IsTriedCommit (left x.device) x.shape u)) is trial.tried fresh

  one_of : (d last : D) (s new : Shape) (calls before after : List (Trial D)) (x : Trial D) (t : TriedCommit) → IsFreshAhead (left d) s
      → AreTrials left d s calls last new → calls ≡ before ++ x ∷ after → x.tried ≡ Some t → IsTriedCommit (left last) new t
  one_of d last s new [] [] after x t fresh leads split is = absurd (let no : ◌≡◌ {A = List (Trial D)} [] (x ∷ after) = split in cc)
  one_of d last s new [] (y ∷ before) after x t fresh leads split is = absurd (let no : ◌≡◌ {A = List (Trial D)} [] (y ∷ (before ++ x ∷ after)) = split in cc)
  one_of d last s new (y ∷ calls) [] after x t fresh leads split is =
      let both : (y ∷ calls) ≡ (x ∷ after) = split in
      let head : y ≡ x = cc in
      kept_on y.device last y.shape new calls t leads.1 (own_trial d s y t leads.0 fresh (ap (λ (z : Trial D). z.tried) head ∙ is))
  one_of d last s new (y ∷ calls) (z ∷ before) after x t fresh leads split is =
      let both : (y ∷ calls) ≡ (z ∷ (before ++ x ∷ after)) = split in
      let rest : calls ≡ (before ++ x ∷ after) = cc in
      one_of y.device last y.shape new calls before after x t (fresh_still d s y leads.0 fresh) leads.1 rest is

  pub trials_stay : TrialsStay left
  trials_stay d last s new calls before after x t fresh leads split is =
      (one_of d last s new calls before after x t fresh leads split is, fresh_on d last s new calls leads fresh)

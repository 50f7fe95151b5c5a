-- What was found of files that no call between has changed.
use Rattle.std.proofs.Common.{◌≡◌, ◌≢◌, ◌∙◌, ◌⊎◌, inl, inr, ℕ, ◌+◌, ◌<◌, Bool, true, false, List, [], ◌∷◌, ◌++◌, get_or, length, take, Option, Some, None, Result, Ok, Err, IfOk, ap, refl, sym, subst, true≢false}
use Rattle.std.specs.Prelude.{All, MatchBool, map}
use Rattle.std.proofs.lemmas.List.{map_push, take_more}
use Rattle.std.proofs.lemmas.List.Elements.{All-push}
use Rattle.cat_directory.specs.declared.name.FileName.{FileName}
use Rattle.cat_directory.specs.Devices.{FileContent}
use Rattle.cat_directory.specs.Names.{same_name}
use Rattle.cat_directory.specs.NameOrder.{same_name_equivalence, same_name_is}
use Rattle.cat_ledger_laws.specs.shape.Ties.{ToldFiles}
use Rattle.cat_check.specs.declared.report.Report.{Report}
use Rattle.cat_check.specs.declared.verdict.Verdict.{Verdict}
use Rattle.cat_check.specs.declared.verdict.Verdict.TheVariants as verdict
use Rattle.cat_directory.specs.Frames.{OnlyReads}
use Rattle.cat_check.specs.Judged.{IsCommitWhole, IsLost, IsJudged}
use Rattle.cat_check.specs.Checked.{IsNewestReport}
use Rattle.cat_check.specs.Standing.{IsDroppable}
use Rattle.cat_commits.proofs.Frames.{so_before}

-- each of them is judged
abbrev pub AreJudged : ToldFiles → Type 0 → List Report → Type 0
AreJudged told can reports = All (λ r. IsJudged told can r.generation r.verdict) reports

module _ {S : Type 0} {bytes : S → ToldFiles} {may_leave : S → FileName → FileContent → Type 0} {can_fail : S → Type 0} {a b : S} where
  -- what is judged of files that are as before was so before
  pub judged_before : (g : ℕ) (v : Verdict) → OnlyReads bytes may_leave can_fail a b → IsJudged (bytes b) (can_fail b) g v → IsJudged (bytes a) (can_fail a) g v
  judged_before g (verdict.Whole counts) frame h = so_before (λ t. IsCommitWhole t g) frame h
  judged_before g (verdict.Damaged faults) frame h = so_before (λ t. IsLost t g) frame h
  judged_before g verdict.Unread frame h = frame.can h

  -- so it is of a report, if there is one
  pub reported_before : {E : Type 0} (g : ℕ) (r : Result Report E) → OnlyReads bytes may_leave can_fail a b
      → IfOk r (λ x. IsJudged (bytes b) (can_fail b) g x.verdict) → IfOk r (λ x. IsJudged (bytes a) (can_fail a) g x.verdict)
  reported_before g (Ok x) frame h = judged_before g x.verdict frame h
  reported_before g (Err e) frame h = tt

  -- of several reports
  pub all_before : (reports : List Report) → OnlyReads bytes may_leave can_fail a b → AreJudged (bytes b) (can_fail b) reports → AreJudged (bytes a) (can_fail a) reports
  all_before reports frame h = λ k d within. judged_before (get_or reports k d).generation (get_or reports k d).verdict frame (h k d within)

  -- of a report more
  pub one_more : (g : ℕ) (reports new : List Report) (r : Report) → OnlyReads bytes may_leave can_fail a b → AreJudged (bytes a) (can_fail a) reports → r.generation ≡ g
      → IsJudged (bytes b) (can_fail b) g r.verdict → new ≡ reports ++ r ∷ [] → AreJudged (bytes a) (can_fail a) new
  one_more g reports new r frame before numbered judged is =
      let own : IsJudged (bytes a) (can_fail a) r.generation r.verdict =
      judged_before r.generation r.verdict frame (subst (λ (n : ℕ). IsJudged (bytes b) (can_fail b) n r.verdict) (sym numbered) judged) in
      subst (AreJudged (bytes a) (can_fail a)) (sym is) (All-push (λ (x : Report). IsJudged (bytes a) (can_fail a) x.generation x.verdict) reports r before own)

  -- of the report of the newest commit
  pub newest_before : (names : List FileName) (newest : Option Report) → OnlyReads bytes may_leave can_fail a b
      → IsNewestReport (bytes b) (can_fail b) names newest → IsNewestReport (bytes a) (can_fail a) names newest
  newest_before names None frame h = h
  newest_before names (Some r) frame h = (h.0, judged_before r.generation r.verdict frame h.1)

-- with a report more, of the next generation, there are the reports of one generation more
pub one_more_each : (reports new : List Report) (r : Report) (generations : List ℕ) (i d : ℕ) → i < length generations → r.generation ≡ get_or generations i d
    → map (λ (x : Report). x.generation) reports ≡ take i generations → new ≡ reports ++ r ∷ [] → map (λ (x : Report). x.generation) new ≡ take (i + 1) generations
one_more_each reports new r generations i d within numbered so_far is =
    ap (map (λ (x : Report). x.generation)) is ∙ map_push (λ (x : Report). x.generation) reports r
    ∙ ap (λ (xs : List ℕ). xs ++ r.generation ∷ []) so_far ∙ ap (λ (n : ℕ). take i generations ++ n ∷ []) numbered ∙ sym (take_more generations i d within)

-- ---- which of two, by a test

pub if_true : (b : Bool) (P Q : Type 0) → b ≡ true → MatchBool b P Q → P
if_true true P Q e h = h
if_true false P Q e h = absurd (let never : false ≡ true = e in cc)

pub if_false : (b : Bool) (P Q : Type 0) → b ≡ false → MatchBool b P Q → Q
if_false true P Q e h = absurd (let never : true ≡ false = e in cc)
if_false false P Q e h = h

-- where no file but one changes, each stays or is that one
pub none_but_one : (before between after : ToldFiles) (name : FileName) → ((q : FileName) → between q ≡ before q) → ((q : FileName) → q ≢ name → after q ≡ between q)
    → IsDroppable before name → (q : FileName) → (after q ≡ before q) ⊎ IsDroppable before q
none_but_one before between after name same others droppable q = by (same_name q name) refl
  where
    by : (b : Bool) → same_name q name ≡ b → (after q ≡ before q) ⊎ IsDroppable before q
    by true is = inr (subst (IsDroppable before) (sym (same_name_is q name is)) droppable)
    by false is = inl (others q (λ e. true≢false (sym (ap (λ x. same_name x name) e ∙ same_name_equivalence.refl name) ∙ is)) ∙ same q)

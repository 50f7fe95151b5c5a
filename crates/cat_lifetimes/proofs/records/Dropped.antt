-- The names of the files that a prune drops, one view at a time.
use Rattle.std.proofs.Common.{◌≡◌, ℕ, ◌+◌, ◌<◌, List, [], ◌∷◌, ◌++◌, length, get_or, take, Bool, true, false, cond, not, refl, sym, ◌∙◌, ap, ap₂, append-nil, append_assoc}
use Rattle.std.specs.List.{filter, flat_map}
use Rattle.std.proofs.lemmas.List.{take_more}
use Rattle.cat_model.specs.Files.{Name}
use Rattle.cat_model.specs.View.{needs}
use Rattle.cat_lifetimes.specs.records.Counts.{files_dropped, is_kept_from, views_of}
use Rattle.cat_lifetimes.specs.declared.records.recorded.Recorded.{Recorded}

-- the names that the view adds
abbrev pub names_dropped : ℕ → Recorded → List Name
names_dropped t r = cond (not (is_kept_from t r)) (needs r.view) []

dropped-push : (t : ℕ) (rs : List Recorded) (r : Recorded) → files_dropped t (rs ++ r ∷ []) ≡ files_dropped t rs ++ names_dropped t r
dropped-push t [] r =
    elim (not (is_kept_from t r)) as (λ b. flat_map needs (views_of (cond b (r ∷ []) [])) ≡ cond b (needs r.view) []) [
      | true ↦ append-nil (needs r.view)
      | false ↦ refl
    ]
dropped-push t (s ∷ rs) r =
    let rest : files_dropped t (rs ++ r ∷ []) ≡ files_dropped t rs ++ names_dropped t r = dropped-push t rs r in
    elim (not (is_kept_from t s)) as (λ b. flat_map needs (views_of (cond b (s ∷ filter (λ r. not (is_kept_from t r)) (rs ++ r ∷ [])) (filter (λ r. not (is_kept_from t r)) (rs ++ r ∷ [])))) ≡ flat_map needs (views_of (cond b (s ∷ filter (λ r. not (is_kept_from t r)) rs) (filter (λ r. not (is_kept_from t r)) rs))) ++ names_dropped t r) [
      | true ↦ ap (λ ns. needs s.view ++ ns) rest ∙ sym (append_assoc (needs s.view) (files_dropped t rs) (names_dropped t r))
      | false ↦ rest
    ]

dropped_more : (t : ℕ) (rs : List Recorded) (i : ℕ) (d : Recorded) → i < length rs → files_dropped t (take (i + 1) rs) ≡ files_dropped t (take i rs) ++ names_dropped t (get_or rs i d)
dropped_more t rs i d lt = ap (files_dropped t) (take_more rs i d lt) ∙ dropped-push t (take i rs) (get_or rs i d)

-- so the names go on, whether or not the next view goes
pub names_more : (t : ℕ) (rs : List Recorded) (i : ℕ) (r : Recorded) (goes : Bool) (before after : List Name) → i < length rs → r ≡ get_or rs i r
    → goes ≡ not (is_kept_from t r) → before ≡ files_dropped t (take i rs) → after ≡ before ++ cond goes (needs r.view) [] → after ≡ files_dropped t (take (i + 1) rs)
names_more t rs i r goes before after lt at is had has =
    has ∙ ap₂ (λ (xs ys : List Name). xs ++ ys) had (ap (λ b. cond b (needs r.view) []) is ∙ ap (names_dropped t) at) ∙ sym (dropped_more t rs i r lt)

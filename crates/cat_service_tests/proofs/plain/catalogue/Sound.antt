-- Each held token keeps a view.
use Rattle.std.proofs.Common.{◌≡◌, ◌≢◌, ℕ, suc, ◌≤◌, ◌<◌, List, [], ◌∷◌, ◌++◌, length, Bool, true, false, cond, not, ◌&&◌, ◌||◌, ltb, Option, Some, refl, sym, ◌∙◌, ap, arith, inl, inr}
use Rattle.std.specs.Prelude.{◌==◌, count_by, max}
use Rattle.std.specs.List.{list_any, list_all, filter, AllByRecursion}
use Rattle.std.proofs.lemmas.Bool.Decides.{nat_tests, eqb_tells}
use Rattle.std.proofs.lemmas.List.{length-append}
use Rattle.cat_model.specs.Run.{greatest, has, is_full, pruned}
use Rattle.cat_model.specs.Limits.{view_limit}
use Rattle.cat_model.specs.State.{RecordedTable, Hold, tokens, has_view, held_in, IsSound, views_pruned, views_without_least_free}
use Rattle.cat_model.proofs.Lists.{filter_alike, All-weaken, list_any-append, list_any_none}
use Rattle.cat_model.proofs.Runs.{greatest_in, has_some, or_true, pruned_has}
use Rattle.cat_search.proofs.Defined.{filter-map}
use Rattle.cat_service_tests.specs.plain.Tables.{IsLeastFree, without_token}

has-tokens : (vs : List RecordedTable) (t : ℕ) → has (tokens vs) t ≡ has_view vs t
has-tokens [] t = refl
has-tokens (v ∷ vs) t = ap (λ b. (v.token == t) || b) (has-tokens vs t)

tokens_some : (vs : List RecordedTable) → 0 < length vs → 0 < length (tokens vs)
tokens_some [] h = h
tokens_some (v ∷ vs) h = omega arith

-- the newest view is there
pub newest_has : (vs : List RecordedTable) (hs : List Hold) → IsSound vs hs → has_view vs (greatest (tokens vs)) ≡ true
newest_has vs hs ok = sym (has-tokens vs (greatest (tokens vs))) ∙ greatest_in (tokens vs) (tokens_some vs ok.some_view)

-- what is held after a CLOSE was held before
and_false : (b : Bool) → (b && false) ≡ false
and_false true = refl
and_false false = refl

or_left : (a b c : Bool) → (b ≡ true → c ≡ true) → (a || b) ≡ true → (a || c) ≡ true
or_left true b c f h = refl
or_left false b c f h = f h

held_filter_at : (x : Hold) (fs hs : List Hold) (t : ℕ) (b : Bool) → (held_in fs t ≡ true → held_in hs t ≡ true) → held_in (cond b (x ∷ fs) fs) t ≡ true → held_in (x ∷ hs) t ≡ true
held_filter_at x fs hs t true f h = or_left (x.token == t) (held_in fs t) (held_in hs t) f h
held_filter_at x fs hs t false f h = ap (λ b. (x.token == t) || b) (f h) ∙ or_true (x.token == t)

held_filter : (p : Hold → Bool) (hs : List Hold) (t : ℕ) → held_in (filter p hs) t ≡ true → held_in hs t ≡ true
held_filter p [] t h = h
held_filter p (x ∷ hs) t h = held_filter_at x (filter p hs) hs t (p x) (held_filter p hs t) h

pub sound_closed : (vs : List RecordedTable) (hs : List Hold) (p : Hold → Bool) → IsSound vs hs → IsSound vs (filter p hs)
sound_closed vs hs p ok = record { some_view = ok.some_view; held = λ t h. ok.held t (held_filter p hs t h) }

-- what is held after an OPEN was held before, or has just been opened
opened_at : (vs : List RecordedTable) (hs : List Hold) (t u : ℕ) → has_view vs t ≡ true → (held_in hs u ≡ true → has_view vs u ≡ true) → (b : Bool) → held_in hs u ≡ b → (b || ((t == u) || false)) ≡ true
    → has_view vs u ≡ true
opened_at vs hs t u has before true is h = before is
opened_at vs hs t u has before false is h =
    elim (eqb_tells t u) [
      | inl e ↦ ap (has_view vs) (sym e.1) ∙ has
      | inr e ↦ absurd (let none : false ≡ true = rw e.0 at h in cc)
    ]

pub sound_opened : (vs : List RecordedTable) (hs : List Hold) (s t : ℕ) → has_view vs t ≡ true → IsSound vs hs → IsSound vs (hs ++ record { session = s; token = t } ∷ [])
sound_opened vs hs s t has ok =
    let one : Hold = record { session = s; token = t } in
    record { some_view = ok.some_view; held = λ u h. opened_at vs hs t u has (ok.held u) (held_in hs u) refl (sym (list_any-append (λ k. k.token == u) hs (one ∷ [])) ∙ h) }

-- ---- the view that leaves

false_and : (b c : Bool) → (b ≡ false → c ≡ false) → (not b && c) ≡ false
false_and true c f = refl
false_and false c f = f refl

any_view_at : (p : RecordedTable → Bool) (vs : List RecordedTable) (t : ℕ) → ((v : RecordedTable) → v.token ≡ t → p v ≡ true) → has_view vs t ≡ true → list_any p vs ≡ true
any_view_at p [] t f h = h
any_view_at p (v ∷ vs) t f h =
    elim (eqb_tells v.token t) [
      | inl e ↦ rw (f v e.1) refl
      | inr e ↦ ap (λ b. p v || b) (any_view_at p vs t f (rw e.0 at h)) ∙ or_true (p v)
    ]

none_lower : (held : ℕ → Bool) (vs : List RecordedTable) (t n : ℕ) → n ≡ t → AllByRecursion (λ v. held v.token ≡ false → t ≤ v.token) vs → list_any (λ u. not (held u.token) && ltb u.token n) vs ≡ false
none_lower held vs t n e a =
    list_any_none _ vs (All-weaken (λ v. held v.token ≡ false → t ≤ v.token) _ (λ v f. false_and (held v.token) (ltb v.token n) (λ k. let low : t ≤ v.token = f k in grind (arith, nat_tests))) vs a)

kept_free : (held : ℕ → Bool) (vs : List RecordedTable) (t : ℕ) (v : RecordedTable) → IsLeastFree held vs (Some t) → (held v.token ≡ false → t ≤ v.token) → v.token ≢ t
    → (b : Bool) → held v.token ≡ b → (b || list_any (λ u. not (held u.token) && ltb u.token v.token) vs) ≡ true
kept_free held vs t v ok low differ true e = refl
kept_free held vs t v ok low differ false e =
    let above : t < v.token = (let k : t ≤ v.token = low e in omega arith) in
    any_view_at (λ u. not (held u.token) && ltb u.token v.token) vs t (λ u same. let free : held u.token ≡ false = ap held same ∙ ok.1 in let less : ltb u.token v.token ≡ true = grind (arith, nat_tests) in rw (free, less) refl) ok.0

kept_at : (held : ℕ → Bool) (vs : List RecordedTable) (t : ℕ) (v : RecordedTable) → IsLeastFree held vs (Some t) → (held v.token ≡ false → t ≤ v.token)
    → (held v.token || list_any (λ u. not (held u.token) && ltb u.token v.token) vs) ≡ not (v.token == t)
kept_at held vs t v ok low =
    elim (eqb_tells v.token t) [
      | inl e ↦ let free : held v.token ≡ false = ap held e.1 ∙ ok.1 in rw (e.0, free, none_lower held vs t v.token e.1 ok.2) refl
      | inr e ↦ rw e.0 (kept_free held vs t v ok low e.1 (held v.token) refl)
    ]

-- leaving out the least free token is leaving out that one view
pub least_leaves : (held : ℕ → Bool) (vs : List RecordedTable) (t : ℕ) → IsLeastFree held vs (Some t) → views_without_least_free held vs ≡ filter (λ v. not (v.token == t)) vs
least_leaves held vs t ok =
    filter_alike _ (λ v. not (v.token == t)) vs (All-weaken (λ v. held v.token ≡ false → t ≤ v.token) _ (λ v low. kept_at held vs t v ok low) vs ok.2)

not_all : (held : ℕ → Bool) (vs : List RecordedTable) (t : ℕ) → has_view vs t ≡ true → held t ≡ false → list_all held (tokens vs) ≡ false
not_all held [] t h k = absurd (cc)
not_all held (v ∷ vs) t h k =
    elim (eqb_tells v.token t) [
      | inl e ↦ let free : held v.token ≡ false = ap held e.1 ∙ k in rw free refl
      | inr e ↦ ap (λ b. held v.token && b) (not_all held vs t (rw e.0 at h) k) ∙ and_false (held v.token)
    ]

pub some_free : (held : ℕ → Bool) (vs : List RecordedTable) (t : ℕ) → IsLeastFree held vs (Some t) → is_full held (tokens vs) ≡ false
some_free held vs t ok = ap (λ b. not (ltb (length (tokens vs)) view_limit) && b) (not_all held vs t ok.0 ok.1) ∙ and_false _

pub length-tokens : (vs : List RecordedTable) → length (tokens vs) ≡ length vs
length-tokens [] = refl
length-tokens (v ∷ vs) = ap suc (length-tokens vs)

has_view-filter : (p : RecordedTable → Bool) (vs : List RecordedTable) (t : ℕ) → ((v : RecordedTable) → v.token ≡ t → p v ≡ true) → has_view vs t ≡ true → has_view (filter p vs) t ≡ true
has_view-filter p [] t f h = h
has_view-filter p (v ∷ vs) t f h =
    elim (eqb_tells v.token t) [
      | inl e ↦ rw (f v e.1, e.0) refl
      | inr e ↦ let rest : has_view (filter p vs) t ≡ true = has_view-filter p vs t f (rw e.0 at h) in
          elim (p v) as (λ b. has_view (cond b (v ∷ filter p vs) (filter p vs)) t ≡ true) [ true ↦ rw (e.0, rest) refl | false ↦ rest ]
    ]

room_keeps : (hs : List Hold) (vs : List RecordedTable) (t : ℕ) (b : Bool) → held_in hs t ≡ true → has_view vs t ≡ true → has_view (cond b vs (views_without_least_free (held_in hs) vs)) t ≡ true
room_keeps hs vs t true h k = k
room_keeps hs vs t false h k = has_view-filter _ vs t (λ v e. let held : held_in hs v.token ≡ true = ap (held_in hs) e ∙ h in rw held refl) k

-- recording a view keeps what is held
pub sound_recorded : (vs : List RecordedTable) (hs : List Hold) (o : Option ℕ) (v : RecordedTable) → IsSound vs hs
    → without_token o vs ≡ cond (ltb (length vs) view_limit) vs (views_without_least_free (held_in hs) vs)
    → IsSound (without_token o vs ++ v ∷ []) hs
sound_recorded vs hs o v ok e = record {
  some_view = omega (arith, length-append (without_token o vs) (v ∷ []));
  held = λ t h.
      let k : has_view (without_token o vs) t ≡ true = ap (λ us. has_view us t) e ∙ room_keeps hs vs t (ltb (length vs) view_limit) h (ok.held t h) in
      list_any-append (λ u. u.token == t) (without_token o vs) (v ∷ []) ∙ ap (λ b. b || has_view (v ∷ []) t) k;
}

-- ---- the views that a PRUNE leaves

tokens_pruned : (held : ℕ → Bool) (n : ℕ) (vs : List RecordedTable) → pruned held n (tokens vs) ≡ tokens (views_pruned held n vs)
tokens_pruned held n vs = filter-map (λ t. held t || ltb (count_by (λ u. ltb t u) (tokens vs)) (max n 1)) (λ v. v.token) vs

some_stays : (held : ℕ → Bool) (n : ℕ) (vs : List RecordedTable) → 0 < length vs → 0 < length (views_pruned held n vs)
some_stays held n vs h =
    let some : 0 < length (pruned held n (tokens vs)) = has_some _ (greatest (tokens vs)) (pruned_has held n (tokens vs) (tokens_some vs h)) in
    omega (arith, some, ap (λ ts. length ts) (tokens_pruned held n vs), length-tokens (views_pruned held n vs))

-- pruning keeps what is held
pub sound_pruned : (n : ℕ) (vs : List RecordedTable) (hs : List Hold) → IsSound vs hs → IsSound (views_pruned (held_in hs) n vs) hs
sound_pruned n vs hs ok = record {
  some_view = some_stays (held_in hs) n vs ok.some_view;
  held = λ t h. has_view-filter _ vs t (λ v e. let held : held_in hs v.token ≡ true = ap (held_in hs) e ∙ h in rw held refl) (ok.held t h);
}

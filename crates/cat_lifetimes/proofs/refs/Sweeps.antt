-- A sweep on its way: of the names in order, the first so many are forgotten and their files deleted.
use Rattle.std.proofs.Common.{◌≡◌, ◌≢◌, ℕ, zero, suc, ◌+◌, ◌<◌, ◌≤◌, List, [], ◌∷◌, map, length, take, get_or, Bool, true, false, cond, not, ◌&&◌, ◌||◌, Option, Some, None, refl, sym, ◌∙◌, ap, subst, ◌⊎◌, inl, inr}
use Rattle.std.specs.Prelude.{◌==◌, is_some, unwrap_or}
use Rattle.std.specs.List.{list_any}
use Rattle.std.specs.Map.{lookup}
use Rattle.std.specs.declared.cmp.Ordering.TheVariants.{Less, Equal, Greater}
use Rattle.std.proofs.lemmas.List.{take_all}
use Rattle.std.proofs.lemmas.List.Folds.{list_any_more, list_any_at}
use Rattle.std.specs.Ordering.{ordering_reverse}
use Rattle.std.proofs.lemmas.Cmp.{tied_itself}
use Rattle.std.proofs.lemmas.Bool.{both_ways, and_parts, and_from, eqb-true}
use Rattle.cat_model.specs.Files.{Name}
use Rattle.cat_ledger_laws.specs.model.Users.{Used, users_of, is_known}
use Rattle.cat_directory.specs.declared.name.FileName.{FileName}
use Rattle.cat_directory.specs.Names.{name_of, name_cmp, same_name}
use Rattle.cat_directory.specs.NameOrder.{same_name_is, same_name_equivalence, name_cmp_total}
use Rattle.cat_directory.specs.Devices.{Told, FileContent, NoMore, OrGone, removed, told_after}
use Rattle.cat_lifetimes.specs.refs.Counts.{used_in, is_pending, IsPending, IsForgotten}
use Rattle.cat_lifetimes.specs.refs.Swept.{ArePending, Swept}
use Rattle.cat_lifetimes.proofs.refs.Named.{of_files, and_true, users_in, known_in}
use Rattle.cat_lifetimes.proofs.refs.Rising.{comes_before, next_or_behind, next_is_new}

pub record Sweeping (old cur : List Used) (names : List FileName) (i : ℕ) (before now : FileName → Told) (could can : FileName → FileContent → Type 0) : Type 0 where
  pub users : (q : Name) → users_of cur q ≡ users_of old q
  pub known : (q : FileName) → is_known cur (name_of q) ≡ (is_known old (name_of q) && not (list_any (same_name q) (take i names)))
  pub deleted : (q : FileName) → list_any (same_name q) (take i names) ≡ true → now q ≡ told_after removed (before q)
  pub back : (q : FileName) → OrGone (could q) (can q)
  pub others : (q : FileName) → list_any (same_name q) (take i names) ≡ false → (now q ≡ before q) × NoMore (could q) (can q)

gone_twice : (t : Told) → told_after removed (told_after removed t) ≡ told_after removed t
gone_twice None = refl
gone_twice (Some content) = refl

gone_again : (could mid can : FileContent → Type 0) → OrGone could mid → OrGone mid can → OrGone could can
gone_again could mid can one two e there = elim (two e there) [ inl left ↦ one e left | inr none ↦ inr none ]

none_more : (could mid can : FileContent → Type 0) → NoMore could mid → NoMore mid can → NoMore could can
none_more could mid can one two e there = one e (two e there)

-- a fact at one name and at each other one
either : (P : FileName → Type 0) (k : FileName) → P k → ((q : FileName) → q ≢ k → P q) → (q : FileName) → P q
either P k here other q = by (same_name q k) refl
  where
    by : (b : Bool) → same_name q k ≡ b → P q
    by true e = subst P (sym (same_name_is q k e)) here
    by false e = other q (λ same. let self : same_name q q ≡ false = subst (λ n. same_name q n ≡ false) (sym same) e in let no : true ≡ false = sym (same_name_equivalence.refl q) ∙ self in cc)

not_same : (q k : FileName) → q ≢ k → same_name q k ≡ false
not_same q k apart = by (same_name q k) refl
  where
    by : (b : Bool) → same_name q k ≡ b → b ≡ false
    by true e = absurd (apart (same_name_is q k e))
    by false e = refl

or_first : (a b : Bool) → (a || b) ≡ true → b ≡ false → a ≡ true
or_first true b e f = refl
or_first false b e f = absurd (let no : true ≡ false = sym e ∙ f in cc)

or_neither : (a b : Bool) → (a || b) ≡ false → (a ≡ false) × (b ≡ false)
or_neither true b e = absurd (let no : true ≡ false = e in cc)
or_neither false b e = (refl, e)

none_true : (b : Bool) → (b ≡ true → ⊥) → b ≡ false
none_true true f = absurd (f refl)
none_true false f = refl

-- what a call that deletes one file leaves of all
pub record DeletesOne (k : FileName) (before after : FileName → Told) (could can : FileName → FileContent → Type 0) : Type 0 where
  pub others : (q : FileName) → q ≢ k → after q ≡ before q
  pub crash : (q : FileName) → q ≢ k → NoMore (could q) (can q)
  pub back : OrGone (could k) (can k)

pub begin : (old : List Used) (names : List FileName) (before : FileName → Told) (could : FileName → FileContent → Type 0) → Sweeping old old names 0 before before could could
begin old names before could = record {
  users = λ q. refl;
  known = λ q. and_true (is_known old (name_of q));
  deleted = λ q e. absurd (let no : false ≡ true = e in cc);
  back = λ q e there. inl there;
  others = λ q e. (refl, λ e there. there);
}

-- the entries fs have nothing at k, and elsewhere what es have
abbrev pub Drops : List (FileName × ℕ) → List (FileName × ℕ) → FileName → Type 0
Drops es fs k = (q : FileName) → lookup (same_name q) fs ≡ cond (same_name k q) None (lookup (same_name q) es)

users_dropped : (es fs : List (FileName × ℕ)) (k : FileName) → lookup (same_name k) es ≡ Some 0 → Drops es fs k → (q : FileName)
    → unwrap_or (lookup (same_name q) fs) 0 ≡ unwrap_or (lookup (same_name q) es) 0
users_dropped es fs k there drops q = rw (drops q) (by (same_name k q) refl)
  where
    by : (b : Bool) → same_name k q ≡ b → unwrap_or (cond b None (lookup (same_name q) es)) 0 ≡ unwrap_or (lookup (same_name q) es) 0
    by true e = sym (ap (λ o. unwrap_or o 0) (ap (λ n. lookup (same_name n) es) (sym (same_name_is k q e)) ∙ there))
    by false e = refl

known_dropped : (es fs : List (FileName × ℕ)) (k : FileName) → Drops es fs k → (q : FileName) → is_some (lookup (same_name q) fs) ≡ (is_some (lookup (same_name q) es) && not (same_name q k))
known_dropped es fs k drops q = rw (drops q, same_name_equivalence.symm q k) (by (same_name k q) (is_some (lookup (same_name q) es)) refl)
  where
    by : (b c : Bool) → is_some (lookup (same_name q) es) ≡ c → is_some (cond b None (lookup (same_name q) es)) ≡ (c && not b)
    by true true e = refl
    by true false e = refl
    by false true e = e
    by false false e = e

both_gone : (a b c : Bool) → ((a && not b) && not c) ≡ (a && not (b || c))
both_gone true true c = refl
both_gone true false c = refl
both_gone false b c = refl

-- one name more is deleted and forgotten
pub go_on : (old : List Used) (es fs : List (FileName × ℕ)) (names : List FileName) (i : ℕ) (d : FileName) (before now after : FileName → Told) (could can then : FileName → FileContent → Type 0)
    → i < length names → lookup (same_name (get_or names i d)) es ≡ Some 0 → Drops es fs (get_or names i d)
    → DeletesOne (get_or names i d) now after can then → after (get_or names i d) ≡ told_after removed (now (get_or names i d))
    → Sweeping old (map used_in es) names i before now could can → Sweeping old (map used_in fs) names (i + 1) before after could then
go_on old es fs names i d before now after could can then within there drops one gone s =
    let k = get_or names i d in
    let more : (q : FileName) → list_any (same_name q) (take (i + 1) names) ≡ (list_any (same_name q) (take i names) || same_name q k) = λ q. list_any_more (same_name q) names i d within in
    record {
      users = of_files (λ n. users_of (map used_in fs) n ≡ users_of old n) (λ q. users_in q fs ∙ users_dropped es fs k there drops q ∙ sym (users_in q es) ∙ s.users (name_of q));
      known = λ q. known_in q fs ∙ known_dropped es fs k drops q ∙ ap (λ b. b && not (same_name q k)) (sym (known_in q es) ∙ s.known q)
          ∙ both_gone (is_known old (name_of q)) (list_any (same_name q) (take i names)) (same_name q k) ∙ ap (λ b. is_known old (name_of q) && not b) (sym (more q));
      deleted = either (λ q. list_any (same_name q) (take (i + 1) names) ≡ true → after q ≡ told_after removed (before q)) k
          (λ e. gone ∙ at_once (list_any (same_name k) (take i names)) refl)
          (λ q apart e. one.others q apart ∙ s.deleted q (or_first _ _ (sym (more q) ∙ e) (not_same q k apart)));
      back = either (λ q. OrGone (could q) (then q)) k (gone_again (could k) (can k) (then k) (s.back k) one.back) (λ q apart e there. s.back q e (one.crash q apart e there));
      others = λ q e.
          let no : (list_any (same_name q) (take i names) ≡ false) × (same_name q k ≡ false) = or_neither _ _ (sym (more q) ∙ e) in
          let apart : q ≢ k = λ same. both_ways (same_name q k) no.1 (subst (λ n. same_name q n ≡ true) same (same_name_equivalence.refl q)) in
          (one.others q apart ∙ (s.others q no.0).0, none_more (could q) (can q) (then q) (s.others q no.0).1 (one.crash q apart));
    }
  where
    at_once : (b : Bool) → list_any (same_name (get_or names i d)) (take i names) ≡ b → told_after removed (now (get_or names i d)) ≡ told_after removed (before (get_or names i d))
    at_once true e = ap (told_after removed) (s.deleted (get_or names i d) e) ∙ gone_twice (before (get_or names i d))
    at_once false e = ap (told_after removed) ((s.others (get_or names i d) e).0)

-- ---- the end

-- a name that is pending on the way is none of those that were deleted, and was pending
left : (old cur : List Used) (names : List FileName) (i : ℕ) (before now : FileName → Told) (could can : FileName → FileContent → Type 0)
    → Sweeping old cur names i before now could can → (q : FileName) → IsPending cur q → (list_any (same_name q) (take i names) ≡ false) × IsPending old q
left old cur names i before now could can s q p =
    by (is_known old (name_of q)) (list_any (same_name q) (take i names)) refl (sym (s.known q) ∙ (and_parts _ _ p).0) (sym (ap (λ n. n == 0) (s.users (name_of q))) ∙ (and_parts _ _ p).1)
  where
    by : (a b : Bool) → list_any (same_name q) (take i names) ≡ b → (a && not b) ≡ true → (users_of old (name_of q) == 0) ≡ true → (b ≡ false) × ((a && (users_of old (name_of q) == 0)) ≡ true)
    by true false is e none = (refl, none)
    by true true is e none = absurd (let no : false ≡ true = e in cc)
    by false b is e none = absurd (let no : false ≡ true = e in cc)

-- a forgotten name is one of those that were deleted
forgotten : (old cur : List Used) (names : List FileName) (i : ℕ) (before now : FileName → Told) (could can : FileName → FileContent → Type 0)
    → Sweeping old cur names i before now could can → (q : FileName) → IsForgotten old cur q → list_any (same_name q) (take i names) ≡ true
forgotten old cur names i before now could can s q p =
    by (is_known old (name_of q)) (list_any (same_name q) (take i names)) ((and_parts _ _ p.0).0) (sym (s.known q) ∙ p.1)
  where
    by : (a b : Bool) → a ≡ true → (a && not b) ≡ false → b ≡ true
    by true true there e = refl
    by true false there e = absurd (let no : true ≡ false = e in cc)
    by false b there e = absurd (let no : false ≡ true = there in cc)

in_front : (p : FileName → Bool) (names : List FileName) (i : ℕ) → list_any p names ≡ false → list_any p (take i names) ≡ false
in_front p names zero e = refl
in_front p [] (suc i) e = refl
in_front p (x ∷ xs) (suc i) e = let no : (p x ≡ false) × (list_any p xs ≡ false) = or_neither _ _ e in rw no.0 (in_front p xs i no.1)

-- all names were deleted
pub finished : (old cur : List Used) (names : List FileName) (i : ℕ) (before now : FileName → Told) (could can : FileName → FileContent → Type 0)
    → ArePending old names → length names ≤ i → Sweeping old cur names i before now could can → Swept old cur before now could can × ((q : Name) → is_pending cur q ≡ false)
finished old cur names i before now could can ps all s =
    let there : (q : FileName) → list_any (same_name q) (take i names) ≡ is_pending old (name_of q) = λ q. rw (take_all i names all) (ps.all q) in
    let none : (q : FileName) → IsPending cur q → ⊥ = λ q p. let l = left old cur names i before now could can s q p in both_ways _ l.0 (there q ∙ l.1) in (
      record {
        deleted = λ q f. s.deleted q (forgotten old cur names i before now could can s q f);
        pending = λ q p. absurd (none q p);
        others = λ q e. (s.others q (there q ∙ e)).0;
        crash = λ q e. (s.others q (there q ∙ e)).1;
        back = s.back;
        order = λ p q f w. absurd (none q w);
        untried = λ p q v w less. absurd (none q w);
      },
      of_files (λ n. is_pending cur n ≡ false) (λ q. none_true (is_pending cur (name_of q)) (none q)),
    )

-- nothing was tried
pub nothing : (old : List Used) (before after : FileName → Told) (could can : FileName → FileContent → Type 0)
    → ((q : FileName) → after q ≡ before q) → ((q : FileName) → NoMore (could q) (can q)) → Swept old old before after could can
nothing old before after could can same crash =
    let known : (q : FileName) → IsForgotten old old q → ⊥ = λ q f. both_ways _ f.1 (and_parts _ _ f.0).0 in
    record {
      deleted = λ q f. absurd (known q f);
      pending = λ q p. inl (same q);
      others = λ q e. same q;
      crash = λ q e. crash q;
      back = λ q e there. inl (crash q e there);
      order = λ p q f w. absurd (known p f);
      untried = λ p q v w less. (same q, crash q);
    }

-- the next name couldn't be deleted
pub stopped : (old cur : List Used) (names : List FileName) (i : ℕ) (d : FileName) (before now after : FileName → Told) (could can then : FileName → FileContent → Type 0)
    → ArePending old names → i < length names → DeletesOne (get_or names i d) now after can then
    → (after (get_or names i d) ≡ now (get_or names i d)) ⊎ (after (get_or names i d) ≡ told_after removed (now (get_or names i d)))
    → Sweeping old cur names i before now could can → Swept old cur before after could then × IsPending cur (get_or names i d)
stopped old cur names i d before now after could can then ps within one tried s =
    let k : FileName = get_or names i d in
    let fresh : list_any (same_name k) (take i names) ≡ false = next_is_new d names i within ps.rising in
    let stands : list_any (same_name k) names ≡ true = list_any_at (same_name k) names i d within (same_name_equivalence.refl k) in
    let was : now k ≡ before k = (s.others k fresh).0 in
    let was_pending : IsPending old k = sym (ps.all k) ∙ stands in
    let here : (q : FileName) → q ≡ k → list_any (same_name q) (take i names) ≡ true → ⊥ = λ q e t. both_ways _ fresh (subst (λ n. list_any (same_name n) (take i names) ≡ true) e t) in
    let front : (q : FileName) → IsForgotten old cur q → list_any (same_name q) (take i names) ≡ true = forgotten old cur names i before now could can s in
    let behind : (q : FileName) → IsPending cur q → (list_any (same_name q) (take i names) ≡ false) × IsPending old q = left old cur names i before now could can s in
    let unlisted : (q : FileName) → is_pending old (name_of q) ≡ false → (list_any (same_name q) (take i names) ≡ false) × (q ≢ k) =
    λ q e. (in_front (same_name q) names i (ps.all q ∙ e), λ same. both_ways _ e (subst (λ n. IsPending old n) (sym same) was_pending)) in
    let kept : (q : FileName) → list_any (same_name q) (take i names) ≡ false → q ≢ k → (after q ≡ before q) × NoMore (could q) (then q) =
    λ q e apart. (one.others q apart ∙ (s.others q e).0, none_more (could q) (can q) (then q) (s.others q e).1 (one.crash q apart)) in
    let known : is_known cur (name_of k) ≡ true = s.known k ∙ (rw fresh (sym (and_true (is_known old (name_of k))) ∙ (and_parts _ _ was_pending).0)) in (
      record {
        deleted = λ q f. one.others q (λ e. here q e (front q f)) ∙ s.deleted q (front q f);
        pending = either (λ q. IsPending cur q → (after q ≡ before q) ⊎ (after q ≡ told_after removed (before q))) k
            (λ p. elim tried [ inl same ↦ inl (same ∙ was) | inr gone ↦ inr (gone ∙ ap (told_after removed) was) ])
            (λ q apart p. inl (kept q (behind q p).0 apart).0);
        others = λ q e. (kept q (unlisted q e).0 (unlisted q e).1).0;
        crash = λ q e. (kept q (unlisted q e).0 (unlisted q e).1).1;
        back = either (λ q. OrGone (could q) (then q)) k (gone_again (could k) (can k) (then k) (s.back k) one.back) (λ q apart e there. s.back q e (one.crash q apart e there));
        order = λ p q f w. comes_before p q names i ps.rising (front p f) (ps.all q ∙ (behind q w).1) (behind q w).0;
        untried = λ p q v w less. kept q (behind q w).0 (λ same.
            let below : name_cmp p k ≡ Less = subst (λ n. name_cmp p n ≡ Less) same less in
            elim (next_or_behind p d names i within ps.rising (ps.all p ∙ (behind p v).1) (behind p v).0) [
              | inl is ↦ let self : name_cmp k k ≡ Less = subst (λ n. name_cmp n k ≡ Less) is below in let no : Equal ≡ Less = sym (tied_itself name_cmp_total k) ∙ self in cc
              | inr above ↦ let no : Less ≡ Greater = sym above ∙ name_cmp_total.antisymm k p ∙ ap ordering_reverse below in cc
            ]);
      },
      and_from _ _ known (ap (λ n. n == 0) (s.users (name_of k)) ∙ (and_parts _ _ was_pending).1),
    )

-- the next name is known, and nobody has it
pub unused_at : (old : List Used) (es : List (FileName × ℕ)) (names : List FileName) (i : ℕ) (d : FileName) (before now : FileName → Told) (could can : FileName → FileContent → Type 0)
    → ArePending old names → i < length names → Sweeping old (map used_in es) names i before now could can → lookup (same_name (get_or names i d)) es ≡ Some 0
unused_at old es names i d before now could can ps within s =
    let k : FileName = get_or names i d in
    let fresh : list_any (same_name k) (take i names) ≡ false = next_is_new d names i within ps.rising in
    let was_pending : IsPending old k = sym (ps.all k) ∙ list_any_at (same_name k) names i d within (same_name_equivalence.refl k) in
    let known : is_some (lookup (same_name k) es) ≡ true = sym (known_in k es) ∙ s.known k ∙ (rw fresh (sym (and_true (is_known old (name_of k))) ∙ (and_parts _ _ was_pending).0)) in
    let none : unwrap_or (lookup (same_name k) es) 0 ≡ 0 = sym (users_in k es) ∙ s.users (name_of k) ∙ eqb-true _ _ (and_parts _ _ was_pending).1 in
    by (lookup (same_name k) es) known none
  where
    by : (o : Option ℕ) → is_some o ≡ true → unwrap_or o 0 ≡ 0 → o ≡ Some 0
    by (Some n) e z = ap (λ m. Some m) z
    by None e z = absurd (let no : false ≡ true = e in cc)

pub still_known : (old cur : List Used) (names : List FileName) (i : ℕ) (before now : FileName → Told) (could can : FileName → FileContent → Type 0)
    → Sweeping old cur names i before now could can → (q : Name) → is_known cur q ≡ true → is_known old q ≡ true
still_known old cur names i before now could can s = of_files (λ n. is_known cur n ≡ true → is_known old n ≡ true) (λ q e. (and_parts _ _ (sym (s.known q) ∙ e)).0)

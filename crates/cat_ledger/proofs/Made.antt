-- What the calls of memory make of each ledger that is carried: the words of a ledger's contracts from those of its parts.
use Rattle.std.proofs.Common.{inl, inr, ◌≡◌, ◌≢◌, ◌⊎◌, ℕ, ◌==◌, ◌<◌, ◌≤◌, Bool, true, false, ◌||◌, List, [], ◌∷◌, length, refl, sym, ◌∙◌, ap, ap₂, subst, arith}
use Rattle.std.specs.Prelude.{unwrap_or, cond, find, not, ◌&&◌, Option, Some, None}
use Rattle.std.specs.List.{AllByRecursion, list_any}
use Rattle.std.proofs.lemmas.Bool.Decides.{eqb_tells}
use Rattle.cat_model.specs.Files.{Name}
use Rattle.cat_model.specs.Limits.{buffer_limit, last_number}
use Rattle.cat_model.specs.Run.{greatest, is_full}
use Rattle.cat_model.specs.State.{held_in}
use Rattle.cat_model.specs.Text.{Text}
use Rattle.cat_model.specs.View.{View}
use Rattle.cat_model.specs.Write.{Write}
use Rattle.cat_directory.specs.declared.name.FileName.{FileName}
use Rattle.cat_directory.specs.declared.name.FileName.TheVariants as file
use Rattle.cat_directory.specs.Names.{name_of}
use Rattle.cat_ledger_laws.specs.model.Calls.{Flushes, wrote}
use Rattle.cat_ledger_laws.specs.model.Laws.{PutsItem}
use Rattle.cat_ledger_laws.specs.model.Ledger.{IsNew}
use Rattle.cat_ledger_laws.specs.model.Replies.{IsLeft, MakesRoom}
use Rattle.cat_ledger_laws.specs.model.Users.{has_name, same_file_name}
use Rattle.cat_ledger_laws.proofs.model.Counted.{same_name_is}
use Rattle.cat_ledger_laws.specs.shape.CommitLaws.{names_begun}
use Rattle.cat_ledger_laws.specs.shape.Shapes.{IsShape, Shape}
use Rattle.cat_ledger_laws.specs.shape.Steps.{tokens_of, with_write}
use Rattle.cat_ledger_laws.specs.shape.Ties.{Makes, ToldFiles, TouchesNothing}
use Rattle.cat_ledger_laws.proofs.shape.Listed.{names_are_begun}
use Rattle.cat_ledger_laws.proofs.shape.Writes.{flushes_make, refusals_make, writes_make}
use Rattle.cat_ledger_state.specs.Cores.{HasFlushed, HasGivenUp, flush_begins, is_begun}
use Rattle.cat_ledger_laws.specs.lines.LineLaws.{MayRefresh}
use Rattle.cat_ledger.specs.Grants.{IsAsked}
use Rattle.cat_ledger_laws.proofs.lines.JoinedCalls.{flushes_flush, flushes_rest, room_is_made}
use Rattle.cat_ledger_laws.proofs.lines.StopAnswers.{begun_are_left, flushed_are_left, flushes_are_left, nothing_is_left, room_is_left}

-- ---- what is left

-- all as it was, or names that were begun, which are new
pub left_begun : (begun : List Name) (told told' : ToldFiles) (s new : Shape) → AllByRecursion (IsNew s.next_segment s.next_generation) begun
    → HasGivenUp begun told s told' new → Makes IsLeft told s told' new
left_begun begun told told' s new names (inl k) = nothing_is_left told told' s new k
left_begun begun told told' s new names (inr k) = begun_are_left begun told told' s new (refusals_make begun s new told told' k.0 names k.1)

-- a refused call keeps all but users and the next numbers
pub given_up_views : (begun : List Name) (told told' : ToldFiles) (s new : Shape) → HasGivenUp begun told s told' new → new.views ≡ s.views
given_up_views begun told told' s new (inl k) = ap (λ x. x.views) k.0
given_up_views begun told told' s new (inr k) = ap (λ x. x.views) k.0.rest

pub given_up_holds : (begun : List Name) (told told' : ToldFiles) (s new : Shape) → HasGivenUp begun told s told' new → new.holds ≡ s.holds
given_up_holds begun told told' s new (inl k) = ap (λ x. x.holds) k.0
given_up_holds begun told told' s new (inr k) = ap (λ x. x.holds) k.0.rest

pub given_up_count : (begun : List Name) (told told' : ToldFiles) (s new : Shape) → HasGivenUp begun told s told' new → new.count ≡ s.count
given_up_count begun told told' s new (inl k) = ap (λ x. x.count) k.0
given_up_count begun told told' s new (inr k) = ap (λ x. x.count) k.0.rest

pub given_up_schema : (begun : List Name) (told told' : ToldFiles) (s new : Shape) → HasGivenUp begun told s told' new → new.schema ≡ s.schema
given_up_schema begun told told' s new (inl k) = ap (λ x. x.schema) k.0
given_up_schema begun told told' s new (inr k) = ap (λ x. x.schema) k.0.rest

-- ---- the flush

pub flush_made : (told told' : ToldFiles) (s new : Shape) → HasFlushed told s told' new → Makes Flushes told s told' new
flush_made told told' s new (inl k) = flushes_rest told told' s new k.0 (k.1, k.2)
flush_made told told' s new (inr k) = flushes_flush told told' s new (flushes_make s new told told' k.0 k.1)

pub room_made : (told told' : ToldFiles) (s new : Shape) → buffer_limit ≤ length s.buffered → HasFlushed told s told' new → Makes MakesRoom told s told' new
room_made told told' s new full (inl k) = absurd (omega (arith, full, ap length k.0))
room_made told told' s new full (inr k) = room_is_made told told' s new full (flushes_make s new told told' k.0 k.1)

pub flushed_empty : (told told' : ToldFiles) (s new : Shape) → HasFlushed told s told' new → new.buffered ≡ []
flushed_empty told told' s new (inl k) = ap (λ x. x.buffered) k.1 ∙ k.0
flushed_empty told told' s new (inr k) = ap (λ x. x.buffered) k.0.rest

pub flushed_space : (told told' : ToldFiles) (s new : Shape) → HasFlushed told s told' new → length new.buffered < buffer_limit
flushed_space told told' s new k = omega (arith, ap length (flushed_empty told told' s new k))

pub flushed_views : (told told' : ToldFiles) (s new : Shape) → HasFlushed told s told' new → new.views ≡ s.views
flushed_views told told' s new (inl k) = ap (λ x. x.views) k.1
flushed_views told told' s new (inr k) = ap (λ x. x.views) k.0.rest

pub flushed_holds : (told told' : ToldFiles) (s new : Shape) → HasFlushed told s told' new → new.holds ≡ s.holds
flushed_holds told told' s new (inl k) = ap (λ x. x.holds) k.1
flushed_holds told told' s new (inr k) = ap (λ x. x.holds) k.0.rest

pub flushed_count : (told told' : ToldFiles) (s new : Shape) → HasFlushed told s told' new → new.count ≡ s.count
flushed_count told told' s new (inl k) = ap (λ x. x.count) k.1
flushed_count told told' s new (inr k) = ap (λ x. x.count) k.0.rest

pub flushed_schema : (told told' : ToldFiles) (s new : Shape) → HasFlushed told s told' new → new.schema ≡ s.schema
flushed_schema told told' s new (inl k) = ap (λ x. x.schema) k.1
flushed_schema told told' s new (inr k) = ap (λ x. x.schema) k.0.rest

pub flushed_generation : (told told' : ToldFiles) (s new : Shape) → HasFlushed told s told' new → new.next_generation ≡ s.next_generation
flushed_generation told told' s new (inl k) = ap (λ x. x.next_generation) k.1
flushed_generation told told' s new (inr k) = ap (λ x. x.next_generation) k.0.rest

pub flushed_segment : (told told' : ToldFiles) (s new : Shape) → HasFlushed told s told' new → s.next_segment ≤ new.next_segment
flushed_segment told told' s new (inl k) = omega (arith, ap (λ x. x.next_segment) k.1)
flushed_segment told told' s new (inr k) = omega (arith, ap (λ x. x.next_segment) k.0.rest)

pub flush_begun : (s : Shape) → AllByRecursion (IsNew s.next_segment s.next_generation) (flush_begins s)
flush_begun s = (omega arith, (omega arith, tt))

-- a file without a number that was not taken is none of those that a flush begins
pub flush_spares : (s : Shape) (q : FileName) → (IsNew s.next_segment s.next_generation (name_of q) → ⊥) → is_begun (flush_begins s) q ≡ false
flush_spares s (file.Segment m) old = elim (eqb_tells m s.next_segment) [ inl e ↦ absurd (old (omega (arith, e.1))) | inr e ↦ rw e.0 refl ]
flush_spares s (file.Source m) old = elim (eqb_tells m s.next_segment) [ inl e ↦ absurd (old (omega (arith, e.1))) | inr e ↦ rw e.0 refl ]
flush_spares s (file.Live m d) old = refl
flush_spares s (file.Commit g) old = refl

-- ---- a write

pub written : (told : ToldFiles) (s new : Shape) (w : Write) → new ≡ with_write s w → s.count < last_number → PutsItem s.schema w
    → Makes (λ l l'. l' ≡ wrote l w) told s told new
written told s new w is left fits =
    subst (λ n. Makes (λ l l'. l' ≡ wrote l w) told s told n) (sym is) (writes_make s w told told left fits (λ q. refl))

-- ---- a commit

-- a name that is new later is new before
pub new_before : (n g n' g' : ℕ) (q : Name) → n ≤ n' → g ≤ g' → IsNew n' g' q → IsNew n g q
new_before n g n' g' (Name.segment m) a b new = omega (arith, a, new)
new_before n g n' g' (Name.source m) a b new = omega (arith, a, new)
new_before n g n' g' (Name.live m d) a b new = omega (arith, b, new)
new_before n g n' g' (Name.commit d) a b new = omega (arith, b, new)

pub all_new_before : (n g n' g' : ℕ) (qs : List Name) → n ≤ n' → g ≤ g' → AllByRecursion (IsNew n' g') qs → AllByRecursion (IsNew n g) qs
all_new_before n g n' g' [] a b all = tt
all_new_before n g n' g' (q ∷ qs) a b all = (new_before n g n' g' q a b all.0, all_new_before n g n' g' qs a b all.1)

-- a name without a new number is none of those that are new
pub none_is : (n g : ℕ) (qs : List Name) (q : Name) → AllByRecursion (IsNew n g) qs → (IsNew n g q → ⊥) → has_name q qs ≡ false
none_is n g [] q all old = refl
none_is n g (x ∷ xs) q all old = by (same_file_name q x) refl (none_is n g xs q all.1 old)
  where
    by : (b : Bool) → same_file_name q x ≡ b → has_name q xs ≡ false → (same_file_name q x || has_name q xs) ≡ false
    by true is rest = absurd (old (subst (IsNew n g) (sym (same_name_is q x is)) all.0))
    by false is rest = ap₂ (λ (a b : Bool). a || b) is rest

-- so it is none of those that a commit begins behind a flush
pub commit_spares : (text : Text) (s mid : Shape) (q : FileName) → IsShape mid → s.next_segment ≤ mid.next_segment
    → mid.next_generation ≡ s.next_generation → (IsNew s.next_segment s.next_generation (name_of q) → ⊥) → is_begun (names_begun mid) q ≡ false
commit_spares text s mid q its more same old =
    none_is s.next_segment s.next_generation (names_begun mid) (name_of q)
    (all_new_before s.next_segment s.next_generation mid.next_segment mid.next_generation (names_begun mid) more (omega (arith, same))
    (names_are_begun text mid its).new)
    old

-- the flush stands where nothing changed after it
pub flush_still : (told told' told'' : ToldFiles) (s mid new : Shape) → HasFlushed told s told' mid → new ≡ mid → TouchesNothing told' told''
    → HasFlushed told s told'' new
flush_still told told' told'' s mid new flush same nothing =
    subst (λ (t : ToldFiles). HasFlushed told s t new) (sym (λ i q. nothing q i)) (subst (λ n. HasFlushed told s told' n) (sym same) flush)

-- a flush, and a refused call behind it
pub left_behind : (begun : List Name) (told told' told'' : ToldFiles) (s mid new : Shape) → HasFlushed told s told' mid
    → has_name (Name.source mid.next_segment) begun ≡ false → AllByRecursion (IsNew mid.next_segment mid.next_generation) begun
    → HasGivenUp begun told' mid told'' new → Makes IsLeft told s told'' new
left_behind begun told told' told'' s mid new flush no_source names (inl k) =
    flushes_are_left told told'' s new (flush_made told told'' s new (flush_still told told' told'' s mid new flush k.0 k.1))
left_behind begun told told' told'' s mid new flush no_source names (inr k) =
    flushed_are_left begun told told' told'' s mid new no_source (flush_made told told' s mid flush) (refusals_make begun mid new told' told'' k.0 names k.1)

-- a flush, and a call behind it that is refused and changes nothing
pub flush_left : (told told' : ToldFiles) (s mid new : Shape) → HasFlushed told s told' mid → new ≡ mid → Makes IsLeft told s told' new
flush_left told told' s mid new flush same =
    flushes_are_left told told' s new (flush_made told told' s new (subst (λ n. HasFlushed told s told' n) (sym same) flush))

-- ---- a view

-- whether a view of now is recorded, as it is asked by the number of writes
pub recorded_at : (s : Shape) (n : ℕ) (b : Bool) → n ≡ s.count → b ≡ list_any (λ v. v.token == n) s.views
    → list_any (λ v. v.token == s.count) s.views ≡ b
recorded_at s n b same is = sym (subst (λ k. b ≡ list_any (λ v. v.token == k) s.views) same is)

-- a view is found where one has the token, and it has it
pub found_there : (vs : List View) (t : ℕ) → list_any (λ v. v.token == t) vs ≡ true → find (λ v. v.token == t) vs ≡ None → ⊥
found_there [] t there none = let no : false ≡ true = there in cc
found_there (v ∷ vs) t there none = by (v.token == t) (found_there vs t) there none
  where
    by : (b : Bool) → (list_any (λ w. w.token == t) vs ≡ true → find (λ w. w.token == t) vs ≡ None → ⊥)
        → (b || list_any (λ w. w.token == t) vs) ≡ true → cond b (Some v) (find (λ w. w.token == t) vs) ≡ None → ⊥
    by true more there none = let no : Some v ≡ None = none in cc
    by false more there none = more there none

some_is : (a b : View) → Some a ≡ Some b → a ≡ b
some_is a b e = let h : a ≡ b = cc in h

pub found_token : (vs : List View) (t : ℕ) (v : View) → find (λ w. w.token == t) vs ≡ Some v → v.token ≡ t
found_token [] t v is = absurd (let no : None ≡ Some v = is in cc)
found_token (w ∷ vs) t v is = by (w.token == t) (eqb_tells w.token t) (found_token vs t v) is
  where
    by : (b : Bool) → ((b ≡ true) × (w.token ≡ t)) ⊎ ((b ≡ false) × (w.token ≢ t)) → (find (λ u. u.token == t) vs ≡ Some v → v.token ≡ t)
        → cond b (Some w) (find (λ u. u.token == t) vs) ≡ Some v → v.token ≡ t
    by true (inl e) more is = ap (λ u. u.token) (sym (some_is w v is)) ∙ e.1
    by true (inr e) more is = absurd (let no : true ≡ false = e.0 in cc)
    by false e more is = more is

-- a view of now may stand still where the views, their holders and the number of writes are the same
pub may_still : (s mid : Shape) → mid.count ≡ s.count → mid.views ≡ s.views → mid.holds ≡ s.holds → MayRefresh s → MayRefresh mid
may_still s mid count views holds may =
    (λ i. not (list_any (λ v. v.token == count i) (views i)) && is_full (held_in (holds i)) (tokens_of (views i))) ∙ may

-- room was made, and a call behind it is refused and changes nothing
pub room_left : (told told' : ToldFiles) (s mid new : Shape) → Makes MakesRoom told s told' mid → new ≡ mid → Makes IsLeft told s told' new
room_left told told' s mid new room same = room_is_left told told' s new (subst (λ n. Makes MakesRoom told s told' n) (sym same) room)

-- nothing was done
pub untouched : (told : ToldFiles) (s : Shape) → Makes IsLeft told s told s
untouched told s = nothing_is_left told told s s (refl, λ q. refl)

-- the token that is asked for
pub asked_is : (s : Shape) (o : Option ℕ) (newest t : ℕ) → t ≡ unwrap_or o newest → newest ≡ greatest (tokens_of s.views)
    → list_any (λ v. v.token == t) s.views ≡ true → IsAsked s o t
asked_is s None newest t is great there = is ∙ great
asked_is s (Some u) newest t is great there = (is, subst (λ k. list_any (λ v. v.token == k) s.views ≡ true) is there)

-- none is recorded under the token that is asked for
pub asked_nowhere : (s : Shape) (o : Option ℕ) (newest token t : ℕ) → token ≡ unwrap_or o newest → list_any (λ v. v.token == newest) s.views ≡ true
    → list_any (λ v. v.token == token) s.views ≡ false → IsAsked s o t → ⊥
asked_nowhere s None newest token t is there none asked =
    absurd (let no : true ≡ false = sym there ∙ ap (λ k. list_any (λ v. v.token == k) s.views) (sym is) ∙ none in cc)
asked_nowhere s (Some u) newest token t is there none asked =
    absurd (let no : true ≡ false = sym asked.1 ∙ ap (λ k. list_any (λ v. v.token == k) s.views) (sym is) ∙ none in cc)

-- The states of facets that a session keeps, and its sets.
use Rattle.std.proofs.Common.{◌≡◌, ◌∙◌, ◌⊎◌, ℕ, option_map, ◌<◌, List, [], ◌∷◌, length, get_or, All, AllPairs, Option, None, Some, refl, sym, ap, arith, subst, inl, inr}
use Rattle.std.proofs.lemmas.Bool.{cases_lt}
use Rattle.std.proofs.lemmas.List.{get_or_default}
use Rattle.std.proofs.lemmas.List.Elements.{All-cons, All-map, All-nil}
use Rattle.std.specs.Prelude.{◌≢◌, IfSome, MatchOption}
use Rattle.cat_model.specs.View.{IsView, Leaf, Segment, View, AgreesWith, segments_of}
use Rattle.cat_threads.specs.cat_commands.cat_protocol.cat_facets.Kept.{KnowsIn, RemembersOf}
use Rattle.cat_threads.specs.cat_commands.cat_protocol.cat_facets.States.{ReaderState}
use Rattle.cat_threads.specs.cat_commands.cat_cached_sets.cat_views.Holds.{HeldView}
use Rattle.cat_threads.specs.cat_commands.cat_lifetimes.rights.Rights.{right_of}
use Rattle.cat_callers.specs.Sessions.{AreOf}

-- what is so of each is so of all
pub all_of : {X : Type 0} (P : X → Type 0) → ((x : X) → P x) → (xs : List X) → All P xs
all_of P each [] = All-nil P
all_of P each (x ∷ xs) = All-cons P x xs (each x) (all_of P each xs)

-- what is so of each is so of the one, if there is one
pub for_some : {X : Type 0} (o : Option X) (Q : X → Type 0) → ((x : X) → Q x) → IfSome o Q
for_some None Q each = tt
for_some (Some x) Q each = each x

-- no state is kept
pub none_kept : (segments : List Segment) → All (KnowsIn []) segments
none_kept segments i d lt = All-nil (λ (k : ReaderState). All (AgreesWith (get_or segments i d)) k.segments)

module _ (leaves : List Leaf) (apart : AllPairs (λ a b. a.segment.number ≢ b.segment.number) leaves) where
  same_place : (i j : ℕ) (d : Leaf) → i < length leaves → j < length leaves
      → (get_or leaves j d).segment.number ≡ (get_or leaves i d).segment.number → (get_or leaves j d).segment ≡ (get_or leaves i d).segment
  same_place i j d li lj e = elim (cases_lt i j) [
    | inl before ↦ absurd (apart i j d before lj (sym e))
    | inr rest ↦ elim (cases_lt j i) [
      | inl behind ↦ absurd (apart j i d behind li e)
      | inr same ↦ let here : j ≡ i = omega arith in ap (λ k. (get_or leaves k d).segment) here
    ]
  ]

  -- the segments of a view agree with each other
  agree : All (λ s. All (AgreesWith s) (segments_of leaves)) (segments_of leaves)
  agree =
      All-map (λ s. All (AgreesWith s) (segments_of leaves)) (λ l. l.segment) leaves
      (λ i d li. All-map (AgreesWith (get_or leaves i d).segment) (λ l. l.segment) leaves
      (λ j e lj. subst (λ (l : Leaf). AgreesWith (get_or leaves i d).segment l.segment) (get_or_default leaves j d e lj) (same_place i j d li lj)))

  -- they stay known, whatever states of them are kept
  pub stay_known : (old new : List ReaderState) → RemembersOf (segments_of leaves) old new → All (KnowsIn old) (segments_of leaves) → All (KnowsIn new) (segments_of leaves)
  stay_known old new remembers known = λ i d lt. remembers (get_or (segments_of leaves) i d) (agree i d lt) (known i d lt)

some_is_one : {X : Type 0} (x y : X) → Some x ≡ Some y → x ≡ y
some_is_one x y e = cc e

-- the states that are taken out know the segments of the view that the session has under the token
pub known_before : {X : Type 0} (f : X → View) (o : Option X) (rights : List HeldView) (session t : ℕ) (kept : Option (ℕ × List ReaderState))
    (states : List ReaderState) → option_map f o ≡ option_map (λ h. h.view) (right_of rights session t) → AreOf session rights kept
    → (states ≡ []) ⊎ (kept ≡ Some (t, states)) → IfSome o (λ x. All (KnowsIn states) (segments_of (f x).leaves))
known_before f None rights session t kept states e of either = tt
known_before f (Some x) rights session t kept states e of (inl nothing) =
    subst (λ (ks : List ReaderState). All (KnowsIn ks) (segments_of (f x).leaves)) (sym nothing) (none_kept (segments_of (f x).leaves))
known_before f (Some x) rights session t kept states e of (inr is) = by (right_of rights session t) refl e
  where
    by : (r : Option HeldView) → right_of rights session t ≡ r → Some (f x) ≡ option_map (λ h. h.view) r → All (KnowsIn states) (segments_of (f x).leaves)
    by None none e = absurd (let no : Some (f x) ≡ None = e in cc no)
    by (Some h) some e =
        subst (λ (v : View). All (KnowsIn states) (segments_of v.leaves)) (sym (some_is_one (f x) h.view e))
        (subst (λ (k : Option (ℕ × List ReaderState)). AreOf session rights k) is of h some)

-- so do those that are left
pub known_after : {X : Type 0} (view : X → View) (o : Option X) (old new : List ReaderState) → IfSome o (λ x. IsView (view x))
    → IfSome o (λ x. All (KnowsIn old) (segments_of (view x).leaves))
    → MatchOption o (new ≡ old) (λ x. RemembersOf (segments_of (view x).leaves) old new)
    → IfSome o (λ x. All (KnowsIn new) (segments_of (view x).leaves))
known_after view None old new is known remembers = tt
known_after view (Some x) old new is known remembers = stay_known (view x).leaves is.numbers old new remembers known

-- which is what they are kept for
pub counts_after : {X : Type 0} (f : X → View) (o : Option X) (r : Option HeldView) → option_map f o ≡ option_map (λ h. h.view) r
    → (states : List ReaderState) → IfSome o (λ x. All (KnowsIn states) (segments_of (f x).leaves)) → (h : HeldView) → r ≡ Some h
    → All (KnowsIn states) (segments_of h.view.leaves)
counts_after f None r e states known h is = absurd (let none : None ≡ Some h.view = e ∙ ap (option_map (λ h. h.view)) is in cc none)
counts_after f (Some x) r e states known h is =
    subst (λ (v : View). All (KnowsIn states) (segments_of v.leaves)) (some_is_one (f x) h.view (e ∙ ap (option_map (λ h. h.view)) is)) known

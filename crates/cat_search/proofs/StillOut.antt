-- What a page leaves out it still leaves out once more was offered.
use Rattle.std.proofs.Common.{◌≡◌, ℕ, zero, suc, ◌<◌, ◌≤◌, List, [], ◌∷◌, ◌++◌, length, map, take, Option, Bool, true, false, cond, refl, sym, ◌∙◌, ap, subst, arith, inl, inr, append-nil}
use Rattle.std.specs.List.{AllByRecursion}
use Rattle.std.proofs.lemmas.Bool.{true≢false}
use Rattle.std.proofs.lemmas.List.{map-append}
use Rattle.cat_model.specs.Ranks.{IsStrictOrder, insert_by, sorted}
use Rattle.cat_model.proofs.Insert.{which, sorted-push}
use Rattle.cat_search.specs.BestItems.{BestItems, IsBestOf}
use Rattle.cat_search.specs.Candidates.{IsBestAt, comes_first, standing_of}
use Rattle.cat_search.specs.Pages.{beyond}
use Rattle.cat_search.specs.Standings.{HitStanding, standing_before}
use Rattle.cat_search.specs.declared.standings.Candidate.{Candidate}
use Rattle.cat_search.proofs.Candidates.{best_standings, comes_first-is, map-first, map-sorted}
use Rattle.cat_search.proofs.Gathered.{one}
use Rattle.cat_search.proofs.Walked.{as_candidate, as_candidate-is, standing_strict}

module _ {X : Type 0} (lt : X → X → Bool) where
  -- there are so many elements, and x comes before none of the first so many
  pub record IsBehind (n : ℕ) (x : X) (ys : List X) : Type 0 where
    pub many : n ≤ length ys
    pub behind : AllByRecursion (λ y. lt x y ≡ false) (take n ys)

  -- x doesn't come into the first n
  pub same_from_behind : (n : ℕ) (x : X) (ys : List X) → IsBehind n x ys → take n (insert_by lt x ys) ≡ take n ys
  same_from_behind zero x ys b = refl
  same_from_behind (suc n) x [] b = let many = b.many in absurd (omega (arith, many))
  same_from_behind (suc n) x (y ∷ ys) b =
      let many = b.many in
      let rest : IsBehind n x ys = record { many = omega (arith, many); behind = b.behind.1 } in
      ap (λ t. take (suc n) (cond t (x ∷ y ∷ ys) (y ∷ insert_by lt x ys))) b.behind.0 ∙ ap (λ us. y ∷ us) (same_from_behind n x ys rest)

  module _ (o : IsStrictOrder lt) where
    not_itself : (x y : X) → lt x y ≡ true → x ≡ y → ⊥
    not_itself x y e same = true≢false (sym e ∙ ap (λ w. lt x w) (sym same) ∙ o.irreflexive x)

    same_head : (x y : X) (us vs : List X) → x ∷ us ≡ y ∷ vs → x ≡ y
    same_head x y us vs e = cc

    same_tail : (x y : X) (us vs : List X) → x ∷ us ≡ y ∷ vs → us ≡ vs
    same_tail x y us vs e = cc

    no_room : (x : X) (us : List X) → x ∷ us ≡ [] → ⊥
    no_room x us e = absurd (cc)

    pub behind_from_same : (n : ℕ) (x : X) (ys : List X) → take n (insert_by lt x ys) ≡ take n ys → IsBehind n x ys
    behind_from_same zero x ys e = record { many = omega arith; behind = tt }
    behind_from_same (suc n) x [] e = absurd (no_room x (take n []) e)
    behind_from_same (suc n) x (y ∷ ys) e = elim (which (lt x y)) [
      | inl t ↦
          let both : x ∷ take n (y ∷ ys) ≡ y ∷ take n ys = sym (ap (λ b. take (suc n) (cond b (x ∷ y ∷ ys) (y ∷ insert_by lt x ys))) t) ∙ e in
          absurd (not_itself x y t (same_head x y (take n (y ∷ ys)) (take n ys) both))
      | inr f ↦
          let both : y ∷ take n (insert_by lt x ys) ≡ y ∷ take n ys = sym (ap (λ b. take (suc n) (cond b (x ∷ y ∷ ys) (y ∷ insert_by lt x ys))) f) ∙ e in
          let rest = behind_from_same n x ys (same_tail y y (take n (insert_by lt x ys)) (take n ys) both) in
          let many = rest.many in
          record { many = omega (arith, many); behind = (f, rest.behind) }
    ]

    not_before : (x y z : X) → lt y z ≡ true → lt x z ≡ false → lt x y ≡ false
    not_before x y z e f = elim (which (lt x y)) [
      | inl t ↦ absurd (true≢false (sym (o.transitive x y z t e) ∙ f))
      | inr g ↦ g
    ]

    fewer : (n : ℕ) (x : X) (ys : List X) → AllByRecursion (λ z. lt x z ≡ false) (take (suc n) ys) → AllByRecursion (λ z. lt x z ≡ false) (take n ys)
    fewer zero x ys a = tt
    fewer (suc n) x [] a = tt
    fewer (suc n) x (z ∷ zs) a = (a.0, fewer n x zs a.1)

    -- where one more is put in, x comes before none of the first n either
    pub behind_insert : (n : ℕ) (x y : X) (ys : List X) → IsBehind n x ys → IsBehind n x (insert_by lt y ys)
    behind_insert zero x y ys b = record { many = omega arith; behind = tt }
    behind_insert (suc n) x y [] b = let many = b.many in absurd (omega (arith, many))
    behind_insert (suc n) x y (z ∷ zs) b =
        let many = b.many in
        elim (which (lt y z)) [
          | inl e ↦
              let put : IsBehind (suc n) x (y ∷ z ∷ zs) = record { many = omega (arith, many); behind = (not_before x y z e b.behind.0, fewer n x (z ∷ zs) b.behind) } in
              subst (λ t. IsBehind (suc n) x (cond t (y ∷ z ∷ zs) (z ∷ insert_by lt y zs))) (sym e) put
          | inr e ↦
              let rest = behind_insert n x y zs (record { many = omega (arith, many); behind = b.behind.1 }) in
              let more = rest.many in
              let put : IsBehind (suc n) x (z ∷ insert_by lt y zs) = record { many = omega (arith, more); behind = (b.behind.0, rest.behind) } in
              subst (λ t. IsBehind (suc n) x (cond t (y ∷ z ∷ zs) (z ∷ insert_by lt y zs))) (sym e) put
        ]

-- candidates come as their standings do
behind_mapped : (n : ℕ) (c : Candidate) (cs : List Candidate) → IsBehind standing_before n (standing_of c) (map standing_of cs) → IsBehind comes_first n c cs
behind_mapped zero c cs b = record { many = omega arith; behind = tt }
behind_mapped (suc n) c [] b = let many = b.many in absurd (omega (arith, many))
behind_mapped (suc n) c (d ∷ ds) b =
    let many = b.many in
    let rest = behind_mapped n c ds (record { many = omega (arith, many); behind = b.behind.1 }) in
    let more = rest.many in
    record { many = omega (arith, more); behind = (comes_first-is c d ∙ b.behind.0, rest.behind) }

-- ---- a page

first_standings : (kept : BestItems Candidate) (ps : List HitStanding) → IsBestAt kept ps
    → take kept.limit (sorted standing_before (map standing_of kept.items)) ≡ take kept.limit (sorted standing_before ps)
first_standings kept ps h =
    sym (map-first standing_of comes_first standing_before comes_first-is kept.limit kept.items)
    ∙ best_standings kept (take kept.limit (sorted comes_first kept.items)) (λ offered best. best.first) ps h

-- what a page leaves out stands behind as many as are wanted
left_behind : (kept : BestItems Candidate) (ps : List HitStanding) (s : HitStanding) → IsBestAt kept ps → IsBestAt kept (ps ++ s ∷ []) → IsBehind standing_before kept.limit s (sorted standing_before ps)
left_behind kept ps s h more =
    behind_from_same standing_before standing_strict kept.limit s (sorted standing_before ps)
    (ap (take kept.limit) (sym (sorted-push standing_before [] ps s)) ∙ sym (first_standings kept (ps ++ s ∷ []) more) ∙ first_standings kept ps h)

-- what stands so may be offered
may_come : (kept : BestItems Candidate) (ps : List HitStanding) (s : HitStanding) → IsBestAt kept ps → IsBehind standing_before kept.limit s (sorted standing_before ps) → IsBestAt kept (ps ++ s ∷ [])
may_come kept ps s h b =
    let offered = h.0 in
    let c = as_candidate s in
    let n = kept.limit in
    let sorts : sorted standing_before ps ≡ map standing_of (sorted comes_first offered) = ap (sorted standing_before) (sym h.1) ∙ sym (map-sorted standing_of comes_first standing_before comes_first-is offered) in
    let behind : IsBehind standing_before n (standing_of c) (map standing_of (sorted comes_first offered)) =
    subst (λ qs. IsBehind standing_before n (standing_of c) qs) sorts (subst (λ p. IsBehind standing_before n p (sorted standing_before ps)) (sym (as_candidate-is s)) b) in
    let same = same_from_behind comes_first n c (sorted comes_first offered) (behind_mapped n c (sorted comes_first offered) behind) in (
      offered ++ c ∷ [],
      map-append standing_of offered (c ∷ []) ∙ ap (λ l. l ++ standing_of c ∷ []) h.1 ∙ ap (λ p. ps ++ p ∷ []) (as_candidate-is s),
      record { first = h.2.first ∙ sym (ap (take n) (sorted-push comes_first [] offered c) ∙ same); ready = h.2.ready; front = h.2.front },
    )

module _ (kept new : BestItems Candidate) (limit : new.limit ≡ kept.limit) (ps : List HitStanding) (h : IsBestAt kept ps) where
  still_behind : (s q : HitStanding) → IsBehind standing_before kept.limit s (sorted standing_before ps) → IsBehind standing_before new.limit s (sorted standing_before (ps ++ q ∷ []))
  still_behind s q b =
      subst (λ n. IsBehind standing_before n s (sorted standing_before (ps ++ q ∷ []))) (sym limit)
      (subst (λ qs. IsBehind standing_before kept.limit s qs) (sym (sorted-push standing_before [] ps q)) (behind_insert standing_before standing_strict kept.limit s q (sorted standing_before ps) b))

  -- whether the mark comes before them or not
  still_out_by : (b c : Bool) (s q : HitStanding) → IsBestAt kept (ps ++ cond c (s ∷ []) []) → IsBestAt new (ps ++ cond b (q ∷ []) []) → IsBestAt new ((ps ++ cond b (q ∷ []) []) ++ cond c (s ∷ []) [])
  still_out_by b false s q out more = subst (IsBestAt new) (sym (append-nil (ps ++ cond b (q ∷ []) []))) more
  still_out_by true true s q out more = may_come new (ps ++ q ∷ []) s more (still_behind s q (left_behind kept ps s h out))
  still_out_by false true s q out more =
      let same = append-nil ps in
      subst (λ (qs : List HitStanding). IsBestAt new (qs ++ s ∷ [])) (sym same)
      (may_come new ps s (subst (IsBestAt new) same more) (subst (λ n. IsBehind standing_before n s (sorted standing_before ps)) (sym limit) (left_behind kept ps s h out)))

  pub still_out : (mark : Option HitStanding) (s q : HitStanding) → IsBestAt kept (ps ++ one mark s) → IsBestAt new (ps ++ one mark q) → IsBestAt new ((ps ++ one mark q) ++ one mark s)
  still_out mark s q out more = still_out_by (beyond mark q) (beyond mark s) s q out more

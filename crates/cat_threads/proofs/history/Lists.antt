-- Beginnings of one list, the writes of a session, and views read by number.
use Rattle.std.proofs.Common.{◌≡◌, ◌≢◌, ◌⊎◌, inl, inr, ⊎_elim, ℕ, zero, suc, ◌<◌, ◌≤◌, ◌==◌, Bool, true, false, true≢false, List, [], ◌∷◌, ◌++◌, length, set, if◌then◌else◌, refl, ap, sym, subst, ◌∙◌, arith, append_assoc, append-nil, length-append}
use mathlib.Core.Option.{some, some-injective, some-ne-none}
use mathlib.Core.List.{IsPrefix}
use lib.ListN.{get_elem?}
use Rattle.atomic_table.proofs.Lists.{at_set}
use Rattle.cat_model.specs.Write.{Write}
use Rattle.cat_threads.specs.history.Entries.{LogEntry, writes_of}

module _ {A : Type 0} where
  pub prefix_self : (xs : List A) → IsPrefix xs xs
  prefix_self [] = ([], refl)
  prefix_self (x ∷ xs) = (let r = prefix_self xs in r.0, ap (λ ys. x ∷ ys) (prefix_self xs).1)

  pub prefix_none : (xs : List A) → IsPrefix [] xs
  prefix_none xs = (xs, refl)

  pub prefix_more : (xs ys zs : List A) → IsPrefix xs ys → IsPrefix xs (ys ++ zs)
  prefix_more xs ys zs p = (p.0 ++ zs, sym (append_assoc xs p.0 zs) ∙ ap (λ w. w ++ zs) p.1)

  pub prefix_trans : (xs ys zs : List A) → IsPrefix xs ys → IsPrefix ys zs → IsPrefix xs zs
  prefix_trans xs ys zs p q = (p.0 ++ q.0, sym (append_assoc xs p.0 q.0) ∙ (ap (λ w. w ++ q.0) p.1 ∙ q.1))

  -- of two beginnings of one list the shorter begins the longer
  pub prefix_shorter : (xs ys zs : List A) → IsPrefix xs zs → IsPrefix ys zs → length xs ≤ length ys → IsPrefix xs ys
  prefix_shorter [] ys zs p q le = (ys, refl)
  prefix_shorter (x ∷ xs) [] zs p q le = absurd (omega arith)
  prefix_shorter (x ∷ xs) (y ∷ ys) [] p q le = absurd (cc (p.1))
  prefix_shorter (x ∷ xs) (y ∷ ys) (z ∷ zs) p q le =
      let heads : x ≡ y = cc (p.1, q.1) in
      let rest = prefix_shorter xs ys zs (p.0, cc (p.1)) (q.0, cc (q.1)) (omega arith) in
      (rest.0, cc (heads, rest.1))

  -- a beginning as long as the whole is the whole
  pub prefix_whole : (xs ys : List A) → IsPrefix xs ys → length ys ≤ length xs → xs ≡ ys
  prefix_whole [] [] p le = refl
  prefix_whole [] (y ∷ ys) p le = absurd (omega arith)
  prefix_whole (x ∷ xs) [] p le = absurd (cc (p.1))
  prefix_whole (x ∷ xs) (y ∷ ys) p le =
      let rest = prefix_whole xs ys (p.0, cc (p.1)) (omega arith) in cc (p.1, rest)

  pub prefix_length : (xs ys : List A) → IsPrefix xs ys → length xs ≤ length ys
  prefix_length xs ys p = omega (arith, sym (ap length p.1) ∙ length-append xs p.0)

  -- a fact of each view stays where one view is changed
  pub each_set : (P : ℕ → A → Type 0) (views : List A) (by : ℕ) (w : A) → ((j : ℕ) (u : A) → j ≢ by → get_elem? views j ≡ some u → P j u) → P by w
      → (j : ℕ) (u : A) → get_elem? (set views by w) j ≡ some u → P j u
  each_set P views by w others mine j u e =
      ⊎_elim
      (λ (x : (j ≡ by) × (w ≡ u)). subst (λ (y : ℕ × A). P y.0 y.1) (λ i. (sym x.0 i, x.1 i)) mine)
      (λ (x : (j ≢ by) × (get_elem? views j ≡ some u)). others j u x.0 x.1)
      (at_set views by j w u e)

  at_snoc_at : (l : List A) (a b : A) (j : ℕ) → get_elem? (l ++ a ∷ []) j ≡ some b → ((j < length l) × (get_elem? l j ≡ some b)) ⊎ ((j ≡ length l) × (a ≡ b))
  at_snoc_at [] a b zero e = inr (refl, some-injective a b e)
  at_snoc_at [] a b (suc j) e = absurd (some-ne-none b (sym e))
  at_snoc_at (x ∷ xs) a b zero e = inl (omega arith, e)
  at_snoc_at (x ∷ xs) a b (suc j) e = ⊎_elim (λ t. let n = t.0 in inl (omega arith, t.1)) (λ t. inr (ap suc t.0, t.1)) (at_snoc_at xs a b j e)

  -- the same where one is added
  pub each_snoc : (P : ℕ → A → Type 0) (views : List A) (n : ℕ) (w : A) → n ≡ length views → ((j : ℕ) (u : A) → j < n → get_elem? views j ≡ some u → P j u) → P n w
      → (j : ℕ) (u : A) → get_elem? (views ++ w ∷ []) j ≡ some u → P j u
  each_snoc P views n w is others mine j u e =
      ⊎_elim
      (λ (x : (j < length views) × (get_elem? views j ≡ some u)). others j u (subst (λ m. j < m) (sym is) x.0) x.1)
      (λ (x : (j ≡ length views) × (w ≡ u)). subst (λ (y : ℕ × A). P y.0 y.1) (λ i. ((is ∙ sym x.0) i, x.1 i)) mine)
      (at_snoc_at views w u j e)

  pub below_length : (l : List A) (j : ℕ) (a : A) → get_elem? l j ≡ some a → j < length l
  below_length [] j a e = absurd (some-ne-none a (sym e))
  below_length (x ∷ xs) zero a e = omega arith
  below_length (x ∷ xs) (suc j) a e = let r = below_length xs j a e in omega arith

  pub length_set : (l : List A) (j : ℕ) (a : A) → length (set l j a) ≡ length l
  length_set [] j a = refl
  length_set (x ∷ xs) zero a = refl
  length_set (x ∷ xs) (suc j) a = ap suc (length_set xs j a)

pub writes_of-append : (s : ℕ) (xs ys : List LogEntry) → writes_of s (xs ++ ys) ≡ writes_of s xs ++ writes_of s ys
writes_of-append s [] ys = refl
writes_of-append s (x ∷ xs) ys = go (x.session == s) (writes_of-append s xs ys)
  where
    go : (b : Bool) → writes_of s (xs ++ ys) ≡ writes_of s xs ++ writes_of s ys
        → (if b then x.write ∷ writes_of s (xs ++ ys) else writes_of s (xs ++ ys)) ≡ (if b then x.write ∷ writes_of s xs else writes_of s xs) ++ writes_of s ys
    go true rest = ap (λ w. x.write ∷ w) rest
    go false rest = rest

-- another session's write
pub writes_of-other : (s : ℕ) (xs : List LogEntry) (e : LogEntry) → (e.session == s) ≡ false → writes_of s (xs ++ e ∷ []) ≡ writes_of s xs
writes_of-other s xs e is = writes_of-append s xs (e ∷ []) ∙ (ap (λ (b : Bool). writes_of s xs ++ (if b then e.write ∷ [] else [])) is ∙ append-nil (writes_of s xs))

pub writes_of-own : (s : ℕ) (xs : List LogEntry) (e : LogEntry) → (e.session == s) ≡ true → writes_of s (xs ++ e ∷ []) ≡ writes_of s xs ++ e.write ∷ []
writes_of-own s xs e is = writes_of-append s xs (e ∷ []) ∙ ap (λ (b : Bool). writes_of s xs ++ (if b then e.write ∷ [] else [])) is

pub writes_of-prefix : (s : ℕ) (xs ys : List LogEntry) → IsPrefix xs ys → IsPrefix (writes_of s xs) (writes_of s ys)
writes_of-prefix s xs ys p = (writes_of s p.0, sym (writes_of-append s xs p.0) ∙ ap (writes_of s) p.1)

-- between two lists with the same writes of a session stand none of its
pub writes_of-between : (s : ℕ) (xs ys zs : List LogEntry) → IsPrefix xs ys → IsPrefix ys zs → writes_of s zs ≡ writes_of s xs → writes_of s zs ≡ writes_of s ys
writes_of-between s xs ys zs p q is =
    let a = writes_of-prefix s xs ys p in
    let b = writes_of-prefix s ys zs q in
    let m = prefix_length (writes_of s xs) (writes_of s ys) a in
    sym (prefix_whole (writes_of s ys) (writes_of s zs) b (subst (λ (l : List Write). length l ≤ length (writes_of s ys)) (sym is) m))

-- the owner of the sessions of one pass changes
abbrev pub handed : (ℕ → ℕ) → ℕ → ℕ → ℕ → ℕ
handed owner from to s = if owner s == from then to else owner s

pub handed-here : (owner : ℕ → ℕ) (from to s : ℕ) → owner s ≡ from → handed owner from to s ≡ to
handed-here owner from to s is = go (owner s == from) refl
  where
    go : (b : Bool) → (owner s == from) ≡ b → (if b then to else owner s) ≡ to
    go true e = refl
    go false e = absurd (grind (arith, is, e))

pub handed-else : (owner : ℕ → ℕ) (from to s j : ℕ) → j ≢ from → owner s ≡ j → handed owner from to s ≡ j
handed-else owner from to s j apart is = go (owner s == from) refl
  where
    go : (b : Bool) → (owner s == from) ≡ b → (if b then to else owner s) ≡ j
    go false e = is
    go true e = absurd (apart (sym is ∙ grind (arith, e)))

-- a new session's owner
abbrev pub seated_at : (ℕ → ℕ) → ℕ → ℕ → ℕ → ℕ
seated_at owner new to s = if new == s then to else owner s

pub seated_at-here : (owner : ℕ → ℕ) (new to s : ℕ) (b : Bool) → (new == s) ≡ b → b ≡ true → seated_at owner new to s ≡ to
seated_at-here owner new to s true e yes' = ap (λ (c : Bool). if c then to else owner s) e
seated_at-here owner new to s false e yes' = absurd (true≢false (sym yes'))

pub seated_at-else : (owner : ℕ → ℕ) (new to s j : ℕ) → (new == s) ≡ false → owner s ≡ j → seated_at owner new to s ≡ j
seated_at-else owner new to s j e is = ap (λ (c : Bool). if c then to else owner s) e ∙ is

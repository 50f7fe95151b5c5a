-- Entries are found by their numbers, which differ.
use Rattle.std.proofs.Common.{◌≡◌, ◌≢◌, ℕ, zero, suc, ◌+◌, ◌<◌, List, [], ◌∷◌, length, take, get_or, Bool, true, false, cond, Option, Some, None, option_map, AllPairs, refl, sym, ap, ◌∙◌, subst, arith}
use Rattle.std.specs.Prelude.{◌==◌}
use Rattle.std.proofs.lemmas.Bool.{eqb-true}
use Rattle.std.proofs.lemmas.List.Elements.{All-from_recursion}
use Rattle.cat_model.proofs.Places.{EachPair, each_pair}
use Rattle.cat_ledger_laws.specs.shape.Shapes.{ListedLive}
use Rattle.cat_commits.specs.writing.Entries.{index_of, entry_of}
use Rattle.cat_commits.proofs.writing.Lists.{some_none, some_same}

-- the numbers of entries differ
abbrev pub Differ : ListedLive → ListedLive → Type 0
Differ a b = a.number ≢ b.number

step : (b c : Bool) (k : ℕ) (o p : Option ℕ) → (b ≡ true → c ≡ true → ⊥) → cond c (Some k) o ≡ p
    → cond c (Some (suc k)) (cond b (Some 0) (option_map suc o)) ≡ cond b (Some 0) (option_map suc p)
step true true k o p clash e = absurd (clash refl refl)
step true false k o p clash e = refl
step false true k o p clash e = ap (option_map suc) e
step false false k o p clash e = ap (option_map suc) e

-- an entry more is the last of its number
more : (n : ℕ) (xs : List ListedLive) (k : ℕ) (x : ListedLive) → EachPair Differ xs → k < length xs → get_or xs k x ≡ x
    → cond (x.number == n) (Some k) (index_of n (take k xs)) ≡ index_of n (take (suc k) xs)
more n [] k x a lt e = absurd (omega arith)
more n (y ∷ ys) zero x a lt e =
    let first : Option ℕ = Some 0 in
    let none : Option ℕ = None in
    subst (λ (z : ListedLive). cond (x.number == n) first none ≡ cond (z.number == n) first none) (sym e) refl
more n (y ∷ ys) (suc k) x a lt e =
    let apart : y.number ≢ x.number = subst (λ z. y.number ≢ z.number) e (All-from_recursion (Differ y) ys a.0 k x (omega arith)) in
    step (y.number == n) (x.number == n) k (index_of n (take k ys)) (index_of n (take (suc k) ys))
    (λ p q. apart (eqb-true y.number n p ∙ sym (eqb-true x.number n q)))
    (more n ys k x a.1 (omega arith) e)

pub index_more : (n : ℕ) (xs : List ListedLive) (k : ℕ) (x : ListedLive) → AllPairs Differ xs → k < length xs → x ≡ get_or xs k x
    → cond (x.number == n) (Some k) (index_of n (take k xs)) ≡ index_of n (take (k + 1) xs)
index_more n xs k x a lt e = more n xs k x (each_pair Differ xs a) lt (sym e) ∙ ap (λ m. index_of n (take m xs)) (let one : suc k ≡ k + 1 = omega arith in one)

pub no_entry : (n : ℕ) (xs : List ListedLive) → index_of n xs ≡ None → entry_of n xs ≡ None
no_entry n [] e = refl
no_entry n (x ∷ xs) e = by (x.number == n) (index_of n xs) refl (no_entry n xs) e
  where
    by : (b : Bool) (o : Option ℕ) → index_of n xs ≡ o → (index_of n xs ≡ None → entry_of n xs ≡ None) → cond b (Some 0) (option_map suc o) ≡ None
        → cond b (Some x) (entry_of n xs) ≡ None
    by true o i rest e = absurd (some_none 0 e)
    by false None i rest e = rest i
    by false (Some m) i rest e = absurd (some_none (suc m) e)

-- where a number has an index, its entry is there
pub record FoundEntry (n : ℕ) (xs : List ListedLive) (d : ListedLive) (k : ℕ) : Type 0 where
  pub within : k < length xs
  pub entry : entry_of n xs ≡ Some (get_or xs k d)

pub some_entry : (n : ℕ) (xs : List ListedLive) (d : ListedLive) (k : ℕ) → index_of n xs ≡ Some k → FoundEntry n xs d k
some_entry n [] d k e = absurd (some_none k (sym e))
some_entry n (x ∷ xs) d k e = let r = by (x.number == n) (index_of n xs) refl (some_entry n xs d) e in record { within = r.0; entry = r.1 }
  where
    by : (b : Bool) (o : Option ℕ) → index_of n xs ≡ o → ((m : ℕ) → index_of n xs ≡ Some m → FoundEntry n xs d m) → cond b (Some 0) (option_map suc o) ≡ Some k
        → (k < length (x ∷ xs)) × (cond b (Some x) (entry_of n xs) ≡ Some (get_or (x ∷ xs) k d))
    by true o i rest e =
        let same : 0 ≡ k = some_same 0 k e in
        subst (λ m. (m < length (x ∷ xs)) × (Some x ≡ Some (get_or (x ∷ xs) m d))) same (omega arith, refl)
    by false None i rest e = absurd (some_none k (sym e))
    by false (Some m) i rest e =
        let same : suc m ≡ k = some_same (suc m) k e in
        let there = rest m i in
        subst (λ j. (j < length (x ∷ xs)) × (entry_of n xs ≡ Some (get_or (x ∷ xs) j d))) same (omega (arith, there.within), there.entry)

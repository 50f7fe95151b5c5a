-- Which live file a leaf gets.
use Rattle.std.proofs.Common.{◌≡◌, ◌≢◌, ℕ, ◌+◌, ◌<◌, List, [], ◌∷◌, length, Bool, true, false, not, ◌&&◌, cond, Option, Some, None, unwrap_or, IfSome, AllPairs, refl, sym, ap, ap₂, ◌∙◌, subst, arith}
use Rattle.std.specs.Prelude.{◌==◌}
use Rattle.std.specs.List.{AllByRecursion, count_by}
use Rattle.std.proofs.lemmas.Bool.{eqb-true, ne_eqb}
use Rattle.std.proofs.lemmas.List.Sums.{sum_by-append}
use Rattle.cat_model.specs.View.{Leaf}
use Rattle.cat_model.proofs.Places.{EachPair, each_pair}
use Rattle.cat_ledger_laws.specs.model.Calls.{same_live, all_alive}
use Rattle.cat_ledger_laws.specs.shape.Shapes.{ListedLive}
use Rattle.cat_ledger_laws.specs.shape.Steps.{file_in, file_for}
use Rattle.cat_commits.specs.writing.Entries.{entry_of, file_beside}
use Rattle.cat_commits.proofs.writing.Looks.{Differ}

-- ---- live sets

same_bool : (b c : Bool) → cond b c (not c) ≡ true → b ≡ c
same_bool true true e = refl
same_bool true false e = absurd (let no : false ≡ true = e in cc)
same_bool false true e = absurd (let no : false ≡ true = e in cc)
same_bool false false e = refl

both : (a b : Bool) → (a && b) ≡ true → (a ≡ true) × (b ≡ true)
both true b e = (refl, e)
both false b e = absurd (let no : false ≡ true = e in cc)

same_told : (bs cs : List Bool) → same_live bs cs ≡ true → bs ≡ cs
same_told [] [] e = refl
same_told [] (c ∷ cs) e = absurd (let no : false ≡ true = e in cc)
same_told (b ∷ bs) [] e = absurd (let no : false ≡ true = e in cc)
same_told (b ∷ bs) (c ∷ cs) e =
    let k = both (cond b c (not c)) (same_live bs cs) e in
    ap₂ (λ (x : Bool) (xs : List Bool). x ∷ xs) (same_bool b c k.0) (same_told bs cs k.1)

same_self : (bs : List Bool) → same_live bs bs ≡ true
same_self [] = refl
same_self (true ∷ bs) = same_self bs
same_self (false ∷ bs) = same_self bs

other_live : (bs cs : List Bool) → bs ≢ cs → same_live bs cs ≡ false
other_live bs cs apart = by (same_live bs cs) refl
  where
    by : (b : Bool) → same_live bs cs ≡ b → b ≡ false
    by true e = absurd (apart (same_told bs cs e))
    by false e = refl

count_by-cons : (b : Bool) (bs : List Bool) → count_by (λ (x : Bool). x) (b ∷ bs) ≡ cond b 1 0 + count_by (λ (x : Bool). x) bs
count_by-cons b bs = sum_by-append (λ (y : Bool). cond y 1 0) (b ∷ []) bs ∙ ap (λ n. n + count_by (λ (x : Bool). x) bs) (let z : (c : Bool) → 0 + cond c 1 0 ≡ cond c 1 0 = λ c. omega arith in z b)

count-le : (bs : List Bool) → count_by (λ (x : Bool). x) bs < length bs + 1
count-le [] = omega arith
count-le (true ∷ bs) = omega (arith, count_by-cons true bs, count-le bs)
count-le (false ∷ bs) = omega (arith, count_by-cons false bs, count-le bs)

pub all_counted : (bs : List Bool) → count_by (λ (x : Bool). x) bs ≡ length bs → all_alive bs ≡ true
all_counted [] e = refl
all_counted (true ∷ bs) e = all_counted bs (omega (arith, e, count_by-cons true bs))
all_counted (false ∷ bs) e = absurd (omega (arith, e, count_by-cons false bs, count-le bs))

alive_count : (bs : List Bool) → all_alive bs ≡ true → count_by (λ (x : Bool). x) bs ≡ length bs
alive_count [] e = refl
alive_count (true ∷ bs) e = omega (arith, count_by-cons true bs, alive_count bs e)
alive_count (false ∷ bs) e = absurd (let no : false ≡ true = e in cc)

pub some_dead : (bs : List Bool) → count_by (λ (x : Bool). x) bs ≢ length bs → all_alive bs ≡ false
some_dead bs fewer = by (all_alive bs) refl
  where
    by : (b : Bool) → all_alive bs ≡ b → b ≡ false
    by true e = absurd (fewer (alive_count bs e))
    by false e = refl

-- ---- files

not_there : (m : ℕ) (xs : List ListedLive) (leaf : Leaf) → m ≡ leaf.segment.number → AllByRecursion (λ z. m ≢ z.number) xs → file_in xs leaf ≡ 0
not_there m [] leaf e a = refl
not_there m (z ∷ zs) leaf e a = rw (ne_eqb z.number leaf.segment.number (λ h. a.0 (e ∙ sym h))) (not_there m zs leaf e a.1)

-- the file that is kept, where this was listed of the leaf's segment, 0 for none
kept_in : Option ListedLive → Leaf → ℕ
kept_in None leaf = 0
kept_in (Some x) leaf = cond (same_live x.live leaf.live) x.file 0

file_found : (xs : List ListedLive) (leaf : Leaf) → EachPair Differ xs → file_in xs leaf ≡ kept_in (entry_of leaf.segment.number xs) leaf
unfolding kept_in
file_found [] leaf a = refl
file_found (x ∷ xs) leaf a = by (x.number == leaf.segment.number) refl (file_found xs leaf a.1)
  where
    by : (b : Bool) → (x.number == leaf.segment.number) ≡ b → file_in xs leaf ≡ kept_in (entry_of leaf.segment.number xs) leaf
        → cond (b && same_live x.live leaf.live) x.file (file_in xs leaf) ≡ kept_in (cond b (Some x) (entry_of leaf.segment.number xs)) leaf
    by true e rest = ap (cond (same_live x.live leaf.live) x.file) (not_there x.number xs leaf (eqb-true x.number leaf.segment.number e) a.0)
    by false e rest = rest

beside : (o : Option ListedLive) (g : ℕ) (leaf : Leaf) → cond (all_alive leaf.live) 0 (cond (kept_in o leaf == 0) g (kept_in o leaf)) ≡ file_beside o g leaf
unfolding kept_in
beside None g leaf = refl
beside (Some x) g leaf = by (same_live x.live leaf.live)
  where
    by : (s : Bool) → cond (all_alive leaf.live) 0 (cond (cond s x.file 0 == 0) g (cond s x.file 0)) ≡ cond (all_alive leaf.live) 0 (cond s (cond (x.file == 0) g x.file) g)
    by true = refl
    by false = refl

pub file_is : (xs : List ListedLive) (g : ℕ) (leaf : Leaf) → AllPairs Differ xs → file_beside (entry_of leaf.segment.number xs) g leaf ≡ file_for xs g leaf
file_is xs g leaf a =
    sym (ap (λ k. cond (all_alive leaf.live) 0 (cond (k == 0) g k)) (file_found xs leaf (each_pair Differ xs a)) ∙ beside (entry_of leaf.segment.number xs) g leaf)

pub whole_file : (o : Option ListedLive) (g : ℕ) (leaf : Leaf) → all_alive leaf.live ≡ true → 0 ≡ file_beside o g leaf
whole_file None g leaf e = rw e refl
whole_file (Some x) g leaf e = rw e refl

pub new_file : (g : ℕ) (leaf : Leaf) → all_alive leaf.live ≡ false → g ≡ file_beside None g leaf
new_file g leaf e = rw e refl

-- the file that is kept beside the one that is listed, or the new one
pub kept_file : (x : ListedLive) (g : ℕ) (leaf : Leaf) (f : ℕ) → all_alive leaf.live ≡ false → f ≡ cond (same_live x.live leaf.live) (cond (x.file == 0) g x.file) g
    → f ≡ file_beside (Some x) g leaf
kept_file x g leaf f e is = rw e is

pub other_rows : (x : ListedLive) (live : List Bool) (g : ℕ) → x.live ≢ live → g ≡ cond (same_live x.live live) (cond (x.file == 0) g x.file) g
other_rows x live g differ = let k : same_live x.live live ≡ false = other_live x.live live differ in rw k refl

pub same_rows : (x : ListedLive) (live : List Bool) (g : ℕ) (o : Option ℕ) → x.live ≡ live → unwrap_or o 0 ≡ x.file → IfSome o (λ d. 0 < d)
    → unwrap_or o g ≡ cond (same_live x.live live) (cond (x.file == 0) g x.file) g
same_rows x live g o same is some =
    let k : same_live x.live live ≡ true = subst (λ l. same_live x.live l ≡ true) same (same_self x.live) in
    rw k (by o is some)
  where
    by : (p : Option ℕ) → unwrap_or p 0 ≡ x.file → IfSome p (λ d. 0 < d) → unwrap_or p g ≡ cond (x.file == 0) g x.file
    by None is some = subst (λ n. g ≡ cond (n == 0) g n) is refl
    by (Some d) is some = subst (λ n. d ≡ cond (n == 0) g n) is (let z : (d == 0) ≡ false = ne_eqb d 0 (λ h. absurd (omega (arith, some, h))) in rw z refl)

-- a leaf that gets a file has dead rows

pub fewer_alive : (bs : List Bool) → (all_alive bs ≡ true → ⊥) → count_by (λ (x : Bool). x) bs < length bs
fewer_alive bs some =
    let differ : count_by (λ (x : Bool). x) bs ≢ length bs = λ e. some (all_counted bs e) in
    omega (arith, differ, count-le bs)

pub gets_none : (xs : List ListedLive) (g : ℕ) (leaf : Leaf) → all_alive leaf.live ≡ true → file_for xs g leaf ≡ g → 0 < g → ⊥
gets_none xs g leaf all e some =
    let none : file_for xs g leaf ≡ 0 = rw all refl in
    omega (arith, none, e, some)

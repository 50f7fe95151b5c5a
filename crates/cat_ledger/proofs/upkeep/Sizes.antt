-- What the sizes and the live sets of segments say.
use Rattle.std.proofs.Common.{◌≡◌, ◌↔◌, ℕ, ◌+◌, ◌<◌, ◌≤◌, List, [], ◌∷◌, length, take, sum, get_or, cond, Bool, true, false, nat_lt, IsTrue, refl, ap, ◌∙◌, arith}
use Rattle.std.specs.List.{count_by}
use Rattle.std.proofs.lemmas.Bool.{ltb-true, lt-ltb}
use Rattle.std.proofs.lemmas.List.Sums.{sum-map, sum_by-append, sum_by_more_le, count_by-le-length}
use Rattle.cat_model.specs.View.{Leaf}
use Rattle.cat_ledger_laws.specs.model.Calls.{all_alive}
use Rattle.cat_ledger_laws.specs.lines.PlanLaws.{sizes_in}

-- what was counted, and the next segment, are within all
pub next_within : (leaves : List Leaf) (i : ℕ) (leaf : Leaf) → i < length leaves → leaf ≡ get_or leaves i leaf
    → sum (sizes_in (take i leaves)) + length leaf.segment.rows ≤ sum (sizes_in leaves)
next_within leaves i leaf within is = omega (
  arith,
  sum_by_more_le (λ (x : Leaf). length x.segment.rows) leaves i leaf within,
  sum-map (λ (x : Leaf). length x.segment.rows) (take i leaves),
  sum-map (λ (x : Leaf). length x.segment.rows) leaves,
  ap (λ (x : Leaf). length x.segment.rows) is,
)

-- ---- live sets

count-cons : (b : Bool) (bs : List Bool) → count_by (λ (x : Bool). x) (b ∷ bs) ≡ cond b 1 0 + count_by (λ (x : Bool). x) bs
count-cons b bs = sum_by-append (λ (y : Bool). cond y 1 0) (b ∷ []) bs ∙ ap (λ n. n + count_by (λ (x : Bool). x) bs) (let z : (c : Bool) → 0 + cond c 1 0 ≡ cond c 1 0 = λ c. omega arith in z b)

-- where fewer live than there are, some are dead; else none is
dead_counted : (bs : List Bool) → count_by (λ (x : Bool). x) bs < length bs → all_alive bs ≡ false
dead_counted [] fewer = absurd (omega (arith, fewer))
dead_counted (true ∷ bs) fewer = dead_counted bs (omega (arith, fewer, count-cons true bs))
dead_counted (false ∷ bs) fewer = refl

fewer_counted : (bs : List Bool) → all_alive bs ≡ false → count_by (λ (x : Bool). x) bs < length bs
fewer_counted [] dead = absurd (let no : true ≡ false = dead in cc)
fewer_counted (true ∷ bs) dead = omega (arith, count-cons true bs, fewer_counted bs dead)
fewer_counted (false ∷ bs) dead = omega (arith, count-cons false bs, count_by-le-length (λ (x : Bool). x) bs)

pub dead_told : (bs : List Bool) (count long : ℕ) → count ≡ count_by (λ (x : Bool). x) bs → long ≡ length bs
    → IsTrue (nat_lt count long) ↔ (all_alive bs ≡ false)
dead_told bs count long counted is = (
  λ fewer. dead_counted bs (omega (arith, ltb-true count long fewer, counted, is)),
  λ dead. lt-ltb count long (omega (arith, fewer_counted bs dead, counted, is)),
)

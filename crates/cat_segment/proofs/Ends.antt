-- Where texts that stand one after the other end: at the sums of their lengths.
use Rattle.std.proofs.Common.{◌≡◌, ℕ, zero, suc, ◌+◌, ◌-◌, ◌<◌, List, [], ◌∷◌, ◌++◌, length, get_or, take, sum, refl, ap, arith}
use Rattle.std.proofs.lemmas.List.Sums.{sum_by-cons}
use Rattle.cat_segment.specs.Sources.{lengths_between, Rise}

pub length-lengths_between : (from : ℕ) (ends : List ℕ) → length (lengths_between from ends) ≡ length ends
length-lengths_between from [] = refl
length-lengths_between from (e ∷ es) = ap suc (length-lengths_between e es)

sum-cons : (x : ℕ) (xs : List ℕ) → sum (x ∷ xs) ≡ x + sum xs
sum-cons x xs = sum_by-cons (λ n. n) x xs

-- a text ends where its length and those before it add up to
pub end_of : (from : ℕ) (ends : List ℕ) (row : ℕ) → Rise from ends → row < length ends → get_or ends row 0 ≡ from + sum (take (row + 1) (lengths_between from ends))
end_of from ends row rise within = by from ends row (row + 1) rise within (omega arith)
  where
    by : (from : ℕ) (ends : List ℕ) (row next : ℕ) → Rise from ends → row < length ends → next ≡ suc row → get_or ends row 0 ≡ from + sum (take next (lengths_between from ends))
    by from [] row next rise within is = absurd (omega arith)
    by from (e ∷ es) zero next rise within is =
        rw is (omega (arith, sum-cons (e - from) [], rise.0))
    by from (e ∷ es) (suc row) next rise within is =
        rw is (omega (arith, by e es row (suc row) rise.1 (omega arith) refl, sum-cons (e - from) (take (suc row) (lengths_between e es)), rise.0))

-- one more text
pub text_more : (from : ℕ) (ends : List ℕ) (len end : ℕ) → Rise from ends → end ≡ from + sum (lengths_between from ends) + len
    → Rise from (ends ++ end ∷ []) × (lengths_between from (ends ++ end ∷ []) ≡ lengths_between from ends ++ len ∷ [])
text_more from [] len end rise is = let gap : end - from ≡ len = omega arith in ((omega arith, tt), ap (λ n. n ∷ []) gap)
text_more from (e ∷ es) len end rise is =
    let later = text_more e es len end rise.1 (omega (arith, sum-cons (e - from) (lengths_between e es), rise.0)) in
    ((rise.0, later.0), ap (λ l. (e - from) ∷ l) later.1)

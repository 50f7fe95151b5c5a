-- The steps of a reading.
use Rattle.std.proofs.Common.{◌≡◌, ◌≢◌, ℕ, ◌+◌, ◌<◌, ◌≤◌, List, [], ◌∷◌, ◌++◌, length, get_or, take, drop, map, Some, None, Result, Ok, Err, IfOk, IfErr, replicate, refl, sym, ◌∙◌, ap, ap₂, subst, arith, inl, inr, zero-add}
use Rattle.std.specs.Prelude.{◌⊎◌, IsErr, IsErrAnd, sum}
use Rattle.std.specs.List.{HoldsAt}
use Rattle.std.proofs.lemmas.List.{take_more, take_all, length-append, length-replicate, map-append}
use Rattle.std.proofs.lemmas.List.Sums.{sum_by-append}
use Rattle.std.proofs.Math.Seq.{take-add}
use Rattle.cat_base.specs.declared.refusal.Refusal.{Refusal}
use Rattle.cat_base.specs.declared.refusal.Refusal.TheVariants.{Damaged, Device, Memory}
use Rattle.cat_directory.specs.Devices.{CountsReading, ReadingCount, Told}
use Rattle.cat_model.specs.Text.{Text}
use Rattle.cat_model.specs.View.{Row}
use Rattle.cat_ledger_laws.specs.shape.Ties.{IsTold}

fault_is : {T E : Type 0} (r : Result T E) (e : E) → IsErr r × IsErrAnd r (λ x. x ≡ e) → r ≡ Err e
fault_is (Ok v) e so = absurd so.1
fault_is (Err x) e so = ap Err so.1

-- what holds of a refusal holds of it where a `?` passes it on
pub passed : {T : Type 0} (P : Refusal → Type 0) (r : Result T Refusal) (e : Refusal) → IsErr r × IsErrAnd r (λ x. x ≡ e) → P e → IfErr r P
passed P r e so p = subst (λ (r : Result _ Refusal). IfErr r P) (sym (fault_is r e so)) p

-- what was read is what is told
pub told_so : (t : Told) (b : Text) → t ≢ Some None → ((bs : Text) → t ≡ Some (Some bs) → b ≡ bs) → IsTold t (Some b)
told_so None b there same = tt
told_so (Some None) b there same = absurd (there refl)
told_so (Some (Some bs)) b there same = ap Some (sym (same bs refl))

-- bytes that the file may have, of which the length is known
pub some_bytes : (t : Told) (n : ℕ) → t ≢ Some None → ((bs : Text) → t ≡ Some (Some bs) → n ≡ length bs) → (b : Text) × IsTold t (Some b) × (length b ≡ n)
some_bytes None n there same = (replicate n 0, tt, length-replicate n 0)
some_bytes (Some None) n there same = absurd (there refl)
some_bytes (Some (Some bs)) n there same = (bs, refl, sym (same bs refl))

-- a piece more of the bytes
pub more_read : (items more new bs : Text) (from p : ℕ) → items ≡ take (length items) bs → from ≡ length items → (from + p ≤ length bs) × (more ≡ take p (drop from bs)) → length more ≡ p
    → new ≡ items ++ more → new ≡ take (length new) bs
more_read items more new bs from p is at read long e =
    let n : length new ≡ from + p = ap length e ∙ sum_lengths items more ∙ ap₂ (λ a b. a + b) (sym at) long in
    e ∙ ap₂ (λ a b. a ++ b) (is ∙ ap (λ (k : ℕ). take k bs) (sym at)) read.1 ∙ sym (take-add from p bs) ∙ ap (λ (k : ℕ). take k bs) (sym n)
  where
    sum_lengths : (a b : Text) → length (a ++ b) ≡ length a + length b
    sum_lengths a b = length-append a b

-- all of them
pub all_read : (items bs : Text) (size : ℕ) → items ≡ take (length items) bs → size ≡ length bs → (length items < size → ⊥) → items ≡ bs
all_read items bs size is e done = is ∙ take_all (length items) bs (omega (arith, e, done))

-- ---- the sources of rows

-- the lengths of all rows are those of all but the last, and its
pub lengths_of : (rows : List Row) (n l : ℕ) → n + 1 ≡ length rows → HoldsAt (λ r. r.length ≡ l) rows n
    → sum (map (λ (r : Row). r.length) rows) ≡ sum (map (λ (r : Row). r.length) (take n rows)) + l
lengths_of [] n l long last = absurd (omega (arith, long))
lengths_of (r ∷ rs) n l long last =
    let within : n < length (r ∷ rs) = omega (arith, long) in
    let all : take (n + 1) (r ∷ rs) ≡ (r ∷ rs) = take_all (n + 1) (r ∷ rs) (omega (arith, long)) in
    ap (λ (xs : List Row). sum (map (λ (x : Row). x.length) xs)) (sym all ∙ take_more (r ∷ rs) n r within)
    ∙ ap sum (map-append (λ (x : Row). x.length) (take n (r ∷ rs)) (get_or (r ∷ rs) n r ∷ []))
    ∙ sum_by-append (λ (k : ℕ). k) (map (λ (x : Row). x.length) (take n (r ∷ rs))) ((get_or (r ∷ rs) n r).length ∷ [])
    ∙ ap (λ (k : ℕ). sum (map (λ (x : Row). x.length) (take n (r ∷ rs))) + k) (one_sum (get_or (r ∷ rs) n r).length ∙ last r)
  where
    one_sum : (k : ℕ) → sum (k ∷ []) ≡ k
    one_sum k = zero-add k

-- ---- refusals, where a `?` passes them on

-- nothing is answered
pub not_ok : {T : Type 0} (P : T → Type 0) (r : Result T Refusal) (e : Refusal) → IsErr r × IsErrAnd r (λ x. x ≡ e) → IfOk r P
not_ok P r e so = subst (λ (r : Result _ Refusal). IfOk r P) (sym (fault_is r e so)) tt

-- whatever the refusal is
pub any_fault : {T : Type 0} (P : Refusal → Type 0) (r : Result T Refusal) → ((e : Refusal) → P e) → IfErr r P
any_fault P (Ok x) p = tt
any_fault P (Err e) p = p e

pub counts_on : {T : Type 0} (old new : ℕ) (r : Result T Refusal) (e : Refusal) → IsErr r × IsErrAnd r (λ x. x ≡ e) → ReadingCount old new e → CountsReading old new r
counts_on old new r e so counted = subst (λ (r : Result _ Refusal). CountsReading old new r) (sym (fault_is r e so)) counted

-- behind calls that count nothing
pub counts_behind : {T : Type 0} (old mid new : ℕ) (r : Result T Refusal) (e : Refusal) → IsErr r × IsErrAnd r (λ x. x ≡ e) → mid ≡ old → ReadingCount mid new e → CountsReading old new r
counts_behind old mid new r e so same counted = counts_on old new r e so (subst (λ (n : ℕ). ReadingCount n new e) same counted)

-- what judges bytes counts nothing
pub counts_judged : (old new : ℕ) (e : Refusal) → (e ≡ Damaged) ⊎ (e ≡ Memory) → new ≡ old → ReadingCount old new e
counts_judged old new e (inl is) same = subst (ReadingCount old new) (sym is) same
counts_judged old new e (inr is) same = subst (ReadingCount old new) (sym is) same

-- and isn't a device that fails
pub judged : (X : Type 0) (e : Refusal) → (e ≡ Damaged) ⊎ (e ≡ Memory) → e ≡ Device → X
judged X e (inl is) device = let no : Damaged ≡ Device = sym is ∙ device in cc
judged X e (inr is) device = let no : Memory ≡ Device = sym is ∙ device in cc

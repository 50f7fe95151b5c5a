-- Reading values one after the other, as a loop does.
use Rattle.std.proofs.Common.{◌≡◌, ℕ, suc, ◌-◌, ◌+◌, ◌≤◌, ◌<◌, List, [], ◌∷◌, ◌++◌, Option, Some, None, refl, sym, ap, ◌∙◌, append_assoc, arith, inl, inr}
use Rattle.std.proofs.lemmas.List.{append-nil}
use Rattle.std.specs.Prelude.{◌⊎◌}
use Rattle.cat_base.specs.declared.refusal.Refusal.{Refusal}
use Rattle.cat_base.specs.declared.refusal.Refusal.TheVariants as errors
use Rattle.cat_model.specs.Item.{Field, Schema}
use Rattle.cat_model.specs.Layout.{Laid}
use Rattle.cat_items.specs.file_parts.Reading.{Reader, ◌>>=◌, Fails, many_at, with_front}
use Rattle.cat_items.specs.file_parts.Layouts.{column_at, columns_at}

regroup : {A : Type 0} (front : List A) (n : A) (read : Option (List A × List ℕ)) → with_front front (read >>= λ x. Some (n ∷ x.0, x.1)) ≡ with_front (front ++ n ∷ []) read
regroup front n (Some x) = ap (λ ns. Some (ns, x.1)) (sym (append_assoc front (n ∷ []) x.0))
regroup front n None = refl

pub goes_on : {A : Type 0} (one : Reader A) (front : List A) (count i : ℕ) (bytes : List ℕ) (n : A) (after : List ℕ) (total : Option (List A × List ℕ)) → i < count → one bytes ≡ Some (n, after)
    → with_front front (many_at one (count - i) bytes) ≡ total → with_front (front ++ n ∷ []) (many_at one (count - (i + 1)) after) ≡ total
unfolding many_at
goes_on one front count i bytes n after total lt h so_far =
    let k : count - i ≡ suc (count - (i + 1)) = omega arith in
    let step : with_front front (many_at one (count - i) bytes) ≡ with_front (front ++ n ∷ []) (many_at one (count - (i + 1)) after) = rw (k, h) (regroup front n (many_at one (count - (i + 1)) after)) in
    sym step ∙ so_far

pub fails_none : {A B : Type 0} (e : Refusal) (a : Option A) (b : Option B) → Fails e a → (a ≡ None → b ≡ None) → Fails e b
fails_none errors.Memory a b f h = tt
fails_none errors.Damaged a b f h = h f
fails_none errors.Line a b f h = absurd f
fails_none errors.Json a b f h = absurd f
fails_none errors.Member a b f h = absurd f
fails_none errors.Kind a b f h = absurd f
fails_none errors.Id a b f h = absurd f
fails_none errors.Large a b f h = absurd f
fails_none errors.Spent a b f h = absurd f
fails_none errors.NotHeld a b f h = absurd f
fails_none errors.Gone a b f h = absurd f
fails_none errors.Full a b f h = absurd f
fails_none errors.Mark a b f h = absurd f
fails_none (errors.Query q) a b f h = absurd f
fails_none errors.Count a b f h = absurd f
fails_none errors.NoCommit a b f h = absurd f
fails_none errors.NoSnapshot a b f h = absurd f
fails_none errors.SortField a b f h = absurd f
fails_none errors.NotFacet a b f h = absurd f
fails_none errors.Device a b f h = absurd f

-- a refusal that is one of the two that reading knows
pub fails_of : {B : Type 0} (e : Refusal) (b : Option B) → (e ≡ errors.Damaged) ⊎ (e ≡ errors.Memory) → (e ≡ errors.Damaged → b ≡ None) → Fails e b
fails_of e b (inl is) h = rw is (h is)
fails_of e b (inr is) h = rw is tt

pub fails_known : {B : Type 0} (e : Refusal) (b : Option B) → Fails e b → (e ≡ errors.Damaged) ⊎ (e ≡ errors.Memory)
fails_known errors.Memory b f = inr refl
fails_known errors.Damaged b f = inl refl
fails_known errors.Line b f = absurd f
fails_known errors.Json b f = absurd f
fails_known errors.Member b f = absurd f
fails_known errors.Kind b f = absurd f
fails_known errors.Id b f = absurd f
fails_known errors.Large b f = absurd f
fails_known errors.Spent b f = absurd f
fails_known errors.NotHeld b f = absurd f
fails_known errors.Gone b f = absurd f
fails_known errors.Full b f = absurd f
fails_known errors.Mark b f = absurd f
fails_known (errors.Query q) b f = absurd f
fails_known errors.Count b f = absurd f
fails_known errors.NoCommit b f = absurd f
fails_known errors.NoSnapshot b f = absurd f
fails_known errors.SortField b f = absurd f
fails_known errors.NotFacet b f = absurd f
fails_known errors.Device b f = absurd f

pub ends : {A : Type 0} (one : Reader A) (e : Refusal) (front : List A) (count i : ℕ) (bytes : List ℕ) (total : Option (List A × List ℕ)) → i < count → Fails e (one bytes)
    → with_front front (many_at one (count - i) bytes) ≡ total → Fails e total
unfolding many_at
ends one e front count i bytes total lt f so_far = fails_none e (one bytes) total f none
  where
    none : one bytes ≡ None → total ≡ None
    none h =
        let k : count - i ≡ suc (count - (i + 1)) = omega arith in
        let step : with_front front (many_at one (count - i) bytes) ≡ None = rw (k, h) refl in
        sym so_far ∙ step

pub is_done : {A : Type 0} (one : Reader A) (front : List A) (count i : ℕ) (bytes : List ℕ) (total : Option (List A × List ℕ)) → count ≤ i → with_front front (many_at one (count - i) bytes) ≡ total → total ≡ Some (front, bytes)
unfolding many_at
is_done one front count i bytes total le so_far =
    let k : count - i ≡ 0 = omega arith in
    let step : with_front front (many_at one (count - i) bytes) ≡ Some (front, bytes) = rw k (ap (λ ns. Some (ns, bytes)) (append-nil front)) in
    sym so_far ∙ step

pub cols_go_on : (front : List Laid) (rest others : Schema) (rows : ℕ) (f : Field) (bytes : List ℕ) (n : Laid) (after : List ℕ) (total : Option (List Laid × List ℕ)) → rest ≡ f ∷ others → column_at f.kind rows bytes ≡ Some (n, after)
    → with_front front (columns_at rows rest bytes) ≡ total → with_front (front ++ n ∷ []) (columns_at rows others after) ≡ total
unfolding columns_at
cols_go_on front rest others rows f bytes n after total is h so_far =
    let step : with_front front (columns_at rows rest bytes) ≡ with_front (front ++ n ∷ []) (columns_at rows others after) = rw (is, h) (regroup front n (columns_at rows others after)) in
    sym step ∙ so_far

pub cols_end : (e : Refusal) (front : List Laid) (rest others : Schema) (rows : ℕ) (f : Field) (bytes : List ℕ) (total : Option (List Laid × List ℕ)) → rest ≡ f ∷ others → Fails e (column_at f.kind rows bytes)
    → with_front front (columns_at rows rest bytes) ≡ total → Fails e total
unfolding columns_at
cols_end e front rest others rows f bytes total is h so_far = fails_none e (column_at f.kind rows bytes) total h none
  where
    none : column_at f.kind rows bytes ≡ None → total ≡ None
    none z =
        let step : with_front front (columns_at rows rest bytes) ≡ None = rw (is, z) refl in
        sym so_far ∙ step

pub cols_done : (front : List Laid) (rest : Schema) (rows : ℕ) (bytes : List ℕ) (total : Option (List Laid × List ℕ)) → rest ≡ [] → with_front front (columns_at rows rest bytes) ≡ total → total ≡ Some (front, bytes)
unfolding columns_at
cols_done front rest rows bytes total is so_far =
    let step : with_front front (columns_at rows rest bytes) ≡ Some (front, bytes) = rw is (ap (λ ns. Some (ns, bytes)) (append-nil front)) in
    sym so_far ∙ step

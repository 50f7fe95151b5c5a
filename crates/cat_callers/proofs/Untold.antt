-- Clauses on results, for files of which nothing is told.
use Rattle.std.proofs.Common.{◌≡◌, sym, subst}
use Rattle.std.specs.Prelude.{IfErr, IfOk, Ok, Err, Result}

-- what is so of whatever is answered
pub if_ok : {X E : Type 0} (r : Result X E) (P : X → Type 0) → ((x : X) → P x) → IfOk r P
if_ok (Ok x) P each = each x
if_ok (Err e) P each = tt

-- and of whatever refuses
pub if_err : {X E : Type 0} (r : Result X E) (P : E → Type 0) → ((e : E) → P e) → IfErr r P
if_err (Ok x) P each = tt
if_err (Err e) P each = each e

-- what follows from what is told of the same answer
pub so_if_ok : {X E : Type 0} (r told : Result X E) (P Q : X → Type 0) → r ≡ told → ((x : X) → P x → Q x) → IfOk told P → IfOk r Q
so_if_ok {X = X} {E = E} r told P Q same so h = subst (λ (x : Result X E). IfOk x Q) (sym same) (by told h)
  where
    by : (x : Result X E) → IfOk x P → IfOk x Q
    by (Ok x) p = so x p
    by (Err e) p = tt

pub so_if_err : {X E : Type 0} (r told : Result X E) (P Q : E → Type 0) → r ≡ told → ((e : E) → P e → Q e) → IfErr told P → IfErr r Q
so_if_err {X = X} {E = E} r told P Q same so h = subst (λ (x : Result X E). IfErr x Q) (sym same) (by told h)
  where
    by : (x : Result X E) → IfErr x P → IfErr x Q
    by (Ok x) p = tt
    by (Err e) p = so e p

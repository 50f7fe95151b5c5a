-- What a call's result says of what is made of it.
use Rattle.std.proofs.Common.{◌≡◌, Result, Ok, Err}
use Rattle.std.specs.Prelude.{IfErr, IfOk, OnErr}

pub if_ok : {X E : Type 0} (P Q : X → Type 0) (r : Result X E) → ((x : X) → P x → Q x) → IfOk r P → IfOk r Q
if_ok P Q (Ok x) f p = f x p
if_ok P Q (Err e) f p = tt

pub on_err : {X E : Type 0} (P Q : Type 0) (r : Result X E) → (P → Q) → OnErr r P → OnErr r Q
on_err P Q (Ok x) f p = tt
on_err P Q (Err e) f p = f p

-- what holds whatever is answered holds of a refusal
pub on_any : {X E : Type 0} (A : Type 0) (e : E) (r : Result X E) → A → IfErr r (λ x. x ≡ e → A)
on_any A e (Ok x) a = tt
on_any A e (Err x) a = λ is. a

-- what is so is said of a refusal
pub either_err : {X E A : Type 0} (r : Result X E) → A → OnErr r A
either_err (Ok x) a = tt
either_err (Err e) a = a

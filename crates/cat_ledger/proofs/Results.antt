-- What a call's result says, whichever it is.
use Rattle.std.proofs.Common.{◌≡◌, Err, Ok, Result, ap}
use Rattle.std.specs.Prelude.{IfErr, IfOk, IsErr, IsErrAnd, OnErr, OnOk}

-- it is so, whether the call succeeds or not
pub either_way : {X E : Type 0} {P : X → Type 0} (A B : Type 0) (r : Result X E) → IfOk r P → OnErr r B → ((x : X) → P x → A) → (B → A) → A
either_way A B (Ok x) p b ok err = ok x p
either_way A B (Err e) p b ok err = err b

-- the same, where success says one thing
pub one_way : {X E : Type 0} (A B : Type 0) (r : Result X E) → OnOk r A → OnErr r B → (B → A) → A
one_way A B (Ok x) a b err = a
one_way A B (Err e) a b err = err b

-- what success says, so put
pub if_ok : {X E : Type 0} (P Q : X → Type 0) (r : Result X E) → ((x : X) → P x → Q x) → IfOk r P → IfOk r Q
if_ok P Q (Ok x) f p = f x p
if_ok P Q (Err e) f p = tt

-- so, whatever it is that succeeded
pub on_ok : {X E A B : Type 0} (r : Result X E) → (A → B) → OnOk r A → OnOk r B
on_ok (Ok x) f a = f a
on_ok (Err e) f a = tt

-- what a refusal says, so put
pub if_err : {X E : Type 0} (P Q : E → Type 0) (r : Result X E) → ((e : E) → P e → Q e) → IfErr r P → IfErr r Q
if_err P Q (Ok x) f p = tt
if_err P Q (Err e) f p = f e p

-- what is so is said of success
pub either_ok : {X E A : Type 0} (r : Result X E) → A → OnOk r A
either_ok (Ok x) a = a
either_ok (Err e) a = tt

-- what passes a refusal on gives that very refusal
pub passed_on : {X E : Type 0} (r : Result X E) (e : E) → IsErr r × IsErrAnd r (λ x. x ≡ e) → r ≡ Err e
passed_on (Err x) e is = ap Err is.1
passed_on (Ok x) e is = absurd is.1

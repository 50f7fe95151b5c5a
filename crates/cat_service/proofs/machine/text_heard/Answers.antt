use Rattle.std.proofs.Common.{◌≡◌, ap, subst, sym}
use Rattle.std.specs.Prelude.{Option, Some, None, IfSome}
use Rattle.cat_model.specs.Lines.{IsReadable}
use Rattle.cat_service.proofs.machine.text_heard.Goals as goal

-- what two facts say of a value, if there is one
if_both : {A : Type 0} (P Q R : A → Type 0) (o : Option A) → ((a : A) → P a → Q a → R a) → IfSome o P → IfSome o Q → IfSome o R
if_both P Q R (Some a) f p q = f a p q
if_both P Q R None f p q = tt

pub returns-in-Some-clause-found : goal.returns-in-Some-clause-found
returns-in-Some-clause-found c =
    let bytes = c.in-Some.bytes.now in
    rw c.in-Some.is (if_both (λ text. text.now ≡ bytes) (λ text. IsReadable bytes) (λ text. Some bytes ≡ Some text.now) c.text_of.result (λ text is _. ap Some (sym is))
    c.text_of.ensures.found c.text_of.ensures.readable)

pub returns-in-Some-clause-readable : goal.returns-in-Some-clause-readable
returns-in-Some-clause-readable c =
    let bytes = c.in-Some.bytes.now in
    if_both (λ text. text.now ≡ bytes) (λ text. IsReadable bytes) (λ text. IsReadable text.now) c.text_of.result (λ text is readable. subst IsReadable (sym is) readable)
    c.text_of.ensures.found c.text_of.ensures.readable

pub returns-in-Some-clause-none : goal.returns-in-Some-clause-none
returns-in-Some-clause-none c = rw c.in-Some.is c.text_of.ensures.none

pub returns-in-None-clause-none : goal.returns-in-None-clause-none
returns-in-None-clause-none c = rw c.in-None.is tt

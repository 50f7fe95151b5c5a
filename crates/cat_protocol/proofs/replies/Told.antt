-- Replies of one line, behind which there is no other.
use Rattle.std.proofs.Common.{[], ◌++◌, sym, subst, append-nil}
use Rattle.std.specs.Prelude.{Option, Result}
use Rattle.cat_model.specs.Text.{Text}
use Rattle.cat_protocol.specs.sending.Out.{Sent}

pub one_line : {T E : Type 0} (a b : Option Text) (r : Result T E) (x : Text) → Sent a b r x → Sent a b r (x ++ [])
one_line a b r x so = subst (Sent a b r) (sym (append-nil x)) so

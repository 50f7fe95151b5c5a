-- What a call of the writer left, by how many bytes it took.
use Rattle.std.proofs.Common.{◌≡◌, ℕ, zero, suc, ◌≤◌, [], length, take, refl, sym, append-nil, ◌∙◌, arith}
use Rattle.std.specs.Prelude.{◌≢◌, Option, None, Some, Result, Ok, Err, IfOk, OnErr}
use Rattle.std.specs.declared.io.Error.{Error}
use Rattle.std.specs.declared.io.ErrorKind.{ErrorKind}
use Rattle.std.specs.declared.io.ErrorKind.TheVariants.{Interrupted}
use Rattle.std.specs.Io.{WritesAtMost}
use Rattle.std.specs.Io.KnownBytes.{Appends, Keeps, WriteAppends}
use Rattle.std.specs.IoError.{error_kind}
use Rattle.cat_model.specs.Text.{Text}
use Rattle.cat_protocol.specs.declared.sending.pieces.WriteFault.{WriteFault}
use Rattle.cat_protocol.specs.sending.Out.{taken_at, taken_by, write_fault}

none_appended : (a b : Option Text) → Appends a b [] → Keeps a b
none_appended None b h = h
none_appended (Some xs) None h = h
none_appended (Some xs) (Some ys) h = h ∙ append-nil xs

kept_appends : (a b : Option Text) → Keeps a b → Appends a b []
kept_appends None b h = h
kept_appends (Some xs) None h = h
kept_appends (Some xs) (Some ys) h = h ∙ sym (append-nil xs)

-- what one call of the writer that came to `result` left
pub record Takes (a b : Option Text) (bytes : Text) (result : Result ℕ WriteFault) : Type 0 where
  pub bound : IfOk result (λ n. n ≤ length bytes)
  pub ok : IfOk result (λ n. Appends a b (take n bytes))
  pub err : OnErr result (Keeps a b)

takes_at : (a b : Option Text) (bytes : Text) (kind : ErrorKind) → Keeps a b → Takes a b bytes (taken_at kind)
takes_at a b bytes Interrupted kept = record { bound = omega arith; ok = kept_appends a b kept; err = tt }
takes_at a b bytes kind kept = record { bound = tt; ok = tt; err = kept }

pub takes_so : (a b : Option Text) (bytes : Text) (answer : Result ℕ Error) → WritesAtMost answer bytes → WriteAppends a b answer bytes
    → Takes a b bytes (taken_by answer)
takes_so a b bytes (Ok zero) fits wrote = record { bound = tt; ok = tt; err = none_appended a b wrote }
takes_so a b bytes (Ok (suc n)) fits wrote = record { bound = fits; ok = wrote; err = tt }
takes_so a b bytes (Err e) fits wrote = takes_at a b bytes (error_kind e) wrote

-- what fails for no signal is a fault
pub taken_at_fault : (kind : ErrorKind) → kind ≢ Interrupted → ◌≡◌ {A = Result ℕ WriteFault} (Err write_fault) (taken_at kind)
taken_at_fault Interrupted other = absurd (other refl)
taken_at_fault kind other = refl

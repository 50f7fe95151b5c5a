-- What a write that may fail leaves in a writer whose content may be known.
use Rattle.std.specs.Prelude.{◌≡◌, ℕ, zero, suc, ◌++◌, Option, Result, Ok, Err, MatchResult}
use Rattle.std.specs.declared.io.Error.{Error}
use Rattle.std.specs.declared.io.ErrorKind.{ErrorKind}
use Rattle.std.specs.declared.io.ErrorKind.TheVariants.{Interrupted}
use Rattle.std.specs.IoError.{error_kind}
use Rattle.std.specs.Io.KnownBytes.{Appends}
use Rattle.cat_model.specs.Text.{Text}
use Rattle.cat_model.specs.Served.{AppendsFront}
use Rattle.cat_protocol.specs.declared.sending.pieces.WriteFault.{WriteFault}

-- a write failed, or took nothing
abbrev pub write_fault : WriteFault
write_fault = record {}

-- how many bytes a call of the writer took that fails so: none where a signal interrupted it, which is no fault
abbrev pub taken_at : ErrorKind → Result ℕ WriteFault
taken_at Interrupted = Ok 0
taken_at kind = Err write_fault

-- how many bytes a call of the writer took that answers so: to take none is a fault
abbrev pub taken_by : Result ℕ Error → Result ℕ WriteFault
taken_by (Ok zero) = Err write_fault
taken_by (Ok (suc n)) = Ok (suc n)
taken_by (Err e) = taken_at (error_kind e)

-- all of the text went out, or at a fault a front of it
abbrev pub Sent : {T E : Type 0} → Option Text → Option Text → Result T E → Text → Type 0
Sent old new r text = MatchResult r (λ _. Appends old new text) (λ _. AppendsFront old new text)

-- of what waited and the text behind it a front went out, and the rest waits
pub record PassesOn (old new : Option Text) (waited waits text : Text) : Type 0 where
  pub out : Text
  pub went : Appends old new out
  pub whole : waited ++ text ≡ out ++ waits

-- the text is taken in behind what waited, or at a fault a front of both went out
abbrev pub Gathers : {T E : Type 0} → (old new : Option Text) → (waited waits : Text) → Result T E → Text → Type 0
Gathers old new waited waits r text = MatchResult r (λ _. PassesOn old new waited waits text) (λ _. AppendsFront old new (waited ++ text))

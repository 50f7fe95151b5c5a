-- What a call of the reader left, by what it brought.
use Rattle.std.proofs.Common.{◌≡◌, ℕ, zero, suc, ◌<◌, [], length, refl, sym}
use Rattle.std.specs.Prelude.{◌≢◌, Option, None, Some, Result, Ok, Err}
use Rattle.std.specs.declared.io.Error.{Error}
use Rattle.std.specs.declared.io.ErrorKind.{ErrorKind}
use Rattle.std.specs.declared.io.ErrorKind.TheVariants.{Interrupted}
use Rattle.std.specs.Io.{ReadsAtMost}
use Rattle.std.specs.Io.KnownBytes.{Consumes, Keeps, ReadConsumes}
use Rattle.std.specs.IoError.{error_kind}
use Rattle.cat_model.specs.Text.{Text}
use Rattle.cat_protocol.specs.declared.serving.serving.Came.{Came}
use Rattle.cat_protocol.specs.declared.serving.serving.Came.TheVariants as came
use Rattle.cat_protocol.specs.serving.Serving.{Comes, came_at, came_by}

none_consumed : (a b : Option Text) → Consumes a b [] → Keeps a b
none_consumed None b h = h
none_consumed (Some xs) None h = h
none_consumed (Some xs) (Some ys) h = sym h

kept_at : (a b : Option Text) (chunk : Text) (kind : ErrorKind) → Keeps a b → Comes a b chunk (came_at kind)
kept_at a b chunk Interrupted kept = kept
kept_at a b chunk kind kept = kept

pub comes_so : (a b : Option Text) (chunk : Text) (answer : Result ℕ Error) → 0 < length chunk → ReadsAtMost answer chunk → ReadConsumes a b answer chunk
    → Comes a b chunk (came_by answer)
comes_so a b chunk (Ok zero) some fits read = (none_consumed a b read.0, read.1 refl some)
comes_so a b chunk (Ok (suc n)) some fits read = (read.0, fits.0)
comes_so a b chunk (Err e) some fits read = kept_at a b chunk (error_kind e) read

-- what fails for no signal is a fault
pub came_at_fault : (kind : ErrorKind) → kind ≢ Interrupted → ◌≡◌ {A = Came} came.Fault (came_at kind)
came_at_fault Interrupted other = absurd (other refl)
came_at_fault kind other = refl

-- What an OPEN says.
use Rattle.std.specs.Prelude.{ℕ, None, Option, Some}
use Rattle.cat_model.specs.Lines.{Said}

-- an OPEN of the token, or of the newest view
abbrev pub said_open : Option ℕ → Said
said_open None = Said.open_newest
said_open (Some t) = Said.open_at t

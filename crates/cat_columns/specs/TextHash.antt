-- A hash of texts.
use Rattle.std.specs.Prelude.{ℕ, ◌+◌, ◌*◌, ◌%◌, ◌^◌, fold}
use Rattle.cat_model.specs.Text.{Text}

-- the hash of a text with one byte more, by that of the text
abbrev pub with_byte : ℕ → ℕ → ℕ
with_byte hash byte = (hash + byte) % 2 ^ 64 * 11400714819323198485 % 2 ^ 64

-- the hash of a text: a polynomial of its bytes, modulo 2^64
abbrev pub text_hash : Text → ℕ
text_hash text = fold with_byte 0 text

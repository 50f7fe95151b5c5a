-- Texts by their ordinals in another dictionary.
use Rattle.std.specs.Prelude.{◌≡◌, ◌<◌, ℕ, zero, suc, List, length, slice_index, Contains}
use Rattle.cat_model.specs.Layout.{ordinal_in}
use Rattle.cat_model.specs.Ordinals.{text_at}
use Rattle.cat_model.specs.Text.{Text}

-- for each of the texts that is one of the words, how many words stand before it
pub record AreOrdinalsAmong (words texts : List Text) (ordinals : List ℕ) : Type 0 where
  pub long : length ordinals ≡ length texts
  pub there : (k : ℕ) → k < length texts → Contains words (text_at texts k) → slice_index ordinals k ≡ ordinal_in words (text_at texts k)

-- the code of a text that has this code, where the ordinals have become these
abbrev pub moved_code : List ℕ → ℕ → ℕ
moved_code ordinals zero = 0
moved_code ordinals (suc ordinal) = suc (slice_index ordinals ordinal)

-- The forms of what an item has. A file of a segment is judged by them too. They are our own. Which refusal an item gets
-- that hasn't these forms is said where texts of JSON are read, by cat_items.
use Rattle.std.specs.Prelude.{◌≡◌, ℕ, ◌<◌, ◌≤◌, ◌^◌, Bool, true, nat_le, ◌&&◌, ◌==◌, not, length, All, IfSome, IsUtf8}
use Rattle.std.specs.List.{list_all}
use Rattle.std.specs.Char.{is_ascii_uppercase}
use Rattle.std.specs.Int.{w64}
use Rattle.std.specs.Int.RustNames.{FitsSigned}
use Rattle.cat_model.specs.Text.{Text}
use Rattle.cat_model.specs.Item.{Content, Item, is_id}
use Rattle.cat_model.specs.Words.{is_word_byte}
use Rattle.cat_model.specs.Limits.{keyword_limit, label_limit, source_limit, commit_text_limit}

-- no control character of ASCII
abbrev pub is_plain_byte : ℕ → Bool
is_plain_byte b = nat_le 32 b && not (b == 127)

-- at most so many bytes, no control character of ASCII among them: a keyword, within `keyword_limit`, or the text of a commit, within
-- `commit_text_limit`
pub record IsPlain (limit : ℕ) (text : Text) : Type 0 where
  pub utf8 : IsUtf8 text
  pub short : length text ≤ limit
  pub plain : list_all is_plain_byte text ≡ true

abbrev pub IsKeyword : Text → Type 0
IsKeyword text = IsPlain keyword_limit text

-- a label: a keyword that isn't empty
pub record IsLabel (text : Text) : Type 0 where
  pub keyword : IsPlain keyword_limit text
  pub some : 0 < length text

-- the text of a commit: at most `commit_text_limit` bytes, no control character of ASCII among them
abbrev pub IsCommitText : Text → Type 0
IsCommitText text = IsPlain commit_text_limit text

-- a byte of a word, which is no capital
abbrev pub is_low_byte : ℕ → Bool
is_low_byte b = is_word_byte b && not (is_ascii_uppercase b)

-- a word: one or more bytes of words, no capital among them
pub record IsWord (text : Text) : Type 0 where
  pub utf8 : IsUtf8 text
  pub some : 0 < length text
  pub short : length text < 2 ^ 32
  pub low : list_all is_low_byte text ≡ true

-- what an item has in a field has the forms of its kind
abbrev pub IsFormed : Content → Type 0
IsFormed (Content.words ws) = All IsWord ws
IsFormed (Content.keyword k) = IfSome k (IsPlain keyword_limit)
IsFormed (Content.number z) = IfSome z (FitsSigned w64)
IsFormed (Content.labels ls) = (length ls ≤ label_limit) × All IsLabel ls

-- how many bytes a source has: 1 to `source_limit`
abbrev pub IsSourceLength : ℕ → Type 0
IsSourceLength n = (1 ≤ n) × (n ≤ source_limit)

-- the item has the forms, whatever the schema is
pub record IsFormedItem (i : Item) : Type 0 where
  pub id : is_id i.id ≡ true
  pub source : IsSourceLength (length i.source)
  pub fields : All (λ p. IsFormed p.content) i.fields

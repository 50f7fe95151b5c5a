-- What words are spelled by.
use Rattle.std.specs.Prelude.{◌∷◌, ◌++◌, codes}
use Rattle.std.specs.Fmt.{decimal, signed_decimal}
use Rattle.cat_model.specs.Text.{Text}
use Rattle.cat_protocol.specs.declared.replies.words.Word.{Word}
use Rattle.cat_protocol.specs.declared.replies.words.Word.TheVariants.{Number, Signed, Plain, Marked}

-- how a word is spelled
abbrev pub word_text : Word → Text
word_text (Number n) = decimal n
word_text (Signed z) = signed_decimal z
word_text (Plain bytes) = bytes.now
word_text (Marked bytes) = codes "=" ++ bytes.now

-- a space, and then the word
abbrev pub behind_space : Word → Text
behind_space word = 32 ∷ word_text word

-- Sort keys.
use Rattle.cat_model.specs.Page as model
use Rattle.cat_search.specs.declared.keys.Key.{Key}
use Rattle.cat_search.specs.declared.keys.Key.TheVariants as owned
use Rattle.cat_search.specs.declared.keys.KeyRef.{KeyRef}
use Rattle.cat_search.specs.declared.keys.KeyRef.TheVariants as borrowed

-- what a key means
abbrev pub key_of : Key → model.Key
key_of (owned.Number z) = model.Key.number z
key_of (owned.Keyword t) = model.Key.keyword t

-- what a borrowed key means
abbrev pub key_ref_of : KeyRef → model.Key
key_ref_of (borrowed.Number z) = model.Key.number z
key_ref_of (borrowed.Keyword s) = model.Key.keyword s.now

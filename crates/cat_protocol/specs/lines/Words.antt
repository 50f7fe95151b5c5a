-- The words of a line.
use Rattle.std.specs.Prelude.{◌≡◌, ◌≢◌, ℕ, ◌<◌, Option, IfSome, [], ◌∷◌, length, slice_index, IsTrue}
use Rattle.std.specs.Fmt.{decimal}
use Rattle.cat_model.specs.Text.{Text}
use Rattle.cat_model.specs.Item.{has_name_form}
use Rattle.cat_model.specs.Page.{Sort}
use Rattle.cat_model.specs.Lines.{IsNumber, IsSort, sort_text, mark_text, spaced}

-- no space stands in the text
abbrev pub HasNoSpace : Text → Type 0
HasNoSpace text = (i : ℕ) → i < length text → slice_index text i ≢ 32

-- the text spells the arguments of a FIND
pub record SpellsFind (text : Text) (token count : ℕ) (sort : Sort) (mark : Option ℕ) (query : Text) : Type 0 where
  pub token_is_number : IsNumber token
  pub count_is_number : IsNumber count
  pub sort_has_form : IsSort sort
  pub mark_has_form : IfSome mark IsNumber
  pub spelled : text ≡ spaced (decimal token ∷ decimal count ∷ sort_text sort ∷ mark_text mark ∷ query ∷ [])

-- the text spells the arguments of a FACETS
pub record SpellsFacets (text : Text) (token : ℕ) (dim : Text) (count : ℕ) (query : Text) : Type 0 where
  pub token_is_number : IsNumber token
  pub dim_has_form : IsTrue (has_name_form dim)
  pub count_is_number : IsNumber count
  pub spelled : text ≡ spaced (decimal token ∷ dim ∷ decimal count ∷ query ∷ [])

-- One step of a walk over the members of an object.
use Rattle.std.proofs.Common.{◌≡◌, ℕ, List, [], ◌∷◌, ◌++◌, Option, Some, None, option_map, refl, sym, ap, ◌∙◌, append_assoc}
use Rattle.std.specs.Prelude.{option_and_then, String, string_bytes}
use Rattle.std.specs.declared.alloc.Global.{Global}
use Rattle.serde_json.specs.View.{view, members_view}
use Rattle.serde_json.specs.declared.value.Value.{Value}
use Rattle.serde_json.specs.Data.{Data, Members, member}
use Rattle.cat_model.specs.Item.{Field}
use Rattle.cat_items.specs.Reading.{field_of, fields_of}

moved : (old : List Field) (f : Field) (o : Option (List Field)) → option_map (λ fs. (old ++ f ∷ []) ++ fs) o ≡ option_map (λ fs. old ++ fs) (option_map (λ fs. f ∷ fs) o)
moved old f None = refl
moved old f (Some fs) = ap Some (append_assoc old (f ∷ []) fs)

-- one more field
fields_step : (old : List Field) (f : Field) (name : List ℕ) (d : Data) (ms : Members) → field_of name d ≡ Some f
    → option_map (λ fs. (old ++ f ∷ []) ++ fs) (fields_of ms) ≡ option_map (λ fs. old ++ fs) (fields_of (member name d ms))
fields_step old f name d ms e =
    moved old f (fields_of ms) ∙ ap (λ o. option_map (λ fs. old ++ fs) (option_and_then (λ f. option_map (λ fs. f ∷ fs) (fields_of ms)) o)) (sym e)

-- the step of a loop over an object's entries: `new` are the fields with one more, and `left` the entries after `es`' first
pub fields_more : (old new : List Field) (f : Field) (key : String Global) (v : Value) (es left : List (String Global × Value)) (name : List ℕ)
    → new ≡ old ++ f ∷ [] → es ≡ (key, v) ∷ left → name ≡ string_bytes key → field_of name (view v) ≡ Some f
    → option_map (λ fs. new ++ fs) (fields_of (members_view left)) ≡ option_map (λ fs. old ++ fs) (fields_of (members_view es))
fields_more old new f key v es left name pushed next named is =
    ap (λ l. option_map (λ fs. l ++ fs) (fields_of (members_view left))) pushed
    ∙ fields_step old f (string_bytes key) (view v) (members_view left) (ap (λ n. field_of n (view v)) (sym named) ∙ is)
    ∙ ap (λ l. option_map (λ fs. old ++ fs) (fields_of (members_view l))) (sym next)

-- What a look-up in the map, a removal and an insertion say of the records, where each entry stands under the id of its item.
use Rattle.std.proofs.Common.{◌≡◌, ℕ, ◌-◌, Bool, true, false, cond, not, filter, List, [], ◌∷◌, ◌++◌, length, take, Option, Some, None, IsSome, find, inl, inr, refl, sym, ap, ◌∙◌, bytes_eq, string_bytes, String, is_some, arith}
use Rattle.std.specs.Option.{option_to_list}
use Rattle.std.proofs.lemmas.List.{length_push, map_push, take_at}
use Rattle.std.proofs.lemmas.Bool.{cases_Bool}
use Rattle.std.specs.Map.{lookup, remove_entry, values_of}
use Rattle.std.specs.String.{string_eq}
use Rattle.indexmap.specs.IndexMap.{insert_entry}
use Rattle.cat_model.specs.Text.{Text, same_text}
use Rattle.cat_model.specs.Item.{Record}
use Rattle.cat_model.specs.Table.{without}
use Rattle.cat_model.specs.Write.{Write}
use Rattle.cat_live_table.specs.buffer.Buffered.{AreKeyed, some_has_id}

module _ {K X : Type 0} (test : K → Bool) where
  -- no key passes
  others : (es : List (K × X)) → lookup test es ≡ None → filter (λ e. not (test e.0)) es ≡ es
  others [] none = refl
  others (e ∷ es) none = elim (cases_Bool (test e.0)) [
    | inl t ↦ let no : Some e.1 ≡ None = rw t at none in cc
    | inr f ↦ rw f (ap (λ l. e ∷ l) (others es (rw f at none)))
  ]

  -- where none passes any more, what is removed is all that did
  pub taken_out : (es : List (K × X)) → lookup test (remove_entry test es) ≡ None → remove_entry test es ≡ filter (λ e. not (test e.0)) es
  taken_out [] none = refl
  taken_out (e ∷ es) none = elim (cases_Bool (test e.0)) [
    | inl t ↦ rw t (sym (others es (rw t at none)))
    | inr f ↦ let rest : lookup test (remove_entry test es) ≡ None = rw f at (rw f at none) in rw f (ap (λ l. e ∷ l) (taken_out es rest))
  ]

-- what is inserted after a removal stands last
module _ {A X : Type 0} (k : String A) (x : X) where
  inserted_last : (es : List (String A × X)) → lookup (string_eq k) es ≡ None → insert_entry string_eq es k x ≡ es ++ (k, x) ∷ []
  inserted_last [] none = refl
  inserted_last (e ∷ es) none = elim (cases_Bool (string_eq k e.0)) [
    | inl t ↦ let no : Some e.1 ≡ None = rw t at none in cc
    | inr f ↦ rw f (ap (λ l. e ∷ l) (inserted_last es (rw f at none)))
  ]

  pub last_put : (more less roomy before : List (String A × X))
      → more ≡ insert_entry string_eq less k x → lookup (string_eq k) less ≡ None → less ≡ remove_entry (string_eq k) roomy → roomy ≡ before
      → more ≡ filter (λ e. not (string_eq k e.0)) before ++ (k, x) ∷ []
  last_put more less roomy before inserted none removed room =
      inserted ∙ inserted_last less none
      ∙ ap (λ l. l ++ (k, x) ∷ []) (removed ∙ taken_out (string_eq k) roomy (rw removed at none) ∙ ap (λ es. filter (λ e. not (string_eq k e.0)) es) room)

module _ {A : Type 0} (id : Text) where
  -- the key is the id
  abbrev pub is_key : String A → Bool
  is_key k = bytes_eq id (string_bytes k)

  -- the value under the id is the record of the id
  pub found : (es : List (String A × Record)) → AreKeyed es → lookup is_key es ≡ find (λ r. same_text id r.item.id) (values_of es)
  found [] keyed = refl
  found (e ∷ es) keyed = let rest = found es keyed.1 in rw keyed.0 (ap (cond (bytes_eq id e.1.item.id) (Some e.1)) rest)

  -- some value is under the id exactly where some record has it
  pub is_there : (es : List (String A × Record)) → AreKeyed es → is_some (lookup is_key es) ≡ some_has_id id (values_of es)
  is_there [] keyed = refl
  is_there (e ∷ es) keyed =
      let rest = is_there es keyed.1 in
      let here : is_key e.0 ≡ same_text id e.1.item.id = ap (bytes_eq id) keyed.0 in
      elim (cases_Bool (same_text id e.1.item.id)) [
        | inl t ↦ rw (here, t) refl
        | inr f ↦ rw (here, f) rest
      ]

  -- the entries of other keys are the records of other ids
  pub values_without : (es : List (String A × Record)) → AreKeyed es → values_of (filter (λ e. not (is_key e.0)) es) ≡ without (values_of es) (Write.delete id)
  values_without [] keyed = refl
  values_without (e ∷ es) keyed =
      let rest = values_without es keyed.1 in
      let here : is_key e.0 ≡ same_text id e.1.item.id = ap (bytes_eq id) keyed.0 in
      elim (cases_Bool (is_key e.0)) [
        | inl t ↦ rw (t, sym here ∙ t) rest
        | inr f ↦ rw (f, sym here ∙ f) (ap (λ l. e.1 ∷ l) rest)
      ]

-- the entries whose records pass hold the records that pass
pub values-filter : {K : Type 0} (p : Record → Bool) (es : List (K × Record)) → values_of (filter (λ e. p e.1) es) ≡ filter p (values_of es)
values-filter p [] = refl
values-filter p (e ∷ es) = elim (cases_Bool (p e.1)) [
  | inl t ↦ rw t (ap (λ l. e.1 ∷ l) (values-filter p es))
  | inr f ↦ rw f (values-filter p es)
]

-- where the last entry is taken out, the records before the last are left
pub values_popped : {K : Type 0} (es left : List (K × Record)) (last : Option (K × Record)) → es ≡ left ++ option_to_list last → IsSome last
    → values_of left ≡ take (length (values_of es) - 1) (values_of es)
values_popped es left None e some = let no : false ≡ true = some in cc
values_popped es left (Some last) e some =
    let pushed : values_of es ≡ values_of left ++ last.1 ∷ [] = ap values_of e ∙ map_push (λ x. x.1) left last in
    let n : ℕ = length (values_of left ++ last.1 ∷ []) - 1 in
    let long : length (values_of left) ≡ length (values_of left ++ last.1 ∷ []) - 1 = omega (arith, length_push (values_of left) last.1) in
    sym (ap (λ rs. take (length rs - 1) rs) pushed ∙ take_at (values_of left) (last.1 ∷ []) n long)

-- the entries stay under the ids
pub keyed-front : {A : Type 0} (es fs : List (String A × Record)) → AreKeyed (es ++ fs) → AreKeyed es
keyed-front [] fs keyed = tt
keyed-front (e ∷ es) fs keyed = (keyed.0, keyed-front es fs keyed.1)

pub keyed-filter : {A : Type 0} (p : String A × Record → Bool) (es : List (String A × Record)) → AreKeyed es → AreKeyed (filter p es)
keyed-filter p [] keyed = tt
keyed-filter p (e ∷ es) keyed = elim (cases_Bool (p e)) [
  | inl t ↦ rw t (keyed.0, keyed-filter p es keyed.1)
  | inr f ↦ rw f (keyed-filter p es keyed.1)
]

pub keyed-push : {A : Type 0} (es : List (String A × Record)) (e : String A × Record) → AreKeyed es → string_bytes e.0 ≡ e.1.item.id → AreKeyed (es ++ e ∷ [])
keyed-push [] e keyed here = (here, tt)
keyed-push (x ∷ es) e keyed here = (keyed.0, keyed-push es e keyed.1 here)

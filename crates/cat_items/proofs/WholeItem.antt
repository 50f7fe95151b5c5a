-- An item that passed each check, and that an item which is read did.
use Rattle.std.proofs.Common.{◌≡◌, ℕ, ◌≤◌, length, map, Bool, true, false, cond, Option, Some, None, Result, Ok, Err, refl, ap, ◌∙◌, subst, arith, rules, ltb}
use Rattle.std.specs.Prelude.{codes, option_and_then}
use Rattle.std.specs.Option.{option_map_or}
use Rattle.serde_json.specs.Data.{Data, null, boolean, number, string, array, object, Members}
use Rattle.serde_json.specs.Find.{get, get_member, as_object, as_str}
use Rattle.cat_base.specs.declared.refusal.Refusal.{Refusal}
use Rattle.cat_base.specs.declared.refusal.Refusal.TheVariants.{Id, Json as NoJson, Kind as WrongKind, Large}
use Rattle.cat_model.specs.Text.{Text}
use Rattle.cat_model.specs.Item.{Schema, Item, is_id}
use Rattle.cat_items.specs.Reading.{json_of, first_fault, contents_in, value_of, with_id, of_members, of_value, item_of}

pick_then : {X : Type 0} (b : Bool) (x y : X) → b ≡ true → cond b x y ≡ x
pick_then true x y e = refl
pick_then false x y e = (cc)

pick_else : {X : Type 0} (b : Bool) (x y : X) → b ≡ false → cond b x y ≡ y
pick_else true x y e = (cc)
pick_else false x y e = refl

within : (n : ℕ) → n ≤ 8192 → ltb 8192 n ≡ false
within n h = grind (arith, rules)

abbrev pub made : Schema → Text → Members → Text → Item
made fs bytes ms id = record { id = id; fields = contents_in fs ms; source = bytes }

item_of_members : (fs : Schema) (bytes : Text) (ms : Members) (id : Text) → length bytes ≤ 8192 → json_of bytes ≡ Some (object ms) → option_and_then as_str (get (codes "id") (object ms)) ≡ Some id → is_id id ≡ true → first_fault fs ms ≡ None
    → item_of fs bytes ≡ Ok (made fs bytes ms id)
item_of_members fs bytes ms id small json has_id form right =
    pick_else (ltb 8192 (length bytes)) (Err Large) (option_map_or (of_value fs bytes) (json_of bytes) (Err NoJson)) (within (length bytes) small)
    ∙ ap (λ o. option_map_or (of_value fs bytes) o (Err NoJson)) json
    ∙ ap (λ o. option_map_or (with_id fs bytes ms) o (Err Id)) has_id
    ∙ pick_then (is_id id) (option_map_or Err (first_fault fs ms) (Ok (made fs bytes ms id))) (Err Id) form
    ∙ ap (λ o. option_map_or Err o (Ok (made fs bytes ms id))) right

-- the clauses of the calls that make an item
pub item_is : (fs : Schema) (bytes : Text) (d : Data) (ms : Members) (id : Text) → length bytes ≤ 8192 → json_of bytes ≡ Some d → Some ms ≡ as_object d → option_and_then as_str (get (codes "id") d) ≡ Some id → is_id id ≡ true → first_fault fs ms ≡ None
    → item_of fs bytes ≡ Ok (record { id = id; fields = map (λ f. record { name = f.name; content = value_of f.kind (get f.name d) }) fs; source = bytes })
item_is fs bytes null ms id small json obj has_id form right = (cc)
item_is fs bytes (boolean b) ms id small json obj has_id form right = (cc)
item_is fs bytes (number n) ms id small json obj has_id form right = (cc)
item_is fs bytes (string s) ms id small json obj has_id form right = (cc)
item_is fs bytes (array ds) ms id small json obj has_id form right = (cc)
item_is fs bytes (object ns) ms id small json obj has_id form right =
    let same : ms ≡ ns = (cc) in
    item_of_members fs bytes ns id small json has_id form (subst (λ m. first_fault fs m ≡ None) same right)

-- ---- what an item that is read passed

-- the members and the id that it was read from, and each check of them
pub record Whole (fs : Schema) (bytes : Text) (i : Item) : Type 0 where
  pub members : Members
  pub id : Text
  pub form : is_id id ≡ true
  pub right : first_fault fs members ≡ None
  pub is : made fs bytes members id ≡ i

from_some : {A : Type 0} (f : A → Result Item Refusal) (o : Option A) (e : Refusal) (i : Item) → option_map_or f o (Err e) ≡ Ok i → (x : A) × (f x ≡ Ok i)
from_some f None e i is = absurd (cc)
from_some f (Some x) e i is = (x, is)

module _ (fs : Schema) (bytes : Text) (i : Item) where
  from_right : (ms : Members) (id : Text) (o : Option Refusal) → is_id id ≡ true → first_fault fs ms ≡ o → option_map_or Err o (Ok (made fs bytes ms id)) ≡ Ok i → Whole fs bytes i
  from_right ms id (Some e) form right is = absurd (cc)
  from_right ms id None form right is = record { members = ms; id = id; form = form; right = right; is = (cc) }

  from_form : (ms : Members) (id : Text) (b : Bool) → is_id id ≡ b → cond b (option_map_or Err (first_fault fs ms) (Ok (made fs bytes ms id))) (Err Id) ≡ Ok i → Whole fs bytes i
  from_form ms id true form is = from_right ms id (first_fault fs ms) form refl is
  from_form ms id false form is = absurd (cc)

  from_small : (b : Bool) → cond b (Err Large) (option_map_or (of_value fs bytes) (json_of bytes) (Err NoJson)) ≡ Ok i → Whole fs bytes i
  from_small true is = absurd (cc)
  from_small false is =
      let (d, value) = from_some (of_value fs bytes) (json_of bytes) NoJson i is in
      let (ms, whole) = from_some (of_members fs bytes) (as_object d) WrongKind i value in
      let (id, has) = from_some (with_id fs bytes ms) (option_and_then as_str (get_member (codes "id") ms)) Id i whole in
      from_form ms id (is_id id) refl has

pub item_whole : (fs : Schema) (bytes : Text) (i : Item) → item_of fs bytes ≡ Ok i → Whole fs bytes i
item_whole fs bytes i is = from_small fs bytes i (ltb 8192 (length bytes)) is

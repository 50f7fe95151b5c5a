-- What is known of bytes before they are read as JSON.
use Rattle.std.proofs.Common.{◌≡◌, ◌<◌, ◌≤◌, ℕ, length, Bool, true, false, cond, ltb, Option, Some, None, Result, Ok, Err, refl, sym, ap, ◌∙◌, subst, arith}
use Rattle.std.specs.Prelude.{IfSome, IsUtf8}
use Rattle.std.specs.Str.{is_utf8}
use Rattle.std.proofs.lemmas.Bool.{lt-ltb}
use Rattle.std.proofs.lemmas.Bool.Decides.{nat_tests}
use Rattle.std.proofs.lemmas.Str.{is_utf8-from_IsUtf8, IsUtf8-from_is_utf8}
use Rattle.serde_json.specs.Data.{Data}
use Rattle.serde_json.specs.Read.{read}
use Rattle.cat_base.specs.declared.refusal.Refusal.{Refusal}
use Rattle.cat_base.specs.declared.refusal.Refusal.TheVariants.{Large}
use Rattle.cat_model.specs.Text.{Text}
use Rattle.cat_items.specs.Reading.{json_of, source_fault, text_fault}

-- what is read of a text
pub json_of-text : (bytes : Text) (o : Option Data) → IsUtf8 bytes → read bytes ≡ o → json_of bytes ≡ o
json_of-text bytes o utf8 is = ap (λ b. cond b (read bytes) None) (is_utf8-from_IsUtf8 bytes utf8) ∙ is

-- what is no text is no JSON
pub json_of-other : (bytes : Text) → ¬ (IsUtf8 bytes) → json_of bytes ≡ None
json_of-other bytes other = by (is_utf8 bytes) refl
  where
    by : (b : Bool) → is_utf8 bytes ≡ b → cond b (read bytes) None ≡ None
    by true is = absurd (other (IsUtf8-from_is_utf8 bytes is))
    by false is = refl

-- some bytes that are UTF-8 may be JSON
pub no_text_fault : (bytes : Text) (P : Refusal → Type 0) → IsUtf8 bytes → 0 < length bytes → IfSome (text_fault bytes) P
no_text_fault bytes P utf8 some =
    let none : text_fault bytes ≡ None = rw (is_utf8-from_IsUtf8 bytes utf8, lt-ltb 0 (length bytes) some) refl in
    subst (λ o. IfSome o P) (sym none) tt

few_enough : (n : ℕ) → n ≤ 8192 → ltb 8192 n ≡ false
few_enough n few = grind (arith, nat_tests)

-- bytes that are few enough and were read as JSON have no fault
pub no_source_fault : {V : Type 0} (root : V) (bytes : Text) (P : Refusal → Type 0) → length bytes ≤ 8192 → IfSome (text_fault bytes) (λ e. ◌≡◌ {A = Result V Refusal} (Ok root) (Err e)) → IfSome (source_fault bytes) P
no_source_fault {V} root bytes P few read =
    subst (λ o. IfSome o P) (sym (ap (λ b. cond b (Some Large) (text_fault bytes)) (few_enough (length bytes) few))) (by (text_fault bytes) read)
  where
    by : (fault : Option Refusal) → IfSome fault (λ e. ◌≡◌ {A = Result V Refusal} (Ok root) (Err e)) → IfSome fault P
    by None none = tt
    by (Some e) other = absurd cc

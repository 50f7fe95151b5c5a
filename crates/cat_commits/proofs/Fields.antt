-- What reading the fields says of the bytes.
use Rattle.std.proofs.Common.{◌≡◌, ◌≢◌, ℕ, List, ◌++◌, Option, Some, None, refl, sym, ap, ◌∙◌}
use Rattle.std.specs.Prelude.{Result, Ok, Err, IfOk, IfErr, OnOk}
use Rattle.std.specs.Result.{result_ok}
use Rattle.std.proofs.lemmas.Result.{IfOk-weaker}
use Rattle.cat_items.proofs.file_parts.Numbers.{some_is}
use Rattle.cat_model.specs.Item.{Schema, IsSchema}
use Rattle.cat_model.specs.Layout.{spelled_fields}
use Rattle.cat_items.specs.file_parts.Layouts.{fields_at}
use Rattle.cat_items.proofs.file_parts.Layouts.{reads_fields}

pub fields_told : (old new : List ℕ) (s : Schema) → IsSchema s × (old ≡ spelled_fields s ++ new) → fields_at old ≡ Some (s, new)
fields_told old new s h = ap fields_at h.1 ∙ reads_fields.complete s new h.0

pub no_fields : (old : List ℕ) → ((s : Schema) (rest : List ℕ) → IsSchema s → old ≢ spelled_fields s ++ rest) → fields_at old ≡ None
no_fields old none = by (fields_at old) refl
  where
    by : (r : Option (Schema × List ℕ)) → fields_at old ≡ r → fields_at old ≡ None
    by (Some x) e = let s = reads_fields.sound old x e in absurd (none x.0 x.1 s.1 s.0)
    by None e = e

-- a schema that was read is the one that stands there
pub same_fields : {E : Type 0} (m1 m2 : List ℕ) (f : Schema) (r : Result Schema E) → fields_at m1 ≡ Some (f, m2) → IfOk r (λ s. fields_at m1 ≡ Some (s, m2)) → IfOk r (λ s. s ≡ f)
same_fields m1 m2 f r e = IfOk-weaker r (λ s. fields_at m1 ≡ Some (s, m2)) (λ s. s ≡ f) (λ s h. let one : Some (s, m2) ≡ Some (f, m2) = sym h ∙ e in ap (λ (x : Schema × List ℕ). x.0) (some_is (s, m2) (f, m2) one))

-- bytes are left, or none
pub no_end : {E Q : Type 0} (P : E → Type 0) (r : Result (Unit {0}) E) → None ≡ result_ok r → IfErr r (λ e. P e × Q) → Q
no_end P (Ok x) e h = absurd (cc)
no_end P (Err d) e h = h.1

pub an_end : {E Q : Type 0} (r : Result (Unit {0}) E) (x : Unit {0}) → Some x ≡ result_ok r → OnOk r Q → Q
an_end (Ok y) x e h = h
an_end (Err d) x e h = absurd (cc)

-- What a schema line opens.
use Rattle.std.proofs.Common.{ap, ◌≡◌, ◌≢◌, ℕ, refl, sym, subst, inl, inr}
use Rattle.std.specs.Prelude.{◌⊎◌, None, Result, Ok, Err, IsErr, IsErrAnd, []}
use Rattle.cat_base.specs.declared.refusal.Refusal.{Refusal}
use Rattle.cat_base.specs.declared.refusal.Refusal.TheVariants.{Line, Json, Member, Kind, Id, Large, Spent, NotHeld, Gone, Full, Mark, Query, Count, NoCommit, NoSnapshot, SortField, NotFacet, Device, Damaged, Memory}
use Rattle.cat_model.specs.Text.{Text}
use Rattle.cat_model.specs.Item.{Schema}
use Rattle.cat_model.specs.State.{IsFresh, newest_told}
use Rattle.cat_model.specs.Lines.{IsReadable}
use Rattle.cat_model.specs.Served.{SpellsSchema, Begins}
use Rattle.cat_search.specs.cat_items.Reading.{schema_of}
use Rattle.cat_service_tests.specs.plain.Plain.{PlainService, beginning_of, OpensPlain}

-- a refusal is want of memory or another
pub is_memory : (e : Refusal) → (e ≡ Memory) ⊎ (e ≢ Memory)
is_memory Line = inr (λ h. cc h)
is_memory Json = inr (λ h. cc h)
is_memory Member = inr (λ h. cc h)
is_memory Kind = inr (λ h. cc h)
is_memory Id = inr (λ h. cc h)
is_memory Large = inr (λ h. cc h)
is_memory Spent = inr (λ h. cc h)
is_memory NotHeld = inr (λ h. cc h)
is_memory Gone = inr (λ h. cc h)
is_memory Full = inr (λ h. cc h)
is_memory Mark = inr (λ h. cc h)
is_memory (Query place) = inr (λ h. cc h)
is_memory Count = inr (λ h. cc h)
is_memory NoCommit = inr (λ h. cc h)
is_memory NoSnapshot = inr (λ h. cc h)
is_memory SortField = inr (λ h. cc h)
is_memory NotFacet = inr (λ h. cc h)
is_memory Device = inr (λ h. cc h)
is_memory Damaged = inr (λ h. cc h)
is_memory Memory = inl refl

-- the fault that a `?` passes on
pub fault_is : {T E : Type 0} (r : Result T E) (e : E) → IsErr r × IsErrAnd r (λ x. x ≡ e) → r ≡ Err e
fault_is (Ok v) e so = absurd so.1
fault_is (Err x) e so = ap Err so.1

refused_by : (line : Text) (factor least : ℕ) (text : Text) (e : Refusal) → SpellsSchema line factor least text → (e ≢ Memory → schema_of text ≡ Err e) → IsReadable line → OpensPlain line (Err e)
refused_by line factor least text e spelled refused readable =
    elim (is_memory e) [ inl memory ↦ inl (memory, (readable, factor, least, text, spelled)) | inr other ↦ inr (Begins.no_schema factor least text e readable spelled (refused other)) ]

-- the schema is refused, and its refusal is handed on
pub refused_schema : (line : Text) (factor least : ℕ) (text : Text) (e : Refusal) (r : Result PlainService Refusal) → IsErrAnd r (λ x. x ≡ e) → SpellsSchema line factor least text
    → (e ≢ Memory → schema_of text ≡ Err e) → IsReadable line → OpensPlain line r
refused_schema line factor least text e (Ok w) same spelled refused readable = absurd same
refused_schema line factor least text e (Err x) same spelled refused readable = subst (λ y. OpensPlain line (Err y)) (sym same) (refused_by line factor least text e spelled refused readable)

-- memory is wanting for a service under the schema
pub unopened_plain : (line : Text) (factor least : ℕ) (text : Text) (schema : Schema) (r : Result PlainService Refusal) → IsErrAnd r (λ x. x ≡ Memory) → SpellsSchema line factor least text
    → schema_of text ≡ Ok schema → IsReadable line → OpensPlain line r
unopened_plain line factor least text schema (Ok w) same spelled read readable = absurd same
unopened_plain line factor least text schema (Err x) same spelled read readable =
    subst (λ y. OpensPlain line (Err y)) (sym same) (inr (Begins.opened factor least text schema (Err Memory) readable spelled read refl))

-- a service that is opened under the schema
pub opened_plain : (line : Text) (factor least : ℕ) (text : Text) (schema : Schema) (w : PlainService) → SpellsSchema line factor least text → schema_of text ≡ Ok schema
    → IsFresh w.state → (w.schema ≡ schema) × (w.state.table ≡ []) × (w.state.count ≡ 0) × (w.state.commits ≡ []) → IsReadable line → OpensPlain line (Ok w)
opened_plain line factor least text schema w spelled read fresh empty readable =
    let from : beginning_of w ≡ record { start = record { schema = schema; records = []; token = 0 }; commit = None } =
    λ i. record { start = record { schema = empty.0 i; records = empty.1 i; token = empty.2 i }; commit = ap newest_told empty.3 i } in
    (Begins.opened factor least text schema (Ok (beginning_of w)) readable spelled read from, fresh)

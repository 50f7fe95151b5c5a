-- What the reader gives is what a text spells, and what it refuses is a fault.
use Rattle.std.proofs.Common.{◌≡◌, ℕ, ◌+◌, ◌-◌, length, refl, ap, sym, subst, inl, inr}
use Rattle.std.specs.Prelude.{◌⊎◌, Result, Ok, Err, IfOk, IfErr}
use Rattle.cat_base.specs.declared.refusal.Refusal.{Refusal}
use Rattle.cat_base.specs.declared.refusal.Refusal.TheVariants.{Memory, Query as Unreadable}
use Rattle.cat_model.specs.Text.{Text}
use Rattle.cat_model.specs.Item.{Schema, IsSchema}
use Rattle.cat_model.specs.Query as model
use Rattle.cat_model.specs.Grammar.{Spells}
use Rattle.cat_model.specs.Faults.{Fault}
use Rattle.cat_model.specs.Heard.{IsQueryOf}
use Rattle.cat_model.specs.Limits.{clause_limit, depth_limit}
use Rattle.cat_model.specs.Reader.{read_query, content_at}
use Rattle.cat_query.specs.View.{clauses_of, query_of}
use Rattle.cat_query.specs.Reading.{Built, ReadsAll, IsReadAs, all_of}
use Rattle.std.specs.Global.{Vec}
use Rattle.std.specs.declared.alloc.AllocError.{AllocError}
use Rattle.cat_query.specs.declared.query.Clause.{Clause}
use Rattle.cat_query.proofs.Groups.{read_ok, read_err}
use Rattle.cat_query.specs.declared.query.Query.{Query}
use Rattle.cat_model.proofs.QueryLaws.{read_spells, faults_are_found, texts_are_judged}

abbrev pub IsSpelled : Schema → Text → Result Query Refusal → Type 0
IsSpelled schema text r = IfOk r (λ q. Spells schema text (query_of q))

abbrev pub IsFaulty : Schema → Text → Result Query Refusal → Type 0
IsFaulty schema text r = IfErr r (λ e. (e ≡ Memory) ⊎ ((place : ℕ) × (e ≡ Unreadable place) × Fault schema text place))

pub spelled_if_read : (schema : Schema) (text : Text) (r : Result Query Refusal) (read : Result model.Query ℕ) → read_query schema text ≡ read → IsReadAs r read → IsSpelled schema text r
spelled_if_read schema text (Ok x) (Ok q) e h = subst (Spells schema text) (sym h.0) (read_spells schema text q e)
spelled_if_read schema text (Err x) (Ok q) e h = tt
spelled_if_read schema text (Ok x) (Err place) e h = absurd (cc)
spelled_if_read schema text (Err x) (Err place) e h = tt

pub faulty_if_refused : (schema : Schema) (text : Text) (r : Result Query Refusal) (read : Result model.Query ℕ) → IsSchema schema → read_query schema text ≡ read → IsReadAs r read → IsFaulty schema text r
faulty_if_refused schema text (Ok x) read under e h = tt
faulty_if_refused schema text (Err x) (Ok q) under e h = inl h.1
faulty_if_refused schema text (Err x) (Err place) under e h =
    let same : x ≡ Unreadable place = cc in
    inr (place, same, (faults_are_found schema text place under).0 e)

pub fault_is_told : (schema : Schema) (text : Text) (r : Result Query Refusal) → IsSchema schema → IsReadAs r (read_query schema text) → (place : ℕ) → Fault schema text place → r ≡ Err (Unreadable place)
fault_is_told schema text r under h place fault = subst (IsReadAs r) ((faults_are_found schema text place under).1 fault) h

judged_in : (schema : Schema) (text : Text) → ((q : model.Query) × Spells schema text q) ⊎ ((place : ℕ) × Fault schema text place) → (q : Result model.Query Refusal) × IsQueryOf schema text q
judged_in schema text (inl (q, spells)) = (Ok q, IsQueryOf.spelled q spells)
judged_in schema text (inr (place, fault)) = (Err (Unreadable place), IsQueryOf.faulty place fault)

-- each text is judged under a schema
pub query_judged : (schema : Schema) (text : Text) → IsSchema schema → (q : Result model.Query Refusal) × IsQueryOf schema text q
query_judged schema text under = judged_in schema text (texts_are_judged schema text under)

-- ---- what the reader gives of the whole text

pub read_refused : (schema : Schema) (text : Text) (r : Result Query Refusal) (built : Built (Vec Clause)) (e : AllocError) → r ≡ Err Memory → built ≡ Err e
    → ReadsAll (Ok built) (all_of (content_at schema (depth_limit + 1) clause_limit text)) → IsReadAs r (read_query schema text)
read_refused schema text r built e is failed h = subst (IsReadAs r) (sym (read_ok schema text h.0 h.1)) (rw is (tt, refl))

pub read_built : (schema : Schema) (text : Text) (r : Result Query Refusal) (built : Built (Vec Clause)) (v : Vec Clause) → r ≡ Ok (record { clauses = v }) → built ≡ Ok v
    → ReadsAll (Ok built) (all_of (content_at schema (depth_limit + 1) clause_limit text)) → IsReadAs r (read_query schema text)
read_built schema text r built v is done h =
    let same : clauses_of v.items ≡ h.0 = rw done at h.2 in
    subst (IsReadAs r) (sym (read_ok schema text h.0 h.1)) (rw is (same, tt))

pub read_faulty : (schema : Schema) (text : Text) (place left : ℕ) → place ≡ length text - left → all_of (content_at schema (depth_limit + 1) clause_limit text) ≡ Err left
    → IsReadAs (Err (Unreadable place)) (read_query schema text)
read_faulty schema text place left is h = subst (IsReadAs (Err (Unreadable place))) (sym (read_err schema text left h)) (ap (λ (n : ℕ). Err (Unreadable n)) is)

-- What an opened world begins with.
use Rattle.std.proofs.Common.{◌≡◌, ℕ, List, [], ◌∷◌, ap, ap₂, append-nil, map, refl, sym, ◌∙◌, subst, inl, inr}
use Rattle.std.specs.List.{AllByRecursion}
use Rattle.std.specs.Prelude.{◌≢◌, ◌⊎◌, Option, Some, None, Result, Ok, Err, IfErr, IfOk, IfSome, ok_or, ◌++◌}
use Rattle.std.specs.Option.{option_map_or}
use Rattle.cat_base.specs.declared.refusal.Refusal.{Refusal}
use Rattle.cat_base.specs.declared.refusal.Refusal.TheVariants.{Damaged, Device, Json as NoJson, Kind, Line as NoForm, Memory}
use Rattle.cat_model.specs.CommitFile.{CommitFile}
use Rattle.cat_model.specs.Item.{Record, Schema}
use Rattle.cat_model.specs.Lines.{IsReadable}
use Rattle.cat_model.specs.Served.{Begins, HasSchemaText, SpellsSchema}
use Rattle.cat_model.specs.State.{IsFresh, StandsFor, newest_told, opened_as}
use Rattle.cat_model.specs.Table.{Opened}
use Rattle.cat_model.specs.Text.{Text}
use Rattle.cat_model.proofs.Opening.{fresh_begins}
use Rattle.cat_items.specs.Reading.{json_of, schema_of}
use Rattle.cat_directory.specs.Devices.{FileContent}
use Rattle.cat_directory.specs.declared.name.FileName.{FileName}
use Rattle.cat_ledger_laws.specs.model.Ledger.{Ledger, IsWholeCommit, commit_shown, portions_in, state_of, table_of}
use Rattle.cat_ledger_laws.specs.model.Portions.{Portion, leaf_of, records_of}
use Rattle.cat_ledger_laws.specs.model.Stored.{FileBytes, IsCommitStored}
use Rattle.cat_ledger_laws.specs.shape.Shapes.{Shape}
use Rattle.cat_ledger_laws.specs.shape.Steps.{Leaves}
use Rattle.cat_ledger_laws.specs.shape.Ties.{Carries, ToldFiles}
use Rattle.cat_ledger_laws.proofs.shape.Writes.{sweeps_make}
use Rattle.cat_ledger_laws.specs.lines.RunLaws.{Stands}
use Rattle.cat_commands.specs.cat_ledger_state.cat_commits.reading.Refused.{OpeningCount}
use Rattle.cat_commands.specs.cat_ledger_state.startup.Opened.{IsOpenedAtCommit, IsOpenedEmpty}
use Rattle.cat_commands.specs.cat_ledger_state.startup.Refused.{IsNewestDamaged, IsNewestForeign}
use Rattle.cat_commands.specs.cat_ledger.Openings.{IsOpenedLedger}
use Rattle.cat_commands.proofs.ledger_laws.Swept.{KeepsUsed}
use Rattle.cat_commands.specs.cat_ledger.Histories.{LeavesNoneAhead}
use Rattle.cat_commands.specs.cat_protocol.declared.serving.machine.Unopened.{Unopened}
use Rattle.cat_service.specs.Opening.{BeginsIn, HoldsTable, OpensIn, OpensWorld}
use Rattle.cat_service.specs.Reasons.{OpensCaused, OpensSo}
use Rattle.cat_service.specs.Worlds.{Service, device_of}
use Rattle.cat_model.specs.Reasons.{CountsRefusal}
use Rattle.cat_commands.specs.cat_ledger.Lasting.{AlwaysTells, IsCarried}

-- what is opened, and the run that begins there
abbrev Begun : ToldFiles → ToldFiles → Shape → Schema → Type 0
Begun told told' s schema = (from : Opened) × OpensIn told schema (Ok from) × (from.start.schema ≡ schema) × Stands told' s from []

-- a fresh ledger that is swept stands for the run that begins as it is
swept_stands : (told told' : ToldFiles) (schema : Schema) (mid s : Shape) (l : Ledger) (files : FileBytes) → Carries told mid l files
    → IsFresh (state_of l) → Leaves [] mid s → KeepsUsed mid told told' → Stands told' s (opened_as schema (state_of l)) []
swept_stands told told' schema mid s l files carries fresh swept kept =
    let k = sweeps_make mid s told told' swept kept l files carries in record {
      ledger = k.0;
      files = k.1;
      carries = k.3;
      stands =
          subst (λ x. StandsFor (opened_as schema (state_of l)) [] x) (sym (ap state_of k.2.rest)) (fresh_begins schema (state_of l) fresh);
    }

-- the commit's files hold the table that was opened
table_held : (told : ToldFiles) (schema : Schema) (mid : Shape) (o : IsOpenedAtCommit told schema told mid)
    → HoldsTable told schema o.restored (opened_as schema (state_of o.ledger)).start.records
table_held told schema mid o =
    let fields : o.ledger.schema ≡ schema = ap (λ (x : Shape). x.schema) o.carries.shape ∙ ap (λ (x : Shape). x.schema) o.memory in
    let one : AllByRecursion (IsCommitStored o.files o.ledger.schema) (o.commit ∷ []) =
    subst (λ cs. AllByRecursion (IsCommitStored o.files o.ledger.schema) cs) o.opened.commits o.carries.stored.commits in
    let whole : AllByRecursion (IsWholeCommit o.ledger.schema o.ledger.count) (o.commit ∷ []) =
    subst (λ cs. AllByRecursion (IsWholeCommit o.ledger.schema o.ledger.count) cs) o.opened.commits o.carries.sound.commits in record {
      files = o.files;
      agrees = o.carries.agrees;
      commit = o.commit;
      same = o.same;
      stored = subst (λ schema. IsCommitStored o.files schema o.commit) fields one.0;
      formed = whole.0.1.portions;
      leaves =
          ap₂ (λ (schema : Schema) (ps : List Portion). map (leaf_of schema) ps) (sym fields) (sym o.opened.portions)
          ∙ ap (λ (x : Shape). x.leaves) o.carries.shape
          ∙ ap (λ (x : Shape). x.leaves) o.memory;
      table = ap₂ (λ (ps : List Portion) (rs : List Record). records_of ps ++ rs) o.opened.portions o.opened.buffered ∙ append-nil (records_of (portions_in o.commit));
    }

at_commit : (told told' : ToldFiles) (schema : Schema) (mid s : Shape) → IsOpenedAtCommit told schema told mid → Leaves [] mid s
    → KeepsUsed mid told told' → Begun told told' s schema
at_commit told told' schema mid s o swept kept =
    let own : newest_told (state_of o.ledger).commits ≡ Some (record { generation = o.commit.generation; text = o.commit.text }) =
    ap (λ cs. newest_told (map commit_shown cs)) o.opened.commits in (
      opened_as schema (state_of o.ledger),
      inl (record {
        generation = o.generation;
        newest = o.newest;
        restored = o.restored;
        held = o.held;
        fields = refl;
        table = table_held told schema mid o;
        token = o.opened.count ∙ ap (λ (f : CommitFile). f.token) o.same;
        commit = own ∙ ap (λ (f : CommitFile). Some (record { generation = f.generation; text = f.text })) o.same;
      }),
      refl,
      swept_stands told told' schema mid s o.ledger o.files o.carries o.fresh swept kept,
    )

empty : (told told' : ToldFiles) (schema : Schema) (mid s : Shape) → IsOpenedEmpty told schema told mid → Leaves [] mid s
    → KeepsUsed mid told told' → Begun told told' s schema
empty told told' schema mid s o swept kept =
    let table : table_of o.ledger ≡ [] = ap₂ (λ (ps : List Portion) (rs : List Record). records_of ps ++ rs) o.opened.portions o.opened.buffered in
    let own : newest_told (state_of o.ledger).commits ≡ None = ap (λ cs. newest_told (map commit_shown cs)) o.opened.commits in
    let same : opened_as schema (state_of o.ledger) ≡ record { start = record { schema = schema; records = []; token = 0 }; commit = None } =
    λ i. record { start = record { schema = schema; records = table i; token = o.opened.count i }; commit = own i } in (
      opened_as schema (state_of o.ledger),
      inr (o.none, same),
      refl,
      swept_stands told told' schema mid s o.ledger o.files o.carries o.fresh swept kept,
    )

pub begun : (told told' : ToldFiles) (schema : Schema) (s : Shape) → IsOpenedLedger told schema told' s → Begun told told' s schema
begun told told' schema s o = elim o.opened [
  | inl c ↦ at_commit told told' schema o.state s c o.swept o.kept
  | inr c ↦ empty told told' schema o.state s c o.swept o.kept
]

-- a ledger is carried where one stands for a run
pub carried_there : (told : ToldFiles) (s : Shape) (from : Opened) → Stands told s from [] → IsCarried told s
carried_there told s from stands = (stands.ledger, stands.files, stands.carries)

-- why none was opened, by the ledger's own words
pub unopened : (told : ToldFiles) (schema : Schema) (e : Refusal) → (e ≡ Kind) ⊎ (e ≡ Damaged) ⊎ (e ≡ Device) ⊎ (e ≡ Memory) → (e ≡ Damaged → IsNewestDamaged told schema)
    → (e ≡ Kind → IsNewestForeign told schema) → OpensIn told schema (Err e)
unopened told schema e (inl kind) damaged foreign = inr (inr (inr (kind, foreign kind)))
unopened told schema e (inr (inl lost)) damaged foreign = inr (inr (inl (lost, damaged lost)))
unopened told schema e (inr (inr (inl device))) damaged foreign = inr (inl device)
unopened told schema e (inr (inr (inr memory))) damaged foreign = inl memory

is_memory : (e : Refusal) → (e ≡ Memory) ⊎ (e ≢ Memory)
is_memory Memory = inl refl
is_memory _ = inr (λ h. cc h)

-- the schema is refused, and its refusal is handed on
pub refused_schema : (told : ToldFiles) (line : Text) (factor least : ℕ) (text : Text) (e : Refusal) → SpellsSchema line factor least text
    → (e ≢ Memory → schema_of text ≡ Err e) → IsReadable line → ((e ≡ Memory) × HasSchemaText line) ⊎ BeginsIn told line (Err e)
refused_schema told line factor least text e spelled refused readable = elim (is_memory e) [
  | inl memory ↦ inl (memory, (readable, factor, least, text, spelled))
  | inr other ↦ inr (Begins.no_schema factor least text e readable spelled (refused other))
]

-- the line opens what its schema opens
pub begins_so : (told : ToldFiles) (line : Text) (factor least : ℕ) (text : Text) (schema : Schema) (r : Result Opened Refusal) → IsReadable line
    → SpellsSchema line factor least text → schema_of text ≡ Ok schema → OpensIn told schema r → BeginsIn told line r
begins_so told line factor least text schema r readable spelled read opens = Begins.opened factor least text schema r readable spelled read opens

-- ---- what a refused opening counts

-- a refusal that comes before the directory is asked counts nothing
pub unasked : (fails : Type 0) (n : ℕ) (e : Refusal) → e ≢ Device → CountsRefusal fails n n e
unasked fails n e differs = ((λ is. absurd (differs is)), λ other. refl)

pub formless_unasked : (fails : Type 0) (n : ℕ) → CountsRefusal fails n n NoForm
formless_unasked fails n = unasked fails n NoForm (λ h. cc h)

no_failed_schema : (o : Option Schema) → ◌≡◌ {A = Result Schema Refusal} (ok_or o Kind) (Err Device) → ⊥
no_failed_schema None is = absurd (let no : ◌≡◌ {A = Result Schema Refusal} (Err Kind) (Err Device) = is in cc)
no_failed_schema (Some s) is = absurd (let no : ◌≡◌ {A = Result Schema Refusal} (Ok s) (Err Device) = is in cc)

never_failed : {A : Type 0} (f : A → Option Schema) (o : Option A)
    → ◌≡◌ {A = Result Schema Refusal} (option_map_or (λ x. ok_or (f x) Kind) o (Err NoJson)) (Err Device) → ⊥
never_failed f None is = absurd (let no : ◌≡◌ {A = Result Schema Refusal} (Err NoJson) (Err Device) = is in cc)
never_failed f (Some x) is = no_failed_schema (f x) is

device_differs : Device ≢ Memory
device_differs = λ h. cc h

-- the text of a schema isn't refused so
pub schema_unasked : (text : Text) (e : Refusal) → (e ≢ Memory → schema_of text ≡ Err e) → e ≢ Device
schema_unasked text e refused = λ is.
    never_failed _ (json_of text) (subst (λ x. schema_of text ≡ Err x) is (refused (λ memory. device_differs (sym is ∙ memory))))

-- what the ledger's opening counts is counted so
pub opening_counts : (fails : Type 0) (old new : ℕ) (e : Refusal) → (e ≡ Device → fails) → OpeningCount old new e → CountsRefusal fails old new e
opening_counts fails old new Kind device counted = ((λ is. absurd (let no : Kind ≡ Device = is in cc)), λ other. counted)
opening_counts fails old new Damaged device counted = ((λ is. absurd (let no : Damaged ≡ Device = is in cc)), λ other. counted)
opening_counts fails old new Memory device counted = ((λ is. absurd (let no : Memory ≡ Device = is in cc)), λ other. counted)
opening_counts fails old new Device device counted = ((λ is. (device is, counted)), λ other. absurd (other refl))
opening_counts fails old new _ device counted = absurd counted

-- ---- a first line that is read

both_ok : {A E : Type 0} (P Q : A → Type 0) (r : Result A E) → IfOk r P → IfOk r Q → IfOk r (λ a. P a × Q a)
both_ok P Q (Ok a) p q = (p, q)
both_ok P Q (Err e) p q = tt

-- what opening a world by the text of a line says
pub opens_caused : {D : Type 0} (bytes : D → ToldFiles) (may_leave : D → FileName → FileContent → Type 0) (can_fail : D → Type 0) (faults : D → ℕ)
    (device : D) (text : Text) (r : Result (Service D) (Unopened D))
    → OpensWorld bytes may_leave device text r → IfOk r (λ w. AlwaysTells bytes → LeavesNoneAhead may_leave w.ledger)
    → IfOk r (λ w. can_fail (device_of w) → can_fail device) → IfOk r (λ w. OpensSo bytes can_fail faults device text w)
    → IfOk r (λ w. w.sets ≡ record { cached = []; noted = []; warming = None })
    → IfErr r (λ u. CountsRefusal (can_fail device) (faults device) (faults u.seed) u.refusal)
    → OpensCaused bytes may_leave can_fail faults device (Some text) r
opens_caused bytes may_leave can_fail faults device text r opens ahead can begins sets counted =
    ((opens, ahead, can), both_ok (λ w. OpensSo bytes can_fail faults device text w) (λ w. w.sets ≡ record { cached = []; noted = []; warming = None }) r begins sets, counted)

-- a first line that can't be read opens nothing
pub opens_unread : {D : Type 0} (bytes : D → ToldFiles) (may_leave : D → FileName → FileContent → Type 0) (can_fail : D → Type 0) (faults : D → ℕ)
    (device : D) (line : Option Text) → IfSome line (λ l. IsReadable l → ⊥)
    → OpensCaused bytes may_leave can_fail faults device line (Err (record { refusal = NoForm; seed = device }))
opens_unread bytes may_leave can_fail faults device None none = refl
opens_unread bytes may_leave can_fail faults device (Some line) none =
    (((inr (Begins.formless (λ readable factor least text spelled. absurd (none readable))), (λ q. refl), λ q e h. h), tt, tt), tt, formless_unasked (can_fail device) (faults device))

-- What a ledger carries that was opened, once it was swept.
use Rattle.std.proofs.Common.{inl, inr, ◌≡◌, ◌⊎◌, ℕ, ◌<◌, [], Result, Ok, Err, refl, sym, ◌∙◌, ap, subst}
use Rattle.std.specs.Prelude.{IfErr}
use Rattle.cat_base.specs.declared.refusal.Refusal.{Refusal}
use Rattle.cat_base.specs.declared.refusal.Refusal.TheVariants.{Damaged, Device, Kind, Memory}
use Rattle.cat_model.specs.Item.{Schema}
use Rattle.cat_model.specs.State.{IsFresh, StandsFor, opened_as}
use Rattle.cat_model.specs.Table.{Opened}
use Rattle.cat_model.proofs.Opening.{fresh_begins}
use Rattle.cat_directory.specs.Devices.{CountsOne, CountsWriting}
use Rattle.cat_directory.specs.declared.name.FileName.{FileName}
use Rattle.cat_directory.specs.Names.{name_of}
use Rattle.cat_ledger_laws.specs.model.Ledger.{Ledger, state_of}
use Rattle.cat_ledger_laws.specs.model.Stored.{FileBytes}
use Rattle.cat_ledger_laws.specs.model.Users.{users_of}
use Rattle.cat_ledger_laws.specs.shape.Shapes.{IsShape, Shape}
use Rattle.cat_ledger_laws.specs.shape.Steps.{Leaves}
use Rattle.cat_ledger_laws.specs.shape.Ties.{Carries, ToldFiles}
use Rattle.cat_ledger_laws.proofs.shape.Writes.{sweeps_make}
use Rattle.cat_ledger_laws.specs.lines.RunLaws.{Stands}
use Rattle.cat_ledger_state.specs.cat_commits.reading.Refused.{OpeningCount}
use Rattle.cat_ledger_state.specs.cat_lifetimes.refs.Counts.{IsPending}
use Rattle.cat_ledger_state.specs.startup.Opened.{HasOpened}
use Rattle.cat_ledger.specs.Openings.{CountsSwept}

-- the start of a run under the schema, for which memory stands
abbrev pub Begins : ToldFiles → Shape → Schema → Type 0
Begins told s schema = (from : Opened) × (from.start.schema ≡ schema) × Stands told s from []

-- the files of names that somebody uses are as they were
abbrev pub KeepsUsed : Shape → ToldFiles → ToldFiles → Type 0
KeepsUsed s told told' = (q : FileName) → 0 < users_of s.users (name_of q) → told' q ≡ told q

-- a fresh ledger that is swept begins a run
pub swept_begins : (told told' : ToldFiles) (schema : Schema) (mid s : Shape) (l : Ledger) (files : FileBytes) → Carries told mid l files
    → IsFresh (state_of l) → Leaves [] mid s → KeepsUsed mid told told' → Begins told' s schema
swept_begins told told' schema mid s l files carries fresh swept kept =
    let k = sweeps_make mid s told told' swept kept l files carries in
    let begins = fresh_begins schema (state_of l) fresh in (
      opened_as schema (state_of l),
      refl,
      record {
        ledger = k.0;
        files = k.1;
        carries = k.3;
        stands = subst (λ x. StandsFor (opened_as schema (state_of l)) [] x) (sym (ap state_of k.2.rest)) begins;
      },
    )

pub opened_begins : (told told' : ToldFiles) (schema : Schema) (mid s : Shape) → HasOpened told schema told mid → Leaves [] mid s
    → KeepsUsed mid told told' → Begins told' s schema
opened_begins told told' schema mid s (inl o) swept kept = swept_begins told told' schema mid s o.ledger o.files o.carries o.fresh swept kept
opened_begins told told' schema mid s (inr o) swept kept = swept_begins told told' schema mid s o.ledger o.files o.carries o.fresh swept kept

-- it has the schema
pub opened_schema : (told : ToldFiles) (schema : Schema) (mid s : Shape) → HasOpened told schema told mid → Leaves [] mid s → s.schema ≡ schema
opened_schema told schema mid s (inl o) swept = ap (λ x. x.schema) swept.rest ∙ ap (λ x. x.schema) o.memory
opened_schema told schema mid s (inr o) swept = ap (λ x. x.schema) swept.rest ∙ ap (λ x. x.schema) o.memory

-- memory has the shape of the ledger that was opened
pub opened_shape : (told : ToldFiles) (schema : Schema) (told' : ToldFiles) (s : Shape) → HasOpened told schema told' s → IsShape s
opened_shape told schema told' s (inl o) = (o.ledger, o.carries.shape, o.carries.sound)
opened_shape told schema told' s (inr o) = (o.ledger, o.carries.shape, o.carries.sound)

-- the files are told as before, so the same was opened
pub opened_alike : (told told' : ToldFiles) (schema : Schema) (mid : Shape) → ((q : FileName) → told' q ≡ told q) → HasOpened told schema told' mid
    → HasOpened told schema told mid
opened_alike told told' schema mid same opened = subst (λ (t : ToldFiles). HasOpened told schema t mid) (λ i q. same q i) opened

-- the names of users are those before the sweep
pub swept_users : (mid s : Shape) (q : FileName) → Leaves [] mid s → 0 < users_of s.users (name_of q) → 0 < users_of mid.users (name_of q)
swept_users mid s q swept some = subst (λ n. 0 < n) (swept.users (name_of q)) some

-- which refusals opening may count
pub opening_refusal : (old new : ℕ) (e : Refusal) → OpeningCount old new e → (e ≡ Kind) ⊎ (e ≡ Damaged) ⊎ (e ≡ Device) ⊎ (e ≡ Memory)
opening_refusal old new Kind h = inl refl
opening_refusal old new Damaged h = inr (inl refl)
opening_refusal old new Device h = inr (inr (inl refl))
opening_refusal old new Memory h = inr (inr (inr refl))
opening_refusal old new _ h = absurd h

-- what the sweep counts, whatever it answers, behind an opening that counted nothing
pub counts_swept : {X : Type 0} (fails could : Type 0) (old mid new : ℕ) (s : Shape) (r : Result X Refusal) → mid ≡ old → CountsWriting mid new r → (could → fails)
    → IfErr r (λ e. e ≡ Device → could) → IfErr r (λ e. e ≡ Device → (q : FileName) × IsPending s.users q) → CountsSwept fails old s new
counts_swept fails could old mid new s (Ok x) same counted back device stays = inl (counted ∙ same)
counts_swept fails could old mid new s (Err Memory) same counted back device stays = inl (counted ∙ same)
counts_swept fails could old mid new s (Err Device) same counted back device stays =
    inr (back (device refl), subst (λ n. CountsOne n new) same counted, stays refl)
counts_swept fails could old mid new s (Err _) same counted back device stays = absurd counted

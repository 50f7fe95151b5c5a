-- No call changes the fields.
use Rattle.std.proofs.Common.{◌≡◌, ℕ, Bool, true, false, cond, ◌∙◌, ap, inl, inr, length, ltb}
use Rattle.std.specs.Prelude.{◌==◌, Ok, Err}
use Rattle.cat_model.specs.Run.{Chore, News, Command, Answer, Reply}
use Rattle.cat_model.specs.Limits.{last_number, buffer_limit}
use Rattle.cat_model.specs.State.{refuses_refresh, has_hold, snapshots_in}
use Rattle.cat_ledger_laws.specs.model.Ledger.{Ledger, state_of}
use Rattle.cat_ledger_laws.specs.model.Calls.{has_recorded, Flushes, Flushed, RecordsNow}
use Rattle.cat_ledger_laws.specs.model.Plans.{MergePolicy}
use Rattle.cat_ledger_laws.specs.model.Replies.{Maintains, SnapsBy, CarriesOut, IsLeft, FindsNone}
use Rattle.cat_ledger_laws.specs.model.Laws.{SchemasStay}

same : (l new : Ledger) → new ≡ l → new.schema ≡ l.schema
same l new k = ap (λ (x : Ledger). x.schema) k

flush_same : (l mid : Ledger) → Flushes l mid → mid.schema ≡ l.schema
flush_same l mid (inl k) = same l mid k.1
flush_same l mid (inr k) = ap (λ (x : Ledger). x.schema) k.rest

records_same : (l new : Ledger) (b : Bool) → cond b (new ≡ l) (RecordsNow l new) → new.schema ≡ l.schema
records_same l new true k = same l new k
records_same l new false k = ap (λ (x : Ledger). x.schema) k.rest

module _ (l : Ledger) (s : ℕ) (r : Reply) (new : Ledger) where
  maintains_same : (policy : MergePolicy) (c : Chore) (n : News) → Maintains policy c n l new → new.schema ≡ l.schema
  maintains_same policy Chore.merge News.idle m = same l new m.2
  maintains_same policy Chore.merge (News.begun_merge k) m = ap (λ (x : Ledger). x.schema) m.3.rest
  maintains_same policy Chore.merge (News.copied n) m = ap (λ (x : Ledger). x.schema) m.1.rest
  maintains_same policy Chore.merge News.done m = ap (λ (x : Ledger). x.schema) m.1.rest
  maintains_same policy Chore.force News.idle m = same l new m.2
  maintains_same policy Chore.force News.busy m = same l new m.1
  maintains_same policy Chore.force (News.begun_merge k) m = ap (λ (x : Ledger). x.schema) m.2.rest
  maintains_same policy Chore.sweep (News.swept n) m = ap (λ (x : Ledger). x.schema) m.rest
  maintains_same policy c n m = same l new m.1

  snaps_same : (x : Reply) → SnapsBy l x new → new.schema ≡ l.schema
  snaps_same (Ok (Answer.number g)) m = ap (λ (x : Ledger). x.schema) m.rest
  snaps_same (Ok (Answer.found f)) m = same l new m
  snaps_same (Ok (Answer.names ns)) m = same l new m
  snaps_same (Ok (Answer.commit_text t)) m = same l new m
  snaps_same (Ok (Answer.news n)) m = same l new m
  snaps_same (Err e) m = same l new m

  by_bool : (b : Bool) (A B : Type 0) → (A → new.schema ≡ l.schema) → (B → new.schema ≡ l.schema) → cond b A B → new.schema ≡ l.schema
  by_bool true A B f g x = f x
  by_bool false A B f g x = g x

  room_same : (b : Bool) (mid : Ledger) → cond b (mid ≡ l) (Flushed l mid) → mid.schema ≡ l.schema
  room_same true mid k = same l mid k
  room_same false mid k = ap (λ (x : Ledger). x.schema) k.rest

  serves_same : (policy : MergePolicy) (c : Command) → CarriesOut policy l s c r new → new.schema ≡ l.schema
  serves_same policy Command.formless m = same l new m.1
  serves_same policy (Command.put (Ok i)) m = by_bool (ltb l.count last_number) _ _ (λ x. ap (λ (y : Ledger). y.schema) x.4 ∙ room_same (ltb (length l.buffered) buffer_limit) x.0 x.1) (λ x. same l new x.1) m
  serves_same policy (Command.put (Err e)) m = same l new m.1
  serves_same policy (Command.delete (Ok id)) m = by_bool (ltb l.count last_number) _ _ (λ x. ap (λ (y : Ledger). y.schema) x.1) (λ x. same l new x.1) m
  serves_same policy (Command.delete (Err e)) m = same l new m.1
  serves_same policy (Command.delete_where (Ok q)) m = by_bool (ltb l.count last_number) _ _ (λ x. ap (λ (y : Ledger). y.schema) x.1) (λ x. same l new x.1) m
  serves_same policy (Command.delete_where (Err e)) m = same l new m.1
  serves_same policy Command.refresh m = by_bool (refuses_refresh (state_of l)) _ _ (λ x. same l new x.1) (λ x. records_same x.0 new (has_recorded x.0.views x.0.count) x.2 ∙ flush_same l x.0 x.1) m
  serves_same policy Command.open_newest m = ap (λ (y : Ledger). y.schema) m.1
  serves_same policy (Command.open_at t) m = by_bool (has_recorded l.views t) _ _ (λ x. ap (λ (y : Ledger). y.schema) x.1) (λ x. same l new x.1) m
  serves_same policy (Command.close t) m = by_bool (has_hold l.holds s t) _ _ (λ x. ap (λ (y : Ledger). y.schema) x.1) (λ x. same l new x.1) m
  serves_same policy (Command.read t asked) m = same l new m.1
  serves_same policy (Command.files_of_token t) m = same l new m.1
  serves_same policy (Command.chore c) m = by_bool (s == 0) _ _ (λ x. maintains_same policy c x.0 x.2) (λ x. same l new x.1) m
  serves_same policy (Command.prune n) m = ap (λ (y : Ledger). y.schema) m.1.rest
  serves_same policy (Command.commit (Err e)) m = same l new m.1
  serves_same policy (Command.commit (Ok text)) m = ap (λ (y : Ledger). y.schema) m.2.rest ∙ flush_same l m.0 m.1
  serves_same policy Command.snapshot m = snaps_same r m.1
  serves_same policy (Command.release_snapshot g) m = by_bool (ltb 0 (snapshots_in l.taken g)) _ _ (λ x. ap (λ (y : Ledger). y.schema) x.1.rest) (λ x. same l new x.1) m
  serves_same policy (Command.files_of_commit g) m = same l new m.1
  serves_same policy (Command.text_of_commit g) m = same l new m.1

  left_same : IsLeft l new → new.schema ≡ l.schema
  left_same h =
      let f : h.flushed.schema ≡ l.schema = elim h.flush [ inl k ↦ same l h.flushed k | inr k ↦ ap (λ (x : Ledger). x.schema) k.rest ] in
      let e : h.ended.schema ≡ h.flushed.schema = elim h.merge [ inl k ↦ same h.flushed h.ended k | inr k ↦ ap (λ (x : Ledger). x.schema) k.1.rest ] in
      ap (λ (x : Ledger). x.schema) h.rest.rest ∙ e ∙ f

  none_same : (c : Command) → FindsNone l c r new → new.schema ≡ l.schema
  none_same (Command.commit (Ok text)) m = same l new m.2
  none_same _ m = absurd m

pub schemas_stay : SchemasStay
schemas_stay policy l new line r (inl m) = serves_same l line.session r new policy line.command m
schemas_stay policy l new line r (inr (inl m)) = left_same l line.session r new m.1
schemas_stay policy l new line r (inr (inr m)) = none_same l line.session r new line.command m

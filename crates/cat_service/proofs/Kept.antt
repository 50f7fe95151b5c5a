-- What is kept of a world by what it answers.
use Rattle.std.proofs.Common.{◌≡◌, ℕ, false, List}
use Rattle.std.specs.Prelude.{Some, Err}
use Rattle.cat_base.specs.declared.refusal.Refusal.TheVariants.{Memory}
use Rattle.cat_model.specs.Lines.{Said}
use Rattle.cat_model.specs.Run.{Reply}
use Rattle.cat_commands.specs.cat_protocol.cat_facets.States.{ReaderState}
use Rattle.cat_commands.specs.cat_cached_sets.filters.Filters.{Filters}
use Rattle.cat_ledger_laws.specs.shape.Ties.{ToldFiles}
use Rattle.cat_ledger_laws.specs.lines.LineLaws.{line_of}
use Rattle.cat_ledger_laws.proofs.lines.Numbered.{numbers_rise}
use Rattle.cat_ledger_laws.proofs.lines.KeptCalls.{schema_stays}
use Rattle.cat_commands.specs.cat_ledger.Answering.{AnswersSaid}
use Rattle.cat_commands.specs.cat_ledger.Ledgers.{device_in, policy_in, shape_in}
use Rattle.cat_commands.specs.cat_ledger.Ledgers.{LedgerOnDevice}
use Rattle.cat_commands.specs.sets.Kept.{HasKept}
use Rattle.cat_commands.specs.sets.Sets.{HasSets}
use Rattle.cat_commands.proofs.sets.Knowing.{kept_stay}
use Rattle.cat_commands.proofs.sets.Right.{sets_stay}
use Rattle.cat_service.specs.Cached.{MakesOfSets}
use Rattle.cat_service.specs.Causes.{HasCause, TakesNumbers}
use Rattle.cat_service.specs.Lines.{Does}
use Rattle.cat_service.specs.Named.{TellsNeeded}
use Rattle.cat_service.proofs.Wanted.{SaysMayWant}
use Rattle.cat_service.specs.Worlds.{IsWorld, segments_kept}
use Rattle.cat_commands.specs.cat_ledger.Lasting.{IsCarried}
use Rattle.cat_service.proofs.Names.{names_files, says_texts, told_none}

module _ {D : Type 0} {f : Filters} {ks : List ReaderState} (bytes : D → ToldFiles) (session : ℕ) (said : Said) (old : LedgerOnDevice D) (reply : Reply) (new : LedgerOnDevice D) where
  -- what is carried after a line
  pub carried_on : IsWorld bytes old f ks → AnswersSaid bytes session said old reply new → IsCarried (bytes (device_in new)) (shape_in new)
  carried_on w answered =
      let next = answered.2 w.carried.0 w.carried.1 w.carried.2 in (next.0, next.1, next.5)

  -- the fields stay
  pub same_fields : IsWorld bytes old f ks → AnswersSaid bytes session said old reply new → (shape_in new).schema ≡ (shape_in old).schema
  same_fields w answered =
      schema_stays (policy_in old) (bytes (device_in old)) (bytes (device_in new)) (shape_in old) (shape_in new) (line_of session answered.0) reply
      w.carried.0 w.carried.1 w.carried.2 answered.2

  -- one number of a segment is taken at most, and one generation
  pub taken_numbers : IsWorld bytes old f ks → AnswersSaid bytes session said old reply new → TakesNumbers (shape_in old) (shape_in new)
  taken_numbers w answered =
      let rise = numbers_rise (policy_in old) (bytes (device_in old)) (bytes (device_in new)) (shape_in old) (shape_in new) (line_of session answered.0) reply
      w.carried.0 w.carried.1 w.carried.2 answered.2 in
      record { segment = rise.0; generation = rise.1 }

  -- the sets stay right that are kept beside it
  pub sets_on : IsWorld bytes old f ks → AnswersSaid bytes session said old reply new → HasSets f (shape_in new)
  sets_on w answered =
      sets_stay (policy_in old) (bytes (device_in old)) (bytes (device_in new)) (shape_in old) (shape_in new) (line_of session answered.0) reply
      w.carried.0 w.carried.1 f w.carried.2 answered.2 w.sets

  -- and so do the states
  pub states_on : IsWorld bytes old f ks → AnswersSaid bytes session said old reply new → HasKept (segments_kept ks) (shape_in new)
  states_on w answered =
      kept_stay (policy_in old) (bytes (device_in old)) (bytes (device_in new)) (shape_in old) (shape_in new) (line_of session answered.0) reply
      w.carried.0 w.carried.1 (segments_kept ks) w.carried.2 answered.2 w.kept

  -- a world stays one
  pub world_stays : IsWorld bytes old f ks → AnswersSaid bytes session said old reply new → IsWorld bytes new f ks
  world_stays w answered = record {
    carried = carried_on w answered;
    sets = sets_on w answered;
    kept = states_on w answered;
  }

-- what an answer makes of a world that tells what is needed
pub does_telling : {D : Type 0} {f : Filters} {ks : List ReaderState} (bytes : D → ToldFiles) (can_fail : D → Type 0) (faults : D → ℕ) (session : ℕ) (said : Said) (old : LedgerOnDevice D) (reply : Reply) (new : LedgerOnDevice D) (left : Filters)
    → IsWorld bytes old f ks → HasCause bytes can_fail faults (record { ledger = old; sets = f }) (Some said) reply (record { ledger = new; sets = left })
    → MakesOfSets session (Some said) (record { ledger = old; sets = f }) reply (record { ledger = new; sets = left })
    → AnswersSaid bytes session said old reply new → (can_fail (device_in new) → can_fail (device_in old))
    → policy_in new ≡ policy_in old → TellsNeeded (shape_in old) (Some said) reply → (reply ≡ Err Memory → SaysMayWant (bytes (device_in old)) (shape_in old) session said)
    → Does bytes can_fail faults session (Some said) (record { ledger = old; sets = f }) reply (record { ledger = new; sets = left })
does_telling bytes can_fail faults session said old reply new left w cause sets answered can policy told wanting = record {
  answers = answered;
  told = told;
  names = names_files (bytes (device_in old)) (shape_in old) w.carried.0 w.carried.1 w.carried.2 (Some said) reply told;
  wanting = λ k. wanting k answered.0 answered.1;
  cause = cause;
  sets = sets;
  numbers = taken_numbers bytes session said old reply new w answered;
  can = can;
  schema = same_fields bytes session said old reply new w answered;
  policy = policy;
}

-- what one makes to a line that asks for no names and no source
pub does : {D : Type 0} {f : Filters} {ks : List ReaderState} (bytes : D → ToldFiles) (can_fail : D → Type 0) (faults : D → ℕ) (session : ℕ) (said : Said) (old : LedgerOnDevice D) (reply : Reply) (new : LedgerOnDevice D) (left : Filters)
    → IsWorld bytes old f ks → HasCause bytes can_fail faults (record { ledger = old; sets = f }) (Some said) reply (record { ledger = new; sets = left })
    → MakesOfSets session (Some said) (record { ledger = old; sets = f }) reply (record { ledger = new; sets = left })
    → AnswersSaid bytes session said old reply new → (can_fail (device_in new) → can_fail (device_in old))
    → policy_in new ≡ policy_in old → says_texts said ≡ false → (reply ≡ Err Memory → SaysMayWant (bytes (device_in old)) (shape_in old) session said)
    → Does bytes can_fail faults session (Some said) (record { ledger = old; sets = f }) reply (record { ledger = new; sets = left })
does bytes can_fail faults session said old reply new left w cause sets answered can policy none wanting =
    does_telling bytes can_fail faults session said old reply new left w cause sets answered can policy (
    told_none (policy_in old) (bytes (device_in old)) (bytes (device_in new)) (shape_in old) (shape_in new) session said answered.0 reply
    w.carried.0 w.carried.1 w.carried.2 answered.1 answered.2 none
    ) wanting

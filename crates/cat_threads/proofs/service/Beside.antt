-- The cached sets beside a ledger stay right by each of its calls.
use Rattle.std.proofs.Common.{◌≡◌, ℕ, sym, subst, inl, inr, true, Option}
use Rattle.std.specs.Prelude.{◌⊎◌, IfOk, OnOk, OnErr, Result, Ok, Err}
use Rattle.cat_base.specs.declared.refusal.Refusal.{Refusal}
use Rattle.cat_base.specs.declared.refusal.Refusal.TheVariants.{Memory}
use Rattle.cat_directory.specs.declared.name.FileName.{FileName}
use Rattle.cat_model.specs.Run.{Command, Reply}
use Rattle.cat_model.specs.State.{has_hold}
use Rattle.cat_model.specs.View.{segments_of}
use Rattle.cat_commands.specs.cat_cached_sets.filters.Filters.{Filters}
use Rattle.cat_commands.specs.cat_cached_sets.filters.Known.{Remembers, RemembersBelow, FiltersRemember, FiltersRememberBelow}
use Rattle.cat_commands.specs.cat_ledger.Answering.{AnswersCommand}
use Rattle.cat_commands.specs.cat_ledger.Grants.{IsAsked, token_granted}
use Rattle.cat_commands.specs.cat_ledger.Lasting.{IsCarried}
use Rattle.cat_commands.specs.cat_ledger.Ledgers.{DoesCall, LedgerOnDevice, device_in, policy_in, shape_in}
use Rattle.cat_commands.specs.cat_ledger.cat_ledger_state.cat_views.Holds.{HeldView}
use Rattle.cat_commands.specs.cat_ledger.declared.views.Grant.{Grant}
use Rattle.cat_commands.specs.cat_ledger.declared.views.Released.{Released}
use Rattle.cat_commands.specs.sets.SegmentLaws.{SegmentsAreOne}
use Rattle.cat_commands.specs.sets.Sets.{HasSets}
use Rattle.cat_commands.proofs.sets.Right.{current_are_among, remembered_are_right, sets_stay, warmed_are_right}
use Rattle.cat_ledger_laws.specs.model.Replies.{IsLeft}
use Rattle.cat_ledger_laws.specs.shape.Ties.{ToldFiles}
use Rattle.cat_ledger_laws.specs.lines.HoldLaws.{holding, letting_go}
use Rattle.cat_ledger_laws.specs.lines.LineLaws.{MayRefresh, Refreshes, line_of, tells}
use Rattle.cat_ledger_laws.specs.lines.RefusalLaws.{command_of}
use Rattle.cat_model.specs.Write.{Write}
use Rattle.cat_threads.proofs.service.Answering.{close_answers, left_answers, open_answers, opening, quiet_answers, refresh_answers, same_answers}

-- what holds of a ledger and of the sets beside it
abbrev pub IsKept : {D : Type 0} → (D → ToldFiles) → Filters → LedgerOnDevice D → Type 0
IsKept bytes f l = IsCarried (bytes (device_in l)) (shape_in l) × HasSets f (shape_in l)

module _ {D : Type 0} (bytes : D → ToldFiles) (f : Filters) (old new : LedgerOnDevice D) where
  pub by_answer : (session : ℕ) (c : Command) (r : Reply) → AnswersCommand bytes session c old r new → IsKept bytes f old → IsKept bytes f new
  by_answer session c r answers kept =
      let k = kept.0 in
      let next = answers k.0 k.1 k.2 in (
        (next.0, next.1, next.5),
        sets_stay (policy_in old) (bytes (device_in old)) (bytes (device_in new)) (shape_in old) (shape_in new) (line_of session c) r k.0 k.1 f k.2 answers kept.1,
      )

  pub by_write : (w : Write) (r : Result ℕ Refusal) → IfOk r (λ n. (session : ℕ) → AnswersCommand bytes session (command_of w) old (tells n) new)
      → OnErr r ((session : ℕ) → AnswersCommand bytes session (command_of w) old (Err Memory) new) → IsKept bytes f old → IsKept bytes f new
  by_write w (Ok n) ok err kept = by_answer 0 (command_of w) (tells n) (ok 0) kept
  by_write w (Err e) ok err kept = by_answer 0 (command_of w) (Err Memory) (err 0) kept

  pub by_same : new ≡ old → IsKept bytes f old → IsKept bytes f new
  by_same same kept = by_answer 0 Command.refresh (Err Memory) (same_answers bytes old new 0 same) kept

  pub by_quiet : shape_in new ≡ shape_in old → ((q : FileName) → bytes (device_in new) q ≡ bytes (device_in old) q) → IsKept bytes f old → IsKept bytes f new
  by_quiet shape files kept = by_answer 0 Command.refresh (Err Memory) (quiet_answers bytes old new 0 shape files) kept

  pub by_refresh : (r : Result ℕ Refusal) → OnOk r (DoesCall bytes Refreshes old new) → OnOk r (MayRefresh (shape_in old)) → OnErr r (DoesCall bytes IsLeft old new)
      → IsKept bytes f old → IsKept bytes f new
  by_refresh (Ok t) does may err kept = by_answer 0 Command.refresh (tells (shape_in old).count) (refresh_answers bytes old new 0 may does) kept
  by_refresh (Err e) does may err kept = by_answer 0 Command.refresh (Err Memory) (left_answers bytes old new 0 err) kept

  pub by_acquire : (session : ℕ) (asked : Option ℕ) (r : Result Grant Refusal) → IfOk r (λ grant. IsAsked (shape_in old) asked (token_granted grant))
      → IfOk r (λ grant. shape_in new ≡ holding session (token_granted grant) (shape_in old)) → OnErr r (new ≡ old) → device_in new ≡ device_in old
      → IsKept bytes f old → IsKept bytes f new
  by_acquire session asked (Ok grant) named held err same kept =
      let t = token_granted grant in
      by_answer session (opening asked t) (tells t) (open_answers bytes old new session asked t named held same) kept
  by_acquire session asked (Err e) named held err same kept = by_same err kept

  pub by_release : (session t : ℕ) (P : Type 0) (r : Result Released HeldView) → OnOk r (P × (has_hold (shape_in old).holds session t ≡ true))
      → OnOk r (shape_in new ≡ letting_go session t (shape_in old)) → OnErr r (new ≡ old) → device_in new ≡ device_in old
      → IsKept bytes f old → IsKept bytes f new
  by_release session t P (Ok x) had held err same kept = by_answer session (Command.close t) (tells t) (close_answers bytes old new session t had.1 held same) kept
  by_release session t P (Err h) had held err same kept = by_same err kept

  -- by a chore, which may make sets of the segments of now
  pub by_chore : (after : Filters) (session : ℕ) (c : Command) (r : Reply) → SegmentsAreOne → AnswersCommand bytes session c old r new
      → (Remembers f after × RemembersBelow f after)
      ⊎ ((new ≡ old) × FiltersRemember (segments_of (shape_in old).leaves) f after × FiltersRememberBelow (segments_of (shape_in old).leaves) f after)
      → IsKept bytes f old → IsKept bytes after new
  by_chore after session c r one answers (inl known) kept =
      let next = by_answer session c r answers kept in (next.0, remembered_are_right (shape_in new) f after known.0 known.1 next.1)
  by_chore after session c r one answers (inr made) kept =
      let k = kept.0 in
      let next = by_answer session c r answers kept in (
        next.0,
        subst (λ l. HasSets after (shape_in l)) (sym made.0)
            (warmed_are_right (shape_in old) (segments_of (shape_in old).leaves) f after (one (bytes (device_in old)) (shape_in old) k.0 k.1 k.2) (current_are_among (shape_in old)) made.1 made.2 kept.1),
      )

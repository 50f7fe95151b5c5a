-- What lines make of the cached sets, as those who answer them say it.
use Rattle.std.proofs.Common.{◌≡◌, ◌≢◌, ℕ, true, false, refl, sym, ◌∙◌, subst, inl, inr}
use Rattle.std.specs.Prelude.{MatchOption, Option, None, Some, Result, Ok, Err, IfErr, IfOk, IfSome, OnErr, OnOk, option_map}
use Rattle.std.proofs.lemmas.Bool.Decides.{eqb_tells}
use Rattle.cat_base.specs.declared.refusal.Refusal.{Refusal}
use Rattle.cat_base.specs.declared.refusal.Refusal.TheVariants.{Line as NoForm, Memory}
use Rattle.cat_model.specs.Answer.{Read, query_refusal}
use Rattle.cat_model.specs.Heard.{IsQueryOf}
use Rattle.cat_model.specs.Lines.{Said}
use Rattle.cat_model.specs.Query.{Query}
use Rattle.cat_model.specs.Run.{Answer, Chore, Reply, or_not_held}
use Rattle.cat_model.specs.State.{has_hold}
use Rattle.cat_model.specs.Text.{Text}
use Rattle.cat_model.specs.View.{View}
use Rattle.cat_ledger_laws.specs.lines.ReadLaws.{IsRecordedAs}
use Rattle.cat_ledger_laws.specs.shape.Shapes.{Shape}
use Rattle.cat_commands.specs.cat_cached_sets.filters.Filters.{Filters}
use Rattle.cat_commands.specs.cat_cached_sets.filters.Steps.{IsLeftByStep}
use Rattle.cat_commands.specs.cat_ledger.Ledgers.{LedgerOnDevice, shape_in}
use Rattle.cat_commands.specs.cat_protocol.declared.replies.answer.Answer as code
use Rattle.cat_commands.specs.cat_protocol.replies.Reply.{answer_of, reply_of}
use Rattle.cat_commands.specs.declared.ledger.chores.Chore as code_chore
use Rattle.cat_commands.specs.declared.ledger.chores.Chore.TheVariants.{Force, Merge, Stat, Sweep}
use Rattle.cat_commands.specs.ledger.Chores.{IsWarmTold, chore_of, sets_left}
use Rattle.cat_commands.specs.searches.Reads.{MayTell}
use Rattle.cat_commands.specs.searches.Uses.{NotesSpelled, UsesSpelled}
use Rattle.cat_commands.specs.views.Holding.{said_open}
use Rattle.cat_service.specs.Cached.{MakesOfSets, ReadsWithSets, UsesByReply}
use Rattle.cat_service.proofs.Beside.{IsLent}

-- ---- reads

module _ (s : Shape) (session t : ℕ) (text : Text) (f f' : Filters) where
  -- where no view is held, nothing changed
  unheld_reads : (reply : Reply) → has_hold s.holds session t ≡ false → f' ≡ f → ReadsWithSets s session t text reply f f'
  unheld_reads reply none same = record {
    held = λ held view is. absurd (let no : true ≡ false = sym held ∙ none in cc);
    unheld = λ k. same;
  }

  -- the view that is recorded under the token is the one that is lent
  held_reads : (reply : Reply) (lent : View) → (has_hold s.holds session t ≡ true) × IsRecordedAs s.views t lent
      → UsesByReply s.schema text lent reply f f' → ReadsWithSets s session t text reply f f'
  held_reads reply lent some uses = record {
    held = λ held view is. subst (λ v. UsesByReply s.schema text v reply f f') (one lent view (sym some.1 ∙ is)) uses;
    unheld = λ unheld. absurd (let no : true ≡ false = sym some.0 ∙ unheld in cc);
  }
    where
      one : (a b : View) → ◌≡◌ {A = Option View} (Some a) (Some b) → a ≡ b
      one a b is = cc

  -- where none is held, no read is answered
  unheld_refused : (a : Answer) (asked : Read) → MayTell None asked (Ok a) → ⊥
  unheld_refused a asked (inl is) = never (query_refusal asked) is
    where
      never : (o : Option Refusal) → ◌≡◌ {A = Reply} (Ok a) (or_not_held o) → ⊥
      never None is = cc
      never (Some e) is = cc
  unheld_refused a asked (inr is) = cc

  pub read_uses : {R : Type 0} (value : R → View) (held : Option R) → IsLent s session t value held
      → (asked : Result Query Refusal → Read) (result : Result code.Answer Refusal)
      → ((q : Result Query Refusal) × IsQueryOf s.schema text q × MayTell (option_map value held) (asked q) (reply_of result))
      → OnOk result (IfSome held (λ v. NotesSpelled s.schema text (value v) f f'))
      → OnErr result (MatchOption held (f' ≡ f) (λ v. UsesSpelled s.schema text (value v) f f'))
      → ReadsWithSets s session t text (reply_of result) f f'
  read_uses value None lent asked (Ok a) told noted used = absurd (unheld_refused (answer_of a) (asked told.0) told.2)
  read_uses value None lent asked (Err e) told noted used = unheld_reads (Err e) lent.none used
  read_uses value (Some v) lent asked (Ok a) told noted used = held_reads (Ok (answer_of a)) (value v) lent.some noted
  read_uses value (Some v) lent asked (Err e) told noted used = held_reads (Err e) (value v) lent.some used

-- ---- maintenance

module _ {D : Type 0} (session : ℕ) (old : LedgerOnDevice D) where
  -- what any session is told
  any_session : {A : Type 0} → (session ≢ 0 → A) → (session ≡ 0 → A) → A
  any_session foreign own = elim (eqb_tells session 0) [
    | inl k ↦ own k.1
    | inr k ↦ foreign k.1
  ]

  pub chore_uses : (new : LedgerOnDevice D) (f f' : Filters) (chore : code_chore.Chore) (reply : Reply)
      → (session ≢ 0 → f' ≡ f) → (session ≡ 0 → f' ≡ sets_left chore (shape_in new) f)
      → MakesOfSets session (Some (Said.chore (chore_of chore))) (record { ledger = old; sets = f }) reply
      (record { ledger = new; sets = f' })
  chore_uses new f f' Merge reply foreign own = (foreign, own)
  chore_uses new f f' Force reply foreign own = any_session foreign own
  chore_uses new f f' Sweep reply foreign own = any_session foreign own
  chore_uses new f f' Stat reply foreign own = any_session foreign own

  pub warm_uses : (f f' : Filters) (result : Result code.Answer Refusal) → (session ≢ 0 → (result ≡ Err NoForm) × (f' ≡ f))
      → IfOk result (λ a. IsWarmTold (shape_in old) f f' (answer_of a)) → (session ≡ 0 → IfErr result (λ e. (e ≡ Memory) × IsLeftByStep f f'))
      → MakesOfSets session (Some (Said.chore Chore.warm)) (record { ledger = old; sets = f }) (reply_of result)
      (record { ledger = old; sets = f' })
  warm_uses f f' (Ok a) foreign told left = (any_session (λ k. absurd (not_refused (foreign k).0)) (λ k. k), told.news, told.step)
    where
      not_refused : ◌≡◌ {A = Result code.Answer Refusal} (Ok a) (Err NoForm) → ⊥
      not_refused is = cc
  warm_uses f f' (Err e) foreign told left = ((λ k. (foreign k).1), any_session (λ k. inl (foreign k).1) (λ k. (left k).1))

-- ---- an OPEN

pub opens_leave_sets : {D : Type 0} (session : ℕ) (token : Option ℕ) (old new : LedgerOnDevice D) (f : Filters) (reply : Reply)
    → MakesOfSets session (Some (said_open token)) (record { ledger = old; sets = f }) reply (record { ledger = new; sets = f })
opens_leave_sets session None old new f reply = refl
opens_leave_sets session (Some t) old new f reply = refl

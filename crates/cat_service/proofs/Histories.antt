-- What lines in a row have to do with commits.
use Rattle.std.proofs.Common.{◌≡◌, ℕ, ◌+◌, ◌<◌, List, [], ◌∷◌, ◌++◌, length, take, get_or, Bool, true, false, cond, refl, sym, ◌∙◌, ap, subst, inl, inr, arith}
use Rattle.std.specs.Prelude.{Option, None, Some, Result, Ok, Err, IfErr, IfOk, ltb}
use Rattle.std.specs.List.{list_all}
use Rattle.std.proofs.lemmas.List.{take_more}
use Rattle.cat_base.specs.declared.refusal.Refusal.{Refusal}
use Rattle.cat_base.specs.declared.refusal.Refusal.TheVariants.{Kind as WrongKind, Large}
use Rattle.cat_model.specs.Forms.{is_plain_byte}
use Rattle.cat_model.specs.Heard.{commit_text_of}
use Rattle.cat_model.specs.Item.{Schema}
use Rattle.cat_model.specs.Limits.{commit_text_limit}
use Rattle.cat_model.specs.Lines.{Said}
use Rattle.cat_model.specs.Run.{Answer, Command, Reply}
use Rattle.cat_model.specs.Text.{Text}
use Rattle.cat_directory.specs.Devices.{FileContent}
use Rattle.cat_directory.specs.declared.name.FileName.{FileName}
use Rattle.cat_commands.specs.views.Holding.{said_open}
use Rattle.cat_commands.specs.cat_ledger.Histories.{Call, Event, Goes, GoesBy}
use Rattle.cat_commands.specs.cat_ledger.Ledgers.{LedgerOnDevice}
use Rattle.cat_ledger_laws.specs.shape.Ties.{ToldFiles}
use Rattle.cat_commands.specs.cat_protocol.lines.Line.{said_of}
use Rattle.cat_commands.specs.cat_protocol.declared.lines.line.Line.{Line}
use Rattle.cat_commands.specs.cat_protocol.replies.Reply.{reply_of}
use Rattle.cat_commands.specs.cat_protocol.declared.replies.reply.Reply as code
use Rattle.cat_service.specs.Histories.{AreSpoken, GoesTold, HaveCauses, IsEventOf, IsSpoken, LinesAreCalls, MakesEvent, RunsHistory, Spoken}
use Rattle.cat_service.specs.Causes.{HasCause, StaysIfWrong}
use Rattle.cat_service.specs.Lines.{IsCommandOf}
use Rattle.cat_service.specs.Worlds.{Service}

-- a text that a commit may have is the one that was given
judged_own : (text : Text) (long plain : Bool) → IfOk (cond long (Err Large) (cond plain (Ok text) (Err WrongKind))) (λ t. t ≡ text)
judged_own text true plain = tt
judged_own text false true = refl
judged_own text false false = tt

module _ {D : Type 0} (bytes : D → ToldFiles) (left : D → FileName → FileContent → Type 0) where
  -- an OPEN is another line than a COMMIT
  pub opens_go : (token : Option ℕ) (reply : Reply) (old new : LedgerOnDevice D) → Goes bytes left Event.Other old new
      → GoesBy bytes left (Some (said_open token)) reply old new
  opens_go None reply old new goes = goes
  opens_go (Some t) reply old new goes = goes

  -- ---- lines are calls

  other_call : (old new : LedgerOnDevice D) → Goes bytes left Event.Other old new → (event : Event) × (event ≡ Event.Other) × Goes bytes left event old new
  other_call old new goes = (Event.Other, refl, goes)

  -- what changes nothing has nothing to do with commits
  pub nothing_goes : (l : LedgerOnDevice D) → Goes bytes left Event.Other l l
  nothing_goes l = record {
    newest = refl;
    next = omega arith;
    asked = λ g no. absurd no;
    taken = λ g no. absurd no;
    files = λ g none e after. inl after;
    spared = record { files = λ q taken apart e after. inl after; segments = omega arith; generations = omega arith; merging = λ m is. inl (m, is, refl) };
    tried = λ t is. absurd (let no : Event.Other ≡ Event.Refused t = is in cc no);
  }

  -- the event of a line
  abbrev HasEvent : Option Said → Reply → LedgerOnDevice D → LedgerOnDevice D → Type 0
  HasEvent said reply old new = (event : Event) × IsEventOf said reply event × Goes bytes left event old new

  -- that of a COMMIT, by what its text is
  commit_call : (text : Text) (judged : Result Text Refusal) (reply : Reply) (old new : LedgerOnDevice D)
      → GoesBy bytes left (Some (Said.commit text)) reply old new → IfOk judged (λ t. t ≡ text) → IfErr judged (λ e. new ≡ old)
      → (event : Event) × MakesEvent (Command.commit judged) reply event × Goes bytes left event old new
  commit_call text (Err f) reply old new goes own same = (Event.Other, refl, subst (Goes bytes left Event.Other old) (sym same) (nothing_goes old))
  commit_call text (Ok t) (Ok (Answer.number g)) old new goes own same = (Event.Answered g, refl, goes)
  commit_call text (Ok t) (Ok (Answer.found f)) old new goes own same = absurd goes
  commit_call text (Ok t) (Ok (Answer.names ns)) old new goes own same = absurd goes
  commit_call text (Ok t) (Ok (Answer.commit_text x)) old new goes own same = absurd goes
  commit_call text (Ok t) (Ok (Answer.news n)) old new goes own same = absurd goes
  commit_call text (Ok t) (Err e) old new (inl goes) own same = (Event.Other, inl refl, goes)
  commit_call text (Ok t) (Err e) old new (inr (x, is, goes)) own same = (Event.Refused x, inr (x, is ∙ sym own, refl), goes)

  line_call : (said : Option Said) (reply : Reply) (old new : LedgerOnDevice D) → GoesBy bytes left said reply old new → StaysIfWrong said old new
      → HasEvent said reply old new
  line_call None reply old new goes same = other_call old new goes
  line_call (Some (Said.commit text)) reply old new goes same =
      commit_call text (commit_text_of text) reply old new goes (judged_own text (ltb commit_text_limit (length text)) (list_all is_plain_byte text)) same
  line_call (Some (Said.put text)) reply old new goes same = other_call old new goes
  line_call (Some (Said.delete text)) reply old new goes same = other_call old new goes
  line_call (Some (Said.delete_where text)) reply old new goes same = other_call old new goes
  line_call (Some Said.refresh) reply old new goes same = other_call old new goes
  line_call (Some Said.open_newest) reply old new goes same = other_call old new goes
  line_call (Some (Said.open_at t)) reply old new goes same = other_call old new goes
  line_call (Some (Said.close t)) reply old new goes same = other_call old new goes
  line_call (Some (Said.find t n sort mark text)) reply old new goes same = other_call old new goes
  line_call (Some (Said.facets t dim n text)) reply old new goes same = other_call old new goes
  line_call (Some (Said.get t text)) reply old new goes same = other_call old new goes
  line_call (Some (Said.files_of_token t)) reply old new goes same = other_call old new goes
  line_call (Some (Said.files_of_commit g)) reply old new goes same = other_call old new goes
  line_call (Some (Said.text_of_commit g)) reply old new goes same = other_call old new goes
  line_call (Some Said.snapshot) reply old new goes same = other_call old new goes
  line_call (Some (Said.release_snapshot g)) reply old new goes same = other_call old new goes
  line_call (Some (Said.prune n)) reply old new goes same = other_call old new goes
  line_call (Some (Said.chore what)) reply old new goes same = other_call old new goes

  pub lines_are_calls : (last : Service D) → LinesAreCalls bytes left last
  lines_are_calls last first [] same = ([], tt, ap (λ (w : Service D). w.ledger) same)
  lines_are_calls last first (x ∷ xs) leads =
      let one = line_call x.said x.reply first.ledger x.after.ledger leads.0 leads.1 in
      let rest = lines_are_calls last x.after xs leads.2 in
      let call : Call D = record { event = one.0; after = x.after.ledger } in
      (call ∷ rest.0, (one.1, rest.1), (one.2, rest.2))

  -- ---- one line more

  goes_on : (old mid : Service D) (xs : List (Spoken D)) (x : Spoken D) → IsSpoken bytes left old xs mid
      → GoesBy bytes left x.said x.reply mid.ledger x.after.ledger → StaysIfWrong x.said mid.ledger x.after.ledger → IsSpoken bytes left old (xs ++ x ∷ []) x.after
  goes_on old mid [] x same goes stays = (
    subst (λ (w : Service D). GoesBy bytes left x.said x.reply w.ledger x.after.ledger) same goes,
    subst (λ (w : Service D). StaysIfWrong x.said w.ledger x.after.ledger) same stays,
    refl,
  )
  goes_on old mid (y ∷ xs) x leads goes stays = (leads.0, leads.1, goes_on y.after mid xs x leads.2 goes stays)

  spoken_on : (ls : List Line) (rs : List code.Reply) (xs : List (Spoken D)) (l : Line) (r : code.Reply) (x : Spoken D) → AreSpoken ls rs xs
      → x.said ≡ said_of l.command → x.reply ≡ reply_of r.answer → AreSpoken (ls ++ l ∷ []) (rs ++ r ∷ []) (xs ++ x ∷ [])
  spoken_on [] [] [] l r x all said reply = (said, reply, tt)
  spoken_on (k ∷ ls) (q ∷ rs) (y ∷ xs) l r x all said reply = (all.0, all.1, spoken_on ls rs xs l r x all.2 said reply)
  spoken_on [] [] (y ∷ xs) l r x all said reply = absurd all
  spoken_on [] (q ∷ rs) [] l r x all said reply = absurd all
  spoken_on [] (q ∷ rs) (y ∷ xs) l r x all said reply = absurd all
  spoken_on (k ∷ ls) [] [] l r x all said reply = absurd all
  spoken_on (k ∷ ls) [] (y ∷ xs) l r x all said reply = absurd all
  spoken_on (k ∷ ls) (q ∷ rs) [] l r x all said reply = absurd all

  module _ (can_fail : D → Type 0) (faults : D → ℕ) where
    -- one cause more
    causes_on : (first mid : Service D) (xs : List (Spoken D)) (x : Spoken D) → IsSpoken bytes left first xs mid → HaveCauses bytes can_fail faults first xs
        → HasCause bytes can_fail faults mid x.said x.reply x.after → HaveCauses bytes can_fail faults first (xs ++ x ∷ [])
    causes_on first mid [] x same all cause = (subst (λ (w : Service D). HasCause bytes can_fail faults w x.said x.reply x.after) same cause, tt)
    causes_on first mid (y ∷ ys) x leads all cause = (all.0, causes_on y.after mid ys x leads.2 all.1 cause)

    -- no line leads nowhere
    pub none_spoken : (w : Service D) → RunsHistory bytes can_fail faults left w [] [] w
    none_spoken w = record { spoken = []; are = tt; leads = refl; causes = tt }

    -- and one line more goes on
    pub one_spoken : (old mid new : Service D) (ls : List Line) (i : ℕ) (d : Line) (rs : List code.Reply) (r : code.Reply) → i < length ls
        → RunsHistory bytes can_fail faults left old (take i ls) rs mid
        → GoesBy bytes left (said_of (get_or ls i d).command) (reply_of r.answer) mid.ledger new.ledger
        → HasCause bytes can_fail faults mid (said_of (get_or ls i d).command) (reply_of r.answer) new
        → RunsHistory bytes can_fail faults left old (take (i + 1) ls) (rs ++ r ∷ []) new
    one_spoken old mid new ls i d rs r lt before goes cause =
        let x : Spoken D = record { said = said_of (get_or ls i d).command; reply = reply_of r.answer; after = new } in record {
          spoken = before.spoken ++ x ∷ [];
          are =
              subst (λ ks. AreSpoken ks (rs ++ r ∷ []) (before.spoken ++ x ∷ [])) (sym (take_more ls i d lt))
              (spoken_on (take i ls) rs before.spoken (get_or ls i d) r x before.are refl refl);
          leads = goes_on old mid before.spoken x before.leads goes cause.stays;
          causes = causes_on old mid before.spoken x before.leads before.causes cause;
        }

  -- ---- commands

  -- a line makes of commits what its command makes of them
  line_makes : (schema : Schema) (said : Option Said) (c : Command) (reply : Reply) (event : Event) → IsCommandOf schema said c
      → IsEventOf said reply event → MakesEvent c reply event
  line_makes schema None c reply event is e = subst (λ k. MakesEvent k reply event) (sym is) e
  line_makes schema (Some (Said.commit text)) c reply event is e = subst (λ k. MakesEvent k reply event) (sym is) e
  line_makes schema (Some (Said.put text)) c reply event is e = subst (λ k. MakesEvent k reply event) (sym is) e
  line_makes schema (Some (Said.delete text)) c reply event is e = subst (λ k. MakesEvent k reply event) (sym is) e
  line_makes schema (Some (Said.delete_where text)) c reply event is e = subst (λ k. MakesEvent k reply event) (sym is.2) e
  line_makes schema (Some Said.refresh) c reply event is e = subst (λ k. MakesEvent k reply event) (sym is) e
  line_makes schema (Some Said.open_newest) c reply event is e = subst (λ k. MakesEvent k reply event) (sym is) e
  line_makes schema (Some (Said.open_at t)) c reply event is e = subst (λ k. MakesEvent k reply event) (sym is) e
  line_makes schema (Some (Said.close t)) c reply event is e = subst (λ k. MakesEvent k reply event) (sym is) e
  line_makes schema (Some (Said.find t n sort mark text)) c reply event is e = subst (λ k. MakesEvent k reply event) (sym is.2) e
  line_makes schema (Some (Said.facets t dim n text)) c reply event is e = subst (λ k. MakesEvent k reply event) (sym is.2) e
  line_makes schema (Some (Said.get t text)) c reply event is e = subst (λ k. MakesEvent k reply event) (sym is) e
  line_makes schema (Some (Said.files_of_token t)) c reply event is e = subst (λ k. MakesEvent k reply event) (sym is) e
  line_makes schema (Some (Said.files_of_commit g)) c reply event is e = subst (λ k. MakesEvent k reply event) (sym is) e
  line_makes schema (Some (Said.text_of_commit g)) c reply event is e = subst (λ k. MakesEvent k reply event) (sym is) e
  line_makes schema (Some Said.snapshot) c reply event is e = subst (λ k. MakesEvent k reply event) (sym is) e
  line_makes schema (Some (Said.release_snapshot g)) c reply event is e = subst (λ k. MakesEvent k reply event) (sym is) e
  line_makes schema (Some (Said.prune n)) c reply event is e = subst (λ k. MakesEvent k reply event) (sym is) e
  line_makes schema (Some (Said.chore what)) c reply event is e = subst (λ k. MakesEvent k reply event) (sym is) e

  pub goes_told : (old new : Service D) (schema : Schema) (said : Option Said) (c : Command) (reply : Reply) → IsCommandOf schema said c
      → GoesBy bytes left said reply old.ledger new.ledger → StaysIfWrong said old.ledger new.ledger → GoesTold bytes left c reply old new
  goes_told old new schema said c reply is goes same =
      let one = line_call said reply old.ledger new.ledger goes same in
      (one.0, line_makes schema said c reply one.0 is one.1, one.2)

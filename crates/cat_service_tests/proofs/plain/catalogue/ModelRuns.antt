-- Runs of a service from its opening, one line more at a time.
use Rattle.std.proofs.Common.{inl, inr, ◌≡◌, ℕ, ◌+◌, ◌<◌, List, [], ◌∷◌, ◌++◌, length, take, get_or, map, false, true, refl, sym, subst, ◌∙◌, ap}
use Rattle.std.specs.Prelude.{IsTrue}
use Rattle.std.proofs.lemmas.List.{take_more, map-append}
use Rattle.cat_model.specs.Item.{Schema}
use Rattle.cat_model.specs.Table.{Opened, stands}
use Rattle.cat_model.specs.Run.{Command, Line, Reply, Run, Exchange, IsRun, Fits, is_looked_at}
use Rattle.cat_model.specs.State.{State, Step, StandsFor, IsFresh, opened_as}
use Rattle.cat_model.proofs.Opening.{fresh_begins}
use Rattle.cat_model.proofs.Runs.{runs_go_on}
use Rattle.cat_model.proofs.States.{steps_keep_runs}
use Rattle.cat_service_tests.specs.plain.Plain.{DoesPlainly, MayWantPlainly}
use Rattle.cat_service_tests.specs.plain.Exchange.{IsExchangeOf, AreExchanges}
use Rattle.cat_service.specs.cat_protocol.declared.lines.line.Line as said
use Rattle.cat_service_tests.specs.declared.plain.reply.Reply as answered

-- a service as it is opened stands for the empty run
pub fresh_stands : (schema : Schema) (st : State) → IsFresh st → StandsFor (opened_as schema st) [] st
fresh_stands = fresh_begins

-- ---- one exchange more

pub IsRun-push : (from : Opened) (past : Run) (e : Exchange) → IsRun from past → Fits from past e → IsRun from (past ++ e ∷ [])
IsRun-push = runs_go_on

-- only a line that is looked at wants memory
looked_at : (schema : Schema) (st : State) (s : ℕ) (c : Command) → MayWantPlainly schema st s c → IsTrue (is_looked_at s c)
looked_at schema st s (Command.put item) w = refl
looked_at schema st s Command.refresh w = refl
looked_at schema st s Command.open_newest w = refl
looked_at schema st s (Command.open_at t) w = refl
looked_at schema st s (Command.read t asked) w = refl
looked_at schema st s Command.formless w = w.0
looked_at schema st s (Command.delete id) w = refl
looked_at schema st s (Command.delete_where q) w = refl
looked_at schema st s (Command.close t) w = refl
looked_at schema st s (Command.prune n) w = refl
looked_at schema st s (Command.commit text) w = refl
looked_at schema st s Command.snapshot w = refl
looked_at schema st s (Command.release_snapshot g) w = refl
looked_at schema st s (Command.files_of_token t) w = refl
looked_at schema st s (Command.files_of_commit g) w = refl
looked_at schema st s (Command.text_of_commit g) w = refl
looked_at schema st s (Command.chore c) w = absurd (let h : false ≡ true = w.0 in cc)

-- what a service in memory does is a step of a service
does_step : (schema : Schema) (old new : State) (line : Line) (reply : Reply) → DoesPlainly schema old line.session line.command reply new → Step schema old line reply new
does_step schema old new line reply (inl moves) = inl moves
does_step schema old new line reply (inr stopped) = inr (inl (stopped.0, looked_at schema old line.session line.command stopped.1), stopped.2)

-- `steps_keep_runs` at a step under a schema that is the run's
pub Step-keeps : (schema : Schema) (from : Opened) (past : Run) (old new : State) (line : Line) (reply : Reply)
    → from.start.schema ≡ schema → IsRun from past → StandsFor from past old → DoesPlainly schema old line.session line.command reply new
    → Fits from past (record { line = line; reply = reply }) × StandsFor from (past ++ record { line = line; reply = reply } ∷ []) new
Step-keeps schema from past old new line reply same is_run stands step =
    steps_keep_runs from past old new line reply is_run stands (subst (λ s. Step s old line reply new) (sym same) (does_step schema old new line reply step))

-- The run so far, and the state that stands for it.
pub record Reaches (from : Opened) (past : Run) (st : State) : Type 0 where
  pub is_run : IsRun from past
  pub stands_for : StandsFor from past st

-- a step makes the run longer by its exchange
pub Reaches-push : (from : Opened) (past : Run) (old new : State) (line : Line) (reply : Reply)
    → Reaches from past old → DoesPlainly from.start.schema old line.session line.command reply new → Reaches from (past ++ record { line = line; reply = reply } ∷ []) new
Reaches-push from past old new line reply reached step =
    let kept = steps_keep_runs from past old new line reply reached.is_run reached.stands_for (does_step from.start.schema old new line reply step) in
    record { is_run = IsRun-push from past (record { line = line; reply = reply }) reached.is_run kept.0; stands_for = kept.1 }

pub Reaches-start : (schema : Schema) (st : State) → IsFresh st → Reaches (opened_as schema st) [] st
Reaches-start schema st fresh = record { is_run = tt; stands_for = fresh_stands schema st fresh }

-- ---- lines beside their replies

exchanges-push : (schema : Schema) (ls : List said.Line) (rs : List answered.Reply) (es : Run) (l : said.Line) (r : answered.Reply) (e : Exchange)
    → AreExchanges schema ls rs es → IsExchangeOf schema l r e → AreExchanges schema (ls ++ l ∷ []) (rs ++ r ∷ []) (es ++ e ∷ [])
exchanges-push schema [] [] [] l r e all one = (one, tt)
exchanges-push schema (k ∷ ls) (q ∷ rs) (d ∷ es) l r e all one = (all.0, exchanges-push schema ls rs es l r e all.1 one)
exchanges-push schema [] [] (d ∷ es) l r e all one = absurd all
exchanges-push schema [] (q ∷ rs) [] l r e all one = absurd all
exchanges-push schema [] (q ∷ rs) (d ∷ es) l r e all one = absurd all
exchanges-push schema (k ∷ ls) [] [] l r e all one = absurd all
exchanges-push schema (k ∷ ls) [] (d ∷ es) l r e all one = absurd all
exchanges-push schema (k ∷ ls) (q ∷ rs) [] l r e all one = absurd all

-- the exchanges of the first i lines, and of the next one
pub exchanges-more : (schema : Schema) (ls : List said.Line) (i : ℕ) (d : said.Line) (rs : List answered.Reply) (r : answered.Reply) (es : Run) (e : Exchange)
    → i < length ls → AreExchanges schema (take i ls) rs es → IsExchangeOf schema (get_or ls i d) r e → AreExchanges schema (take (i + 1) ls) (rs ++ r ∷ []) (es ++ e ∷ [])
exchanges-more schema ls i d rs r es e lt all one =
    subst (λ ks. AreExchanges schema ks (rs ++ r ∷ []) (es ++ e ∷ [])) (sym (take_more ls i d lt)) (exchanges-push schema (take i ls) rs es (get_or ls i d) r e all one)

-- what is read of the first i lines and of their replies agrees for one more
pub maps-more : {L R X : Type 0} (f : R → X) (g : L → X) (ls : List L) (i : ℕ) (d : L) (rs : List R) (r : R)
    → i < length ls → map f rs ≡ map g (take i ls) → f r ≡ g (get_or ls i d) → map f (rs ++ r ∷ []) ≡ map g (take (i + 1) ls)
maps-more f g ls i d rs r lt h e =
    map-append f rs (r ∷ [])
    ∙ (λ j. h j ++ e j ∷ [])
    ∙ sym (ap (map g) (take_more ls i d lt) ∙ map-append g (take i ls) (get_or ls i d ∷ []))

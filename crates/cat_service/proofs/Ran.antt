-- Lines beside their replies, one more at a time.
use Rattle.std.proofs.Common.{◌≡◌, ℕ, ◌+◌, ◌<◌, List, [], ◌∷◌, ◌++◌, length, take, get_or, map, refl, sym, subst, ◌∙◌, ap, append-nil, append_assoc}
use Rattle.std.proofs.lemmas.List.{take_more, map-append}
use Rattle.cat_model.specs.Item.{Schema}
use Rattle.cat_model.specs.Run.{Command, Exchange, IsRun, Run}
use Rattle.cat_model.proofs.Runs.{runs_go_on}
use Rattle.cat_commands.specs.cat_protocol.lines.Line.{said_of}
use Rattle.cat_commands.specs.cat_protocol.declared.lines.line.Line.{Line}
use Rattle.cat_ledger_laws.specs.lines.LineLaws.{line_of}
use Rattle.cat_ledger_laws.specs.lines.RunLaws.{Stands}
use Rattle.cat_ledger_laws.specs.shape.Ties.{ToldFiles}
use Rattle.cat_commands.specs.cat_protocol.replies.Reply.{reply_of}
use Rattle.cat_commands.specs.cat_protocol.declared.replies.reply.Reply.{Reply}
use Rattle.cat_service.specs.Lines.{StepsLine}
use Rattle.cat_service.specs.Running.{AreAnsweredLines, IsAnsweredLine, RunsLines}
use Rattle.cat_service.specs.Worlds.{Service, device_of, shape_of_service}

-- what is read of the first i lines and of their replies agrees for one more
pub maps_more : {L R X : Type 0} (f : R → X) (g : L → X) (ls : List L) (i : ℕ) (d : L) (rs : List R) (r : R)
    → i < length ls → map f rs ≡ map g (take i ls) → f r ≡ g (get_or ls i d) → map f (rs ++ r ∷ []) ≡ map g (take (i + 1) ls)
maps_more f g ls i d rs r lt h e =
    map-append f rs (r ∷ [])
    ∙ (λ j. h j ++ e j ∷ [])
    ∙ sym (ap (map g) (take_more ls i d lt) ∙ map-append g (take i ls) (get_or ls i d ∷ []))

module _ {D : Type 0} (bytes : D → ToldFiles) where
  pushed : (schema : Schema) (ls : List Line) (rs : List Reply) (es : Run) (l : Line) (r : Reply) (e : Exchange)
      → AreAnsweredLines bytes schema ls rs es → IsAnsweredLine bytes schema l r e
      → AreAnsweredLines bytes schema (ls ++ l ∷ []) (rs ++ r ∷ []) (es ++ e ∷ [])
  pushed schema [] [] [] l r e all one = (one, tt)
  pushed schema (k ∷ ls) (q ∷ rs) (d ∷ es) l r e all one = (all.0, pushed schema ls rs es l r e all.1 one)
  pushed schema [] [] (d ∷ es) l r e all one = absurd all
  pushed schema [] (q ∷ rs) [] l r e all one = absurd all
  pushed schema [] (q ∷ rs) (d ∷ es) l r e all one = absurd all
  pushed schema (k ∷ ls) [] [] l r e all one = absurd all
  pushed schema (k ∷ ls) [] (d ∷ es) l r e all one = absurd all
  pushed schema (k ∷ ls) (q ∷ rs) [] l r e all one = absurd all

  -- no line goes on with no exchange
  pub none_runs : (w : Service D) → RunsLines bytes w [] [] w
  none_runs w from past fields run stands =
      record { more = []; answered = tt; is_run = subst (IsRun from) (sym (append-nil past)) run; stands = subst (Stands (bytes (device_of w)) (shape_of_service w) from) (sym (append-nil past)) stands }

  -- one line more goes on with its exchange
  pub one_more : (old mid new : Service D) (ls : List Line) (i : ℕ) (d : Line) (rs : List Reply) (r : Reply)
      → i < length ls → (shape_of_service mid).schema ≡ (shape_of_service old).schema → RunsLines bytes old (take i ls) rs mid
      → StepsLine bytes (get_or ls i d).session (said_of (get_or ls i d).command) mid (reply_of r.answer) new
      → RunsLines bytes old (take (i + 1) ls) (rs ++ r ∷ []) new
  one_more old mid new ls i d rs r lt fields before step from past same run stands =
      let so = before from past same run stands in
      let c : Command = step.0 in
      let next = step.2 from (past ++ so.more) (same ∙ sym fields) so.is_run so.stands in
      let e : Exchange = record { line = line_of (get_or ls i d).session c; reply = next.0 } in
      let shown = next.1 in record {
        more = so.more ++ e ∷ [];
        answered =
            subst (λ ks. AreAnsweredLines bytes (shape_of_service old).schema ks (rs ++ r ∷ []) (so.more ++ e ∷ [])) (sym (take_more ls i d lt))
            (pushed (shape_of_service old).schema (take i ls) rs so.more (get_or ls i d) r e so.answered (record {
              session = refl;
              command = rw (← fields) step.1;
              alike = shown.alike;
              same = λ tells. shown.same (λ q. tells (device_of mid) q);
            }));
        is_run = subst (IsRun from) (append_assoc past so.more (e ∷ [])) (runs_go_on from (past ++ so.more) e so.is_run next.2);
        stands = subst (Stands (bytes (device_of new)) (shape_of_service new) from) (append_assoc past so.more (e ∷ [])) next.3;
      }

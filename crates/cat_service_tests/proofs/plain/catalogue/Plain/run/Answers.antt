use Rattle.std.proofs.Common.{◌++◌, [], ◌∷◌, map, get_or, ap, sym, ◌∙◌, refl, subst, arith}
use Rattle.std.proofs.lemmas.List.{take_all}
use Rattle.cat_model.specs.Run.{Exchange}
use Rattle.cat_service.specs.cat_protocol.declared.lines.line.Line.{Line}
use Rattle.cat_service.specs.cat_protocol.declared.lines.command.Command.TheVariants.{NoForm}
use Rattle.cat_service_tests.specs.plain.Exchange.{AreExchanges}
use Rattle.cat_service_tests.specs.plain.Reply.{plain_reply}
use Rattle.cat_service_tests.specs.plain.Plain.{beginning_of}
use Rattle.cat_service_tests.proofs.plain.catalogue.ModelRuns.{Reaches-start, Reaches-push, exchanges-more, maps-more}
use Rattle.cat_service_tests.proofs.plain.catalogue.Plain.run.Goals as goal

pub loop-line-init : goal.loop-line-init
loop-line-init c = record {
  answered = c.in_ok-replies.ensures.len;
  room = omega (arith, c.in_ok-replies.ensures.exact);
  schema = refl;
  sessions = ap (map (λ r. r.session)) c.in_ok-replies.ensures.items;
  reached = ([], subst (λ rs. AreExchanges c.args.self.now.schema [] rs []) (sym c.in_ok-replies.ensures.items) tt, Reaches-start c.args.self.now.schema c.args.self.now.state c.requires);
}

no_line : Line
no_line = record { session = 0; command = NoForm }

pub loop-line-preserved : goal.loop-line-preserved
unfolding no_line
loop-line-preserved c = record {
  answered = omega (arith, c.in-Ok.ensures.len, c.loop-line.invariant.answered);
  room = omega (arith, c.in-Ok.ensures.capacity, c.loop-line.invariant.room);
  schema = c.step.ensures.schema ∙ c.loop-line.invariant.schema;
  sessions = rw c.in-Ok.ensures.items (maps-more (λ r. r.session) (λ k. k.session) c.args.lines.now c.loop-line.line-index no_line c.loop-line.replies.items c.step.result c.loop-line-test.true c.loop-line.invariant.sessions c.step.ensures.session);
  reached =
      let before = c.loop-line.invariant.reached in
      let does = rw c.loop-line.invariant.schema at c.step.ensures.does in
      let line = get_or c.args.lines.now c.loop-line.line-index no_line in
      let e : Exchange = record { line = record { session = line.session; command = does.0 }; reply = plain_reply c.step.result.answer } in (
        before.0 ++ e ∷ [],
        rw c.in-Ok.ensures.items (exchanges-more c.args.self.now.schema c.args.lines.now c.loop-line.line-index no_line c.loop-line.replies.items c.step.result before.0 e c.loop-line-test.true before.1 (record { session = refl; command = does.1; reply = refl })),
        Reaches-push (beginning_of c.args.self.now) before.0 _ _ e.line e.reply before.2 does.2,
      );
}

pub returns-clause-sessions : goal.returns-clause-sessions
returns-clause-sessions c = c.loop-line.invariant.sessions ∙ ap (map (λ k. k.session)) (take_all _ _ c.loop-line-test.false)

pub returns-clause-run : goal.returns-clause-run
returns-clause-run c =
    let reached = c.loop-line.invariant.reached in
    (reached.0, subst (λ ls. AreExchanges c.args.self.now.schema ls c.loop-line.replies.items reached.0) (take_all _ _ c.loop-line-test.false) reached.1, reached.2.is_run, reached.2.stands_for)

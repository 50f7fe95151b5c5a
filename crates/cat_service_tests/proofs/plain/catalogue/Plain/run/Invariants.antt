use Rattle.std.proofs.Common.{◌≡◌, ◌≤◌, length, map, take, vec_len, vec_capacity}
use Rattle.cat_model.specs.Run.{Run}
use Rattle.cat_service_tests.specs.plain.Exchange.{AreExchanges}
use Rattle.cat_service_tests.specs.plain.Plain.{beginning_of}
use Rattle.cat_service_tests.proofs.plain.catalogue.ModelRuns.{Reaches}
use Rattle.cat_service_tests.proofs.plain.catalogue.Plain.run.Given as goal

abbrev pub invariant-loop-line : goal.invariant-loop-line
invariant-loop-line l = record {
  answered : vec_len l.replies ≡ l.line-index;
  room : length l.lines ≤ vec_capacity l.replies;
  schema : l.self.schema ≡ l.fn.self.schema;
  sessions : map (λ r. r.session) l.replies.items ≡ map (λ k. k.session) (take l.line-index l.lines);
  reached : (past : Run) × AreExchanges l.fn.self.schema (take l.line-index l.lines) l.replies.items past × Reaches (beginning_of l.fn.self) past l.self.state;
}

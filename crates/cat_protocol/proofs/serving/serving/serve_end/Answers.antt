use Rattle.std.proofs.Common.{refl}
use Rattle.std.specs.Prelude.{Ok, Err}
use Rattle.cat_protocol.proofs.serving.Steps.{serves_with}
use Rattle.cat_protocol.proofs.serving.serving.serve_end.Goals as goal

pub returns-in-Ok : goal.returns-in-Ok
returns-in-Ok g c = record {
  went = g.W.Write.contents c.serve_last-served.new.to;
  ended = Ok tt;
  serves = serves_with c.in-Ok.is c.serve_last-served.ensures;
  flushed = (c.flush.result, c.flush.ensures, c.as_ended-ended.ensures);
}

pub returns-in-Err : goal.returns-in-Err
returns-in-Err g c = record {
  went = g.W.Write.contents c.serve_last-served.new.to;
  ended = Err c.in-Err.field-0;
  serves = serves_with c.in-Err.is c.serve_last-served.ensures;
  flushed = (refl, c.in-Err.is);
}

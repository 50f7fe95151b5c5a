use Rattle.std.proofs.Common.{subst}
use Rattle.std.proofs.lemmas.Result.{IfErr-weaker}
use Rattle.cat_directory.specs.Devices.{CountsWriting}
use Rattle.cat_ledger_state.proofs.flushes.write_segment.Goals as goal

pub returns-clause-fails : goal.returns-clause-fails
returns-clause-fails g c = record {
  device = IfErr-weaker c.write_file-2.result _ _ (λ e fails is. c.write_file.ensures.can (fails is)) c.write_file-2.ensures.device;
  counted = subst (λ n. CountsWriting n (g.D.Holder.fault_count c.write_file-2.new.device) c.write_file-2.result) c.in_ok-write_file.ensures.counted c.write_file-2.ensures.counted;
  can = λ fails. c.write_file.ensures.can (c.write_file-2.ensures.can fails);
}

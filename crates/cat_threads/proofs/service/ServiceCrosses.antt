-- A service may be shared with other threads, over a directory that may be sent to them.
use denote.RattleType.{RattleType}
use denote.Param.Send.{IsSend, IsSync, sendable}
use Rattle.std.proofs.Crossing.{crosses}
use Rattle.atomic_table.proofs.shared.Seat.TheSendSync as seat
use Rattle.crossbeam_utils.proofs.atomic.seq_cell.Wide.TheSendSync as cell
use Rattle.cat_directory.specs.declared.device.Holder as holder
use Rattle.cat_commands.proofs.ledger_laws.ledger.Ledger.TheSendSync as ledger
use Rattle.cat_threads.specs.declared.service.naming.Naming as naming
use Rattle.cat_threads.specs.contracts.service.desk.Desk as Desk
use Rattle.cat_threads.specs.contracts.service.pass.Pass as Pass
use Rattle.cat_threads.specs.contracts.service.service.Service as Service
use Rattle.cat_threads.proofs.service.SetsCross.{filters_send}

ruleset base = (sendable, crosses)

module _ (D J : RattleType) (g : holder.Ghosts D.Denot) (n : naming.Ghosts J.Denot) where
  desk_send : IsSend D → IsSend J → IsSend (Desk.the_row D J g n)
  desk_send d j = search (base, seat.the_send, filters_send, ledger.the_send) depth 20

  pub service_sync : IsSend D → IsSend J → IsSync J → IsSync (Service.the_row D J g n)
  service_sync d j y = let k = desk_send d j in search (base, cell.the_field_sync) depth 20

pub pass_send : (J : RattleType) (n : naming.Ghosts J.Denot) → IsSend J → IsSend (Pass.the_row J n)
pass_send J n j = search (base, seat.the_send) depth 20

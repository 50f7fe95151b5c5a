use Rattle.std.proofs.Common.{◌≡◌, ◌≤◌, length, map, take, vec_len, vec_capacity}
use Rattle.cat_service.specs.Histories.{RunsHistory}
use Rattle.cat_service.specs.Running.{RunsLines}
use Rattle.cat_service.specs.Worlds.{device_of, policy_of, shape_of_service}
use Rattle.cat_service.proofs.world.World.run.Given as goal

abbrev pub invariant-loop-line : goal.invariant-loop-line
invariant-loop-line g l = record {
  answered : vec_len l.replies ≡ l.line-index;
  room : length l.lines ≤ vec_capacity l.replies;
  sessions : map (λ r. r.session) l.replies.items ≡ map (λ k. k.session) (take l.line-index l.lines);
  schema : (shape_of_service l.self).schema ≡ (shape_of_service l.fn.self).schema;
  policy : policy_of l.self ≡ policy_of l.fn.self;
  can : g.D.Holder.can_fail (device_of l.self) → g.D.Holder.can_fail (device_of l.fn.self);
  runs : RunsLines g.D.Holder.bytes l.fn.self (take l.line-index l.lines) l.replies.items l.self;
  spoken : RunsHistory g.D.Holder.bytes g.D.Holder.can_fail g.D.Holder.fault_count g.D.Holder.may_leave l.fn.self (take l.line-index l.lines) l.replies.items l.self;
}

use Rattle.std.proofs.Common.{◌≡◌, ◌+◌, length, sym, subst, ap, ◌∙◌, arith}
use Rattle.crossbeam_utils.specs.Seq.{cell_view}
use Rattle.cat_threads.specs.history.Rules.{Sight}
use Rattle.cat_commands.specs.cat_ledger.Ledgers.{device_in, shape_in}
use Rattle.cat_commands.specs.sets.Sets.{HasSets}
use Rattle.cat_commands.proofs.sets.Right.{empty_are_right}
use Rattle.cat_threads.specs.sharing.Grounds.{Ground, Shares}
use Rattle.cat_threads.proofs.sharing.Sharing.{counts_share, fresh_share}
use Rattle.cat_threads.proofs.service.desk.Desk.new.Goals as goal

pub invariant_of-result : goal.invariant_of-result
invariant_of-result g c =
    let n = c.requires.names in
    let l = c.args.ledger in
    let told = g.D.Holder.bytes (device_in l) in
    let b = c.requires.fresh in
    let v = cell_view c.args.scribe in
    let a : Shares told (shape_in l) g.J.Naming.from g.J.Naming.sessions v =
    subst (λ (k : Ground). Shares told (shape_in l) k g.J.Naming.sessions v) (sym c.requires.ground) (fresh_share told (shape_in l) b.from g.J.Naming.sessions v b.fields b.stands n.1) in
    let all = counts_share told (shape_in l) g.J.Naming.from g.J.Naming.sessions v a in
    let none = ap (λ (x : Sight). length x.list) n.1 in
    let zero = ap (λ (x : Sight). x.token) n.1 in
    let is = c.count-start.ensures in
    let s = shape_in l in
    (n.0, omega arith, omega arith, a, (c.newest_lasts.ensures.carried, subst (λ f. HasSets f s) (sym c.requires.empty) (empty_are_right s)))

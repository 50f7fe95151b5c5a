use Rattle.std.proofs.Common.{◌≡◌, ℕ, List, [], sym, ap, ◌∙◌, subst}
use Rattle.crossbeam_utils.specs.Seq.{cell_view}
use Rattle.cat_commands.specs.cat_ledger.Ledgers.{device_in, shape_in}
use Rattle.cat_threads.specs.history.Rules.{Each, NoStrangers, Sight, scribe}
use Rattle.cat_threads.specs.service.Passes.{Ends}
use Rattle.cat_threads.proofs.sharing.Sharing.{history}
use Rattle.cat_threads.proofs.service.Spelled.{scribe_alone}
use Rattle.cat_threads.proofs.service.desk.Desk.into_ledger.Goals as goal

pub check_all-requires-clause-cell : goal.check_all-requires-clause-cell
check_all-requires-clause-cell g c = (c.requires, c.self.invariant.0)

pub check_all-requires-clause-desk : goal.check_all-requires-clause-desk
check_all-requires-clause-desk g c = c.self.invariant.3.agrees.whole

pub look-requires : goal.look-requires
look-requires g c =
    let sessions = g.J.Naming.sessions in
    let e = c.check_all.ensures.same in
    let whole = subst (λ (x : Sight). x ≡ scribe x.list x.token sessions []) (sym e.1) c.self.invariant.3.agrees.whole in
    (e.0 ∙ (c.self.invariant.0 ∙ sym c.requires), scribe_alone (cell_view c.check_all.new.scribe) sessions whole)

pub returns : goal.returns
returns g c =
    let v = cell_view c.self.inside.scribe in
    let l = c.self.inside.ledger in
    let a = c.self.invariant.3 in
    let sessions = g.J.Naming.sessions in
    let same = c.check_all.ensures.same.1 in
    let strangers = subst (λ (x : Sight). NoStrangers x.seated x.list) (c.look.ensures.desk.1 ∙ same) c.look.ensures.sessions in record {
      list = v.list;
      history = history (g.D.Holder.bytes (device_in l)) (shape_in l) g.J.Naming.from sessions v a;
      each = subst (λ (x : Sight). Each (Ends x.list) c.args.passes.items) same c.check_all.ensures.ends;
      others = subst (λ (s : List ℕ). NoStrangers s v.list) (ap (λ (x : Sight). x.seated) a.agrees.whole) strangers;
    }

use Rattle.std.proofs.Common.{subst}
use Rattle.cat_lifetimes.specs.records.Records.{AreRecords}
use Rattle.cat_lifetimes.proofs.records.Shown.{are_records, flipped}
use Rattle.cat_lifetimes.proofs.records.records.Records.recorded.Goals as goal

pub returns-clause-valid : goal.returns-clause-valid
returns-clause-valid c =
    subst AreRecords c.self.view_is (are_records _ c.self.inside.recorded.items c.self.inside.holds.keys c.self.invariant.0 c.len-len.ensures.unique (λ g h. flipped h.session h.token g.session g.token))

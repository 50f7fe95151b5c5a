use Rattle.std.proofs.Common.{List, sym, subst}
use Rattle.cat_directory.specs.declared.name.FileName.{FileName}
use Rattle.cat_directory.specs.Devices.{Lists}
use Rattle.cat_ledger_laws.specs.shape.Ties.{ToldFiles}
use Rattle.cat_commits.proofs.Frames.{reads_on}
use Rattle.cat_commits.proofs.reading.Parts.{as_one}
use Rattle.cat_check.specs.Standing.{StandsSo}
use Rattle.cat_check.proofs.dropping.find_standing.Goals as goal

pub returns-clause-ok : goal.returns-clause-ok
returns-clause-ok g c = record {
  names = c.deref.result.now;
  listed = subst (λ (names : List FileName). Lists (g.D.Holder.bytes c.args.device.now) names) (sym c.deref.ensures.value) c.in_ok-names.ensures.ok;
  so = subst (λ (t : ToldFiles). StandsSo t c.deref.result.now c.in_ok-standing.standing)
      (as_one (g.D.Holder.bytes c.args.device.now) (g.D.Holder.bytes c.names.new.self) c.in_ok-names.ensures.same) c.in_ok-standing.ensures.ok;
}

pub returns-clause-frame : goal.returns-clause-frame
returns-clause-frame g c =
    let listed = c.names.ensures in
    reads_on (record { same = listed.same; crash = listed.crash; can = listed.can }) c.in_ok-standing.ensures.frame

use Rattle.std.proofs.Common.{arith, get_or, take, subst, ℕ, [], map}
use Rattle.std.proofs.lemmas.List.{take_more}
use Rattle.std.proofs.lemmas.Grind.{elements}
use Rattle.cat_ledger_laws.specs.model.Users.{Changes}
use Rattle.cat_directory.specs.declared.name.FileName.{FileName}
use Rattle.cat_directory.specs.declared.name.FileName.TheVariants.{Segment}
use Rattle.cat_lifetimes.specs.refs.Counts.{used_in}
use Rattle.cat_lifetimes.proofs.refs.Steps.{one_taken, reordered, fits_one}
use Rattle.cat_lifetimes.proofs.refs.refs.FileRefs.take.Goals as goal

pub loop-name-init : goal.loop-name-init
loop-name-init c = record {
  room = omega (arith, c.in_ok-reserve.ensures.ok);
  users = subst (λ us. Changes [] [] us (map used_in c.reserve.new.self.entries)) c.self.view_is (reordered _ _ c.reserve.ensures.entries.2);
}

pub add_user-requires-clause-fits : goal.add_user-requires-clause-fits
add_user-requires-clause-fits c =
    fits_one c.args.self.now c.loop-name.self-inside.users.entries c.args.names.now c.loop-name.name-index (Segment 0) c.loop-name-test.true c.requires c.loop-name.invariant.users

pub loop-name-preserved : goal.loop-name-preserved
loop-name-preserved c =
    let i : ℕ = c.loop-name.name-index in
    let k : FileName = get_or c.args.names.now i (Segment 0) in
    record {
      room = omega (arith, c.add_user.ensures.room, c.loop-name.invariant.room);
      users = rw (take_more c.args.names.now i (Segment 0) c.loop-name-test.true)
          (one_taken c.args.self.now (take i c.args.names.now) c.loop-name.self-inside.users.entries c.add_user.new.users.entries k c.add_user.ensures.added c.loop-name.invariant.users);
    }

pub returns-clause-ok : goal.returns-clause-ok
returns-clause-ok c = grind (arith, elements)

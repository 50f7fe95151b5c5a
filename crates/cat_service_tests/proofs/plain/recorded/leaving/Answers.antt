use Rattle.std.proofs.Common.{◌≡◌, sym, length, ltb, false, arith}
use Rattle.std.proofs.lemmas.Bool.Decides.{nat_tests}
use Rattle.cat_model.specs.State.{held_in}
use Rattle.cat_service_tests.proofs.plain.catalogue.Sound.{least_leaves, some_free}
use Rattle.cat_service_tests.proofs.plain.recorded.leaving.Goals as goal

pub returns-in-Some-clause-room : goal.returns-in-Some-clause-room
returns-in-Some-clause-room c = some_free (held_in c.args.holds.now) c.args.views.now c.in-Some.token c.in-Some.ensures

pub returns-in-Some-clause-least : goal.returns-in-Some-clause-least
returns-in-Some-clause-least c =
    let full : ltb (length c.args.views.now) 64 ≡ false = grind (arith, nat_tests) in
    rw full (sym (least_leaves (held_in c.args.holds.now) c.args.views.now c.in-Some.token c.in-Some.ensures))

use Rattle.std.proofs.Common.{◌≡◌, None, Some, refl, sym, subst, map}
use Rattle.cat_threads.specs.cat_commands.cat_lifetimes.rights.Rights.{right_of}
use Rattle.cat_callers.specs.Sessions.{Kept}
use Rattle.cat_callers.specs.Told.{ToldNames}
use Rattle.cat_callers.proofs.front.Front.files_of_token.Goals as goal

pub returns-in_default : goal.returns-in_default
returns-in_default g c =
    ToldNames.unheld (subst (λ (k : Kept). right_of k.rights k.session c.args.token ≡ None) c.holdings.view_is (sym c.in_default.ensures))

pub returns-in-Ok : goal.returns-in-Ok
returns-in-Ok g c =
    let hold = c.in-Some.hold.now in
    ToldNames.named hold _ (subst (λ (k : Kept). right_of k.rights k.session c.args.token ≡ Some hold) c.holdings.view_is (sym c.in-Some.ensures))
    (record {
      listed = c.in-Ok.names.items;
      names = c.sort_unstable.new.self.items;
      all = c.in-Ok.ensures.ok;
      same = c.sort_unstable.ensures.permutation;
      rising = c.sort_unstable.ensures.sorted;
      texts = refl;
    })

pub returns-in-Err : goal.returns-in-Err
returns-in-Err g c = ToldNames.stopped

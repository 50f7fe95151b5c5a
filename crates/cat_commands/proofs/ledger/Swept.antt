-- What a sweep makes that is answered.
use Rattle.std.proofs.Common.{◌≡◌, ℕ, Bool, true, false, ◌&&◌, [], ap, refl, sym, ◌∙◌}
use Rattle.std.specs.Prelude.{◌==◌}
use Rattle.cat_model.specs.Files.{Name}
use Rattle.cat_directory.specs.Devices.{FileContent}
use Rattle.cat_directory.specs.Names.{name_of}
use Rattle.cat_directory.specs.declared.name.FileName.{FileName}
use Rattle.cat_ledger_laws.specs.model.Calls.{MayLeave}
use Rattle.cat_ledger_laws.specs.model.Users.{is_known, users_of}
use Rattle.cat_ledger_laws.specs.shape.Shapes.{Shape}
use Rattle.cat_ledger_laws.specs.shape.Ties.{Makes, ToldFiles}
use Rattle.cat_ledger.specs.Lasting.{IsCarried}
use Rattle.cat_ledger.specs.Ledgers.{DoesCall, LedgerOnDevice, device_in, shape_in}
use Rattle.cat_ledger.specs.cat_lifetimes.refs.Counts.{is_pending}
use Rattle.cat_commands.specs.ledger.Chores.{IsSwept, SweepsFiles, pending_in}

-- each name keeps its users
users_same : (told told' : ToldFiles) (s new : Shape) → IsCarried told s → Makes (MayLeave []) told s told' new → (q : Name)
    → users_of new.users q ≡ users_of s.users q
users_same told told' s new (l, files, carries) makes q =
    let made = makes l files carries in
    ap (λ (x : Shape). users_of x.users q) (sym made.3.shape) ∙ made.2.users q ∙ ap (λ (x : Shape). users_of x.users q) carries.shape

-- what isn't pending any more, with no user as before, isn't known
forgotten : (known known' none none' : Bool) → known && none ≡ true → known' && none' ≡ false → none' ≡ none → known' ≡ false
forgotten known false none none' was is same = refl
forgotten false true none none' was is same = absurd (let no : false ≡ true = was in cc)
forgotten true true none none' was is same = absurd (let no : true ≡ false = sym was ∙ sym same ∙ is in cc)

-- Behind a sweep with an OK nothing is pending, and what was is deleted.
pub swept_so : {D : Type 0} (bytes : D → ToldFiles) (left : D → FileName → FileContent → Type 0) (old new : LedgerOnDevice D)
    → DoesCall bytes (MayLeave []) old new → SweepsFiles bytes left old new → ((q : Name) → is_pending (shape_in new).users q ≡ false)
    → pending_in (shape_in new) ≡ 0 → IsCarried (bytes (device_in old)) (shape_in old) → IsSwept bytes old new
swept_so bytes left old new call swept none done carried = record {
  none = none;
  done = done;
  gone = λ q was.
      swept.deleted q (
        was,
        forgotten (is_known (shape_in old).users (name_of q)) (is_known (shape_in new).users (name_of q)) (users_of (shape_in old).users (name_of q) == 0)
            (users_of (shape_in new).users (name_of q) == 0) was (none (name_of q))
            (ap (λ n. n == 0)
            (users_same (bytes (device_in old)) (bytes (device_in new)) (shape_in old) (shape_in new) carried call (name_of q))),
      );
  others = swept.others;
}

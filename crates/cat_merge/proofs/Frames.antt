-- What calls that only read leave as it is.
use Rattle.std.proofs.Common.{◌≡◌, ◌∙◌, refl}
use Rattle.cat_directory.specs.declared.name.FileName.{FileName}
use Rattle.cat_directory.specs.Devices.{FileContent}
use Rattle.cat_directory.specs.Frames.{OnlyReads}
use Rattle.cat_ledger_laws.specs.shape.Ties.{ToldFiles}
use Rattle.cat_merge.proofs.files.Ranges.{as_one}

module _ {S : Type 0} {bytes : S → ToldFiles} {may_leave : S → FileName → FileContent → Type 0} {can_fail : S → Type 0} where
  -- no call at all
  pub reads_none : {a : S} → OnlyReads bytes may_leave can_fail a a
  reads_none = record {
    same = λ q. refl;
    crash = λ q e left. left;
    can = λ fails. fails;
  }

  -- one such call after another
  pub reads_on : {a b c : S} → OnlyReads bytes may_leave can_fail a b → OnlyReads bytes may_leave can_fail b c → OnlyReads bytes may_leave can_fail a c
  reads_on first second = record {
    same = λ q. second.same q ∙ first.same q;
    crash = λ q e left. first.crash q e (second.crash q e left);
    can = λ fails. first.can (second.can fails);
  }

  -- what is told of all files
  pub told_before : {a b : S} → OnlyReads bytes may_leave can_fail a b → bytes b ≡ bytes a
  told_before {a} {b} frame = as_one (bytes a) (bytes b) frame.same

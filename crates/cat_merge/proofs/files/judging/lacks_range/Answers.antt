use Rattle.std.proofs.Common.{◌≡◌, ◌+◌, ◌<◌, true, false, subst}
use Rattle.cat_directory.specs.Devices.{ReadingCount}
use Rattle.cat_merge.proofs.files.Ranges.{not_before}
use Rattle.cat_merge.proofs.files.judging.lacks_range.Goals as goal

pub returns-in-Ok : goal.returns-in-Ok
returns-in-Ok g c = record {
  cut = λ is bytes there. subst (λ n. n < c.args.range.now.offset + c.args.range.now.len) (c.in-Ok.ensures.ok bytes there) (c.ends_before.ensures.0 is);
  reached = λ is. (
    c.in-Ok.ensures.absent,
    λ bytes there. not_before c.ends_before.result c.in-Ok.size _ _ c.ends_before.ensures.1 is (c.in-Ok.ensures.ok bytes there),
  );
  device = tt;
  frame = record { same = c.in-Ok.ensures.same; crash = c.in-Ok.ensures.crash; can = c.in-Ok.ensures.can };
  counted = c.in-Ok.ensures.counted;
}

pub returns-in-Err-Damaged : goal.returns-in-Err-Damaged
returns-in-Err-Damaged g c = record {
  cut = λ is bytes there. absurd (c.in-Err-Damaged.ensures.damaged c.in-Err-Damaged.field-0-is bytes there);
  reached = λ is. absurd (let no : true ≡ false = is in cc);
  device = tt;
  frame = record { same = c.in-Err-Damaged.ensures.same; crash = c.in-Err-Damaged.ensures.crash; can = c.in-Err-Damaged.ensures.can };
  counted = subst (ReadingCount (g.S.Holder.fault_count c.args.shelf.now) (g.S.Holder.fault_count c.size.new.self)) c.in-Err-Damaged.field-0-is c.in-Err-Damaged.ensures.counted;
}

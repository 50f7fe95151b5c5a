use Rattle.std.proofs.Common.{◌≡◌, ◌∙◌, sym}
use Rattle.cat_base.specs.declared.refusal.Refusal.TheVariants.{Damaged, Device, Memory}
use Rattle.cat_merge.proofs.files.judging.why_unread.Goals as goal

pub returns-in-Ok-true : goal.returns-in-Ok-true
returns-in-Ok-true g c = record {
  damaged = λ is. c.in-Ok-true.ensures.cut c.in-Ok-true.field-0-test;
  due = λ is. absurd (let no : Damaged ≡ Memory = is in cc);
  device = λ is. absurd (let no : Damaged ≡ Device = is in cc);
  frame = c.in-Ok-true.ensures.frame;
  counted = c.in-Ok-true.ensures.counted;
}

pub returns-in-Ok-false : goal.returns-in-Ok-false
returns-in-Ok-false g c = record {
  damaged = λ is. absurd (let no : Memory ≡ Damaged = is in cc);
  due = λ is. c.in-Ok-false.ensures.reached c.in-Ok-false.field-0-test;
  device = λ is. absurd (let no : Memory ≡ Device = is in cc);
  frame = c.in-Ok-false.ensures.frame;
  counted = c.in-Ok-false.ensures.counted;
}

pub returns-in-Err : goal.returns-in-Err
returns-in-Err g c = record {
  damaged = λ is. absurd (let no : Device ≡ Damaged = sym c.in-Err.ensures.device.0 ∙ is in cc);
  due = λ is. absurd (let no : Device ≡ Memory = sym c.in-Err.ensures.device.0 ∙ is in cc);
  device = λ is. c.in-Err.ensures.device.1;
  frame = c.in-Err.ensures.frame;
  counted = c.in-Err.ensures.counted;
}

use Rattle.std.proofs.Common.{◌≡◌, ◌++◌, ap, ◌∙◌, rules}
use Rattle.std.specs.List.{flat_map}
use Rattle.cat_base.specs.Bytes.{spelled_u32}
use Rattle.cat_items.proofs.file_parts.Puts.{put_more, put_all}
use Rattle.cat_items.proofs.file_parts.writing.put_numbers.Goals as goal

pub loop-number-preserved : goal.loop-number-preserved
loop-number-preserved c =
    put_more spelled_u32 c.args.numbers.now c.loop-number.number-index 0 c.reserve.new.self.items c.loop-number.out.items c.put_u32.new.out.items c.loop-number-test.true
    c.in_ok-put_u32.ensures.ok c.loop-number.invariant

pub returns : goal.returns
returns c =
    let numbers = c.args.numbers.now in
    let same : c.reserve.new.self.items ≡ c.args.out.now.items = search rules in
    put_all spelled_u32 numbers c.loop-number.number-index c.reserve.new.self.items c.loop-number.out.items c.loop-number-test.false c.loop-number.invariant
    ∙ ap (λ l. l ++ flat_map spelled_u32 numbers) same

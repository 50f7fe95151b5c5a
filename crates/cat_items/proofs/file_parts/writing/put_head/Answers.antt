use Rattle.std.proofs.lemmas.Result.{on_ok_weaker}
use Rattle.cat_base.specs.Bytes.{spelled_bytes, spelled_u32, spelled_u64}
use Rattle.cat_items.proofs.file_parts.Puts.{put_three}
use Rattle.cat_items.proofs.file_parts.writing.put_head.Goals as goal

pub returns : goal.returns
returns c =
    on_ok_weaker c.put_u32.result (λ last.
    put_three c.args.out.now.items c.put_u64.new.out.items c.put_text.new.out.items c.put_u32.new.out.items (spelled_u64 c.args.number) (spelled_bytes c.args.id.now) (spelled_u32 c.args.length)
    c.in_ok-put_u64.ensures.ok c.in_ok-put_text.ensures last) c.put_u32.ensures.ok

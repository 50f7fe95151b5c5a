use Rattle.std.proofs.Common.{◌≡◌, [], ◌∷◌, ◌++◌, codes, ap, ◌∙◌, rules}
use Rattle.std.proofs.lemmas.Result.{on_ok_weaker}
use Rattle.cat_base.specs.Bytes.{spelled_u32, spelled_u64}
use Rattle.cat_items.proofs.file_parts.Puts.{put_four}
use Rattle.cat_items.proofs.file_parts.writing.put_start.Goals as goal

pub returns : goal.returns
returns c =
    let old = c.args.out.now.items in
    let magic : spelled_u32 1129530695 ≡ codes "CSEG" = search rules in
    on_ok_weaker c.put_u32-2.result (λ last.
    put_four old c.put_u32.new.out.items c.push.new.self.items c.put_u64.new.out.items c.put_u32-2.new.out.items (codes "CSEG") (1 ∷ []) (spelled_u64 c.args.number) (spelled_u32 c.args.rows)
    (c.in_ok-put_u32.ensures.ok ∙ ap (λ l. old ++ l) magic) c.in_ok-push.ensures.items c.in_ok-put_u64.ensures.ok last) c.put_u32-2.ensures.ok

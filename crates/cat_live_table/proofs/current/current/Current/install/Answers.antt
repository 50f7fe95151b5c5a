use Rattle.std.proofs.Common.{◌≡◌, ◌≢◌, ◌+◌, ◌++◌, List, length, take, drop, option_to_list, hash_map_len, nat_eq, AllPairs, sym, ap, ◌∙◌, subst, arith}
use Rattle.std.specs.HashMap.{get, get_by_text}
use Rattle.std.specs.List.{flat_map}
use Rattle.std.proofs.lemmas.Grind.{common_steps, elements}
use Rattle.cat_model.specs.View.{Leaf, live_rows}
use Rattle.cat_ledger_laws.specs.model.Leaves.{AreLeaves}
use Rattle.cat_live_table.specs.current.Indices.{index_in}
use Rattle.cat_live_table.specs.current.Currents.{IsCurrent}
use Rattle.cat_live_table.proofs.current.Installed.{three_parts, put_together, installed}
use Rattle.cat_live_table.proofs.current.current.Current.install.Goals as goal

pub index_all-requires-clause-apart : goal.index_all-requires-clause-apart
index_all-requires-clause-apart c =
    let i = c.args.index in
    let k = c.args.count in
    let ts = option_to_list c.args.merged in
    let whole : c.append.new.leaves.items ≡ take c.args.index c.self.inside.leaves.items ++ (option_to_list c.args.merged ++ drop (c.args.index + c.args.count) c.self.inside.leaves.items) =
    put_together c.self.inside.leaves.items c.split_off.new.self.items c.truncate.new.self.items c.in_ok-behind.behind.items ts c.append.new.leaves.items i k c.in_ok-behind.ensures.items
    c.in_ok-behind.ensures.tail c.truncate.ensures.items c.append.ensures in
    let stands : AreLeaves (take i c.self.inside.leaves.items ++ (ts ++ drop (i + k) c.self.inside.leaves.items)) =
    subst (λ (ls : List Leaf). AreLeaves (take i ls ++ (ts ++ drop (i + k) ls))) (sym c.self.view_is) c.requires.stands in
    subst (λ (ls : List Leaf). AllPairs (λ (a b : Leaf). a.segment.number ≢ b.segment.number) ls) (sym (c.deref.ensures.value ∙ whole)) stands.numbers

pub invariant_of-self-2 : goal.invariant_of-self-2
invariant_of-self-2 c =
    let leaves = c.self.inside.leaves.items in
    let i = c.args.index in
    let k = c.args.count in
    let ts = option_to_list c.args.merged in
    let whole : c.append.new.leaves.items ≡ take c.args.index c.self.inside.leaves.items ++ (option_to_list c.args.merged ++ drop (c.args.index + c.args.count) c.self.inside.leaves.items) =
    put_together c.self.inside.leaves.items c.split_off.new.self.items c.truncate.new.self.items c.in_ok-behind.behind.items ts c.append.new.leaves.items i k c.in_ok-behind.ensures.items
    c.in_ok-behind.ensures.tail c.truncate.ensures.items c.append.ensures in
    let stands : AreLeaves (take i c.self.inside.leaves.items ++ (ts ++ drop (i + k) c.self.inside.leaves.items)) =
    subst (λ (ls : List Leaf). AreLeaves (take i ls ++ (ts ++ drop (i + k) ls))) (sym c.self.view_is) c.requires.stands in
    let was = subst (IsCurrent (get_by_text c.self.inside.places) (get nat_eq c.self.inside.indices) (hash_map_len c.self.inside.indices)) (three_parts leaves i k) c.self.invariant in
    let rows : flat_map live_rows ts ≡ flat_map live_rows (take k (drop i leaves)) =
    c.requires.rows ∙ ap (λ (ls : List Leaf). flat_map live_rows (take k (drop i ls))) (sym c.self.view_is) in
    rw whole (installed _ _ _ _ _ _ (take i leaves) (take k (drop i leaves)) ts (drop (i + k) leaves) was stands rows c.move_any.ensures
    (λ n. c.index_all.ensures.indexed n ∙ ap (index_in n) (c.deref.ensures.value ∙ whole))
    (c.index_all.ensures.counted ∙ ap (λ (ls : List Leaf). length ls) (c.deref.ensures.value ∙ whole)))

pub index_all-requires-clause-room : goal.index_all-requires-clause-room
index_all-requires-clause-room c = grind (arith, common_steps)

pub returns-clause-ok : goal.returns-clause-ok
returns-clause-ok c = grind (arith, elements)

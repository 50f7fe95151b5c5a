-- What a write makes of a shape.
use Rattle.std.proofs.Common.{◌≡◌, ℕ, ◌+◌, ◌-◌, ◌≤◌, Bool, not, ◌&&◌, List, [], ◌∷◌, ◌++◌, cond, length, take, refl, sym, ◌∙◌, ap, ap₂, arith}
use Rattle.std.proofs.lemmas.List.{length-map}
use Rattle.cat_model.specs.Item.{Item, Record}
use Rattle.cat_model.specs.Write.{Write, removes}
use Rattle.cat_model.specs.Table.{without, put_last, after}
use Rattle.cat_model.specs.View.{Row, Leaf, item_in}
use Rattle.cat_ledger_laws.specs.model.Leaves.{live_rows_after, leaf_after, leaves_after}
use Rattle.cat_ledger_laws.specs.shape.Shapes.{Shape}
use Rattle.cat_ledger_laws.specs.shape.Steps.{with_write}
use Rattle.cat_ledger_state.proofs.Flushing.{without_last}

-- ---- an item that is put takes out what a delete of its id does

live_alike : (i : Item) (bs : List Bool) (rs : List Row) → live_rows_after (Write.put i) bs rs ≡ live_rows_after (Write.delete i.id) bs rs
live_alike i [] rs = refl
live_alike i (b ∷ bs) [] = refl
live_alike i (b ∷ bs) (r ∷ rs) = ap (λ l. (b && not (removes (Write.put i) (item_in r))) ∷ l) (live_alike i bs rs)

pub leaves_alike : (i : Item) (leaves : List Leaf) → leaves_after (Write.put i) leaves ≡ leaves_after (Write.delete i.id) leaves
leaves_alike i [] = refl
leaves_alike i (leaf ∷ leaves) =
    ap₂ (λ live ls. record leaf { live = live } ∷ ls) (live_alike i leaf.live leaf.segment.rows) (leaves_alike i leaves)

without_alike : (i : Item) (rs : List Record) → without rs (Write.put i) ≡ without rs (Write.delete i.id)
without_alike i [] = refl
without_alike i (r ∷ rs) = ap (λ l. cond (not (removes (Write.put i) r.item)) (r ∷ l) l) (without_alike i rs)

-- ---- done

pub put_is : (s : Shape) (i : Item) (id : List ℕ) (leaves' : List Leaf) (buffered' : List Record) → id ≡ i.id
    → buffered' ≡ after s.buffered (s.count + 1) (Write.put i) → leaves' ≡ leaves_after (Write.delete id) s.leaves
    → record s { leaves = leaves'; buffered = buffered'; count = s.count + 1 } ≡ with_write s (Write.put i)
put_is s i id leaves' buffered' same buffered leaves =
    ap₂ (λ ls bs. record s { leaves = ls; buffered = bs; count = s.count + 1 })
    (leaves ∙ ap (λ t. leaves_after (Write.delete t) s.leaves) same ∙ sym (leaves_alike i s.leaves)) buffered

pub delete_is : (s : Shape) (w : Write) (leaves' : List Leaf) (buffered' : List Record) → leaves' ≡ leaves_after w s.leaves → buffered' ≡ without s.buffered w
    → put_last (without s.buffered w) (s.count + 1) w ≡ without s.buffered w
    → record s { leaves = leaves'; buffered = buffered'; count = s.count + 1 } ≡ with_write s w
delete_is s w leaves' buffered' leaves buffered none =
    ap₂ (λ ls bs. record s { leaves = ls; buffered = bs; count = s.count + 1 }) leaves (buffered ∙ sym none)

pub leaves_few : (w : Write) (leaves : List Leaf) (n : ℕ) → length leaves ≤ n → length (leaves_after w leaves) ≤ n
leaves_few w leaves n few = omega (arith, few, length-map leaves (leaf_after w))

-- ---- taken back

-- an item that took no other's place goes again
pub put_undone : (rs buffered' popped : List Record) (n : ℕ) (i : Item) → without rs (Write.delete i.id) ≡ rs
    → buffered' ≡ after rs n (Write.put i) → popped ≡ take (length buffered' - 1) buffered' → popped ≡ rs
put_undone rs buffered' popped n i alone put pop =
    let is : buffered' ≡ rs ++ record { number = n; item = i } ∷ [] = put ∙ ap (λ l. l ++ record { number = n; item = i } ∷ []) (without_alike i rs ∙ alone) in
    pop ∙ ap (λ l. take (length l - 1) l) is ∙ without_last rs (record { number = n; item = i })

pub taken_back : (s : Shape) (leaves' : List Leaf) (buffered' : List Record) → leaves' ≡ s.leaves → buffered' ≡ s.buffered
    → record s { leaves = leaves'; buffered = buffered' } ≡ s
taken_back s leaves' buffered' leaves buffered = ap₂ (λ ls bs. record s { leaves = ls; buffered = bs }) leaves buffered

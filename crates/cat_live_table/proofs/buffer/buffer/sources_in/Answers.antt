use Rattle.std.proofs.Common.{◌≡◌, ◌∙◌, ℕ, List, ◌∷◌, ◌++◌, ap, append_assoc, rules, sym}
use Rattle.cat_model.specs.Item.{Item, Record}
use Rattle.cat_live_table.specs.buffer.Buffered.{sources_of}
use Rattle.cat_live_table.proofs.buffer.buffer.sources_in.Goals as goal

-- with the text of one record more
one_more : (before after text all : List ℕ) (left next : List Record) (r : Record) → left ≡ r ∷ next → after ≡ before ++ text → text ≡ r.item.source
    → before ++ sources_of left ≡ all → after ++ sources_of next ≡ all
one_more before after text all left next r step grown is so_far =
    ap (λ (l : List ℕ). l ++ sources_of next) (grown ∙ ap (λ (t : List ℕ). before ++ t) is) ∙ append_assoc before r.item.source (sources_of next)
    ∙ ap (λ (rs : List Record). before ++ sources_of rs) (sym step) ∙ so_far

pub loop-record-preserved : goal.loop-record-preserved
loop-record-preserved c =
    let step : c.loop-record.record-iterator ≡ c.in-Some.record.now ∷ c.next.new.self = search rules in
    one_more c.loop-record.sources.items c.extend_from_slice.new.self.items c.source.result.now _ c.loop-record.record-iterator c.next.new.self c.in-Some.record.now step
    c.in_ok-extend_from_slice.ensures.items (c.source.ensures.value ∙ ap (λ (item : Item). item.source) c.item.ensures) c.loop-record.invariant

use Rattle.std.proofs.Common.{◌+◌, ◌*◌, None, ap, eqb, sym, ◌∙◌}
use Rattle.std.proofs.lemmas.Bool.{true≢false}
use Rattle.std.proofs.lemmas.Nat.Bits.{bit_at_ones}
use Rattle.std.specs.Prelude.{slice_index_or}
use Rattle.cat_search.proofs.Bars.{out_of_range}
use Rattle.cat_search.proofs.number_bar.NumberBar.lets_in_of.Goals as goal

pub returns-then-self : goal.returns-then-self
returns-then-self c = λ i below none. absurd (true≢false (sym (ap (λ n. eqb n 1) (bit_at_ones 64 i below)) ∙ none))

pub returns : goal.returns
returns c = λ i below none.
    out_of_range c.args.self (slice_index_or c.args.column.now (64 * c.args.block + i) None) _ c.if-self.false (λ n there. c.block_between.ensures.numbers i n below there) none

use Rattle.std.proofs.Common.{◌≡◌, ◌<◌, length, rules, sym, ◌∙◌}
use Rattle.std.proofs.lemmas.Bool.{true≢false}
use Rattle.std.proofs.lemmas.Slice.Eq.{bytes_eq-Decides}
use Rattle.cat_model.specs.Ordinals.{text_at}
use Rattle.cat_columns.proofs.dictionary.Dictionary.ordinal_if.Goals as goal

pub returns-then-eq : goal.returns-then-eq
returns-then-eq c =
    let here : (c.args.ordinal < length c.args.self.now) × (text_at c.args.self.now c.args.ordinal ≡ c.in_ok-other.other.now) = search rules in
    record {
      some = (here.0, here.1 ∙ sym c.as_str.ensures ∙ (bytes_eq-Decides c.as_str.result.now c.args.text.now).0 (sym c.if-eq.ensures));
      none = λ e within same. cc;
    }

pub returns-else-eq : goal.returns-else-eq
returns-else-eq c =
    let here : text_at c.args.self.now c.args.ordinal ≡ c.in_ok-other.other.now = search rules in
    record {
      some = tt;
      none = λ _ within same. true≢false (sym ((bytes_eq-Decides c.as_str.result.now c.args.text.now).1 (c.as_str.ensures ∙ sym here ∙ same)) ∙ sym c.if-eq.ensures);
    }

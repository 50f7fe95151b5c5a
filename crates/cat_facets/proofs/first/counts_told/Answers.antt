use Rattle.std.proofs.Common.{◌≡◌, ℕ, ◌+◌, ◌<◌, List, [], ◌∷◌, ◌++◌, length, get_or, map, take, sym, ap, ◌∙◌}
use Rattle.std.proofs.lemmas.List.{map_more, take_all}
use Rattle.cat_model.specs.Facets.{Counted}
use Rattle.cat_model.specs.Ordinals.{text_at}
use Rattle.cat_model.specs.Text.{Text}
use Rattle.cat_facets.specs.declared.first.Ranked.{Ranked}
use Rattle.cat_facets.specs.Met.{label_told}
use Rattle.cat_facets.proofs.first.counts_told.Goals as goal

-- one label more
told_more : (labels : List Text) (ranked : List Ranked) (i : ℕ) (d : Ranked) (old new : List Counted) (x : Counted) (t : Text) → i < length ranked
    → old ≡ map (label_told labels) (take i ranked) → new ≡ old ++ x ∷ [] → x ≡ record { count = (get_or ranked i d).count.0; label = t } → t ≡ text_at labels (get_or ranked i d).ordinal
    → new ≡ map (label_told labels) (take (i + 1) ranked)
told_more labels ranked i d old new x t lt before now is text =
    let told : x ≡ label_told labels (get_or ranked i d) = is ∙ (λ j. record { count = (get_or ranked i d).count.0; label = text j }) in
    now ∙ ap (λ (xs : List Counted). xs ++ x ∷ []) before ∙ ap (λ (y : Counted). map (label_told labels) (take i ranked) ++ y ∷ []) told ∙ sym (map_more (label_told labels) ranked i d lt)

pub text-requires : goal.text-requires
text-requires c = c.requires c.loop-each.each-index (record { count = record { 0 = 0 }; ordinal = 0 }) c.loop-each-test.true

pub loop-each-preserved : goal.loop-each-preserved
loop-each-preserved c =
    told_more c.args.labels.now c.args.ranked.now c.loop-each.each-index (record { count = record { 0 = 0 }; ordinal = 0 }) c.loop-each.counts.items c.push.new.self.items c.new.result c.in_ok-label.label
    c.loop-each-test.true c.loop-each.invariant c.in_ok-push.ensures.items c.new.ensures (c.in_ok-label.ensures.ok ∙ c.text.ensures)

pub returns : goal.returns
returns c = record { ok = c.loop-each.invariant ∙ ap (map (label_told c.args.labels.now)) (take_all c.loop-each.each-index c.args.ranked.now c.loop-each-test.false) }

use Rattle.std.proofs.Common.{[], ◌∷◌, ◌++◌, List, refl, sym, ap, ◌∙◌, subst, arith}
use Rattle.cat_merge.specs.Ranges.{AreRangesApart, AreWithin}
use Rattle.cat_merge.specs.declared.sources.SourceRange.{SourceRange}
use Rattle.cat_merge.proofs.Ranges.{apart_joined, apart_pushed, within_joined, within_pushed}
use Rattle.cat_merge.proofs.sources.add_range.Goals as goal

pub returns-in_ok-push-in-Some-joined-clause-apart : goal.returns-in_ok-push-in-Some-joined-clause-apart
returns-in_ok-push-in-Some-joined-clause-apart c = λ are.
    subst AreRangesApart (sym c.in_ok-push-in-Some-joined.ensures.items)
    (apart_joined c.pop.new.self.items c.in-Some.last c.in-Some-joined.both c.in-Some-joined.ensures.start.0 c.in-Some-joined.ensures.start.1 (omega (arith, c.in-Some-joined.ensures.len))
    (subst AreRangesApart c.in-Some.ensures.items are))

pub returns-in_ok-push-in-Some-joined-clause-within : goal.returns-in_ok-push-in-Some-joined-clause-within
returns-in_ok-push-in-Some-joined-clause-within c = λ inputs are is.
    subst (AreWithin inputs) (sym c.in_ok-push-in-Some-joined.ensures.items)
    (within_joined inputs c.pop.new.self.items c.in-Some.last c.args.next c.in-Some-joined.both c.in-Some-joined.ensures.end.0 c.in-Some-joined.ensures.end.1
    (subst (AreWithin inputs) c.in-Some.ensures.items are) is)

pub returns-in_ok-push-in-None-joined-2-clause-apart : goal.returns-in_ok-push-in-None-joined-2-clause-apart
returns-in_ok-push-in-None-joined-2-clause-apart c = λ are.
    subst AreRangesApart (sym (c.in_ok-push-in-None-joined-2.ensures.items ∙ ap (λ (l : List SourceRange). l ++ c.args.next ∷ []) c.in_ok-push-in-None-joined.ensures.items))
    (apart_pushed c.pop.new.self.items c.in-Some.last c.args.next (subst AreRangesApart c.in-Some.ensures.items are) (c.in-None-joined.ensures.none refl))

pub returns-in_ok-push-in-None-joined-2-clause-within : goal.returns-in_ok-push-in-None-joined-2-clause-within
returns-in_ok-push-in-None-joined-2-clause-within c = λ inputs are is.
    subst (AreWithin inputs) (sym (c.in_ok-push-in-None-joined-2.ensures.items ∙ ap (λ (l : List SourceRange). l ++ c.args.next ∷ []) c.in_ok-push-in-None-joined.ensures.items))
    (within_pushed inputs (c.pop.new.self.items ++ c.in-Some.last ∷ []) c.args.next (subst (AreWithin inputs) c.in-Some.ensures.items are) is)

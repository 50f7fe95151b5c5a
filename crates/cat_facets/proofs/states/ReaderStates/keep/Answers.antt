use Rattle.std.proofs.Common.{◌≡◌, ◌∙◌, ◌<◌, ◌-◌, ℕ, List, [], ◌∷◌, ◌++◌, length, ap, sym, arith, length-append}
use Rattle.std.specs.Prelude.{drop}
use Rattle.std.specs.List.{remove}
use Rattle.cat_facets.specs.Kept.{last_kept, most_kept}
use Rattle.cat_facets.specs.States.{ReaderState}
use Rattle.cat_facets.proofs.states.ReaderStates.keep.Goals.{then-len-ge-MAX_KEPT_STATES, else-len-ge-MAX_KEPT_STATES}
use Rattle.cat_facets.proofs.states.ReaderStates.keep.Goals as goal

-- where all places are taken, the first goes
first_out : (old : List ReaderState) (k : ReaderState) → length old ≡ most_kept → remove old 0 ++ k ∷ [] ≡ last_kept (old ++ k ∷ [])
first_out [] k full = absurd (omega (arith, full))
first_out (x ∷ xs) k full =
    let one : length ((x ∷ xs) ++ k ∷ []) - most_kept ≡ 1 = omega (arith, full, length-append (x ∷ xs) (k ∷ [])) in
    sym (ap (λ (n : ℕ). drop n ((x ∷ xs) ++ k ∷ [])) one)

-- where a place is free, none goes
none_out : (old : List ReaderState) (k : ReaderState) → length old < most_kept → old ++ k ∷ [] ≡ last_kept (old ++ k ∷ [])
none_out old k free =
    let none : length (old ++ k ∷ []) - most_kept ≡ 0 = omega (arith, free, length-append old (k ∷ [])) in
    sym (ap (λ (n : ℕ). drop n (old ++ k ∷ [])) none)

pub returns : goal.returns
returns c = elim c.if-len-ge-MAX_KEPT_STATES.branch [
  | then-len-ge-MAX_KEPT_STATES w ↦
      c.push_reserved.ensures.items ∙ ap (λ s. s.states.items ++ c.args.kept ∷ []) w.self-inside-is
      ∙ ap (λ (ks : List ReaderState). ks ++ c.args.kept ∷ []) (w.remove.ensures.items ∙ ap (λ (ks : List ReaderState). remove ks 0) c.self.view_is)
      ∙ first_out c.args.self.now c.args.kept (omega (arith, c.self.invariant.0, w.if-len-ge-MAX_KEPT_STATES.true, c.len.ensures, ap (λ (ks : List ReaderState). length ks) c.self.view_is))
  | else-len-ge-MAX_KEPT_STATES w ↦
      c.push_reserved.ensures.items ∙ ap (λ s. s.states.items ++ c.args.kept ∷ []) w.self-inside-is
      ∙ ap (λ (ks : List ReaderState). ks ++ c.args.kept ∷ []) c.self.view_is
      ∙ none_out c.args.self.now c.args.kept (omega (arith, w.if-len-ge-MAX_KEPT_STATES.false, c.len.ensures, ap (λ (ks : List ReaderState). length ks) c.self.view_is))
]

-- The indices of the leaves that are noted one after another.
use Rattle.std.proofs.Common.{◌≡◌, ◌≢◌, ℕ, suc, ◌+◌, ◌<◌, List, [], ◌∷◌, ◌++◌, length, take, drop, get_or, cond, Some, None, option_map, eqb, sym, refl, ap, ◌∙◌, subst, arith, AllPairs}
use Rattle.std.specs.List.{AllByRecursion}
use Rattle.std.proofs.lemmas.Bool.{ne_eqb}
use Rattle.std.proofs.lemmas.List.{take_more, take-append-drop, length-take}
use Rattle.cat_model.specs.View.{Leaf}
use Rattle.cat_model.proofs.Places.{EachPair, each_pair}
use Rattle.cat_views.proofs.Selected.{Pairs-left}
use Rattle.cat_live_table.specs.current.Indices.{index_in}
use Rattle.cat_live_table.proofs.current.Standing.{earlier}
use Rattle.cat_live_table.proofs.current.Currents.{index_push}

abbrev Apart : Leaf → Leaf → Type 0
Apart a b = a.segment.number ≢ b.segment.number

parts : (leaves : List Leaf) (i : ℕ) (leaf : Leaf) → i < length leaves → leaf ≡ get_or leaves i leaf → take (i + 1) leaves ≡ take i leaves ++ leaf ∷ []
parts leaves i leaf h at = take_more leaves i leaf h ∙ ap (λ (l : Leaf). take i leaves ++ l ∷ []) (sym at)

-- those before it have other numbers
others : (leaves : List Leaf) (i : ℕ) (leaf : Leaf) → i < length leaves → leaf ≡ get_or leaves i leaf → AllPairs Apart leaves → AllByRecursion (λ l. Apart l leaf) (take i leaves)
others leaves i leaf h at apart =
    let front : EachPair Apart (take (i + 1) leaves) =
    Pairs-left Apart (take (i + 1) leaves) (drop (i + 1) leaves) (subst (EachPair Apart) (sym (take-append-drop (i + 1) leaves)) (each_pair Apart leaves apart)) in
    earlier Apart (take i leaves) leaf [] (subst (EachPair Apart) (parts leaves i leaf h at) front)

unnumbered : (n : ℕ) (leaves : List Leaf) → AllByRecursion (λ l. l.segment.number ≢ n) leaves → index_in n leaves ≡ None
unnumbered n [] a = refl
unnumbered n (l ∷ ls) a = rw (ne_eqb l.segment.number n a.0) (ap (option_map suc) (unnumbered n ls a.1))

pub not-yet : (leaves : List Leaf) (i : ℕ) (leaf : Leaf) → i < length leaves → leaf ≡ get_or leaves i leaf → AllPairs Apart leaves
    → index_in leaf.segment.number (take i leaves) ≡ None
not-yet leaves i leaf h at apart = unnumbered leaf.segment.number (take i leaves) (others leaves i leaf h at apart)

pub index-more : (leaves : List Leaf) (i n : ℕ) (leaf : Leaf) → i < length leaves → leaf ≡ get_or leaves i leaf → AllPairs Apart leaves
    → cond (eqb leaf.segment.number n) (Some i) (index_in n (take i leaves)) ≡ index_in n (take (i + 1) leaves)
index-more leaves i n leaf h at apart =
    let cut = length-take i leaves in
    let long : length (take i leaves) ≡ i = omega (arith, cut, h) in
    ap (λ (k : ℕ). cond (eqb leaf.segment.number n) (Some k) (index_in n (take i leaves))) (sym long)
    ∙ index_push n (take i leaves) leaf (others leaves i leaf h at apart)
    ∙ ap (index_in n) (sym (parts leaves i leaf h at))

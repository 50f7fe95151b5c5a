use Rattle.std.proofs.Common.{◌≡◌, ◌∙◌, ℕ, ◌+◌, ◌<◌, List, [], ◌∷◌, ◌++◌, get_or, length, take, ap, sym, append_assoc, append-nil}
use Rattle.std.specs.Prelude.{map}
use Rattle.std.specs.List.{flat_map}
use Rattle.std.proofs.lemmas.List.{map_push, take_more}
use Rattle.std.proofs.lemmas.List.Concat.{flat_map-append}
use Rattle.cat_model.specs.View.{Leaf}
use Rattle.cat_directory.specs.Names.{name_of}
use Rattle.cat_directory.specs.declared.name.FileName.{FileName}
use Rattle.cat_directory.specs.declared.name.FileName.TheVariants as file
use Rattle.cat_views.specs.Views.{leaf_names}
use Rattle.cat_views.proofs.view.files_of.Goals as goal

-- with the two names of one leaf more
two_more : (leaves : List Leaf) (i : ℕ) (leaf : Leaf) (n : ℕ) (before between names : List FileName) → i < length leaves → leaf ≡ get_or leaves i leaf → n ≡ leaf.segment.number
    → between ≡ before ++ file.Segment n ∷ [] → names ≡ between ++ file.Source n ∷ [] → map name_of before ≡ flat_map leaf_names (take i leaves)
    → map name_of names ≡ flat_map leaf_names (take (i + 1) leaves)
two_more leaves i leaf n before between names within is number first second so_far =
    let pushed = ap (map name_of) second ∙ map_push name_of between (file.Source n) in
    let both = pushed ∙ ap (λ l. l ++ name_of (file.Source n) ∷ []) (ap (map name_of) first ∙ map_push name_of before (file.Segment n)) in
    let joined = both ∙ append_assoc (map name_of before) (name_of (file.Segment n) ∷ []) (name_of (file.Source n) ∷ []) in
    let own = ap (λ m. name_of (file.Segment m) ∷ name_of (file.Source m) ∷ []) number ∙ ap leaf_names is in
    let more = ap (flat_map leaf_names) (take_more leaves i leaf within) ∙ flat_map-append leaf_names (take i leaves) (get_or leaves i leaf ∷ []) in
    joined ∙ ap (λ l. l ++ name_of (file.Segment n) ∷ name_of (file.Source n) ∷ []) so_far ∙ ap (λ l. flat_map leaf_names (take i leaves) ++ l) (own ∙ sym (append-nil (leaf_names (get_or leaves i leaf)))) ∙ sym more

pub loop-leaf-preserved : goal.loop-leaf-preserved
loop-leaf-preserved c =
    two_more c.args.leaves.now c.loop-leaf.leaf-index c.leaf-item.result c.number-number.result c.loop-leaf.names.items c.push.new.self.items c.push-in-loop-leaf.new.self.items
    c.loop-leaf-test.true c.leaf-item.is (c.number-number.ensures ∙ ap (λ s. s.number) c.segment.ensures)
    c.in_ok-push.ensures.items c.in_ok-push-2.ensures.items c.loop-leaf.invariant

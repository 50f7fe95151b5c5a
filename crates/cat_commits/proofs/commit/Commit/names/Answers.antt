use Rattle.std.proofs.lemmas.Result.{IfOk-from_err}
use Rattle.std.proofs.Common.{◌≡◌, ℕ, List, ◌+◌, ◌++◌, ◌∷◌, map, take, sym, ap, ◌∙◌, rules}
use Rattle.std.specs.List.{flat_map}
use Rattle.std.proofs.lemmas.List.{take_all}
use Rattle.cat_directory.specs.Names.{name_of}
use Rattle.cat_model.specs.Files.{Name}
use Rattle.cat_model.specs.CommitFile.{ListedSegment, listed_names}
use Rattle.cat_commits.proofs.Lists.{flat_map_more}
use Rattle.cat_commits.proofs.commit.Commit.names.Goals as goal

pub loop-segment-preserved : goal.loop-segment-preserved
loop-segment-preserved c =
    let xs : List ListedSegment = c.deref-segment-items.result.now in
    let same : xs ≡ c.args.self.now.segments = search rules in
    let own : Name = Name.commit c.args.self.now.generation in
    let i : ℕ = c.loop-segment.segment-index in
    let so_far : map name_of c.loop-segment.names.items ≡ own ∷ flat_map listed_names (take i xs)
    = c.loop-segment.invariant ∙ ap (λ (l : List ListedSegment). own ∷ flat_map listed_names (take i l)) (sym same) in
    c.in_ok-push_names.ensures
    ∙ ap (λ (l : List Name). l ++ listed_names c.segment-item.result) so_far
    ∙ ap (λ (s : ListedSegment). own ∷ (flat_map listed_names (take i xs) ++ listed_names s)) c.segment-item.is
    ∙ ap (λ (l : List Name). own ∷ l) (sym (flat_map_more listed_names xs i c.segment-item.result c.loop-segment-test.true))
    ∙ ap (λ (l : List ListedSegment). own ∷ flat_map listed_names (take (i + 1) l)) same

pub returns : goal.returns
returns c =
    let xs : List ListedSegment = c.deref-segment-items.result.now in
    let same : xs ≡ c.args.self.now.segments = search rules in
    let own : Name = Name.commit c.args.self.now.generation in
    c.loop-segment.invariant
    ∙ ap (λ (l : List ListedSegment). own ∷ flat_map listed_names (take c.loop-segment.segment-index l)) (sym same)
    ∙ ap (λ (l : List ListedSegment). own ∷ flat_map listed_names l) (take_all c.loop-segment.segment-index xs c.loop-segment-test.false ∙ same)

pub returns-in_err-push : goal.returns-in_err-push
returns-in_err-push c = IfOk-from_err _ _ c.from_residual.ensures.0

pub returns-in_err-push_names : goal.returns-in_err-push_names
returns-in_err-push_names c = IfOk-from_err _ _ c.from_residual-in_err-push_names.ensures.0

use Rattle.std.proofs.lemmas.Result.{IfOk-from_err}
use Rattle.std.proofs.Common.{◌≡◌, ◌==◌, ℕ, List, [], ◌∷◌, ◌++◌, Option, cond, map, sym, ap, ◌∙◌, append_assoc}
use Rattle.std.specs.Prelude.{unwrap_or}
use Rattle.std.proofs.lemmas.List.{map-append}
use Rattle.cat_directory.specs.Names.{name_of}
use Rattle.cat_directory.specs.declared.name.FileName.TheVariants as file
use Rattle.cat_model.specs.Files.{Name}
use Rattle.cat_commits.proofs.names.push_names.Goals as goal

pub returns-in_default : goal.returns-in_default
returns-in_default c =
    let n : ℕ = c.number-number.result in
    let s : ℕ = c.args.segment.now.number in
    let old : List Name = map name_of c.args.names.now.items in
    let none : 0 ≡ c.args.segment.now.file = ap (λ (o : Option ℕ). unwrap_or o 0) (sym c.in_default.is) ∙ c.live_file.ensures.file in
    ap (map name_of) c.in_ok-push-2.ensures.items ∙ map-append name_of c.push.new.self.items (file.Source n ∷ [])
    ∙ ap (λ (l : List Name). l ++ Name.source n ∷ []) (ap (map name_of) c.in_ok-push.ensures.items ∙ map-append name_of c.args.names.now.items (file.Segment n ∷ []))
    ∙ append_assoc old (Name.segment n ∷ []) (Name.source n ∷ [])
    ∙ ap (λ (m : ℕ). old ++ (Name.segment m ∷ Name.source m ∷ [])) c.number-number.ensures
    ∙ ap (λ (f : ℕ). old ++ (Name.segment s ∷ Name.source s ∷ cond (f == 0) [] (Name.live s f ∷ []))) none

pub returns-in_err-push : goal.returns-in_err-push
returns-in_err-push c = IfOk-from_err _ _ c.from_residual.ensures.0

pub returns-in_err-push-2 : goal.returns-in_err-push-2
returns-in_err-push-2 c = IfOk-from_err _ _ c.from_residual-in_err-push-2.ensures.0

pub returns-in_err-push-3 : goal.returns-in_err-push-3
returns-in_err-push-3 c = IfOk-from_err _ _ c.from_residual-in_err-push-3.ensures.0

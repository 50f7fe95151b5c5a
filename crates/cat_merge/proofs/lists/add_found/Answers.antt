use Rattle.std.proofs.Common.{◌≡◌, ◌∙◌, ℕ, ◌+◌, ◌<◌, List, [], ◌∷◌, ◌++◌, get_or, length, map, take, refl, ap, sym, append_assoc}
use Rattle.std.specs.Prelude.{slice_index}
use Rattle.std.proofs.lemmas.List.{map_push, take_all, take_at, take_more}
use Rattle.cat_merge.proofs.lists.add_found.Goals as goal

-- with the number of one index more
found_more : (found indices start old new : List ℕ) (i n : ℕ) → i < length indices → n ≡ slice_index found (get_or indices i 0) → new ≡ old ++ n ∷ []
    → old ≡ start ++ map (slice_index found) (take i indices) → new ≡ start ++ map (slice_index found) (take (i + 1) indices)
found_more found indices start old new i n within is e so_far =
    let more : map (slice_index found) (take (i + 1) indices) ≡ map (slice_index found) (take i indices) ++ slice_index found (get_or indices i 0) ∷ [] =
    ap (map (slice_index found)) (take_more indices i 0 within) ∙ map_push (slice_index found) (take i indices) (get_or indices i 0) in
    e ∙ ap (λ (l : List ℕ). l ++ n ∷ []) so_far ∙ append_assoc start (map (slice_index found) (take i indices)) (n ∷ [])
    ∙ ap (λ (m : ℕ). start ++ (map (slice_index found) (take i indices) ++ m ∷ [])) is ∙ ap (λ (l : List ℕ). start ++ l) (sym more)

pub loop-index-preserved : goal.loop-index-preserved
loop-index-preserved c =
    found_more c.args.found.now c.args.indices.now c.args.numbers.now.items c.loop-index.numbers.items c.push.new.self.items c.loop-index.index-index _ c.loop-index-test.true refl
    c.in_ok-push.ensures.items c.loop-index.invariant

pub returns : goal.returns
returns c =
    let old : List ℕ = c.args.numbers.now.items in
    let found : List ℕ → List ℕ = map (slice_index c.args.found.now) in
    let whole : c.loop-index.numbers.items ≡ old ++ found c.args.indices.now
    = c.loop-index.invariant ∙ ap (λ (l : List ℕ). old ++ found l) (take_all c.loop-index.index-index c.args.indices.now c.loop-index-test.false) in
    record { ok = whole; front = ap (take (length old)) whole ∙ take_at old (found c.args.indices.now) (length old) refl }

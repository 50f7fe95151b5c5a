-- Lists that stand one behind another, and where each ends.
use Rattle.std.proofs.Common.{◌≡◌, ℕ, zero, suc, ◌+◌, ◌-◌, ◌<◌, ◌≤◌, List, [], ◌∷◌, ◌++◌, length, get_or, take, drop, refl, sym, ap, ◌∙◌, arith}
use Rattle.std.proofs.lemmas.List.{length-append, length-take, drop-drop, append_assoc, take_at, drop_at}
use Rattle.std.proofs.Math.Seq.{take-add}
use Rattle.std.specs.List.{flat_map}
use Rattle.std.specs.Prelude.{All, min}
use Rattle.cat_model.specs.Layout.{pieces, AreEnds}
use Rattle.cat_columns.specs.inverted.Postings.{start_of}
use Rattle.cat_columns.specs.inverted.Gathered.{ends_from}

-- the lists one behind another
abbrev pub joined : List (List ℕ) → List ℕ
joined lists = flat_map (λ list. list) lists

pub start_is : (from : ℕ) (ends : List ℕ) (k : ℕ) → k < length ends → start_of from ends (suc k) ≡ get_or ends k 0
start_is from [] k lt = absurd (omega arith)
start_is from (e ∷ []) zero lt = refl
start_is from (e ∷ f ∷ es) zero lt = refl
start_is from (e ∷ es) (suc k) lt = start_is e es k (omega arith)

-- starts rise and stay within the whole
pub starts_above : (from : ℕ) (ends : List ℕ) (total k : ℕ) → AreEnds from ends total → from ≤ start_of from ends k
starts_above from ends total zero h = omega arith
starts_above from [] total (suc k) h = omega arith
starts_above from (e ∷ es) total (suc k) h = let above = starts_above e es total k h.1 in let lt = h.0 in omega arith

pub starts_rise : (from : ℕ) (ends : List ℕ) (total j k : ℕ) → AreEnds from ends total → j ≤ k → start_of from ends j ≤ start_of from ends k
starts_rise from ends total zero k h le = starts_above from ends total k h
starts_rise from [] total (suc j) k h le = starts_above from [] total k h
starts_rise from (e ∷ es) total (suc j) zero h le = absurd (omega arith)
starts_rise from (e ∷ es) total (suc j) (suc k) h le = starts_rise e es total j k h.1 (omega arith)

pub starts_within : (from : ℕ) (ends : List ℕ) (total k : ℕ) → AreEnds from ends total → start_of from ends k ≤ total
starts_within from [] total zero h = omega arith
starts_within from [] total (suc k) h = omega arith
starts_within from (e ∷ es) total zero h = let more = starts_within e es total zero h.1 in let lt = h.0 in omega arith
starts_within from (e ∷ es) total (suc k) h = starts_within e es total k h.1

-- a piece is the rows from its start to its end
pub piece_at : (from : ℕ) (ends rows : List ℕ) (k : ℕ) → k < length ends → get_or (pieces from ends rows) k [] ≡ take (get_or ends k 0 - start_of from ends k) (drop (start_of from ends k) rows)
piece_at from [] rows k lt = absurd (omega arith)
piece_at from (e ∷ es) rows zero lt = refl
piece_at from (e ∷ es) rows (suc k) lt = piece_at e es rows k (omega arith)

pub piece_bounds : (from : ℕ) (ends : List ℕ) (total k : ℕ) → AreEnds from ends total → k < length ends → (start_of from ends k ≤ get_or ends k 0) × (get_or ends k 0 ≤ total) × (get_or ends k 0 ≡ start_of from ends (k + 1))
piece_bounds from ends total k h lt =
    let at : start_of from ends (k + 1) ≡ get_or ends k 0 = ap (start_of from ends) (let next : k + 1 ≡ suc k = omega arith in next) ∙ start_is from ends k lt in
    let rise = starts_rise from ends total k (k + 1) h (omega arith) in
    let within = starts_within from ends total (k + 1) h in
    ((omega arith), (omega arith), sym at)

-- two parts that touch are one
touching : (rows : List ℕ) (from mid end : ℕ) → from ≤ mid → mid ≤ end → take (mid - from) (drop from rows) ++ take (end - mid) (drop mid rows) ≡ take (end - from) (drop from rows)
touching rows from mid end a b =
    let both : end - from ≡ (mid - from) + (end - mid) = omega arith in
    let at : mid ≡ from + (mid - from) = omega arith in
    ap (λ n. take (mid - from) (drop from rows) ++ take (end - mid) (drop n rows)) at
    ∙ ap (λ (l : List ℕ). take (mid - from) (drop from rows) ++ take (end - mid) l) (sym (drop-drop (mid - from) from rows))
    ∙ sym (take-add (mid - from) (end - mid) (drop from rows))
    ∙ ap (λ n. take n (drop from rows)) (sym both)

-- parts one behind another are one part of the whole
first_parts : (from : ℕ) (ends rows : List ℕ) (total count : ℕ) → AreEnds from ends total → count ≤ length ends
    → joined (take count (pieces from ends rows)) ≡ take (start_of from ends count - from) (drop from rows)
first_parts from ends rows total zero h le = ap (λ n. take n (drop from rows)) (let e : 0 ≡ from - from = omega arith in e)
first_parts from [] rows total (suc n) h le = absurd (omega arith)
first_parts from (e ∷ es) rows total (suc n) h le =
    ap (λ (l : List ℕ). take (e - from) (drop from rows) ++ l) (first_parts e es rows total n h.1 (omega arith))
    ∙ touching rows from e (start_of e es n) (let lt = h.0 in omega arith) (starts_above e es total n h.1)

pub parts_are : (from : ℕ) (ends rows : List ℕ) (total first count : ℕ) → AreEnds from ends total → first + count ≤ length ends
    → joined (take count (drop first (pieces from ends rows))) ≡ take (start_of from ends (first + count) - start_of from ends first) (drop (start_of from ends first) rows)
parts_are from ends rows total zero count h le = first_parts from ends rows total count h (omega arith) ∙ ap (λ n. take (start_of from ends n - from) (drop from rows)) (let e : count ≡ 0 + count = omega arith in e)
parts_are from [] rows total (suc f) count h le = absurd (omega arith)
parts_are from (e ∷ es) rows total (suc f) count h le = parts_are e es rows total f count h.1 (omega arith) ∙ ap (λ n. take (start_of from (e ∷ es) n - start_of e es f) (drop (start_of e es f) rows)) (let same : suc (f + count) ≡ suc f + count = omega arith in same)

-- the whole is below what each end is below
pub total_below : (from : ℕ) (ends : List ℕ) (total bound : ℕ) → from < bound → ((k : ℕ) → get_or ends k 0 < bound) → AreEnds from ends total → total < bound
total_below from [] total bound lt each h = omega arith
total_below from (e ∷ es) total bound lt each h = total_below e es total bound (each 0) (λ k. each (suc k)) h.1

-- there is a piece for each end
pub length-pieces : (from : ℕ) (ends rows : List ℕ) → length (pieces from ends rows) ≡ length ends
length-pieces from [] rows = refl
length-pieces from (e ∷ es) rows = ap suc (length-pieces e es rows)

-- where each piece has at least one row there are at least as many rows as pieces
pub few_pieces : (from : ℕ) (ends rows : List ℕ) → AreEnds from ends (length rows) → All (λ part. 0 < length part) (pieces from ends rows) → from + length ends ≤ length rows
few_pieces from [] rows h some = omega arith
few_pieces from (e ∷ es) rows h some =
    let first : 0 < length (take (e - from) (drop from rows)) = some 0 [] (omega arith) in
    let cutoff : length (take (e - from) (drop from rows)) ≡ min (e - from) (length (drop from rows)) = length-take (e - from) (drop from rows) in
    let later = few_pieces e es rows h.1 (λ k d lt. some (suc k) d (omega arith)) in
    omega arith

-- lists that were joined are cut out again

pieces_from : (n : ℕ) (ls : List (List ℕ)) (pre : List ℕ) → length pre ≡ n → pieces n (ends_from n ls) (pre ++ joined ls) ≡ ls
pieces_from n [] pre e = refl
pieces_from n (l ∷ ls) pre e =
    let less : (n + length l) - n ≡ length l = omega arith in
    ap (λ k. take k (drop n (pre ++ (l ++ joined ls))) ∷ pieces (n + length l) (ends_from (n + length l) ls) (pre ++ (l ++ joined ls))) less
    ∙ ap (λ (r : List ℕ). take (length l) r ∷ pieces (n + length l) (ends_from (n + length l) ls) (pre ++ (l ++ joined ls))) (drop_at pre (l ++ joined ls) n e)
    ∙ ap (λ (r : List ℕ). r ∷ pieces (n + length l) (ends_from (n + length l) ls) (pre ++ (l ++ joined ls))) (take_at l (joined ls) (length l) refl)
    ∙ ap (λ (r : List ℕ). l ∷ pieces (n + length l) (ends_from (n + length l) ls) r) (sym (append_assoc pre l (joined ls)))
    ∙ ap (λ (r : List (List ℕ)). l ∷ r) (pieces_from (n + length l) ls (pre ++ l) (length-append pre l ∙ ap (λ k. k + length l) e))

pub pieces_joined : (ls : List (List ℕ)) → pieces 0 (ends_from 0 ls) (joined ls) ≡ ls
pieces_joined ls = pieces_from 0 ls [] refl

pub length-ends_from : (n : ℕ) (ls : List (List ℕ)) → length (ends_from n ls) ≡ length ls
length-ends_from n [] = refl
length-ends_from n (l ∷ ls) = ap suc (length-ends_from (n + length l) ls)

pub ends_are : (n total : ℕ) (ls : List (List ℕ)) → n + length (joined ls) ≡ total → AreEnds n (ends_from n ls) total
ends_are n total [] e = omega arith
ends_are n total (l ∷ ls) e =
    let both = length-append l (joined ls) in
    ((omega arith), ends_are (n + length l) total ls (omega arith))

-- The rows of a block that are offered one after another, where those that a test of all of them kept out are passed.
use Rattle.std.proofs.Common.{◌≡◌, ℕ, zero, suc, ◌+◌, ◌-◌, ◌*◌, ◌/◌, ◌%◌, ◌^◌, ◌<◌, ◌≤◌, ltb, List, [], ◌∷◌, ◌++◌, length, map, filter, get_or, Option, Bool, true, false, cond, eqb, refl, sym, ◌∙◌, ap, subst, arith, inl, inr, eq-eqb, append-nil, append_assoc}
use Rattle.std.specs.Prelude.{◌⊎◌}
use Rattle.std.specs.List.{range_with_len}
use Rattle.std.proofs.lemmas.Bool.{true≢false, cases_lt}
use Rattle.std.proofs.lemmas.List.{get_or_past}
use Rattle.std.proofs.lemmas.List.Elements.{filter-append}
use Rattle.std.proofs.lemmas.Nat.{shr-shr}
use Rattle.std.proofs.lemmas.Nat.Bits.{bit_at_above, bit_at-zero}
use Rattle.cat_model.specs.RowSets.{has_row, indices}
use Rattle.cat_model.specs.View.{selected}
use Rattle.cat_model.proofs.Insert.{which}
use Rattle.cat_search.specs.BestItems.{BestItems}
use Rattle.cat_search.specs.Blocks.{has_bit}
use Rattle.cat_search.specs.Candidates.{IsBestAt, TakesIn}
use Rattle.cat_search.specs.Pages.{behind, beyond}
use Rattle.cat_search.specs.Standings.{HitStanding}
use Rattle.cat_search.specs.declared.standings.Candidate.{Candidate}
use Rattle.cat_search.proofs.Gathered.{none, one, standings_at, standings_at-all, standings_at-append}
use Rattle.cat_search.proofs.StillOut.{still_out}
use Rattle.cat_search.proofs.Stepped.{hit_taken, other_taken, taken}
use Rattle.cat_search.proofs.Tested.{none_in, range_parts}

-- ---- bits

-- the bits above one
pub bits_above : (bits k i : ℕ) → has_bit (bits / 2 ^ k / 2 ^ 1) i ≡ has_bit bits (k + 1 + i)
bits_above bits k i = ap (λ n. eqb (n % 2) 1) (shr-shr (bits / 2 ^ k) 1 i ∙ shr-shr bits k (1 + i) ∙ ap (λ j. bits / 2 ^ j) (let e : k + (1 + i) ≡ k + 1 + i = omega arith in e))

pub bit_within : (bits i : ℕ) → bits < 2 ^ 64 → has_bit bits i ≡ true → i < 64
bit_within bits i fits e = elim (cases_lt i 64) [
  | inl lt ↦ lt
  | inr past ↦ absurd (true≢false (sym e ∙ ap (λ n. eqb n 1) (bit_at_above bits 64 i fits past)))
]

pub no_bits : (bits i : ℕ) → bits ≡ 0 → has_bit bits i ≡ false
no_bits bits i e = ap (λ n. has_bit n i) e ∙ ap (λ n. eqb n 1) (bit_at-zero i)

-- ---- the rows of a block

module _ (mark : Option HitStanding) (ranks : List HitStanding) (hits : List Bool) (first : ℕ) where
  -- the standings of the hits among the first rows of the block
  abbrev pub upto : ℕ → List HitStanding
  upto k = taken mark ranks hits (range_with_len first k)

  abbrev pub standing : ℕ → HitStanding
  standing k = get_or ranks (first + k) none

  -- the row behind so many more
  pub taken_from : (k n : ℕ) (kept new : BestItems Candidate) → TakesIn kept new (taken mark ranks hits (range_with_len (first + k + n) 1)) → TakesIn kept new (taken mark ranks hits (range_with_len (first + (k + n)) 1))
  taken_from k n kept new h = subst (λ row. TakesIn kept new (taken mark ranks hits (range_with_len row 1))) (let e : first + k + n ≡ first + (k + n) = omega arith in e) h

  next_one : (k : ℕ) → range_with_len first (k + 1) ≡ range_with_len first k ++ (first + k) ∷ []
  next_one k = range_parts first k 1

  pub upto_hit : (k : ℕ) → has_row hits (first + k) ≡ true → upto (k + 1) ≡ upto k ++ one mark (standing k)
  upto_hit k e = ap (taken mark ranks hits) (next_one k) ∙ hit_taken mark ranks hits (range_with_len first k) (first + k) e (standing k) refl

  pub upto_other : (k : ℕ) → has_row hits (first + k) ≡ false → upto (k + 1) ≡ upto k
  upto_other k e = ap (taken mark ranks hits) (next_one k) ∙ other_taken mark ranks hits (range_with_len first k) (first + k) e

  module _ (IsOut : ℕ → Type 0) (ps : List HitStanding) where
    -- the hits among the first rows are offered, and those that are kept out may be offered at any time
    pub record ArePassed (kept : BestItems Candidate) (k : ℕ) : Type 0 where
      pub best : IsBestAt kept (ps ++ upto k)
      pub out : (i : ℕ) → IsOut i → IsBestAt kept ((ps ++ upto k) ++ one mark (standing i))

    pub none_passed : (kept : BestItems Candidate) → IsBestAt kept ps → ((i : ℕ) → IsOut i → TakesIn kept kept (one mark (standing i))) → ArePassed kept 0
    none_passed kept h out = record {
      best = subst (IsBestAt kept) (sym (append-nil ps)) h;
      out = λ i o. subst (λ (qs : List HitStanding). IsBestAt kept (qs ++ one mark (standing i))) (sym (append-nil ps)) (out i o ps h);
    }

    -- one hit more
    hit_passed : (kept new : BestItems Candidate) (k : ℕ) → new.limit ≡ kept.limit → ArePassed kept k → has_row hits (first + k) ≡ true → IsBestAt new ((ps ++ upto k) ++ one mark (standing k)) → ArePassed new (k + 1)
    hit_passed kept new k limit are e more =
        let same : (ps ++ upto k) ++ one mark (standing k) ≡ ps ++ upto (k + 1) = append_assoc ps (upto k) (one mark (standing k)) ∙ ap (λ qs. ps ++ qs) (sym (upto_hit k e)) in
        record {
          best = subst (IsBestAt new) same more;
          out = λ i o. subst (λ (qs : List HitStanding). IsBestAt new (qs ++ one mark (standing i))) same (still_out kept new limit (ps ++ upto k) are.best mark (standing i) (standing k) (are.out i o) more);
        }

    other_passed : (kept : BestItems Candidate) (k : ℕ) → ArePassed kept k → has_row hits (first + k) ≡ false → ArePassed kept (k + 1)
    other_passed kept k are e =
        let same : ps ++ upto k ≡ ps ++ upto (k + 1) = ap (λ qs. ps ++ qs) (sym (upto_other k e)) in
        record {
          best = subst (IsBestAt kept) same are.best;
          out = λ i o. subst (λ (qs : List HitStanding). IsBestAt kept (qs ++ one mark (standing i))) same (are.out i o);
        }

    -- one row more that is kept out
    out_passed : (kept : BestItems Candidate) (k : ℕ) → ArePassed kept k → IsOut k → ArePassed kept (k + 1)
    out_passed kept k are o = elim (which (has_row hits (first + k))) [
      | inl e ↦ hit_passed kept kept k refl are e (are.out k o)
      | inr e ↦ other_passed kept k are e
    ]

    pub all_out_passed : (kept : BestItems Candidate) (k n : ℕ) → ArePassed kept k → ((i : ℕ) → k ≤ i → i < k + n → IsOut i) → ArePassed kept (k + n)
    all_out_passed kept k zero are out = subst (ArePassed kept) (let e : k ≡ k + 0 = omega arith in e) are
    all_out_passed kept k (suc n) are out =
        subst (ArePassed kept) (let e : k + 1 + n ≡ k + suc n = omega arith in e)
        (all_out_passed kept (k + 1) n (out_passed kept k are (out k (omega arith) (omega arith))) (λ i low high. out i (omega (arith, low)) (omega (arith, high))))

    -- one row more that is looked at
    pub look_passed : (kept new : BestItems Candidate) (k : ℕ) → new.limit ≡ kept.limit → ArePassed kept k → TakesIn kept new (taken mark ranks hits (range_with_len (first + k) 1)) → ArePassed new (k + 1)
    look_passed kept new k limit are takes = by (which (has_row hits (first + k)))
      where
        here : (b : Bool) → has_row hits (first + k) ≡ b → taken mark ranks hits (range_with_len (first + k) 1) ≡ cond b (one mark (standing k)) []
        here true e = ap (λ b. standings_at mark ranks (cond b ((first + k) ∷ []) [])) e
        here false e = ap (λ b. standings_at mark ranks (cond b ((first + k) ∷ []) [])) e

        at_new : (b : Bool) → has_row hits (first + k) ≡ b → (qs : List HitStanding) → IsBestAt kept qs → IsBestAt new (qs ++ cond b (one mark (standing k)) [])
        at_new b e qs h = subst (λ (l : List HitStanding). IsBestAt new (qs ++ l)) (here b e) (takes qs h)

        by : (has_row hits (first + k) ≡ true) ⊎ (has_row hits (first + k) ≡ false) → ArePassed new (k + 1)
        by (inl e) = hit_passed kept new k limit are e (at_new true e (ps ++ upto k) are.best)
        by (inr e) =
            let same : ps ++ upto k ≡ ps ++ upto (k + 1) = ap (λ qs. ps ++ qs) (sym (upto_other k e)) in
            let none_more : (qs : List HitStanding) → IsBestAt kept qs → IsBestAt new qs = λ qs h. subst (IsBestAt new) (append-nil qs) (at_new false e qs h) in
            record {
              best = subst (IsBestAt new) same (none_more (ps ++ upto k) are.best);
              out = λ i o. subst (λ (qs : List HitStanding). IsBestAt new (qs ++ one mark (standing i))) same (none_more ((ps ++ upto k) ++ one mark (standing i)) (are.out i o));
            }

-- ---- the blocks of a segment

module _ (mark : Option HitStanding) (ranks : List HitStanding) (hits : List Bool) where
  -- the standings of the hits among the first rows of the segment
  abbrev pub rows_to : ℕ → List HitStanding
  rows_to row = taken mark ranks hits (range_with_len 0 row)

  pub block_more : (block : ℕ) → rows_to (64 * block) ++ taken mark ranks hits (range_with_len (64 * block) 64) ≡ rows_to (64 * (block + 1))
  block_more block =
      sym (
      ap rows_to (let e : 64 * (block + 1) ≡ 64 * block + 64 = omega arith in e)
      ∙ ap (standings_at mark ranks) (ap (filter (has_row hits)) (range_parts 0 (64 * block) 64) ∙ filter-append (has_row hits) (range_with_len 0 (64 * block)) (range_with_len (0 + 64 * block) 64))
      ∙ standings_at-append mark ranks (filter (has_row hits) (range_with_len 0 (64 * block))) (filter (has_row hits) (range_with_len (0 + 64 * block) 64))
      ∙ ap (λ k. rows_to (64 * block) ++ taken mark ranks hits (range_with_len k 64)) (let e : 0 + 64 * block ≡ 64 * block = omega arith in e)
      )

  pub blocks_all : length hits ≡ length ranks → (row : ℕ) → length hits ≤ row → rows_to row ≡ behind mark (selected hits ranks)
  blocks_all long row h =
      let over = row - length hits in
      let cut : row ≡ length hits + over = omega (arith, h) in
      let rest : filter (has_row hits) (range_with_len (0 + length hits) over) ≡ [] = none_in (has_row hits) (0 + length hits) over (λ k low high. get_or_past hits k false (omega (arith, low))) in
      standings_at-all mark ranks hits (filter (has_row hits) (range_with_len 0 row)) long
      (
      ap (λ n. filter (has_row hits) (range_with_len 0 n)) cut ∙ ap (filter (has_row hits)) (range_parts 0 (length hits) over)
      ∙ filter-append (has_row hits) (range_with_len 0 (length hits)) (range_with_len (0 + length hits) over) ∙ ap (λ l. indices hits ++ l) rest ∙ append-nil (indices hits)
      )

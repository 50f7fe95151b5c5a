-- What is read is written so by the grammar, and keeps the limits.
use Rattle.std.proofs.Common.{◌≡◌, ◌≢◌, ℕ, zero, suc, ◌+◌, ◌≤◌, ◌<◌, [], ◌∷◌, ◌++◌, length, take, drop, Result, Ok, Err, Bool, true, false, true≢false, nat_eq, eqb, cond, refl, sym, ap, subst, ◌∙◌, append_assoc, arith}
use Rattle.std.proofs.lemmas.Bool.{eqb-true, or_from, cond_both}
use Rattle.std.proofs.lemmas.List.{take-append-drop}
use Rattle.std.proofs.lemmas.Slice.Eq.{bytes_eq-Decides}
use Rattle.std.specs.List.{starts_with}
use Rattle.cat_model.specs.Text.{Text}
use Rattle.cat_model.specs.Item.{Schema}
use Rattle.cat_model.specs.Query.{Query, Primary, Sign}
use Rattle.cat_model.specs.Grammar.{AreSpaces, IsTerm, IsQuery, IsSeries, IsClause, IsPrimary, clauses, clauses_in, depth, depth_in}
use Rattle.cat_model.specs.Reader.{◌>>=◌, Inside, after_spaces, ends, breaks, sign_at, grouped, everything_at, leaf_at, primary_at, clause_at, gap_at, clauses_at, content_at, term_at}
use Rattle.cat_model.proofs.QueryValues.{Takes, whole_value}
use Rattle.cat_model.proofs.QueryTerms.{Yields, yields_bind, term_sound, means_leaf}

-- ---- what is shown of each reader

-- what is read is so, and of what is refused nothing is said
abbrev pub Sound : {A : Type 0} → (A → Type 0) → Result A ℕ → Type 0
Sound P r = Yields (λ left. Unit {0}) P r

sound_bind : {A B : Type 0} (P : A → Type 0) (Q : B → Type 0) (r : Result A ℕ) (f : A → Result B ℕ) → Sound P r → ((x : A) → P x → Sound Q (f x)) → Sound Q (r >>= f)
sound_bind P Q r f so go = yields_bind (λ left. Unit {0}) P Q r f so go

pub sound_ok : {A : Type 0} (P : A → Type 0) (r : Result A ℕ) (x : A) → Sound P r → r ≡ Ok x → P x
sound_ok P r x so e = subst (Sound P) e so

record SoPrimary (schema : Schema) (d left : ℕ) (text : Text) (x : Primary × ℕ × Text) : Type 0 where
  takes : Takes (λ u. IsPrimary schema u x.0) text x.2
  used : x.1 + clauses_in x.0 ≡ left
  deep : depth_in x.0 ≤ d

record SoClause (schema : Schema) (d left : ℕ) (text : Text) (x : Sign × Primary × ℕ × Text) : Type 0 where
  takes : Takes (λ u. IsClause schema u x.0 x.1) text x.3
  used : x.2 + suc (clauses_in x.1) ≡ left
  deep : depth_in x.1 ≤ d

record SoSeries (schema : Schema) (d left : ℕ) (text : Text) (x : Query × ℕ × Text) : Type 0 where
  written : Text
  gap : Text
  parts : text ≡ written ++ (gap ++ x.2)
  series : IsSeries schema written x.0
  spaces : AreSpaces gap
  used : x.1 + clauses x.0 ≡ left
  deep : depth x.0 ≤ d
  stops : ends x.2 ≡ true

pub record SoGroup (schema : Schema) (d left : ℕ) (text : Text) (x : Query × ℕ × Text) : Type 0 where
  pub takes : Takes (λ u. IsQuery schema u x.0) text x.2
  pub used : x.1 + clauses x.0 ≡ left
  pub deep : depth x.0 < d
  pub stops : ends x.2 ≡ true

abbrev SoInside : Schema → Inside → ℕ → Type 0
SoInside schema inside d = (left : ℕ) (text : Text) → Sound (SoGroup schema d left text) (inside left text)

-- ---- primaries

pub everything_is : (text : Text) → starts_with nat_eq text (42 ∷ 58 ∷ 42 ∷ []) ≡ true → text ≡ 42 ∷ 58 ∷ 42 ∷ drop 3 text
everything_is text h = sym (take-append-drop 3 text) ∙ ap (λ (x : Text). x ++ drop 3 text) (sym ((bytes_eq-Decides (42 ∷ 58 ∷ 42 ∷ []) (take 3 text)).0 h))

record SoLeaf (schema : Schema) (text : Text) (x : Primary × Text) : Type 0 where
  takes : Takes (λ u. IsPrimary schema u x.0) text x.1
  used : clauses_in x.0 ≡ 0
  deep : depth_in x.0 ≡ 0

everything_sound : (schema : Schema) (text : Text) → Sound (SoLeaf schema text) (everything_at text)
everything_sound schema text =
    cond_both (starts_with nat_eq text (42 ∷ 58 ∷ 42 ∷ [])) (Ok (Primary.everything, drop 3 text)) (Err (length text)) (Sound (SoLeaf schema text))
    (λ h. record { takes = (42 ∷ 58 ∷ 42 ∷ [], everything_is text h, IsPrimary.all); used = refl; deep = refl })
    (λ h. tt)

term_so : (schema : Schema) (text : Text) (r : Result (Primary × Text) ℕ) → term_at schema text ≡ r → Sound (SoLeaf schema text) r
term_so schema text (Err left) e = tt
term_so schema text (Ok x) e =
    let t = term_sound schema text x.0 x.1 e in
    let none = means_leaf t.means in
    let term = IsTerm.term t.name t.value t.kind t.asks x.0 t.named t.field (whole_value t.whole) t.means in
    record { takes = (t.name ++ 58 ∷ t.value, t.parts ∙ sym (append_assoc t.name (58 ∷ t.value) x.1), IsPrimary.of_field (t.name ++ 58 ∷ t.value) x.0 term); used = none.0; deep = none.1 }

leaf_sound : (schema : Schema) (text : Text) → Sound (SoLeaf schema text) (leaf_at schema text)
unfolding leaf_at
leaf_sound schema [] = tt
leaf_sound schema (b ∷ bs) =
    cond_both (eqb b 42) (everything_at (b ∷ bs)) (term_at schema (b ∷ bs)) (Sound (SoLeaf schema (b ∷ bs)))
    (λ h. everything_sound schema (b ∷ bs))
    (λ h. term_so schema (b ∷ bs) (term_at schema (b ∷ bs)) refl)

grouped_sound : (schema : Schema) (d left : ℕ) (bs : Text) (x : Query × ℕ × Text) → SoGroup schema d left bs x → Sound (SoPrimary schema d left (40 ∷ bs)) (grouped x)
grouped_sound schema d left bs (q, after, []) g = tt
grouped_sound schema d left bs (q, after, b ∷ rest) g =
    let u : Text = g.takes.0 in
    let close : b ≡ 41 = eqb-true b 41 g.stops in
    let parts : bs ≡ (u ++ 41 ∷ []) ++ rest = g.takes.1 ∙ ap (λ (c : ℕ). u ++ c ∷ rest) close ∙ sym (append_assoc u (41 ∷ []) rest) in
    record { takes = (40 ∷ (u ++ 41 ∷ []), ap (λ (t : Text). 40 ∷ t) parts, IsPrimary.in_parentheses u q g.takes.2); used = g.used; deep = omega (arith, g.deep) }

primary_sound : (schema : Schema) (inside : Inside) (d left : ℕ) (text : Text) → SoInside schema inside d → Sound (SoPrimary schema d left text) (primary_at schema inside left text)
unfolding primary_at
primary_sound schema inside d left [] so = tt
primary_sound schema inside d left (b ∷ bs) so =
    cond_both (eqb b 40) (inside left bs >>= grouped) (leaf_at schema (b ∷ bs) >>= λ p. Ok (p.0, left, p.1)) (Sound (SoPrimary schema d left (b ∷ bs)))
    (λ h. subst (λ (c : ℕ). Sound (SoPrimary schema d left (c ∷ bs)) (inside left bs >>= grouped)) (sym (eqb-true b 40 h))
    (sound_bind (SoGroup schema d left bs) (SoPrimary schema d left (40 ∷ bs)) (inside left bs) grouped (so left bs) (grouped_sound schema d left bs)))
    (λ h. sound_bind (SoLeaf schema (b ∷ bs)) (SoPrimary schema d left (b ∷ bs)) (leaf_at schema (b ∷ bs)) (λ p. Ok (p.0, left, p.1)) (leaf_sound schema (b ∷ bs))
    (λ x leaf. record { takes = leaf.takes; used = omega (arith, leaf.used); deep = omega (arith, leaf.deep) }))

-- ---- clauses

-- what stands behind a sign is a primary of the clause
abbrev SignSo : Schema → Text → Sign × Text → Type 0
SignSo schema text x = (u : Text) (p : Primary) (rest : Text) → x.1 ≡ u ++ rest → IsPrimary schema u p → Takes (λ t. IsClause schema t x.0 p) text rest

sign_sound : (schema : Schema) (text : Text) → SignSo schema text (sign_at text)
sign_sound schema [] = λ u p rest parts q. (u, parts, IsClause.should u p q)
sign_sound schema (b ∷ bs) =
    cond_both (eqb b 43) (Sign.must, bs) (cond (eqb b 45) (Sign.must_not, bs) (Sign.should, b ∷ bs)) (SignSo schema (b ∷ bs))
    (λ h u p rest parts q. (43 ∷ u, ap (λ (c : ℕ). c ∷ bs) (eqb-true b 43 h) ∙ ap (λ (t : Text). 43 ∷ t) parts, IsClause.must u p q))
    (λ h. cond_both (eqb b 45) (Sign.must_not, bs) (Sign.should, b ∷ bs) (SignSo schema (b ∷ bs))
    (λ k u p rest parts q. (45 ∷ u, ap (λ (c : ℕ). c ∷ bs) (eqb-true b 45 k) ∙ ap (λ (t : Text). 45 ∷ t) parts, IsClause.must_not u p q))
    (λ k u p rest parts q. (u, parts, IsClause.should u p q)))

clause_sound : (schema : Schema) (inside : Inside) (d left : ℕ) (text : Text) → SoInside schema inside d → Sound (SoClause schema d left text) (clause_at schema inside left text)
unfolding clause_at
clause_sound schema inside d zero text so = tt
clause_sound schema inside d (suc left) text so =
    sound_bind (SoPrimary schema d left (sign_at text).1) (SoClause schema d (suc left) text) (primary_at schema inside left (sign_at text).1) (λ p. Ok ((sign_at text).0, p.0, p.1, p.2))
    (primary_sound schema inside d left (sign_at text).1 so)
    (λ x p. record { takes = sign_sound schema text p.takes.0 x.0 x.2 p.takes.1 p.takes.2; used = omega (arith, p.used); deep = p.deep })

-- ---- spaces

pub spaces_taken : (text : Text) → (gap : Text) × (text ≡ gap ++ after_spaces text) × AreSpaces gap
spaces_taken [] = ([], refl, tt)
spaces_taken (b ∷ bs) = taken (eqb b 32) refl (spaces_taken bs)
  where
    taken : (v : Bool) → eqb b 32 ≡ v → (gap : Text) × (bs ≡ gap ++ after_spaces bs) × AreSpaces gap → (gap : Text) × (b ∷ bs ≡ gap ++ cond v (after_spaces bs) (b ∷ bs)) × AreSpaces gap
    taken true e g = (b ∷ g.0, ap (λ (x : Text). b ∷ x) g.1, (eqb-true b 32 e, g.2))
    taken false e g = ([], refl, tt)

-- the spaces behind a primary, of which there is one at least where a clause follows
record SoGap (text rest : Text) : Type 0 where
  gap : Text
  parts : text ≡ gap ++ rest
  spaces : AreSpaces gap
  some : ends rest ≡ false → gap ≢ []

gap_sound : (text : Text) → Sound (SoGap text) (gap_at text)
gap_sound [] = record { gap = []; parts = refl; spaces = tt; some = λ f. absurd (true≢false f) }
gap_sound (b ∷ bs) =
    cond_both (breaks (b ∷ bs)) (Ok (after_spaces (b ∷ bs))) (Err (length (b ∷ bs))) (Sound (SoGap (b ∷ bs)))
    (λ h. cond_both (eqb b 32) (after_spaces bs) (b ∷ bs) (SoGap (b ∷ bs))
    (λ k. let g = spaces_taken bs in record { gap = b ∷ g.0; parts = ap (λ (x : Text). b ∷ x) g.1; spaces = (eqb-true b 32 k, g.2); some = λ f z. absurd cc })
    (λ k. record { gap = []; parts = refl; spaces = tt; some = λ f. absurd (close k h f) }))
    (λ h. tt)
  where
    close : eqb b 32 ≡ false → breaks (b ∷ bs) ≡ true → eqb b 41 ≡ false → ⊥
    close k h f = true≢false (sym h ∙ or_from (eqb b 32) (eqb b 41) k f)

-- ---- clauses one after the other

regrouped : (a b c e : Text) → a ++ (b ++ (c ++ e)) ≡ (a ++ (b ++ c)) ++ e
regrouped a b c e = simp append_assoc

-- a clause, the gap behind it, and the clauses that follow
joined : (schema : Schema) (d left : ℕ) (text rest : Text) (first : Sign × Primary × ℕ × Text) (others : Query × ℕ × Text) → SoClause schema d left text first → SoGap first.3 rest → ends rest ≡ false → SoSeries schema d first.2 rest others
    → SoSeries schema d left text (Query.clause first.0 first.1 others.0, others.1, others.2)
joined schema d left text rest first others c g goes so = record {
  written = c.takes.0 ++ (g.gap ++ so.written);
  gap = so.gap;
  parts = c.takes.1 ∙ ap (λ (r : Text). c.takes.0 ++ r) (g.parts ∙ ap (λ (r : Text). g.gap ++ r) so.parts) ∙ regrouped c.takes.0 g.gap so.written (so.gap ++ others.2);
  series = IsSeries.more c.takes.0 g.gap so.written first.0 first.1 others.0 c.takes.2 g.spaces (g.some goes) so.series;
  spaces = so.spaces;
  used = omega (arith, c.used, so.used);
  deep = omega (arith, c.deep, so.deep);
  stops = so.stops;
}

series_sound : (schema : Schema) (inside : Inside) (d n left : ℕ) (text : Text) → SoInside schema inside d → Sound (SoSeries schema d left text) (clauses_at schema inside n left text)
unfolding clauses_at
series_sound schema inside d zero left text so = tt
series_sound schema inside d (suc n) left text so =
    sound_bind (SoClause schema d left text) (SoSeries schema d left text) (clause_at schema inside left text)
    (λ first. gap_at first.3 >>= λ rest. cond (ends rest) (Ok (Query.no_clause, first.2, rest)) (clauses_at schema inside n first.2 rest) >>= λ others. Ok (Query.clause first.0 first.1 others.0, others.1, others.2))
    (clause_sound schema inside d left text so)
    (λ first c. sound_bind (SoGap first.3) (SoSeries schema d left text) (gap_at first.3)
    (λ rest. cond (ends rest) (Ok (Query.no_clause, first.2, rest)) (clauses_at schema inside n first.2 rest) >>= λ others. Ok (Query.clause first.0 first.1 others.0, others.1, others.2))
    (gap_sound first.3)
    (λ rest g. cond_both (ends rest) (Ok (Query.no_clause, first.2, rest)) (clauses_at schema inside n first.2 rest) (λ r. Sound (SoSeries schema d left text) (r >>= λ others. Ok (Query.clause first.0 first.1 others.0, others.1, others.2)))
    (λ h. record {
      written = c.takes.0;
      gap = g.gap;
      parts = c.takes.1 ∙ ap (λ (r : Text). c.takes.0 ++ r) g.parts;
      series = IsSeries.one c.takes.0 first.0 first.1 c.takes.2;
      spaces = g.spaces;
      used = omega (arith, c.used);
      deep = omega (arith, c.deep);
      stops = h;
    })
    (λ h. sound_bind (SoSeries schema d first.2 rest) (SoSeries schema d left text) (clauses_at schema inside n first.2 rest) (λ others. Ok (Query.clause first.0 first.1 others.0, others.1, others.2))
    (series_sound schema inside d n first.2 rest so)
    (λ others s. joined schema d left text rest first others c g h s))))

-- ---- groups and the whole text

pub content_sound : (schema : Schema) (levels : ℕ) → SoInside schema (content_at schema levels) levels
unfolding content_at
content_sound schema zero left text = tt
content_sound schema (suc levels) left text =
    cond_both (ends (after_spaces text)) (Err (length (after_spaces text))) (clauses_at schema (content_at schema levels) left left (after_spaces text)) (Sound (SoGroup schema (suc levels) left text))
    (λ h. tt)
    (λ h. sound_map (clauses_at schema (content_at schema levels) left left (after_spaces text)) (series_sound schema (content_at schema levels) levels left left (after_spaces text) (content_sound schema levels)))
  where
    sound_map : (r : Result (Query × ℕ × Text) ℕ) → Sound (SoSeries schema levels left (after_spaces text)) r → Sound (SoGroup schema (suc levels) left text) r
    sound_map (Err n) s = tt
    sound_map (Ok x) s =
        let g = spaces_taken text in
        record {
          takes = (g.0 ++ (s.written ++ s.gap), g.1 ∙ ap (λ (r : Text). g.0 ++ r) s.parts ∙ regrouped g.0 s.written s.gap x.2, IsQuery.query g.0 s.written s.gap x.0 g.2 s.series s.spaces);
          used = s.used;
          deep = omega (arith, s.deep);
          stops = s.stops;
        }

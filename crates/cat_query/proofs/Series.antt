-- Clauses read one after another.
use Rattle.std.proofs.Common.{◌≡◌, ◌≢◌, ℕ, zero, suc, ◌-◌, ◌+◌, ◌≤◌, ◌<◌, List, [], ◌∷◌, ◌++◌, length, Result, Ok, Err, true, false, refl, sym, ap, ◌∙◌, arith}
use Rattle.cat_model.specs.Text.{Text}
use Rattle.cat_model.specs.Item.{Schema}
use Rattle.cat_model.specs.Query.{Query, Primary, Sign}
use Rattle.cat_model.specs.Reader.{◌>>=◌, Inside, content_at, clauses_at, clause_at, gap_at, ends, after_spaces}
use Rattle.cat_query.specs.View.{sign_of, primary_of, Signed, primary_step, clause_step, signed, clauses_of}
use Rattle.cat_query.specs.declared.query.Primary.TheFolds.{fold_out-Clause}
use Rattle.cat_query.specs.Reading.{then_clause}
use Rattle.cat_query.specs.declared.query.Clause.{Clause}

-- some clauses and then others
abbrev pub appended : Query → Query → Query
appended Query.no_clause r = r
appended (Query.clause s p q) r = Query.clause s p (appended q r)

appended-then : (q : Query) (s : Sign) (p : Primary) (r : Query) → appended q (Query.clause s p r) ≡ appended (then_clause q s p) r
appended-then Query.no_clause s p r = refl
appended-then (Query.clause t x q) s p r = ap (λ (y : Query). Query.clause t x y) (appended-then q s p r)

appended-one : (q : Query) (s : Sign) (p : Primary) → appended q (Query.clause s p Query.no_clause) ≡ then_clause q s p
appended-one Query.no_clause s p = refl
appended-one (Query.clause t x q) s p = ap (λ (y : Query). Query.clause t x y) (appended-one q s p)

clauses_of-push : (cs : List Clause) (c : Clause) → clauses_of (cs ++ c ∷ []) ≡ then_clause (clauses_of cs) (signed c).0 (signed c).1
clauses_of-push [] c = refl
clauses_of-push (d ∷ cs) c = ap (λ (y : Query). Query.clause (signed d).0 (signed d).1 y) (clauses_of-push cs c)

signed_is : (c : Clause) → signed c ≡ (sign_of c.sign, primary_of c.primary)
signed_is c = fold_out-Clause Primary Signed primary_step clause_step c

-- clauses with one more at their end
pub pushed_is : (cs items : List Clause) (c : Clause) (q : Query) (p : Primary) → items ≡ cs ++ c ∷ [] → clauses_of cs ≡ q → primary_of c.primary ≡ p → clauses_of items ≡ then_clause q (sign_of c.sign) p
pushed_is cs items c q p pushed front last =
    ap clauses_of pushed ∙ clauses_of-push cs c ∙ ap (λ (x : Signed). then_clause (clauses_of cs) x.0 x.1) (signed_is c)
    ∙ ap (λ (x : Query). then_clause x (sign_of c.sign) (primary_of c.primary)) front ∙ ap (then_clause q (sign_of c.sign)) last

abbrev pub Group : Type 0
Group = Result (Query × ℕ × Text) ℕ

-- what was read before, and what is still read
abbrev pub with_front : Query → Group → Group
with_front front read = read >>= λ x. Ok (appended front x.0, x.1, x.2)

pub with_front-nothing : (read : Group) → with_front Query.no_clause read ≡ read
with_front-nothing (Ok x) = refl
with_front-nothing (Err n) = refl

-- what is read where a group or the text begins
pub content_is : (schema : Schema) (levels left : ℕ) (text : Text) → levels ≢ 0 → ends (after_spaces text) ≡ false
    → content_at schema levels left text ≡ clauses_at schema (content_at schema (levels - 1)) left left (after_spaces text)
unfolding content_at
content_is schema zero left text ne e = absurd (ne refl)
content_is schema (suc levels) left text ne e = rw e (ap (λ (l : ℕ). clauses_at schema (content_at schema l) left left (after_spaces text)) (omega arith))

pub content_empty : (schema : Schema) (levels left : ℕ) (text : Text) → levels ≢ 0 → ends (after_spaces text) ≡ true → content_at schema levels left text ≡ Err (length (after_spaces text))
unfolding content_at
content_empty schema zero left text ne e = absurd (ne refl)
content_empty schema (suc levels) left text ne e = rw e refl

regroup : (front : Query) (s : Sign) (p : Primary) (read : Group) → with_front front (read >>= λ others. Ok (Query.clause s p others.0, others.1, others.2)) ≡ with_front (then_clause front s p) read
regroup front s p (Ok x) = ap (λ (q : Query). Ok (q, x.1, x.2)) (appended-then front s p x.0)
regroup front s p (Err n) = refl

module _ (schema : Schema) (inside : Inside) (front : Query) (count turn still : ℕ) (text : Text) (total : Group) where
  pub none_left : count ≤ turn → with_front front (clauses_at schema inside (count - turn) still text) ≡ total → total ≡ Err (length text)
  unfolding clauses_at
  none_left le h =
      let k : count - turn ≡ 0 = omega arith in
      sym h ∙ rw k refl

  pub clause_fails : (n : ℕ) → turn < count → clause_at schema inside still text ≡ Err n → with_front front (clauses_at schema inside (count - turn) still text) ≡ total → total ≡ Err n
  unfolding clauses_at
  clause_fails n lt f h =
      let k : count - turn ≡ suc (count - (turn + 1)) = omega arith in
      sym h ∙ rw (k, f) refl

  module _ (s : Sign) (p : Primary) (after : ℕ) (more : Text) (lt : turn < count) (first : clause_at schema inside still text ≡ Ok (s, p, after, more)) where
    pub gap_fails : (n : ℕ) → gap_at more ≡ Err n → with_front front (clauses_at schema inside (count - turn) still text) ≡ total → total ≡ Err n
    unfolding clauses_at
    gap_fails n f h =
        let k : count - turn ≡ suc (count - (turn + 1)) = omega arith in
        sym h ∙ rw (k, first, f) refl

    pub is_last : (rest : Text) → gap_at more ≡ Ok rest → ends rest ≡ true → with_front front (clauses_at schema inside (count - turn) still text) ≡ total → total ≡ Ok (then_clause front s p, after, rest)
    unfolding clauses_at
    is_last rest g e h =
        let k : count - turn ≡ suc (count - (turn + 1)) = omega arith in
        sym h ∙ rw (k, first, g, e) (ap (λ (q : Query). Ok (q, after, rest)) (appended-one front s p))

    pub goes_on : (rest : Text) → gap_at more ≡ Ok rest → ends rest ≡ false → with_front front (clauses_at schema inside (count - turn) still text) ≡ total
        → with_front (then_clause front s p) (clauses_at schema inside (count - (turn + 1)) after rest) ≡ total
    unfolding clauses_at
    goes_on rest g e h =
        let k : count - turn ≡ suc (count - (turn + 1)) = omega arith in
        let step : with_front front (clauses_at schema inside (count - turn) still text) ≡ with_front (then_clause front s p) (clauses_at schema inside (count - (turn + 1)) after rest) =
        rw (k, first, g, e) (regroup front s p (clauses_at schema inside (count - (turn + 1)) after rest)) in
        sym step ∙ h

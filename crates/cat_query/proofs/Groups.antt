-- A primary, by whether the text begins with a parenthesis.
use Rattle.std.proofs.Common.{◌≡◌, ◌≢◌, ℕ, zero, suc, ◌+◌, ◌-◌, [], ◌∷◌, length, Ok, Err, None, true, refl, ap, ◌∙◌, arith}
use Rattle.cat_model.specs.Text.{Text}
use Rattle.cat_model.specs.Item.{Schema}
use Rattle.cat_model.specs.Query.{Query, Primary, Sign}
use Rattle.cat_model.specs.Limits.{clause_limit, depth_limit}
use Rattle.cat_model.specs.Reader.{◌>>=◌, Inside, grouped, leaf_at, primary_at, sign_at, clause_at, content_at, ends, read_query, placed}
use Rattle.cat_query.specs.Reading.{behind_byte, all_of}
use Rattle.cat_query.proofs.ValueSteps.{other_first}

leaf_or_group : (schema : Schema) (inside : Inside) (left : ℕ) (t : Text) → behind_byte 40 t ≡ None → primary_at schema inside left t ≡ (leaf_at schema t >>= λ p. Ok (p.0, left, p.1))
unfolding primary_at leaf_at
leaf_or_group schema inside left [] n = refl
leaf_or_group schema inside left (b ∷ bs) n = rw (other_first 40 b bs n) refl

module _ (schema : Schema) (inside : Inside) (left : ℕ) (t : Text) where
  is_group : (inner : Text) → t ≡ 40 ∷ inner → primary_at schema inside left t ≡ (inside left inner >>= grouped)
  unfolding primary_at
  is_group inner e = rw e refl

  pub leaf_fails : (at : ℕ) → behind_byte 40 t ≡ None → leaf_at schema t ≡ Err at → primary_at schema inside left t ≡ Err at
  leaf_fails at n h = rw (leaf_or_group schema inside left t n, h) refl

  pub leaf_read : (p : Primary) (rest : Text) → behind_byte 40 t ≡ None → leaf_at schema t ≡ Ok (p, rest) → primary_at schema inside left t ≡ Ok (p, left, rest)
  leaf_read p rest n h = rw (leaf_or_group schema inside left t n, h) refl

  module _ (inner : Text) (begins : t ≡ 40 ∷ inner) where
    pub group_fails : (at : ℕ) → inside left inner ≡ Err at → primary_at schema inside left t ≡ Err at
    group_fails at h = rw (is_group inner begins, h) refl

    pub group_read : (q : Query) (after : ℕ) (rest more : Text) → inside left inner ≡ Ok (q, after, rest) → rest ≡ 41 ∷ more → primary_at schema inside left t ≡ Ok (Primary.group q, after, more)
    group_read q after rest more h e = rw (is_group inner begins, h, e) refl

    pub group_open : (q : Query) (after : ℕ) (rest : Text) → inside left inner ≡ Ok (q, after, rest) → ends rest ≡ true → behind_byte 41 rest ≡ None → primary_at schema inside left t ≡ Err 0
    group_open q after rest h e n = rw (is_group inner begins, h, ended rest e n) refl
      where
        ended : (rest : Text) → ends rest ≡ true → behind_byte 41 rest ≡ None → rest ≡ []
        ended [] e n = refl
        ended (b ∷ bs) e n = absurd (let no = other_first 41 b bs n in cc)

-- ---- a clause

pub clause_zero : (schema : Schema) (inside : Inside) (left : ℕ) (t : Text) → left ≡ 0 → clause_at schema inside left t ≡ Err (length t)
unfolding clause_at
clause_zero schema inside left t e = rw e refl

module _ (schema : Schema) (inside : Inside) (t : Text) (s : Sign) (rest : Text) (sign : (s, rest) ≡ sign_at t) where
  clause_is : (left : ℕ) → left ≢ 0 → clause_at schema inside left t ≡ (primary_at schema inside (left - 1) rest >>= λ p. Ok (s, p.0, p.1, p.2))
  unfolding clause_at
  clause_is zero some = absurd (some refl)
  clause_is (suc n) some =
      let one : suc n - 1 ≡ n = omega arith in
      rw (one, ← sign) refl

  pub clause_stops : (left at : ℕ) → left ≢ 0 → primary_at schema inside (left - 1) rest ≡ Err at → clause_at schema inside left t ≡ Err at
  clause_stops left at some h = clause_is left some ∙ rw h refl

  pub clause_read : (left after : ℕ) (p : Primary) (more : Text) → left ≢ 0 → primary_at schema inside (left - 1) rest ≡ Ok (p, after, more) → clause_at schema inside left t ≡ Ok (s, p, after, more)
  clause_read left after p more some h = clause_is left some ∙ rw h refl

-- ---- where no more groups may stand inside one another

pub content_zero : (schema : Schema) (levels left : ℕ) (text : Text) → levels ≡ 0 → content_at schema levels left text ≡ Err (length text + 1)
unfolding content_at
content_zero schema levels left text e = rw e refl

-- ---- the whole text

pub read_ok : (schema : Schema) (text : Text) (q : Query) → all_of (content_at schema (depth_limit + 1) clause_limit text) ≡ Ok q → read_query schema text ≡ Ok q
unfolding read_query
read_ok schema text q h = ap (placed (length text)) h

pub read_err : (schema : Schema) (text : Text) (left : ℕ) → all_of (content_at schema (depth_limit + 1) clause_limit text) ≡ Err left → read_query schema text ≡ Err (length text - left)
unfolding read_query
read_err schema text left h = ap (placed (length text)) h

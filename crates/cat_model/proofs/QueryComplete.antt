-- What is written by the grammar, within the limits, is read.
use Rattle.std.proofs.Common.{◌≡◌, ◌≢◌, ℕ, zero, suc, ◌-◌, ◌+◌, ◌≤◌, ◌<◌, [], ◌∷◌, ◌++◌, Ok, true, false, eqb, inl, inr, refl, sym, ap, subst, ◌∙◌, append_assoc, eq-eqb, arith}
use Rattle.std.specs.Prelude.{IsTrue}
use Rattle.std.proofs.lemmas.Bool.{eqb-true, or_cases, or_left, or_right}
use Rattle.std.specs.List.{AllByRecursion}
use Rattle.cat_model.specs.Text.{Text}
use Rattle.cat_model.specs.Item.{Schema, is_name_byte}
use Rattle.cat_model.specs.Query.{Query, Primary, Sign}
use Rattle.cat_model.specs.Grammar.{AreSpaces, IsTerm, IsQuery, IsSeries, IsClause, IsPrimary, clauses, clauses_in, depth, depth_in}
use Rattle.cat_model.specs.Faults.{CutsValue, IsWhole}
use Rattle.cat_model.specs.Reader.{Inside, after_spaces, ends, breaks, sign_at, leaf_at, primary_at, clause_at, gap_at, clauses_at, content_at, term_at}
use Rattle.cat_model.proofs.QueryValues.{differs}
use Rattle.cat_model.proofs.QueryTerms.{term_complete, means_leaf}

-- ---- first bytes

-- a text that begins with neither a space nor a `)`
pub record Begins (t : Text) : Type 0 where
  pub first : ℕ
  pub others : Text
  pub parts : t ≡ first ∷ others
  pub no_space : eqb first 32 ≡ false
  pub no_close : eqb first 41 ≡ false

-- and with no sign
pub record BeginsPrimary (t : Text) : Type 0 where
  pub begins : Begins t
  pub no_plus : eqb begins.first 43 ≡ false
  pub no_minus : eqb begins.first 45 ≡ false

-- the first byte of a name and what follows
record NameFirst (t : Text) : Type 0 where
  primary : BeginsPrimary t
  no_open : eqb primary.begins.first 40 ≡ false
  no_star : eqb primary.begins.first 42 ≡ false

name_first : (name t : Text) → AllByRecursion (λ b. IsTrue (is_name_byte b)) name → NameFirst (name ++ 58 ∷ t)
name_first [] t h = record { primary = record { begins = record { first = 58; others = t; parts = refl; no_space = refl; no_close = refl }; no_plus = refl; no_minus = refl }; no_open = refl; no_star = refl }
name_first (b ∷ name) t h = record {
  primary = record {
    begins = record { first = b; others = name ++ 58 ∷ t; parts = refl; no_space = differs is_name_byte b 32 h.0 refl; no_close = differs is_name_byte b 41 h.0 refl };
    no_plus = differs is_name_byte b 43 h.0 refl;
    no_minus = differs is_name_byte b 45 h.0 refl;
  };
  no_open = differs is_name_byte b 40 h.0 refl;
  no_star = differs is_name_byte b 42 h.0 refl;
}

term_begins : {schema : Schema} {t : Text} {p : Primary} → IsTerm schema t p → BeginsPrimary t
term_begins (IsTerm.term f t k a p named field value means) = (name_first f t named).primary

pub primary_begins : {schema : Schema} {t : Text} {p : Primary} → IsPrimary schema t p → BeginsPrimary t
primary_begins (IsPrimary.in_parentheses t q x) = record { begins = record { first = 40; others = t ++ 41 ∷ []; parts = refl; no_space = refl; no_close = refl }; no_plus = refl; no_minus = refl }
primary_begins IsPrimary.all = record { begins = record { first = 42; others = 58 ∷ 42 ∷ []; parts = refl; no_space = refl; no_close = refl }; no_plus = refl; no_minus = refl }
primary_begins (IsPrimary.of_field t p x) = term_begins x

pub clause_begins : {schema : Schema} {t : Text} {s : Sign} {p : Primary} → IsClause schema t s p → Begins t
clause_begins (IsClause.should t p q) = (primary_begins q).begins
clause_begins (IsClause.must t p q) = record { first = 43; others = t; parts = refl; no_space = refl; no_close = refl }
clause_begins (IsClause.must_not t p q) = record { first = 45; others = t; parts = refl; no_space = refl; no_close = refl }

pub Begins-append : (t u : Text) → Begins t → Begins (t ++ u)
Begins-append t u b = record { first = b.first; others = b.others ++ u; parts = ap (λ (x : Text). x ++ u) b.parts; no_space = b.no_space; no_close = b.no_close }

pub series_begins : {schema : Schema} {t : Text} {q : Query} → IsSeries schema t q → Begins t
series_begins (IsSeries.one t s p c) = clause_begins c
series_begins (IsSeries.more t gap u s p q c g ne r) = Begins-append t (gap ++ u) (clause_begins c)

-- ---- spaces

pub after_spaces-append : (gap text : Text) → AreSpaces gap → after_spaces (gap ++ text) ≡ after_spaces text
after_spaces-append [] text h = refl
after_spaces-append (b ∷ gap) text h = rw (eq-eqb b 32 h.0) (after_spaces-append gap text h.1)

pub Begins-stays : (t : Text) → Begins t → after_spaces t ≡ t
Begins-stays t b = ap after_spaces b.parts ∙ rw b.no_space (sym b.parts)

pub Begins-ends : (t : Text) → Begins t → ends t ≡ false
Begins-ends t b = ap ends b.parts ∙ b.no_close

pub ends-stays : (t : Text) → ends t ≡ true → after_spaces t ≡ t
ends-stays [] e = refl
ends-stays (b ∷ bs) e = subst (λ (x : ℕ). after_spaces (x ∷ bs) ≡ x ∷ bs) (sym (eqb-true b 41 e)) refl

pub ends-breaks : (t : Text) → ends t ≡ true → breaks t ≡ true
ends-breaks [] e = refl
ends-breaks (b ∷ bs) e = or_right (eqb b 32) (eqb b 41) e

spaces-break : (gap t : Text) → AreSpaces gap → gap ≢ [] → breaks (gap ++ t) ≡ true
spaces-break [] t h ne = absurd (ne refl)
spaces-break (b ∷ gap) t h ne = or_left (eqb b 32) (eqb b 41) (eq-eqb b 32 h.0)

spaces-then_end : (gap t : Text) → AreSpaces gap → ends t ≡ true → breaks (gap ++ t) ≡ true
spaces-then_end [] t h e = ends-breaks t e
spaces-then_end (b ∷ gap) t h e = or_left (eqb b 32) (eqb b 41) (eq-eqb b 32 h.0)

gap_is : (text rest : Text) → breaks text ≡ true → after_spaces text ≡ rest → gap_at text ≡ Ok rest
gap_is text rest b e = rw b (ap (λ (x : Text). Ok x) e)

breaks-cut : (rest : Text) → breaks rest ≡ true → CutsValue rest
breaks-cut [] e = tt
breaks-cut (b ∷ bs) e = elim (or_cases (eqb b 32) (eqb b 41) e) [
  | inl h ↦ subst (λ (x : ℕ). CutsValue (x ∷ bs)) (sym (eqb-true b 32 h)) refl
  | inr h ↦ subst (λ (x : ℕ). CutsValue (x ∷ bs)) (sym (eqb-true b 41 h)) refl
]

-- ---- what is to be shown of each part of the grammar

abbrev pub ReadsPrimary : Schema → Text → Primary → Type 0
ReadsPrimary schema t p = (levels left : ℕ) (rest : Text) → breaks rest ≡ true → clauses_in p ≤ left → depth_in p ≤ levels
    → primary_at schema (content_at schema levels) left (t ++ rest) ≡ Ok (p, left - clauses_in p, rest)

abbrev pub ReadsClause : Schema → Text → Sign → Primary → Type 0
ReadsClause schema t s p = (levels left : ℕ) (rest : Text) → breaks rest ≡ true → clauses_in p < left → depth_in p ≤ levels
    → clause_at schema (content_at schema levels) left (t ++ rest) ≡ Ok (s, p, left - suc (clauses_in p), rest)

abbrev pub ReadsSeries : Schema → Text → Query → Type 0
ReadsSeries schema t q = (levels n left : ℕ) (after rest : Text) → AreSpaces after → ends rest ≡ true → clauses q ≤ left → left ≤ n → depth q ≤ levels
    → clauses_at schema (content_at schema levels) n left (t ++ (after ++ rest)) ≡ Ok (q, left - clauses q, rest)

abbrev pub ReadsQuery : Schema → Text → Query → Type 0
ReadsQuery schema t q = (levels left : ℕ) (rest : Text) → ends rest ≡ true → clauses q ≤ left → depth q ≤ levels
    → content_at schema (suc levels) left (t ++ rest) ≡ Ok (q, left - clauses q, rest)

-- ---- each step

group_step : (schema : Schema) (t : Text) (q : Query) → ReadsQuery schema t q → ReadsPrimary schema (40 ∷ (t ++ 41 ∷ [])) (Primary.group q)
unfolding primary_at
group_step schema t q inner zero left rest b c d = absurd (omega arith)
group_step schema t q inner (suc l) left rest b c d =
    let regrouped : (t ++ 41 ∷ []) ++ rest ≡ t ++ (41 ∷ rest) = append_assoc t (41 ∷ []) rest in
    let read : content_at schema (suc l) left ((t ++ 41 ∷ []) ++ rest) ≡ Ok (q, left - clauses q, 41 ∷ rest) =
    ap (content_at schema (suc l) left) regrouped ∙ inner l left (41 ∷ rest) refl c (omega arith) in
    rw read refl

all_step : (schema : Schema) → ReadsPrimary schema (42 ∷ 58 ∷ 42 ∷ []) Primary.everything
unfolding primary_at leaf_at
all_step schema levels left rest b c d = ap (λ (k : ℕ). Ok (Primary.everything, k, rest)) (omega arith)

field_at : (schema : Schema) (inside : Inside) (left : ℕ) (text : Text) (b : ℕ) (bs : Text) (p : Primary) (rest : Text) → text ≡ b ∷ bs → eqb b 40 ≡ false → eqb b 42 ≡ false → term_at schema text ≡ Ok (p, rest) → primary_at schema inside left text ≡ Ok (p, left, rest)
unfolding primary_at leaf_at
field_at schema inside left text b bs p rest e x y h =
    let h' : term_at schema (b ∷ bs) ≡ Ok (p, rest) = ap (term_at schema) (sym e) ∙ h in
    ap (primary_at schema inside left) e ∙ rw (x, y, h') refl

field_step : {schema : Schema} {t : Text} {p : Primary} → IsTerm schema t p → ReadsPrimary schema t p
unfolding Begins-append
field_step {schema} (IsTerm.term f t k a p named field value means) levels left rest b c d =
    let first = name_first f t named in
    let all = Begins-append (f ++ 58 ∷ t) rest first.primary.begins in
    let regrouped : (f ++ 58 ∷ t) ++ rest ≡ f ++ (58 ∷ (t ++ rest)) = append_assoc f (58 ∷ t) rest in
    let none : clauses_in p ≡ 0 = (means_leaf means).0 in
    field_at schema (content_at schema levels) left ((f ++ 58 ∷ t) ++ rest) first.primary.begins.first (first.primary.begins.others ++ rest) p rest all.parts first.no_open first.no_star
    (ap (term_at schema) regrouped ∙ term_complete schema f t rest k a p named field (IsWhole.cut t rest a value (breaks-cut rest b)) means)
    ∙ ap (λ (k : ℕ). Ok (p, k, rest)) (omega arith)

clause_with : (schema : Schema) (inside : Inside) (left : ℕ) (text : Text) (s : Sign) (behind : Text) (p : Primary) (after : ℕ) (rest : Text) → sign_at text ≡ (s, behind) → primary_at schema inside left behind ≡ Ok (p, after, rest)
    → clause_at schema inside (suc left) text ≡ Ok (s, p, after, rest)
unfolding clause_at
clause_with schema inside left text s behind p after rest e h = rw (e, h) refl

clause_step : (schema : Schema) (text : Text) (s : Sign) (t : Text) (p : Primary) → ((rest : Text) → sign_at (text ++ rest) ≡ (s, t ++ rest)) → ReadsPrimary schema t p → ReadsClause schema text s p
clause_step schema text s t p sign read levels zero rest b c d = absurd (omega arith)
clause_step schema text s t p sign read levels (suc left) rest b c d =
    let k : left - clauses_in p ≡ suc left - suc (clauses_in p) = omega arith in
    clause_with schema (content_at schema levels) left (text ++ rest) s (t ++ rest) p (suc left - suc (clauses_in p)) rest (sign rest)
    (read levels left rest b (omega arith) d ∙ ap (λ (x : ℕ). Ok (p, x, rest)) k)

no_sign : (t rest : Text) → BeginsPrimary t → sign_at (t ++ rest) ≡ (Sign.should, t ++ rest)
unfolding Begins-append
no_sign t rest b =
    let parts = (Begins-append t rest b.begins).parts in
    ap sign_at parts ∙ rw (b.no_plus, b.no_minus) (ap (λ (x : Text). (Sign.should, x)) (sym parts))

clauses_last : (schema : Schema) (inside : Inside) (n left : ℕ) (text : Text) (s : Sign) (p : Primary) (after : ℕ) (behind rest : Text)
    → clause_at schema inside left text ≡ Ok (s, p, after, behind) → gap_at behind ≡ Ok rest → ends rest ≡ true → clauses_at schema inside (suc n) left text ≡ Ok (Query.clause s p Query.no_clause, after, rest)
unfolding clauses_at
clauses_last schema inside n left text s p after behind rest c g e = rw (c, g, e) refl

clauses_more : (schema : Schema) (inside : Inside) (n left : ℕ) (text : Text) (s : Sign) (p : Primary) (after : ℕ) (behind rest : Text) (q : Query) (still : ℕ) (end : Text)
    → clause_at schema inside left text ≡ Ok (s, p, after, behind) → gap_at behind ≡ Ok rest → ends rest ≡ false → clauses_at schema inside n after rest ≡ Ok (q, still, end)
    → clauses_at schema inside (suc n) left text ≡ Ok (Query.clause s p q, still, end)
unfolding clauses_at
clauses_more schema inside n left text s p after behind rest q still end c g e h = rw (c, g, e, h) refl

one_step : (schema : Schema) (t : Text) (s : Sign) (p : Primary) → ReadsClause schema t s p → ReadsSeries schema t (Query.clause s p Query.no_clause)
one_step schema t s p read levels zero left after rest sp e c n d = absurd (omega arith)
one_step schema t s p read levels (suc n) left after rest sp e c m d =
    let first = read levels left (after ++ rest) (spaces-then_end after rest sp e) (omega arith) (omega arith) in
    let g = gap_is (after ++ rest) rest (spaces-then_end after rest sp e) (after_spaces-append after rest sp ∙ ends-stays rest e) in
    clauses_last schema (content_at schema levels) n left (t ++ (after ++ rest)) s p (left - suc (clauses_in p)) (after ++ rest) rest first g e
    ∙ ap (λ (k : ℕ). Ok (Query.clause s p Query.no_clause, k, rest)) (omega arith)

more_step : (schema : Schema) (t gap u : Text) (s : Sign) (p : Primary) (q : Query) → AreSpaces gap → gap ≢ [] → Begins u → ReadsClause schema t s p → ReadsSeries schema u q → ReadsSeries schema (t ++ (gap ++ u)) (Query.clause s p q)
more_step schema t gap u s p q g ne b read others levels zero left after rest sp e c m d = absurd (omega arith)
more_step schema t gap u s p q g ne b read others levels (suc n) left after rest sp e c m d =
    let tail : Text = u ++ (after ++ rest) in
    let regrouped : (t ++ (gap ++ u)) ++ (after ++ rest) ≡ t ++ (gap ++ tail) = simp append_assoc in
    let b' = Begins-append u (after ++ rest) b in
    let first = read levels left (gap ++ tail) (spaces-break gap tail g ne) (omega arith) (omega arith) in
    let gap-is = gap_is (gap ++ tail) tail (spaces-break gap tail g ne) (after_spaces-append gap tail g ∙ Begins-stays tail b') in
    let next = others levels n (left - suc (clauses_in p)) after rest sp e (omega arith) (omega arith) (omega arith) in
    let k : left - suc (clauses_in p) - clauses q ≡ left - (1 + clauses_in p + clauses q) = omega arith in
    ap (clauses_at schema (content_at schema levels) (suc n) left) regrouped
    ∙ clauses_more schema (content_at schema levels) n left (t ++ (gap ++ tail)) s p (left - suc (clauses_in p)) (gap ++ tail) tail q (left - suc (clauses_in p) - clauses q) rest first gap-is (Begins-ends tail b') next
    ∙ ap (λ (x : ℕ). Ok (Query.clause s p q, x, rest)) k

content_with : (schema : Schema) (levels left : ℕ) (text behind : Text) (q : Query) (still : ℕ) (rest : Text) → after_spaces text ≡ behind → ends behind ≡ false → clauses_at schema (content_at schema levels) left left behind ≡ Ok (q, still, rest)
    → content_at schema (suc levels) left text ≡ Ok (q, still, rest)
unfolding content_at
content_with schema levels left text behind q still rest a e h = rw (a, e, h) refl

query_step : (schema : Schema) (before text after : Text) (q : Query) → AreSpaces before → AreSpaces after → Begins text → ReadsSeries schema text q → ReadsQuery schema (before ++ (text ++ after)) q
query_step schema before text after q sb sa b read levels left rest e c d =
    let tail : Text = text ++ (after ++ rest) in
    let regrouped : (before ++ (text ++ after)) ++ rest ≡ before ++ tail = simp append_assoc in
    let b' = Begins-append text (after ++ rest) b in
    content_with schema levels left ((before ++ (text ++ after)) ++ rest) tail q (left - clauses q) rest
    (ap after_spaces regrouped ∙ after_spaces-append before tail sb ∙ Begins-stays tail b') (Begins-ends tail b')
    (read levels left left after rest sa e c (omega arith) d)

-- ---- the grammar as a whole

mutual
  pub reads_query : {schema : Schema} {t : Text} {q : Query} → IsQuery schema t q → ReadsQuery schema t q
  reads_query {schema} (IsQuery.query before text after q sb s sa) = query_step schema before text after q sb sa (series_begins s) (reads_series s)

  pub reads_series : {schema : Schema} {t : Text} {q : Query} → IsSeries schema t q → ReadsSeries schema t q
  reads_series {schema} (IsSeries.one t s p c) = one_step schema t s p (reads_clause c)
  reads_series {schema} (IsSeries.more t gap u s p q c g ne r) = more_step schema t gap u s p q g ne (series_begins r) (reads_clause c) (reads_series r)

  pub reads_clause : {schema : Schema} {t : Text} {s : Sign} {p : Primary} → IsClause schema t s p → ReadsClause schema t s p
  reads_clause {schema} (IsClause.should t p q) = clause_step schema t Sign.should t p (λ rest. no_sign t rest (primary_begins q)) (reads_primary q)
  reads_clause {schema} (IsClause.must t p q) = clause_step schema (43 ∷ t) Sign.must t p (λ rest. refl) (reads_primary q)
  reads_clause {schema} (IsClause.must_not t p q) = clause_step schema (45 ∷ t) Sign.must_not t p (λ rest. refl) (reads_primary q)

  pub reads_primary : {schema : Schema} {t : Text} {p : Primary} → IsPrimary schema t p → ReadsPrimary schema t p
  reads_primary {schema} (IsPrimary.in_parentheses t q x) = group_step schema t q (reads_query x)
  reads_primary {schema} IsPrimary.all = all_step schema
  reads_primary {schema} (IsPrimary.of_field t p x) = field_step x

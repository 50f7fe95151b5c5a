-- Reading goes from left to right as the definition of faults says, and a text is refused where it stops being read.
use Rattle.std.proofs.Common.{◌≡◌, ℕ, zero, suc, ◌+◌, ◌≤◌, ◌<◌, [], ◌∷◌, ◌++◌, length, drop, Result, Ok, Err, Some, Bool, true, false, true≢false, nat_eq, eqb, cond, ◌||◌, ◌⊎◌, inl, inr, refl, sym, ap, subst, ◌∙◌, append_assoc, arith}
use Rattle.std.specs.Prelude.{IsTrue, not}
use Rattle.std.proofs.lemmas.Bool.{eqb-true, or_parts, or_left, or_right, cond_both, cases_Bool}
use Rattle.std.specs.List.{AllByRecursion, starts_with}
use Rattle.std.specs.Char.{is_ascii_lowercase, is_ascii_digit}
use Rattle.cat_model.specs.Text.{Text}
use Rattle.cat_model.specs.Item.{Schema, IsSchema, Kind, kind_of, is_name_byte}
use Rattle.cat_model.specs.Query.{Query, Primary, Sign}
use Rattle.cat_model.specs.Faults.{Next, PassesOver, ReadsTo}
use Rattle.cat_model.specs.Reader.{◌>>=◌, Inside, after_spaces, ends, sign_at, grouped, everything_at, leaf_at, primary_at, clause_at, gap_at, clauses_at, content_at, term_at, name_at, whole}
use Rattle.cat_model.proofs.QueryTerms.{Yields, yields_bind, name_parts, name_all, term_fails, term_sound}
use Rattle.cat_model.proofs.QuerySound.{everything_is}
use Rattle.cat_model.proofs.QueryPlaces.{begins_primary, is_sign, no_term, Move, move, too_many_stops, no_clause_stops, empty_stops, unopened_stops, unopened_end_stops, no_primary_stops, too_deep_stops, star_stops, no_field_stops, no_value_stops, no_end_stops, text_end_stops}

-- where reading stops, with so many bytes left
pub record Faulty (schema : Schema) (text : Text) (left : ℕ) : Type 0 where
  pub front : Text
  pub rest : Text
  pub next : Next
  pub reads : ReadsTo schema text front rest next
  pub stuck : move schema next rest ≡ Move.stops
  pub least : left ≡ length rest

-- what is read is so, or is refused where reading stops
abbrev pub Judged : {A : Type 0} → Schema → Text → (A → Type 0) → Result A ℕ → Type 0
Judged schema text P r = Yields (Faulty schema text) P r

judged_bind : {A B : Type 0} (schema : Schema) (text : Text) (P : A → Type 0) (Q : B → Type 0) (r : Result A ℕ) (f : A → Result B ℕ) → Judged schema text P r → ((x : A) → P x → Judged schema text Q (f x)) → Judged schema text Q (r >>= f)
judged_bind schema text P Q r f so go = yields_bind (Faulty schema text) P Q r f so go

-- reading stops before what comes next
faulty_here : {schema : Schema} {text f r : Text} {next : Next} → ReadsTo schema text f r next → move schema next r ≡ Move.stops → Faulty schema text (length r)
faulty_here {f = f} {r = r} {next = next} x e = record { front = f; rest = r; next = next; reads = x; stuck = e; least = refl }

-- ---- primaries that are no groups

-- the front up to the rest, after which this may come
pub record Goes (schema : Schema) (text rest : Text) (next : Next) : Type 0 where
  pub front : Text
  pub reads : ReadsTo schema text front rest next

pub lower_name : (b : ℕ) → is_ascii_lowercase b ≡ true → is_name_byte b ≡ true
lower_name b e = or_left (is_ascii_lowercase b || is_ascii_digit b) (eqb b 95) (or_left (is_ascii_lowercase b) (is_ascii_digit b) e)

-- up to the colon of a field
field_goes : (schema : Schema) (text f rest name behind : Text) (c g : ℕ) (k : Kind) → ReadsTo schema text f rest (Next.a_primary c g) → rest ≡ name ++ (58 ∷ behind) → AllByRecursion (λ b. IsTrue (is_name_byte b)) name → kind_of schema name ≡ Some k
    → Goes schema text behind (Next.a_value name k c g)
field_goes schema text f rest name behind c g k reads parts named field =
    let same : rest ≡ (name ++ 58 ∷ []) ++ behind = parts ∙ sym (append_assoc name (58 ∷ []) behind) in
    let before = subst (λ (r : Text). ReadsTo schema text f r (Next.a_primary c g)) same reads in
    record { front = f ++ (name ++ 58 ∷ []); reads = ReadsTo.step f (name ++ 58 ∷ []) behind (Next.a_primary c g) (Next.a_value name k c g) before (PassesOver.field name behind c g k named field) }

term_goes : (schema : Schema) (text f : Text) (b : ℕ) (bs : Text) (c g : ℕ) → ReadsTo schema text f (b ∷ bs) (Next.a_primary c g) → is_ascii_lowercase b ≡ true → (r : Result (Primary × Text) ℕ) → term_at schema (b ∷ bs) ≡ r
    → Judged schema text (λ x. Goes schema text x.1 (Next.an_end c g)) r
term_goes schema text f b bs c g reads lower (Ok x) e =
    let t = term_sound schema (b ∷ bs) x.0 x.1 e in
    let colon = field_goes schema text f (b ∷ bs) t.name (t.value ++ x.1) c g t.kind reads t.parts t.named t.field in
    record {
      front = colon.front ++ t.value;
      reads = ReadsTo.step colon.front t.value x.1 (Next.a_value t.name t.kind c g) (Next.an_end c g) colon.reads (PassesOver.value t.name t.value x.1 c g t.kind t.asks x.0 t.whole t.means);
    }
term_goes schema text f b bs c g reads lower (Err n) e = elim (term_fails schema (b ∷ bs) n e) [
  | inl w ↦ subst (λ (left : ℕ). Faulty schema text left) (sym w.left) (faulty_here reads (no_field_stops schema c g b bs lower w.wrong))
  | inr w ↦
      let name : Text = name_at (b ∷ bs) in
      let parts : b ∷ bs ≡ name ++ (58 ∷ w.behind) = name_parts (b ∷ bs) ∙ ap (λ (x : Text). name ++ x) w.colon in
      let colon = field_goes schema text f (b ∷ bs) name w.behind c g w.kind reads parts (name_all (b ∷ bs)) w.field in
      subst (λ (left : ℕ). Faulty schema text left) (sym w.left) (faulty_here colon.reads (no_value_stops schema c g name w.behind w.kind w.none))
]

star_goes : (schema : Schema) (text f bs : Text) (c g : ℕ) → ReadsTo schema text f (42 ∷ bs) (Next.a_primary c g) → Judged schema text (λ x. Goes schema text x.1 (Next.an_end c g)) (everything_at (42 ∷ bs))
star_goes schema text f bs c g reads =
    cond_both (starts_with nat_eq (42 ∷ bs) (42 ∷ 58 ∷ 42 ∷ [])) (Ok (Primary.everything, drop 3 (42 ∷ bs))) (Err (length (42 ∷ bs))) (Judged schema text (λ x. Goes schema text x.1 (Next.an_end c g)))
    (λ h. record { front = f ++ (42 ∷ 58 ∷ 42 ∷ []); reads = ReadsTo.step f (42 ∷ 58 ∷ 42 ∷ []) (drop 3 (42 ∷ bs)) (Next.a_primary c g) (Next.an_end c g) (subst (λ (r : Text). ReadsTo schema text f r (Next.a_primary c g)) (everything_is (42 ∷ bs) h) reads) (PassesOver.everything (drop 3 (42 ∷ bs)) c g) })
    (λ h. faulty_here reads (star_stops schema c g bs h))

leaf_goes : (schema : Schema) (text f : Text) (b : ℕ) (bs : Text) (c g : ℕ) → IsSchema schema → ReadsTo schema text f (b ∷ bs) (Next.a_primary c g) → eqb b 40 ≡ false → Judged schema text (λ x. Goes schema text x.1 (Next.an_end c g)) (leaf_at schema (b ∷ bs))
unfolding leaf_at
leaf_goes schema text f b bs c g ok reads no_open =
    cond_both (eqb b 42) (everything_at (b ∷ bs)) (term_at schema (b ∷ bs)) (Judged schema text (λ x. Goes schema text x.1 (Next.an_end c g)))
    (λ h. star (eqb-true b 42 h))
    (λ h. elim (cases_Bool (is_ascii_lowercase b)) [
      | inl lower ↦ term_goes schema text f b bs c g reads lower (term_at schema (b ∷ bs)) refl
      | inr other ↦
          let e : term_at schema (b ∷ bs) ≡ Err (length (b ∷ bs)) = no_term schema ok b bs other in
          let none : begins_primary b ≡ false = rw (no_open, h, other) refl in
          subst (Judged schema text (λ x. Goes schema text x.1 (Next.an_end c g))) (sym e) (faulty_here reads (no_primary_stops schema c g b bs ok none))
    ])
  where
    star : b ≡ 42 → Judged schema text (λ x. Goes schema text x.1 (Next.an_end c g)) (everything_at (b ∷ bs))
    star e = subst (λ (x : ℕ). Judged schema text (λ y. Goes schema text y.1 (Next.an_end c g)) (everything_at (x ∷ bs))) (sym e)
        (star_goes schema text f bs c g (subst (λ (x : ℕ). ReadsTo schema text f (x ∷ bs) (Next.a_primary c g)) e reads))

-- ---- primaries

-- what was read of a group or of the whole text, and what may come behind it
pub record EndsSo (schema : Schema) (text : Text) (c g : ℕ) (x : Query × ℕ × Text) : Type 0 where
  pub count : ℕ
  pub more : c ≤ count
  pub used : count + x.1 ≡ 64
  pub front : Text
  pub stops : ends x.2 ≡ true
  pub reads : ReadsTo schema text front x.2 (Next.an_end count g) ⊎ ReadsTo schema text front x.2 (Next.a_clause count g false)

record PrimaryGoes (schema : Schema) (text : Text) (c g : ℕ) (x : Primary × ℕ × Text) : Type 0 where
  count : ℕ
  more : c ≤ count
  used : count + x.1 ≡ 64
  front : Text
  reads : ReadsTo schema text front x.2 (Next.an_end count g)

abbrev GoesInside : Schema → Text → Inside → ℕ → Type 0
GoesInside schema text inside levels =
    (f rest : Text) (c g left : ℕ) → ReadsTo schema text f rest (Next.a_clause c g true) → c + left ≡ 64 → g + levels ≡ 9 → g ≤ 8 → Judged schema text (EndsSo schema text c g) (inside left rest)

grouped_goes : (schema : Schema) (text : Text) (c g : ℕ) (x : Query × ℕ × Text) → EndsSo schema text c (g + 1) x → Judged schema text (PrimaryGoes schema text c g) (grouped x)
grouped_goes schema text c g (q, left, []) so = elim so.reads [
  | inl r ↦ faulty_here r (text_end_stops schema (Next.an_end so.count (g + 1)))
  | inr r ↦ faulty_here r (text_end_stops schema (Next.a_clause so.count (g + 1) false))
]
grouped_goes schema text c g (q, left, b ∷ bs) so =
    let is : b ≡ 41 = eqb-true b 41 so.stops in
    record {
      count = so.count;
      more = so.more;
      used = so.used;
      front = so.front ++ 41 ∷ [];
      reads = elim so.reads [
        | inl r ↦ ReadsTo.step so.front (41 ∷ []) bs (Next.an_end so.count (g + 1)) (Next.an_end so.count g) (subst (λ (x : ℕ). ReadsTo schema text so.front (x ∷ bs) (Next.an_end so.count (g + 1))) is r) (PassesOver.shut bs so.count g)
        | inr r ↦ ReadsTo.step so.front (41 ∷ []) bs (Next.a_clause so.count (g + 1) false) (Next.an_end so.count g) (subst (λ (x : ℕ). ReadsTo schema text so.front (x ∷ bs) (Next.a_clause so.count (g + 1) false)) is r) (PassesOver.shut_behind_space bs so.count g)
      ];
    }

group_goes : (schema : Schema) (text f : Text) (bs : Text) (c g left levels : ℕ) → GoesInside schema text (content_at schema levels) levels → ReadsTo schema text f (40 ∷ bs) (Next.a_primary c g) → c + left ≡ 64 → g + levels ≡ 8
    → Judged schema text (PrimaryGoes schema text c g) (content_at schema levels left bs >>= grouped)
unfolding content_at
group_goes schema text f bs c g left zero inside reads used deep =
    let eight : g ≡ 8 = omega arith in
    let k : length (40 ∷ bs) ≡ length bs + 1 = omega arith in
    subst (Faulty schema text) k (faulty_here (subst (λ (x : ℕ). ReadsTo schema text f (40 ∷ bs) (Next.a_primary c x)) eight reads) (too_deep_stops schema c bs))
group_goes schema text f bs c g left (suc levels) inside reads used deep =
    judged_bind schema text (EndsSo schema text c (g + 1)) (PrimaryGoes schema text c g) (content_at schema (suc levels) left bs) grouped
    (inside (f ++ 40 ∷ []) bs c (g + 1) left (ReadsTo.step f (40 ∷ []) bs (Next.a_primary c g) (Next.a_clause c (g + 1) true) reads (PassesOver.opened bs c g (omega arith))) used (omega arith) (omega arith))
    (grouped_goes schema text c g)

primary_goes : (schema : Schema) (text f rest : Text) (c g left levels : ℕ) → IsSchema schema → GoesInside schema text (content_at schema levels) levels → ReadsTo schema text f rest (Next.a_primary c g) → c + left ≡ 64 → g + levels ≡ 8
    → Judged schema text (PrimaryGoes schema text c g) (primary_at schema (content_at schema levels) left rest)
unfolding primary_at
primary_goes schema text f [] c g left levels ok inside reads used deep = faulty_here reads (text_end_stops schema (Next.a_primary c g))
primary_goes schema text f (b ∷ bs) c g left levels ok inside reads used deep =
    cond_both (eqb b 40) (content_at schema levels left bs >>= grouped) (leaf_at schema (b ∷ bs) >>= λ p. Ok (p.0, left, p.1)) (Judged schema text (PrimaryGoes schema text c g))
    (λ h. group_goes schema text f bs c g left levels inside (subst (λ (x : ℕ). ReadsTo schema text f (x ∷ bs) (Next.a_primary c g)) (eqb-true b 40 h) reads) used deep)
    (λ h. judged_bind schema text (λ x. Goes schema text x.1 (Next.an_end c g)) (PrimaryGoes schema text c g) (leaf_at schema (b ∷ bs)) (λ p. Ok (p.0, left, p.1))
    (leaf_goes schema text f b bs c g ok reads h)
    (λ x so. record { count = c; more = omega arith; used = used; front = so.front; reads = so.reads }))

-- ---- clauses

record ClauseGoes (schema : Schema) (text : Text) (c g : ℕ) (x : Sign × Primary × ℕ × Text) : Type 0 where
  count : ℕ
  more : c < count
  used : count + x.2 ≡ 64
  front : Text
  reads : ReadsTo schema text front x.3 (Next.an_end count g)

-- where a clause has to begin, and neither a space nor a `)` stands
limit_fault : (schema : Schema) (text f : Text) (b : ℕ) (bs : Text) (g : ℕ) (new : Bool) → ReadsTo schema text f (b ∷ bs) (Next.a_clause 64 g new) → eqb b 32 ≡ false → eqb b 41 ≡ false → Faulty schema text (length (b ∷ bs))
limit_fault schema text f b bs g new reads no_space no_close = elim (cases_Bool (is_sign b || begins_primary b)) [
  | inl h ↦ faulty_here reads (too_many_stops schema g b bs new h)
  | inr h ↦
      let none : IsTrue (not (is_sign b || begins_primary b || eqb b 32 || eqb b 41)) = rw (h, no_space, no_close) refl in
      faulty_here reads (no_clause_stops schema 64 g b bs new none)
]

no_primary_at : (schema : Schema) → IsSchema schema → (inside : Inside) (left b : ℕ) (bs : Text) → begins_primary b ≡ false → primary_at schema inside left (b ∷ bs) ≡ Err (length (b ∷ bs))
unfolding primary_at leaf_at
no_primary_at schema ok inside left b bs e =
    let x = or_parts (eqb b 40 || eqb b 42) (is_ascii_lowercase b) e in
    let y = or_parts (eqb b 40) (eqb b 42) x.0 in
    let no_open : eqb b 40 ≡ false = y.0 in
    let no_star : eqb b 42 ≡ false = y.1 in
    let t : term_at schema (b ∷ bs) ≡ Err (length (b ∷ bs)) = no_term schema ok b bs x.1 in
    rw (no_open, no_star, t) refl

-- a clause behind its sign
behind_sign : (schema : Schema) (text f rest : Text) (s : Sign) (c g left levels : ℕ) → IsSchema schema → GoesInside schema text (content_at schema levels) levels → ReadsTo schema text f rest (Next.a_primary (c + 1) g) → c + suc left ≡ 64 → g + levels ≡ 8
    → Judged schema text (ClauseGoes schema text c g) (primary_at schema (content_at schema levels) left rest >>= λ p. Ok (s, p.0, p.1, p.2))
behind_sign schema text f rest s c g left levels ok inside reads used deep =
    judged_bind schema text (PrimaryGoes schema text (c + 1) g) (ClauseGoes schema text c g) (primary_at schema (content_at schema levels) left rest) (λ p. Ok (s, p.0, p.1, p.2))
    (primary_goes schema text f rest (c + 1) g left levels ok inside reads (omega arith) deep)
    (λ x so. record { count = so.count; more = omega (arith, so.more); used = so.used; front = so.front; reads = so.reads })

clause_goes : (schema : Schema) (text f : Text) (b : ℕ) (bs : Text) (c g left levels : ℕ) (new : Bool) → IsSchema schema → GoesInside schema text (content_at schema levels) levels → ReadsTo schema text f (b ∷ bs) (Next.a_clause c g new) → eqb b 32 ≡ false → eqb b 41 ≡ false → c + left ≡ 64 → g + levels ≡ 8
    → Judged schema text (ClauseGoes schema text c g) (clause_at schema (content_at schema levels) left (b ∷ bs))
unfolding clause_at
clause_goes schema text f b bs c g zero levels new ok inside reads no_space no_close used deep =
    let full : c ≡ 64 = omega arith in
    limit_fault schema text f b bs g new (subst (λ (x : ℕ). ReadsTo schema text f (b ∷ bs) (Next.a_clause x g new)) full reads) no_space no_close
clause_goes schema text f b bs c g (suc left) levels new ok inside reads no_space no_close used deep = elim (cases_Bool (eqb b 43)) [
  | inl h ↦
      let is : b ≡ 43 = eqb-true b 43 h in
      let e : sign_at (b ∷ bs) ≡ (Sign.must, bs) = rw h refl in
      subst (goes-as) (sym e) (behind_sign schema text (f ++ b ∷ []) bs Sign.must c g left levels ok inside (ReadsTo.step f (b ∷ []) bs (Next.a_clause c g new) (Next.a_primary (c + 1) g) reads (PassesOver.sign b bs c g new (or_left (eqb b 43) (eqb b 45) h) (omega arith))) used deep)
  | inr h ↦ elim (cases_Bool (eqb b 45)) [
    | inl k ↦
        let e : sign_at (b ∷ bs) ≡ (Sign.must_not, bs) = rw (h, k) refl in
        subst (goes-as) (sym e) (behind_sign schema text (f ++ b ∷ []) bs Sign.must_not c g left levels ok inside (ReadsTo.step f (b ∷ []) bs (Next.a_clause c g new) (Next.a_primary (c + 1) g) reads (PassesOver.sign b bs c g new (or_right (eqb b 43) (eqb b 45) k) (omega arith))) used deep)
    | inr k ↦
        let e : sign_at (b ∷ bs) ≡ (Sign.should, b ∷ bs) = rw (h, k) refl in
        elim (cases_Bool (begins_primary b)) [
          | inl p ↦ subst (goes-as) (sym e) (behind_sign schema text (f ++ []) (b ∷ bs) Sign.should c g left levels ok inside (ReadsTo.step f [] (b ∷ bs) (Next.a_clause c g new) (Next.a_primary (c + 1) g) reads (PassesOver.no_sign b bs c g new p (omega arith))) used deep)
          | inr p ↦
              let n : primary_at schema (content_at schema levels) left (b ∷ bs) ≡ Err (length (b ∷ bs)) = no_primary_at schema ok (content_at schema levels) left b bs p in
              let none : IsTrue (not (is_sign b || begins_primary b || eqb b 32 || eqb b 41)) = rw (h, k, p, no_space, no_close) refl in
              let stuck : (primary_at schema (content_at schema levels) left (b ∷ bs) >>= λ p. Ok (Sign.should, p.0, p.1, p.2)) ≡ Err (length (b ∷ bs)) = rw n refl in
              subst (goes-as) (sym e) (subst (Judged schema text (ClauseGoes schema text c g)) (sym stuck) (faulty_here reads (no_clause_stops schema c g b bs new none)))
        ]
  ]
]
  where
    goes-as : Sign × Text → Type 0
    goes-as x = Judged schema text (ClauseGoes schema text c g) (primary_at schema (content_at schema levels) left x.1 >>= λ p. Ok (x.0, p.0, p.1, p.2))

-- ---- spaces

abbrev NoSpace : Text → Type 0
NoSpace [] = Unit {0}
NoSpace (b ∷ bs) = eqb b 32 ≡ false

no_space_after : (text : Text) → NoSpace (after_spaces text)
no_space_after [] = tt
no_space_after (b ∷ bs) = cond_both (eqb b 32) (after_spaces bs) (b ∷ bs) NoSpace (λ h. no_space_after bs) (λ h. h)

spaces_go : (schema : Schema) (text f rest : Text) (c g : ℕ) (new : Bool) → ReadsTo schema text f rest (Next.a_clause c g new) → Goes schema text (after_spaces rest) (Next.a_clause c g new)
spaces_go schema text f [] c g new reads = record { front = f; reads = reads }
spaces_go schema text f (b ∷ bs) c g new reads =
    cond_both (eqb b 32) (after_spaces bs) (b ∷ bs) (λ x. Goes schema text x (Next.a_clause c g new))
    (λ h. spaces_go schema text (f ++ 32 ∷ []) bs c g new (ReadsTo.step f (32 ∷ []) bs (Next.a_clause c g new) (Next.a_clause c g new) (subst (λ (x : ℕ). ReadsTo schema text f (x ∷ bs) (Next.a_clause c g new)) (eqb-true b 32 h) reads) (PassesOver.space bs c g new)))
    (λ h. record { front = f; reads = reads })

-- behind a primary and the spaces after it
record GapGoes (schema : Schema) (text : Text) (c g : ℕ) (rest : Text) : Type 0 where
  front : Text
  reads : (ReadsTo schema text front rest (Next.an_end c g) × (ends rest ≡ true)) ⊎ ReadsTo schema text front rest (Next.a_clause c g false)
  clean : NoSpace rest

gap_goes : (schema : Schema) (text f rest : Text) (c g : ℕ) → ReadsTo schema text f rest (Next.an_end c g) → Judged schema text (GapGoes schema text c g) (gap_at rest)
gap_goes schema text f [] c g reads = record { front = f; reads = inl (reads, refl); clean = tt }
gap_goes schema text f (b ∷ bs) c g reads = elim (cases_Bool (eqb b 32)) [
  | inl h ↦
      let is : b ≡ 32 = eqb-true b 32 h in
      let so = spaces_go schema text (f ++ 32 ∷ []) bs c g false (ReadsTo.step f (32 ∷ []) bs (Next.an_end c g) (Next.a_clause c g false) (subst (λ (x : ℕ). ReadsTo schema text f (x ∷ bs) (Next.an_end c g)) is reads) (PassesOver.gap bs c g)) in
      let e : gap_at (b ∷ bs) ≡ Ok (after_spaces bs) = rw h refl in
      let found : GapGoes schema text c g (after_spaces bs) = record { front = so.front; reads = inr so.reads; clean = no_space_after bs } in
      subst (Judged schema text (GapGoes schema text c g)) (sym e) found
  | inr h ↦ elim (cases_Bool (eqb b 41)) [
    | inl k ↦
        let e : gap_at (b ∷ bs) ≡ Ok (b ∷ bs) = rw (h, k) refl in
        let found : GapGoes schema text c g (b ∷ bs) = record { front = f; reads = inl (reads, k); clean = h } in
        subst (Judged schema text (GapGoes schema text c g)) (sym e) found
    | inr k ↦
        let e : gap_at (b ∷ bs) ≡ Err (length (b ∷ bs)) = rw (h, k) refl in
        let none : IsTrue (not (eqb b 32 || eqb b 41)) = rw (h, k) refl in
        subst (Judged schema text (GapGoes schema text c g)) (sym e) (faulty_here reads (no_end_stops schema c g b bs none))
  ]
]

-- ---- clauses one after the other

series_goes : (schema : Schema) (text : Text) (levels : ℕ) → IsSchema schema → GoesInside schema text (content_at schema levels) levels → (n : ℕ) (f rest : Text) (c g left : ℕ) (new : Bool) → ReadsTo schema text f rest (Next.a_clause c g new) → ends rest ≡ false → NoSpace rest
    → c + left ≡ 64 → left ≤ n → g + levels ≡ 8 → Judged schema text (EndsSo schema text c g) (clauses_at schema (content_at schema levels) n left rest)
unfolding clauses_at
series_goes schema text levels ok inside n f [] c g left new reads stop clean used few deep = absurd (true≢false stop)
series_goes schema text levels ok inside zero f (b ∷ bs) c g left new reads stop clean used few deep =
    let full : c ≡ 64 = omega arith in
    limit_fault schema text f b bs g new (subst (λ (x : ℕ). ReadsTo schema text f (b ∷ bs) (Next.a_clause x g new)) full reads) clean stop
series_goes schema text levels ok inside (suc n) f (b ∷ bs) c g left new reads stop clean used few deep =
    judged_bind schema text (ClauseGoes schema text c g) (EndsSo schema text c g) (clause_at schema (content_at schema levels) left (b ∷ bs))
    (λ first. gap_at first.3 >>= λ rest. cond (ends rest) (Ok (Query.no_clause, first.2, rest)) (clauses_at schema (content_at schema levels) n first.2 rest) >>= λ others. Ok (Query.clause first.0 first.1 others.0, others.1, others.2))
    (clause_goes schema text f b bs c g left levels new ok inside reads clean stop used deep)
    (λ first so. judged_bind schema text (GapGoes schema text so.count g) (EndsSo schema text c g) (gap_at first.3)
    (λ rest. cond (ends rest) (Ok (Query.no_clause, first.2, rest)) (clauses_at schema (content_at schema levels) n first.2 rest) >>= λ others. Ok (Query.clause first.0 first.1 others.0, others.1, others.2))
    (gap_goes schema text so.front first.3 so.count g so.reads)
    (λ rest gap. judged_bind schema text (EndsSo schema text so.count g) (EndsSo schema text c g) (cond (ends rest) (Ok (Query.no_clause, first.2, rest)) (clauses_at schema (content_at schema levels) n first.2 rest))
    (λ others. Ok (Query.clause first.0 first.1 others.0, others.1, others.2))
    (cond_both (ends rest) (Ok (Query.no_clause, first.2, rest)) (clauses_at schema (content_at schema levels) n first.2 rest) (Judged schema text (EndsSo schema text so.count g))
    (λ h. record { count = so.count; more = omega arith; used = so.used; front = gap.front; stops = h; reads = either gap.reads })
    (λ h. series_goes schema text levels ok inside n gap.front rest so.count g first.2 false (behind_gap h gap.reads) h gap.clean so.used (omega (arith, so.more, so.used)) deep))
    (λ others end. record { count = end.count; more = omega (arith, so.more, end.more); used = end.used; front = end.front; stops = end.stops; reads = end.reads })))
  where
    either : {a d : ℕ} {front rest : Text} → (ReadsTo schema text front rest (Next.an_end a d) × (ends rest ≡ true)) ⊎ ReadsTo schema text front rest (Next.a_clause a d false) → ReadsTo schema text front rest (Next.an_end a d) ⊎ ReadsTo schema text front rest (Next.a_clause a d false)
    either (inl x) = inl x.0
    either (inr x) = inr x

    behind_gap : {a d : ℕ} {front rest : Text} → ends rest ≡ false → (ReadsTo schema text front rest (Next.an_end a d) × (ends rest ≡ true)) ⊎ ReadsTo schema text front rest (Next.a_clause a d false) → ReadsTo schema text front rest (Next.a_clause a d false)
    behind_gap h (inl x) = absurd (true≢false (sym x.1 ∙ h))
    behind_gap h (inr x) = x

-- ---- groups and the whole text

-- the end of the text, or a `)`, where no clause came
no_content : (schema : Schema) (text f rest : Text) (c g : ℕ) → ReadsTo schema text f rest (Next.a_clause c g true) → ends rest ≡ true → Faulty schema text (length rest)
no_content schema text f [] c g reads stop = faulty_here reads (text_end_stops schema (Next.a_clause c g true))
no_content schema text f (b ∷ bs) c g reads stop = faulty_here (subst (λ (x : ℕ). ReadsTo schema text f (x ∷ bs) (Next.a_clause c g true)) (eqb-true b 41 stop) reads) (empty_stops schema c g bs)

content_goes : (schema : Schema) (text : Text) → IsSchema schema → (levels : ℕ) → GoesInside schema text (content_at schema levels) levels
unfolding content_at
content_goes schema text ok zero f rest c g left reads used deep low = absurd (omega arith)
content_goes schema text ok (suc levels) f rest c g left reads used deep low =
    let so = spaces_go schema text f rest c g true reads in
    cond_both (ends (after_spaces rest)) (Err (length (after_spaces rest))) (clauses_at schema (content_at schema levels) left left (after_spaces rest)) (Judged schema text (EndsSo schema text c g))
    (λ h. no_content schema text so.front (after_spaces rest) c g so.reads h)
    (λ h. series_goes schema text levels ok (content_goes schema text ok levels) left so.front (after_spaces rest) c g left true so.reads h (no_space_after rest) used (omega arith) (omega arith))

whole_goes : (schema : Schema) (text : Text) (x : Query × ℕ × Text) → EndsSo schema text 0 0 x → Judged schema text (λ q. Unit {0}) (whole x)
whole_goes schema text (q, left, []) so = tt
whole_goes schema text (q, left, b ∷ bs) so = elim so.reads [
  | inl r ↦ faulty_here (subst (λ (x : ℕ). ReadsTo schema text so.front (x ∷ bs) (Next.an_end so.count 0)) (eqb-true b 41 so.stops) r) (unopened_end_stops schema so.count bs)
  | inr r ↦ faulty_here (subst (λ (x : ℕ). ReadsTo schema text so.front (x ∷ bs) (Next.a_clause so.count 0 false)) (eqb-true b 41 so.stops) r) (unopened_stops schema so.count bs false)
]

pub text_goes : (schema : Schema) (text : Text) → IsSchema schema → Judged schema text (λ q. Unit {0}) (content_at schema 9 64 text >>= whole)
text_goes schema text ok =
    judged_bind schema text (EndsSo schema text 0 0) (λ q. Unit {0}) (content_at schema 9 64 text) whole
    (content_goes schema text ok 9 [] text 0 0 64 ReadsTo.start refl refl (omega arith))
    (whole_goes schema text)

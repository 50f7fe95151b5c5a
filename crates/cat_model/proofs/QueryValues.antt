-- The values of query texts: what is read is written so, and what is written so is read.
use Rattle.std.proofs.Common.{◌≡◌, ◌≢◌, ℕ, suc, ◌+◌, [], ◌∷◌, ◌++◌, length, take, drop, Option, Some, None, Bool, true, false, true≢false, eqb, cond, ◌||◌, ◌&&◌, ◌⊎◌, inl, inr, refl, sym, ap, subst, ◌∙◌, append_assoc, eq-eqb, arith}
use Rattle.std.proofs.lemmas.Bool.{ne_eqb, eqb-true, eqb-false, or_cases, or_left, or_right}
use Rattle.std.proofs.lemmas.List.{take-append-drop, take_at, drop_at, nil_from_length}
use Rattle.std.proofs.lemmas.List.Folds.{length-prefix_len}
use Rattle.std.specs.Prelude.{option_and_then, option_map, nat_eq, not}
use Rattle.std.proofs.lemmas.Slice.Eq.{bytes_eq-Decides}
use Rattle.std.specs.List.{AllByRecursion, prefix_len, starts_with}
use Rattle.cat_model.specs.Text.{Text}
use Rattle.cat_model.specs.Grammar.{is_bare_byte, Quotes, AreSome, IsEnd, Asks, IsValue}
use Rattle.cat_model.specs.Faults.{CutsValue, IsWhole}
use Rattle.cat_model.specs.Reader.{with_byte, quoted_at, run_at, starred, bare_at, closed_end_at, end_at, to_at, bracket_at, high_at, range_at, value_at}

-- a text begins with a part that is so, and the rest follows it
abbrev pub Takes : (Text → Type 0) → Text → Text → Type 0
Takes P text rest = (u : Text) × (text ≡ u ++ rest) × P u

-- ---- tests

-- a byte that passes a test isn't one that fails it
pub differs : (p : ℕ → Bool) (b k : ℕ) → p b ≡ true → p k ≡ false → eqb b k ≡ false
differs p b k at_b at_k = ne_eqb b k (λ h. true≢false (sym at_b ∙ ap p h ∙ at_k))

pub chosen : {A : Type 0} (b : Bool) (x y z : A) → cond b x y ≡ z → ((b ≡ true) × (x ≡ z)) ⊎ ((b ≡ false) × (y ≡ z))
chosen true x y z e = inl (refl, e)
chosen false x y z e = inr (refl, e)

pub if_some : {A : Type 0} (b : Bool) (x : Option A) (y : A) → cond b x None ≡ Some y → (b ≡ true) × (x ≡ Some y)
if_some true x y e = (refl, e)
if_some false x y e = absurd cc

pub some_is : {A : Type 0} (x y : A) → Some x ≡ Some y → x ≡ y
some_is x y e = cc

pub map_some : {A B : Type 0} (f : A → B) (o : Option A) (y : B) → option_map f o ≡ Some y → (x : A) × (o ≡ Some x) × (f x ≡ y)
map_some f None y e = absurd cc
map_some f (Some x) y e = (x, refl, some_is (f x) y e)

pub and_then_some : {A B : Type 0} (f : A → Option B) (o : Option A) (y : B) → option_and_then f o ≡ Some y → (x : A) × (o ≡ Some x) × (f x ≡ Some y)
and_then_some f None y e = absurd cc
and_then_some f (Some x) y e = (x, refl, e)

with_byte_some : (b : ℕ) (o : Option (Text × Text)) (s rest : Text) → with_byte b o ≡ Some (s, rest) → (s' : Text) × (o ≡ Some (s', rest)) × (b ∷ s' ≡ s)
with_byte_some b None s rest e = absurd cc
with_byte_some b (Some y) s rest e =
    let p = some_is (b ∷ y.0, y.1) (s, rest) e in
    (y.0, ap (λ (q : Text × Text). Some (y.0, q.1)) p, ap (λ (q : Text × Text). q.0) p)

-- ---- quoted texts

quote_or_backslash : (b : ℕ) → (eqb b 34 || eqb b 92) ≡ true → (b ≡ 34) ⊎ (b ≡ 92)
quote_or_backslash b e = elim (or_cases (eqb b 34) (eqb b 92) e) [ inl h ↦ inl (eqb-true b 34 h) | inr h ↦ inr (eqb-true b 92 h) ]

-- behind a backslash what is read is the rest of an escape
QuotedSo : Bool → Text → Text → Text → Type 0
QuotedSo true t s rest = Takes (λ u. Quotes (92 ∷ u) s) t rest
QuotedSo false t s rest = Takes (λ u. Quotes u s) t rest

quoted_sound : (e : Bool) (t s rest : Text) → quoted_at e t ≡ Some (s, rest) → QuotedSo e t s rest
unfolding quoted_at QuotedSo
quoted_sound true [] s rest e = absurd cc
quoted_sound false [] s rest e = absurd cc
quoted_sound true (b ∷ bs) s rest e =
    let t = if_some (eqb b 34 || eqb b 92) (with_byte b (quoted_at false bs)) (s, rest) e in
    let w = with_byte_some b (quoted_at false bs) s rest t.1 in
    let ih = quoted_sound false bs w.0 rest w.1 in
    (b ∷ ih.0, ap (λ (x : Text). b ∷ x) ih.1, subst (λ (x : Text). Quotes (92 ∷ (b ∷ ih.0)) x) w.2 (Quotes.escaped b ih.0 w.0 (quote_or_backslash b t.0) ih.2))
quoted_sound false (b ∷ bs) s rest e =
    elim (chosen (eqb b 34) (Some ([], bs)) (cond (eqb b 92) (quoted_at true bs) (with_byte b (quoted_at false bs))) (Some (s, rest)) e) [
      | inl h ↦
          let p = some_is ([], bs) (s, rest) h.1 in
          let s-is : [] ≡ s = ap (λ (q : Text × Text). q.0) p in
          let rest-is : bs ≡ rest = ap (λ (q : Text × Text). q.1) p in
          (34 ∷ [], rw (eqb-true b 34 h.0, rest-is) refl, subst (λ (x : Text). Quotes (34 ∷ []) x) s-is Quotes.closed)
      | inr h ↦ elim (chosen (eqb b 92) (quoted_at true bs) (with_byte b (quoted_at false bs)) (Some (s, rest)) h.1) [
        | inl k ↦
            let ih = quoted_sound true bs s rest k.1 in
            (92 ∷ ih.0, rw (eqb-true b 92 k.0, ih.1) refl, ih.2)
        | inr k ↦
            let w = with_byte_some b (quoted_at false bs) s rest k.1 in
            let ih = quoted_sound false bs w.0 rest w.1 in
            (b ∷ ih.0, ap (λ (x : Text). b ∷ x) ih.1, subst (λ (x : Text). Quotes (b ∷ ih.0) x) w.2 (Quotes.plain b ih.0 w.0 (eqb-false b 34 h.0) (eqb-false b 92 k.0) ih.2))
      ]
    ]

either_is : (c : ℕ) → (c ≡ 34) ⊎ (c ≡ 92) → (eqb c 34 || eqb c 92) ≡ true
either_is c (inl h) = or_left (eqb c 34) (eqb c 92) (eq-eqb c 34 h)
either_is c (inr h) = or_right (eqb c 34) (eqb c 92) (eq-eqb c 92 h)

quoted_complete : {u s : Text} (rest : Text) → Quotes u s → quoted_at false (u ++ rest) ≡ Some (s, rest)
unfolding quoted_at
quoted_complete rest Quotes.closed = refl
quoted_complete rest (Quotes.plain b t s x y q) = rw (ne_eqb b 34 x, ne_eqb b 92 y, quoted_complete rest q) refl
quoted_complete rest (Quotes.escaped c t s h q) = rw (either_is c h, quoted_complete rest q) refl

-- a quoted text ends in its quote
quote_last : {u s : Text} → Quotes u s → (v : Text) × (u ≡ v ++ 34 ∷ [])
quote_last Quotes.closed = ([], refl)
quote_last (Quotes.plain b t s x y q) = let r = quote_last q in (b ∷ r.0, ap (λ (w : Text). b ∷ w) r.1)
quote_last (Quotes.escaped c t s h q) = let r = quote_last q in (92 ∷ c ∷ r.0, ap (λ (w : Text). 92 ∷ c ∷ w) r.1)

-- ---- runs of bytes

-- no byte more of the run comes
abbrev pub Stops : (ℕ → Bool) → Text → Type 0
Stops p [] = Unit {0}
Stops p (b ∷ bs) = p b ≡ false

pub run_len : (p : ℕ → Bool) (t rest : Text) → AllByRecursion (λ b. p b ≡ true) t → Stops p rest → prefix_len p (t ++ rest) ≡ length t
run_len p [] [] all stops = refl
run_len p [] (b ∷ bs) all stops = rw stops refl
run_len p (b ∷ t) rest all stops = rw (all.0, run_len p t rest all.1 stops) (omega arith)

run_step : (p : ℕ → Bool) (b n : ℕ) (bs : Text) (v : Bool) → p b ≡ v → AllByRecursion (λ x. p x ≡ true) (take n bs) → AllByRecursion (λ x. p x ≡ true) (take (cond v (1 + n) 0) (b ∷ bs))
run_step p b n bs true e all =
    let k : 1 + n ≡ suc n = omega arith in
    rw k (e, all)
run_step p b n bs false e all = tt

pub run_all : (p : ℕ → Bool) (xs : Text) → AllByRecursion (λ b. p b ≡ true) (take (prefix_len p xs) xs)
run_all p [] = tt
run_all p (b ∷ bs) = run_step p b (prefix_len p bs) bs (p b) refl (run_all p bs)

stop_step : (p : ℕ → Bool) (b n : ℕ) (bs : Text) (v : Bool) → p b ≡ v → Stops p (drop n bs) → Stops p (drop (cond v (1 + n) 0) (b ∷ bs))
stop_step p b n bs true e stops =
    let k : 1 + n ≡ suc n = omega arith in
    rw k stops
stop_step p b n bs false e stops = e

pub run_stops : (p : ℕ → Bool) (xs : Text) → Stops p (drop (prefix_len p xs) xs)
run_stops p [] = tt
run_stops p (b ∷ bs) = stop_step p b (prefix_len p bs) bs (p b) refl (run_stops p bs)

nonempty_run : (p : ℕ → Bool) (xs : Text) → eqb (prefix_len p xs) 0 ≡ false → take (prefix_len p xs) xs ≢ []
nonempty_run p xs e h = eqb-false (prefix_len p xs) 0 e (sym (length-prefix_len p xs) ∙ ap length h)

-- ---- bare texts

guard_some : {A : Type 0} (b : Bool) (x : A) (y : A) → cond b None (Some x) ≡ Some y → (b ≡ false) × (x ≡ y)
guard_some true x y e = absurd cc
guard_some false x y e = (refl, cc)

-- a bare text that doesn't go on
pub record Run (text s rest : Text) : Type 0 where
  pub parts : text ≡ s ++ rest
  pub is_bare : AreSome is_bare_byte s
  pub stops : Stops is_bare_byte rest

run_sound : (text s rest : Text) → run_at text ≡ Some (s, rest) → Run text s rest
run_sound text s rest e =
    let n : ℕ = prefix_len is_bare_byte text in
    let g = guard_some (eqb n 0) (take n text, drop n text) (s, rest) e in
    let s-is : take n text ≡ s = ap (λ (q : Text × Text). q.0) g.1 in
    let rest-is : drop n text ≡ rest = ap (λ (q : Text × Text). q.1) g.1 in
    record {
      parts = sym (take-append-drop n text) ∙ ap (λ (x : Text). x ++ drop n text) s-is ∙ ap (λ (x : Text). s ++ x) rest-is;
      is_bare = subst (λ (x : Text). AreSome is_bare_byte x) s-is (nonempty_run is_bare_byte text g.0, run_all is_bare_byte text);
      stops = subst (λ (x : Text). Stops is_bare_byte x) rest-is (run_stops is_bare_byte text);
    }

run_with : (text : Text) (n : ℕ) → prefix_len is_bare_byte text ≡ n → n ≢ 0 → run_at text ≡ Some (take n text, drop n text)
run_with text n e ne = rw (e, ne_eqb n 0 ne) refl

run_is : (t rest : Text) → AreSome is_bare_byte t → Stops is_bare_byte rest → run_at (t ++ rest) ≡ Some (t, rest)
run_is t rest b stops =
    run_with (t ++ rest) (length t) (run_len is_bare_byte t rest b.1 stops) (λ z. b.0 (nil_from_length t z))
    ∙ rw (take_at t rest (length t) refl, drop_at t rest (length t) refl) refl

cuts : (b : ℕ) → is_bare_byte b ≡ false → eqb b 42 ≡ false → (not (is_bare_byte b) && not (eqb b 42)) ≡ true
cuts b x y = rw (x, y) refl

starred_sound : (name after : Text) (a : Asks) (rest : Text) → AreSome is_bare_byte name → Stops is_bare_byte after → starred name after ≡ (a, rest) → (t : Text) × (name ++ after ≡ t ++ rest) × IsWhole t rest a
starred_sound name [] a rest b stops e =
    (name, ap (λ (q : Asks × Text). name ++ q.1) e, subst (λ (q : Asks × Text). IsWhole name q.1 q.0) e (IsWhole.cut name [] (Asks.is name) (IsValue.bare name b) tt))
starred_sound name (c ∷ cs) a rest b stops e =
    elim (chosen (eqb c 42) (Asks.begins name, cs) (Asks.is name, c ∷ cs) (a, rest) e) [
      | inl h ↦ (
        name ++ 42 ∷ [],
        rw (eqb-true c 42 h.0, ← (ap (λ (q : Asks × Text). q.1) h.1)) (sym (append_assoc name (42 ∷ []) cs)),
        subst (λ (q : Asks × Text). IsWhole (name ++ 42 ∷ []) q.1 q.0) h.1 (IsWhole.shut name cs 42 (Asks.begins name) (IsValue.prefix name b) refl),
      )
      | inr h ↦
          (name, ap (λ (q : Asks × Text). name ++ q.1) h.1, subst (λ (q : Asks × Text). IsWhole name q.1 q.0) h.1 (IsWhole.cut name (c ∷ cs) (Asks.is name) (IsValue.bare name b) (cuts c stops h.0)))
    ]

bare_sound : (text : Text) (a : Asks) (rest : Text) → bare_at text ≡ Some (a, rest) → Takes (λ t. IsWhole t rest a) text rest
bare_sound text a rest e =
    let x = map_some (λ (x : Text × Text). starred x.0 x.1) (run_at text) (a, rest) e in
    let r = run_sound text x.0.0 x.0.1 x.1 in
    let s = starred_sound x.0.0 x.0.1 a rest r.is_bare r.stops x.2 in
    (s.0, r.parts ∙ s.1, s.2)

-- ---- ranges

closed_end_sound : (text s rest : Text) → closed_end_at text ≡ Some (s, rest) → Takes (λ t. IsEnd t (Some s)) text rest
unfolding QuotedSo
closed_end_sound [] s rest e = absurd cc
closed_end_sound (b ∷ bs) s rest e =
    elim (chosen (eqb b 34) (quoted_at false bs) (run_at (b ∷ bs)) (Some (s, rest)) e) [
      | inl k ↦
          let q = quoted_sound false bs s rest k.1 in
          (34 ∷ q.0, ap (λ (x : ℕ). x ∷ bs) (eqb-true b 34 k.0) ∙ ap (λ (x : Text). 34 ∷ x) q.1, IsEnd.quoted_end q.0 s q.2)
      | inr k ↦
          let r = run_sound (b ∷ bs) s rest k.1 in
          (s, r.parts, IsEnd.bare_end s r.is_bare)
    ]

end_sound : (text : Text) (a : Option Text) (rest : Text) → end_at text ≡ Some (a, rest) → Takes (λ t. IsEnd t a) text rest
unfolding end_at
end_sound [] a rest e = absurd cc
end_sound (b ∷ bs) a rest e =
    elim (chosen (eqb b 42) (Some (None, bs)) (option_map (λ (x : Text × Text). (Some x.0, x.1)) (closed_end_at (b ∷ bs))) (Some (a, rest)) e) [
      | inl h ↦
          let p = some_is (None, bs) (a, rest) h.1 in
          (42 ∷ [], ap (λ (x : ℕ). x ∷ bs) (eqb-true b 42 h.0) ∙ ap (λ (q : Option Text × Text). 42 ∷ q.1) p, subst (λ (x : Option Text). IsEnd (42 ∷ []) x) (ap (λ (q : Option Text × Text). q.0) p) IsEnd.open_end)
      | inr h ↦
          let v = map_some (λ (x : Text × Text). (Some x.0, x.1)) (closed_end_at (b ∷ bs)) (a, rest) h.1 in
          let c = closed_end_sound (b ∷ bs) v.0.0 v.0.1 v.1 in
          (c.0, c.1 ∙ ap (λ (q : Option Text × Text). c.0 ++ q.1) v.2, subst (λ (x : Option Text). IsEnd c.0 x) (ap (λ (q : Option Text × Text). q.0) v.2) c.2)
    ]

to_ok : (text rest : Text) → to_at text ≡ Some rest → text ≡ 32 ∷ 84 ∷ 79 ∷ 32 ∷ rest
to_ok text rest e =
    let g = if_some (starts_with nat_eq text (32 ∷ 84 ∷ 79 ∷ 32 ∷ [])) (Some (drop 4 text)) rest e in
    begins_to text g.0 ∙ ap (λ (x : Text). 32 ∷ 84 ∷ 79 ∷ 32 ∷ x) (some_is (drop 4 text) rest g.1)
  where
    begins_to : (t : Text) → starts_with nat_eq t (32 ∷ 84 ∷ 79 ∷ 32 ∷ []) ≡ true → t ≡ 32 ∷ 84 ∷ 79 ∷ 32 ∷ drop 4 t
    begins_to t h = sym (take-append-drop 4 t) ∙ ap (λ (x : Text). x ++ drop 4 t) (sym ((bytes_eq-Decides (32 ∷ 84 ∷ 79 ∷ 32 ∷ []) (take 4 t)).0 h))

bracket_ok : (text rest : Text) → bracket_at text ≡ Some rest → text ≡ 93 ∷ rest
bracket_ok [] rest e = absurd cc
bracket_ok (b ∷ bs) rest e =
    let g = if_some (eqb b 93) (Some bs) rest e in
    ap (λ (x : ℕ). x ∷ bs) (eqb-true b 93 g.0) ∙ ap (λ (x : Text). 93 ∷ x) (some_is bs rest g.1)

-- what stands behind ` TO ` is an end and `]`
record HighSo (low : Option Text) (text : Text) (a : Asks) (rest : Text) : Type 0 where
  high : Option Text
  takes : Takes (λ u. IsEnd u high) text (93 ∷ rest)
  asks : Asks.between low high ≡ a

high_sound : (low : Option Text) (text : Text) (a : Asks) (rest : Text) → high_at low text ≡ Some (a, rest) → HighSo low text a rest
high_sound low text a rest e =
    let z = and_then_some (λ (high : Option Text × Text). option_map (λ (rest : Text). (Asks.between low high.0, rest)) (bracket_at high.1)) (end_at text) (a, rest) e in
    let w = map_some (λ (rest : Text). (Asks.between low z.0.0, rest)) (bracket_at z.0.1) (a, rest) z.2 in
    let h = end_sound text z.0.0 z.0.1 z.1 in
    record {
      high = z.0.0;
      takes = (h.0, h.1 ∙ ap (λ (r : Text). h.0 ++ r) (bracket_ok z.0.1 w.0 w.1 ∙ ap (λ (q : Asks × Text). 93 ∷ q.1) w.2), h.2);
      asks = ap (λ (q : Asks × Text). q.0) w.2;
    }

-- what stands behind `[` and is a range ends in `]`
record RangeSo (text : Text) (a : Asks) (rest : Text) : Type 0 where
  front : Text
  parts : text ≡ (front ++ 93 ∷ []) ++ rest
  is_range : IsValue (91 ∷ (front ++ 93 ∷ [])) a

range_made : (text t behind middle rest : Text) (low : Option Text) (a : Asks) → text ≡ t ++ behind → IsEnd t low → behind ≡ 32 ∷ 84 ∷ 79 ∷ 32 ∷ middle → HighSo low middle a rest → RangeSo text a rest
range_made text t behind middle rest low a e end f so =
    let u : Text = so.takes.0 in
    let g : middle ≡ u ++ 93 ∷ rest = so.takes.1 in
    let last : t ++ (32 ∷ 84 ∷ 79 ∷ 32 ∷ (u ++ 93 ∷ [])) ≡ (t ++ (32 ∷ 84 ∷ 79 ∷ 32 ∷ u)) ++ 93 ∷ [] = simp append_assoc in
    let made : IsValue (91 ∷ (t ++ (32 ∷ 84 ∷ 79 ∷ 32 ∷ (u ++ 93 ∷ [])))) a = subst (λ (x : Asks). IsValue (91 ∷ (t ++ (32 ∷ 84 ∷ 79 ∷ 32 ∷ (u ++ 93 ∷ [])))) x) so.asks (IsValue.range t u low so.high end so.takes.2) in
    record { front = t ++ (32 ∷ 84 ∷ 79 ∷ 32 ∷ u); parts = rw (e, f, g) (simp append_assoc); is_range = subst (λ (s : Text). IsValue (91 ∷ s) a) last made }

range_sound : (text : Text) (a : Asks) (rest : Text) → range_at text ≡ Some (a, rest) → RangeSo text a rest
unfolding range_at
range_sound text a rest e =
    let x = and_then_some (λ (low : Option Text × Text). option_and_then (high_at low.0) (to_at low.1)) (end_at text) (a, rest) e in
    let y = and_then_some (high_at x.0.0) (to_at x.0.1) (a, rest) x.2 in
    let low = end_sound text x.0.0 x.0.1 x.1 in
    range_made text low.0 x.0.1 y.0 rest x.0.0 a low.1 low.2 (to_ok x.0.1 y.0 y.1) (high_sound x.0.0 y.0 a rest y.2)

-- ---- values

pub value_sound : (text : Text) (a : Asks) (rest : Text) → value_at text ≡ Some (a, rest) → Takes (λ t. IsWhole t rest a) text rest
unfolding value_at QuotedSo
value_sound [] a rest e = absurd cc
value_sound (b ∷ bs) a rest e =
    elim (chosen (eqb b 34) (option_map (λ (x : Text × Text). (Asks.is x.0, x.1)) (quoted_at false bs)) (cond (eqb b 91) (range_at bs) (bare_at (b ∷ bs))) (Some (a, rest)) e) [
      | inl h ↦
          let v = map_some (λ (x : Text × Text). (Asks.is x.0, x.1)) (quoted_at false bs) (a, rest) h.1 in
          let q = quoted_sound false bs v.0.0 v.0.1 v.1 in
          let l = quote_last q.2 in
          let value : IsValue ((34 ∷ l.0) ++ 34 ∷ []) (Asks.is v.0.0) = subst (λ (x : Text). IsValue (34 ∷ x) (Asks.is v.0.0)) l.1 (IsValue.quoted q.0 v.0.0 q.2) in
          let found : Takes (λ t. IsWhole t v.0.1 (Asks.is v.0.0)) (b ∷ bs) v.0.1 =
          ((34 ∷ l.0) ++ 34 ∷ [], ap (λ (x : ℕ). x ∷ bs) (eqb-true b 34 h.0) ∙ ap (λ (x : Text). 34 ∷ x) (q.1 ∙ ap (λ (x : Text). x ++ v.0.1) l.1), IsWhole.shut (34 ∷ l.0) v.0.1 34 (Asks.is v.0.0) value refl) in
          subst (λ (x : Asks × Text). Takes (λ t. IsWhole t x.1 x.0) (b ∷ bs) x.1) v.2 found
      | inr h ↦ elim (chosen (eqb b 91) (range_at bs) (bare_at (b ∷ bs)) (Some (a, rest)) h.1) [
        | inl k ↦
            let r = range_sound bs a rest k.1 in
            ((91 ∷ r.front) ++ 93 ∷ [], ap (λ (x : ℕ). x ∷ bs) (eqb-true b 91 k.0) ∙ ap (λ (x : Text). 91 ∷ x) r.parts, IsWhole.shut (91 ∷ r.front) rest 93 a r.is_range refl)
        | inr k ↦ bare_sound (b ∷ bs) a rest k.1
      ]
    ]

pub whole_value : {t rest : Text} {a : Asks} → IsWhole t rest a → IsValue t a
whole_value (IsWhole.cut t rest a v c) = v
whole_value (IsWhole.shut t rest b a v c) = v

-- ---- what is written so is read

closed_end_first : (t rest : Text) → AreSome is_bare_byte t → end_at (t ++ rest) ≡ option_map (λ (x : Text × Text). (Some x.0, x.1)) (run_at (t ++ rest))
unfolding end_at
closed_end_first [] rest b = absurd (b.0 refl)
closed_end_first (c ∷ t) rest b =
    let no : eqb c 34 ≡ false = differs is_bare_byte c 34 b.1.0 refl in
    let none : eqb c 42 ≡ false = differs is_bare_byte c 42 b.1.0 refl in
    rw (none, no) refl

end_complete : {t : Text} {a : Option Text} (rest : Text) → Stops is_bare_byte rest → IsEnd t a → end_at (t ++ rest) ≡ Some (a, rest)
unfolding end_at
end_complete rest stops IsEnd.open_end = refl
end_complete rest stops (IsEnd.quoted_end t s q) = rw (quoted_complete rest q) refl
end_complete rest stops (IsEnd.bare_end t b) = closed_end_first t rest b ∙ ap (option_map (λ (x : Text × Text). (Some x.0, x.1))) (run_is t rest b stops)

range_complete : (t u : Text) (low high : Option Text) (rest : Text) → IsEnd t low → IsEnd u high → range_at ((t ++ (32 ∷ 84 ∷ 79 ∷ 32 ∷ (u ++ 93 ∷ []))) ++ rest) ≡ Some (Asks.between low high, rest)
unfolding range_at
range_complete t u low high rest a b =
    let regrouped : (t ++ (32 ∷ 84 ∷ 79 ∷ 32 ∷ (u ++ 93 ∷ []))) ++ rest ≡ t ++ (32 ∷ 84 ∷ 79 ∷ 32 ∷ (u ++ (93 ∷ rest))) = simp append_assoc in
    ap range_at regrouped ∙ rw (end_complete (32 ∷ 84 ∷ 79 ∷ 32 ∷ (u ++ (93 ∷ rest))) refl a, end_complete (93 ∷ rest) refl b) refl

bare_first : (t rest : Text) → AreSome is_bare_byte t → value_at (t ++ rest) ≡ bare_at (t ++ rest)
unfolding value_at
bare_first [] rest b = absurd (b.0 refl)
bare_first (c ∷ t) rest b =
    let no : eqb c 34 ≡ false = differs is_bare_byte c 34 b.1.0 refl in
    let none : eqb c 91 ≡ false = differs is_bare_byte c 91 b.1.0 refl in
    rw (no, none) refl

bare_is : (t rest : Text) → AreSome is_bare_byte t → Stops is_bare_byte rest → bare_at (t ++ rest) ≡ Some (starred t rest)
bare_is t rest b stops = ap (option_map (λ (x : Text × Text). starred x.0 x.1)) (run_is t rest b stops)

-- both parts of what cuts a value
cut_parts : (x y : Bool) → (not x && not y) ≡ true → (x ≡ false) × (y ≡ false)
cut_parts true y e = absurd cc
cut_parts false true e = absurd cc
cut_parts false false e = (refl, refl)

cuts-stop : (rest : Text) → CutsValue rest → Stops is_bare_byte rest
cuts-stop [] c = tt
cuts-stop (b ∷ bs) c = (cut_parts (is_bare_byte b) (eqb b 42) c).0

cuts-starred : (t rest : Text) → CutsValue rest → starred t rest ≡ (Asks.is t, rest)
cuts-starred t [] c = refl
cuts-starred t (b ∷ bs) c = let p = (cut_parts (is_bare_byte b) (eqb b 42) c).1 in rw p refl

-- only a bare text asks for something behind it
value_complete : {t : Text} {a : Asks} (rest : Text) → (AreSome is_bare_byte t → CutsValue rest) → IsValue t a → value_at (t ++ rest) ≡ Some (a, rest)
unfolding value_at
value_complete rest c (IsValue.quoted t s q) = rw (quoted_complete rest q) refl
value_complete rest c (IsValue.bare t b) = bare_first t rest b ∙ bare_is t rest b (cuts-stop rest (c b)) ∙ ap (λ (x : Asks × Text). Some x) (cuts-starred t rest (c b))
value_complete rest c (IsValue.range t u low high a b) = range_complete t u low high rest a b
value_complete rest c (IsValue.prefix t b) =
    let regrouped : (t ++ 42 ∷ []) ++ rest ≡ t ++ (42 ∷ rest) = append_assoc t (42 ∷ []) rest in
    ap value_at regrouped ∙ bare_first t (42 ∷ rest) b ∙ bare_is t (42 ∷ rest) b refl

last_of : (p : ℕ → Bool) (t : Text) (b : ℕ) → AllByRecursion (λ x. p x ≡ true) (t ++ b ∷ []) → p b ≡ true
last_of p [] b all = all.0
last_of p (x ∷ t) b all = last_of p t b all.1

shut_not_bare : (b : ℕ) → (eqb b 34 || eqb b 93 || eqb b 42) ≡ true → is_bare_byte b ≡ true → ⊥
shut_not_bare b e bare = elim (or_cases (eqb b 34 || eqb b 93) (eqb b 42) e) [
  | inl h ↦ elim (or_cases (eqb b 34) (eqb b 93) h) [
    | inl k ↦ clash b 34 bare refl (eqb-true b 34 k)
    | inr k ↦ clash b 93 bare refl (eqb-true b 93 k)
  ]
  | inr h ↦ clash b 42 bare refl (eqb-true b 42 h)
]
  where
    clash : (b k : ℕ) → is_bare_byte b ≡ true → is_bare_byte k ≡ false → b ≡ k → ⊥
    clash b k x y h = eqb-false b k (differs is_bare_byte b k x y) h

pub whole_complete : {t rest : Text} {a : Asks} → IsWhole t rest a → value_at (t ++ rest) ≡ Some (a, rest)
whole_complete (IsWhole.cut t rest a v c) = value_complete rest (λ b. c) v
whole_complete (IsWhole.shut t rest b a v c) = value_complete rest (λ bare. absurd (shut_not_bare b c (last_of is_bare_byte t b bare.1))) v

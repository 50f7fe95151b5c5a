-- Readers that are made of readers.
use Rattle.std.proofs.Common.{◌≡◌, ℕ, zero, suc, ◌^◌, ◌<◌, Bool, true, cond, List, [], ◌∷◌, ◌++◌, length, Some, None, refl, sym, ap, subst, ◌∙◌, append_assoc, arith}
use Rattle.std.specs.List.{flat_map, All}
use Rattle.std.proofs.lemmas.List.Concat.{flat_map-cons}
use Rattle.std.proofs.lemmas.List.Elements.{All-cons, All-nil}
use Rattle.cat_base.specs.Bytes.{spelled_u32, spelled_bytes}
use Rattle.cat_items.specs.file_parts.Reading.{Reader, ◌>>=◌, u32_at, string_at, where_at, both_at, many_at, counted_at, tested_text_at}
use Rattle.std.specs.Str.{is_utf8}
use Rattle.cat_items.proofs.file_parts.Numbers.{Reads, bind_some, kept, some_is, at_some, then, reads_u32, reads_string}

pub reads_where : {A : Type 0} (passes : A → Bool) (one : Reader A) (spell : A → List ℕ) (P : A → Type 0) → Reads one spell P → Reads (where_at passes one) spell (λ x. P x × (passes x ≡ true))
unfolding where_at
reads_where {A} passes one spell P r = record {
  sound = λ bytes x e.
      let b = bind_some (one bytes) (λ y. cond (passes y.0) (Some y) None) x e in
      let g = kept (passes b.0.0) (Some b.0) x b.2 in
      let s = r.sound bytes b.0 b.1 in
      at_some (λ (y : A × List ℕ). (bytes ≡ spell y.0 ++ y.1) × (P y.0 × (passes y.0 ≡ true))) b.0 x g.1 (s.0, (s.1, g.0));
  complete = λ x rest h. rw (r.complete x rest h.0, h.1) refl;
}

-- the same reader, and the same test in other words
pub reads_as : {A : Type 0} (one : Reader A) (spell : A → List ℕ) (P Q : A → Type 0) → ((x : A) → P x → Q x) → ((x : A) → Q x → P x) → Reads one spell P → Reads one spell Q
reads_as one spell P Q to from r = record {
  sound = λ bytes x e. let s = r.sound bytes x e in (s.0, to x.0 s.1);
  complete = λ x rest h. r.complete x rest (from x h);
}

-- a text of the form
pub reads_text : (passes : List ℕ → Bool) → Reads (tested_text_at passes) spelled_bytes (λ t. ((length t < 2 ^ 32) × (is_utf8 t ≡ true)) × (passes t ≡ true))
reads_text passes = reads_where passes (where_at is_utf8 string_at) spelled_bytes (λ t. (length t < 2 ^ 32) × (is_utf8 t ≡ true)) (reads_where is_utf8 string_at spelled_bytes (λ t. length t < 2 ^ 32) reads_string)

-- what both parts of a reader read
pub record ReadBoth {A B C : Type 0} (make : A → B → C) (s : A → List ℕ) (t : B → List ℕ) (P : A → Type 0) (Q : A → B → Type 0) (bytes : List ℕ) (x : C × List ℕ) : Type 0 where
  pub first : A
  pub second : B
  pub made : make first second ≡ x.0
  pub spelled : bytes ≡ (s first ++ t second) ++ x.1
  pub holds : P first
  pub both : Q first second

pub both_sound : {A B C : Type 0} (one : Reader A) (two : A → Reader B) (make : A → B → C) (s : A → List ℕ) (t : B → List ℕ) (P : A → Type 0) (Q : A → B → Type 0) → Reads one s P → ((a : A) → Reads (two a) t (Q a))
    → (bytes : List ℕ) (x : C × List ℕ) → both_at one two make bytes ≡ Some x → ReadBoth make s t P Q bytes x
unfolding both_at
both_sound one two make s t P Q r q bytes x e =
    let a = bind_some (one bytes) (λ first. two first.0 first.1 >>= λ second. Some (make first.0 second.0, second.1)) x e in
    let b = bind_some (two a.0.0 a.0.1) (λ second. Some (make a.0.0 second.0, second.1)) x a.2 in
    let h = r.sound bytes a.0 a.1 in
    let k = (q a.0.0).sound a.0.1 b.0 b.1 in
    let is : (make a.0.0 b.0.0, b.0.1) ≡ x = some_is (make a.0.0 b.0.0, b.0.1) x b.2 in
    let joined : bytes ≡ (s a.0.0 ++ t b.0.0) ++ b.0.1 = then bytes (s a.0.0) a.0.1 (t b.0.0) b.0.1 h.0 k.0 in
    record { first = a.0.0; second = b.0.0; made = ap (λ (y : _ × List ℕ). y.0) is; spelled = subst (λ (z : List ℕ). bytes ≡ (s a.0.0 ++ t b.0.0) ++ z) (ap (λ (y : _ × List ℕ). y.1) is) joined; holds = h.1; both = k.1 }

pub both_complete : {A B C : Type 0} (one : Reader A) (two : A → Reader B) (make : A → B → C) (s : A → List ℕ) (t : B → List ℕ) (P : A → Type 0) (Q : A → B → Type 0) → Reads one s P → ((a : A) → Reads (two a) t (Q a))
    → (a : A) (b : B) (rest : List ℕ) → P a → Q a b → both_at one two make ((s a ++ t b) ++ rest) ≡ Some (make a b, rest)
unfolding both_at
both_complete one two make s t P Q r q a b rest holds both =
    ap (both_at one two make) (append_assoc (s a) (t b) rest) ∙ rw (r.complete a (t b ++ rest) holds, (q a).complete b rest both) refl

-- ---- many

All-first : {X : Type 0} (P : X → Type 0) (x : X) (xs : List X) → All P (x ∷ xs) → P x
All-first P x xs h = h 0 x (omega arith)

All-others : {X : Type 0} (P : X → Type 0) (x : X) (xs : List X) → All P (x ∷ xs) → All P xs
All-others P x xs h k d lt = h (suc k) d (omega arith)

many_sound : {A : Type 0} (one : Reader A) (spell : A → List ℕ) (P : A → Type 0) → Reads one spell P → (n : ℕ) (bytes : List ℕ) (x : List A × List ℕ) → many_at one n bytes ≡ Some x
    → (bytes ≡ flat_map spell x.0 ++ x.1) × ((length x.0 ≡ n) × All P x.0)
unfolding many_at
many_sound {A} one spell P r zero bytes x e =
    at_some (λ (y : List A × List ℕ). (bytes ≡ flat_map spell y.0 ++ y.1) × ((length y.0 ≡ 0) × All P y.0)) ([], bytes) x e (refl, (refl, All-nil P))
many_sound {A} one spell P r (suc n) bytes x e =
    let a = bind_some (one bytes) (λ first. many_at one n first.1 >>= λ others. Some (first.0 ∷ others.0, others.1)) x e in
    let b = bind_some (many_at one n a.0.1) (λ others. Some (a.0.0 ∷ others.0, others.1)) x a.2 in
    let first = r.sound bytes a.0 a.1 in
    let second = many_sound one spell P r n a.0.1 b.0 b.1 in
    let both : bytes ≡ flat_map spell (a.0.0 ∷ b.0.0) ++ b.0.1 = rw flat_map-cons (then bytes (spell a.0.0) a.0.1 (flat_map spell b.0.0) b.0.1 first.0 second.0) in
    let made : List A × List ℕ = (a.0.0 ∷ b.0.0, b.0.1) in
    at_some (λ (y : List A × List ℕ). (bytes ≡ flat_map spell y.0 ++ y.1) × ((length y.0 ≡ suc n) × All P y.0)) made x b.2 (both, (ap suc second.1.0, All-cons P a.0.0 b.0.0 first.1 second.1.1))

many_complete : {A : Type 0} (one : Reader A) (spell : A → List ℕ) (P : A → Type 0) → Reads one spell P → (xs : List A) (rest : List ℕ) → All P xs → many_at one (length xs) (flat_map spell xs ++ rest) ≡ Some (xs, rest)
unfolding many_at
many_complete one spell P r [] rest fits = refl
many_complete one spell P r (x ∷ xs) rest fits =
    let regrouped : flat_map spell (x ∷ xs) ++ rest ≡ spell x ++ (flat_map spell xs ++ rest) = ap (λ (y : List ℕ). y ++ rest) (flat_map-cons spell x xs) ∙ append_assoc (spell x) (flat_map spell xs) rest in
    ap (many_at one (suc (length xs))) regrouped ∙ rw (r.complete x (flat_map spell xs ++ rest) (All-first P x xs fits), many_complete one spell P r xs rest (All-others P x xs fits)) refl

pub reads_many : {A : Type 0} (one : Reader A) (spell : A → List ℕ) (P : A → Type 0) → Reads one spell P → (n : ℕ) → Reads (many_at one n) (flat_map spell) (λ xs. (length xs ≡ n) × All P xs)
reads_many one spell P r n = record {
  sound = many_sound one spell P r n;
  complete = λ xs rest h. subst (λ (k : ℕ). many_at one k (flat_map spell xs ++ rest) ≡ Some (xs, rest)) h.0 (many_complete one spell P r xs rest h.1);
}

pub reads_counted : {A : Type 0} (one : Reader A) (spell : A → List ℕ) (P : A → Type 0) → Reads one spell P → Reads (counted_at one) (λ xs. spelled_u32 (length xs) ++ flat_map spell xs) (λ xs. (length xs < 2 ^ 32) × All P xs)
reads_counted one spell P r = record {
  sound = λ bytes x e.
      let b = both_sound u32_at (λ n. many_at one n) (λ n xs. xs) spelled_u32 (flat_map spell) (λ n. n < 2 ^ 32) (λ n xs. (length xs ≡ n) × All P xs) reads_u32 (reads_many one spell P r) bytes x e in
      subst (λ xs. (bytes ≡ (spelled_u32 (length xs) ++ flat_map spell xs) ++ x.1) × ((length xs < 2 ^ 32) × All P xs)) b.made
      (subst (λ (n : ℕ). bytes ≡ (spelled_u32 n ++ flat_map spell b.second) ++ x.1) (sym b.both.0) b.spelled, (subst (λ (n : ℕ). n < 2 ^ 32) (sym b.both.0) b.holds, b.both.1));
  complete = λ xs rest h. both_complete u32_at (λ n. many_at one n) (λ n xs. xs) spelled_u32 (flat_map spell) (λ n. n < 2 ^ 32) (λ n xs. (length xs ≡ n) × All P xs) reads_u32 (reads_many one spell P r) (length xs) xs rest h.0 (refl, h.1);
}

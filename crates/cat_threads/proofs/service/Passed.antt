-- What a caller is told.
use Rattle.std.proofs.Common.{◌≡◌, ℕ, zero, suc, ◌+◌, ◌-◌, ◌<◌, ◌≤◌, ◌==◌, ◌||◌, Bool, true, false, not, true≢false, ◌&&◌, List, [], ◌∷◌, ◌++◌, length, take, map, refl, sym, ap, ◌∙◌, subst, arith, Some}
use Rattle.std.specs.Prelude.{slice_get, slice_index_or}
use mathlib.Core.List.{IsPrefix}
use Rattle.cat_model.specs.Write.{Write}
use Rattle.cat_threads.specs.history.Entries.{LogEntry, entry, writes_of, has_session}
use Rattle.cat_threads.specs.history.Rules.{Sight, old_of, Compared, Each}
use Rattle.cat_threads.proofs.history.Lists.{prefix_more, prefix_length, writes_of-own}
use Rattle.cat_threads.specs.service.Passes.{Seen, Follows, Wrote, seated_by, all_different}

get_last : {A : Type 0} (xs : List A) (x : A) → slice_get (xs ++ x ∷ []) (length xs) ≡ Some x
get_last [] x = refl
get_last (y ∷ xs) x = get_last xs x

pub has_self : (s : ℕ) → has_session s (s ∷ []) ≡ true
has_self s = go (s == s) refl
  where
    go : (b : Bool) → (s == s) ≡ b → (b || false) ≡ true
    go true e = refl
    go false e = absurd (grind (arith, e))

same_session : (s : ℕ) → (s == s) ≡ true
same_session s = go (s == s) refl
  where
    go : (b : Bool) → (s == s) ≡ b → b ≡ true
    go true e = refl
    go false e = absurd (grind (arith, e))

-- how a caller's pass is seen
abbrev pub seen : ℕ → ℕ → Sight → Seen
seen start session v = record { session = session; list = v.list; token = start + v.token }

pub follows_noted : (start session : ℕ) (old joined now : Sight) (e : LogEntry) (before : Seen) → seen start session old ≡ before → Compared joined (old_of old) → now.list ≡ joined.list ++ e ∷ [] → now.token ≡ joined.token
    → Follows before (seen start session now)
follows_noted start session old joined now e before is k list token =
    let below = k.below in
    subst (λ (v : Seen). Follows v (seen start session now)) is record { same = refl; longer = subst (λ l. IsPrefix old.list l) (sym list) (prefix_more old.list joined.list (e ∷ []) k.begins); later = omega arith }

pub wrote_noted : (start session n : ℕ) (write : Write) (old joined now : Sight) (before : Seen) → seen start session old ≡ before → Compared joined (old_of old) → has_session session old.own ≡ true → n ≡ suc (start + length joined.list) → now.list ≡ joined.list ++ entry session write ∷ []
    → Wrote start n write before (seen start session now)
wrote_noted start session n write old joined now before is k own number list =
    let shorter = prefix_length old.list joined.list k.begins in
    let e = entry session write in
    subst (λ (v : Seen). Wrote start n write v (seen start session now)) is record {
      number = omega arith;
      past = omega arith;
      there = ap (λ l. slice_get l (n - start - 1)) list ∙ (ap (λ m. slice_get (joined.list ++ e ∷ []) m) (omega arith) ∙ get_last joined.list e);
      mine = ap (writes_of session) list ∙ (writes_of-own session joined.list e (same_session session) ∙ ap (λ ws. ws ++ write ∷ []) (k.mine session own));
    }

has-head : (s x : ℕ) (xs : List ℕ) → (x == s) ≡ true → has_session s (x ∷ xs) ≡ true
has-head s x xs e = ap (λ (b : Bool). b || has_session s xs) e

has-tail : (s x : ℕ) (xs : List ℕ) → has_session s xs ≡ true → has_session s (x ∷ xs) ≡ true
has-tail s x xs there = go (x == s)
  where
    go : (b : Bool) → (b || has_session s xs) ≡ true
    go true = refl
    go false = there

not_both : {A : Type 0} (b : Bool) → b ≡ true → b ≡ false → A
not_both b t f = absurd (true≢false (sym t ∙ f))

first_of : (b c : Bool) → (not b && c) ≡ true → b ≡ false
first_of true c e = absurd (true≢false (sym e))
first_of false c e = refl

second_of : (b c : Bool) → (not b && c) ≡ true → c ≡ true
second_of true c e = absurd (true≢false (sym e))
second_of false c e = e

is_later : (x s : ℕ) (seated xs : List ℕ) (b : Bool) → (x == s) ≡ b → has_session s xs ≡ true → has_session x xs ≡ false → has_session s seated ≡ false → (b || has_session s seated) ≡ false
is_later x s seated xs true e there none apart = let same : x ≡ s = grind (arith, e) in not_both (has_session x xs) (ap (λ n. has_session n xs) same ∙ there) none
is_later x s seated xs false e there none apart = apart

pub is_free : (seated xs : List ℕ) (i d : ℕ) → all_different xs ≡ true → ((s : ℕ) → has_session s xs ≡ true → has_session s seated ≡ false) → i < length xs
    → has_session (slice_index_or xs i d) (seated_by seated (take i xs)) ≡ false
is_free seated [] i d all apart lt = absurd (omega arith)
is_free seated (x ∷ xs) zero d all apart lt = apart x (has-head x x xs (same_session x))
is_free seated (x ∷ xs) (suc i) d all apart lt = is_free (x ∷ seated) xs i d (second_of (has_session x xs) (all_different xs) all) later (omega arith)
  where
    later : (s : ℕ) → has_session s xs ≡ true → has_session s (x ∷ seated) ≡ false
    later s there = is_later x s seated xs (x == s) refl there (first_of (has_session x xs) (all_different xs) all) (apart s (has-tail s x xs there))

pub seated_by-snoc : (seated xs : List ℕ) (x : ℕ) → seated_by seated (xs ++ x ∷ []) ≡ x ∷ seated_by seated xs
seated_by-snoc seated [] x = refl
seated_by-snoc seated (y ∷ ys) x = seated_by-snoc (y ∷ seated) ys x

pub map-snoc : {A B : Type 0} (f : A → B) (xs : List A) (x : A) → map f (xs ++ x ∷ []) ≡ map f xs ++ f x ∷ []
map-snoc f [] x = refl
map-snoc f (y ∷ ys) x = ap (λ zs. f y ∷ zs) (map-snoc f ys x)

pub each-snoc : {A : Type 0} (P : A → Type 0) (xs : List A) (x : A) → Each P xs → P x → Each P (xs ++ x ∷ [])
each-snoc P [] x h p = (p, tt)
each-snoc P (y ∷ ys) x h p = (h.0, each-snoc P ys x h.1 p)

pub follows_told : (start session : ℕ) (old joined now : Sight) (before : Seen) → seen start session old ≡ before → Compared joined (old_of old) → now.list ≡ joined.list → joined.token ≤ now.token
    → Follows before (seen start session now)
follows_told start session old joined now before is k list more =
    let below = k.below in
    subst (λ (v : Seen). Follows v (seen start session now)) is record { same = refl; longer = subst (λ l. IsPrefix old.list l) (sym list) k.begins; later = omega arith }

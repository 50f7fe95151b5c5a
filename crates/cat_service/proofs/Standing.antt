-- How a world stands that was opened.
use Rattle.std.proofs.Common.{◌≡◌, ℕ, ◌+◌, ◌<◌, ◌≤◌, List, [], ◌∷◌, length, map, Bool, true, false, cond, ◌&&◌, ◌||◌, refl, sym, ◌∙◌, ap, subst, arith, inl, inr}
use Rattle.std.specs.Prelude.{◌⊎◌, ◌==◌, All, Contains, None, count_by, option_map, slice_index_or}
use Rattle.std.specs.List.{AllByRecursion}
use Rattle.std.proofs.lemmas.List.{length-map, get_or-map}
use Rattle.std.proofs.lemmas.List.Elements.{All-from_recursion, Contains-append_right, recursion_from_All}
use Rattle.std.proofs.lemmas.List.Sums.{sum_by-cons}
use Rattle.cat_model.specs.Files.{IsFileName, Name}
use Rattle.cat_model.specs.Item.{Schema}
use Rattle.cat_model.specs.Reasons.{AreFirstNumbers, AreNamesIn, HasLowerNumbers, StandsFirst}
use Rattle.cat_model.specs.Standings.{Cache}
use Rattle.cat_directory.specs.Devices.{CountsOne, Lists}
use Rattle.cat_directory.specs.Names.{file_of, name_of}
use Rattle.cat_directory.specs.declared.name.FileName.{FileName}
use Rattle.cat_commands.specs.cat_ledger.Openings.{CountsSwept, IsOpenedLedger}
use Rattle.cat_commands.specs.cat_ledger_state.startup.Opened.{HasOpened}
use Rattle.cat_commands.specs.cat_lifetimes.refs.Counts.{is_pending}
use Rattle.cat_commands.specs.ledger.Chores.{pending_in, segment_told}
use Rattle.cat_ledger_laws.specs.model.Calls.{TakesOne}
use Rattle.cat_ledger_laws.specs.model.Ledger.{IsPast}
use Rattle.cat_ledger_laws.specs.model.Users.{Used, is_known, same_file_name, users_of}
use Rattle.cat_ledger_laws.specs.shape.Shapes.{Shape}
use Rattle.cat_ledger_laws.specs.shape.Steps.{Leaves}
use Rattle.cat_ledger_laws.specs.shape.Ties.{ToldFiles}
use Rattle.cat_ledger_laws.proofs.shape.Told.{file_of_name, name_of_file}
use Rattle.cat_service.specs.Reasons.{progress_of, standing_of_service}
use Rattle.cat_service.proofs.Opens.{named, newest_named}
use Rattle.cat_service.specs.Worlds.{Service, device_of, shape_of_service}

-- ---- names, as the model calls them

contained_more : {X : Type 0} (y : X) (xs : List X) (x : X) → Contains xs x → Contains (y ∷ xs) x
contained_more y xs x c = Contains-append_right (y ∷ []) xs x c

contained_name : (names : List FileName) (q : FileName) → Contains names q → Contains (map name_of names) (name_of q)
contained_name names q (k, within, is) =
    (k, omega (arith, within, length-map names name_of), get_or-map name_of names k q (name_of q) within ∙ ap name_of is)

-- a name of the model's in the list is one of the code's
name_contained : (names : List FileName) (q : Name) → Contains (map name_of names) q → Contains names (file_of q)
name_contained names q (k, within, is) =
    let inside : k < length names = omega (arith, within, length-map names name_of) in
    let same : name_of (slice_index_or names k (file_of q)) ≡ q = sym (get_or-map name_of names k (file_of q) q inside) ∙ is in
    (k, inside, sym (file_of_name (slice_index_or names k (file_of q))) ∙ ap file_of same)

each_name : (P : Name → Type 0) (names : List FileName) → ((q : FileName) → Contains names q → P (name_of q)) → AllByRecursion P (map name_of names)
each_name P [] f = tt
each_name P (q ∷ names) f = (f q (0, omega arith, refl), each_name P names (λ r c. f r (contained_more q names r c)))

names_listed : (told : ToldFiles) (names : List FileName) → Lists told names → AreNamesIn (named told) (map name_of names)
names_listed told names l = record {
  formed = each_name IsFileName names l.formed;
  there = λ q c. l.there (file_of q) (name_contained names q c);
  complete = λ q bytes is. subst (Contains (map name_of names)) (name_of_file q) (contained_name names (file_of q) (l.complete (file_of q) bytes is));
}

-- ---- the numbers that they leave free

lower : (n g : ℕ) (q : Name) → IsPast n g q → HasLowerNumbers n g q
lower n g (Name.segment m) p = p.1
lower n g (Name.source m) p = p.1
lower n g (Name.live m d) p = (p.0.1, p.1.1)
lower n g (Name.commit d) p = p.1

past : (n g : ℕ) (q : Name) → IsFileName q → HasLowerNumbers n g q → IsPast n g q
past n g (Name.segment m) f p = (f.0, p)
past n g (Name.source m) f p = (f.0, p)
past n g (Name.live m d) f p = ((f.0.0, p.0), (f.1.0, p.1))
past n g (Name.commit d) f p = (f.0, p)

all_lower : (n g : ℕ) (names : List FileName) → AllByRecursion (λ q. IsPast n g (name_of q)) names → AllByRecursion (HasLowerNumbers n g) (map name_of names)
all_lower n g [] a = tt
all_lower n g (q ∷ names) a = (lower n g (name_of q) a.0, all_lower n g names a.1)

all_past : (n g : ℕ) (names : List FileName) → AllByRecursion IsFileName (map name_of names) → AllByRecursion (HasLowerNumbers n g) (map name_of names)
    → AllByRecursion (λ q. IsPast n g (name_of q)) names
all_past n g [] f a = tt
all_past n g (q ∷ names) f a = (past n g (name_of q) f.0 a.0, all_past n g names f.1 a.1)

-- the numbers of names lie below these
abbrev LieBelow : ℕ → ℕ → List FileName → Type 0
LieBelow n g names = All (λ q. IsPast n g (name_of q)) names

first_numbers : (told : ToldFiles) (names : List FileName) → Lists told names → (n g : ℕ) → (1 ≤ n) × (1 ≤ g) → LieBelow n g names
    → ((m h : ℕ) → 1 ≤ m → 1 ≤ h → LieBelow m h names → (n ≤ m) × (g ≤ h)) → AreFirstNumbers (map name_of names) n g
first_numbers told names l n g some below least = record {
  some = some;
  above = all_lower n g names (recursion_from_All (λ q. IsPast n g (name_of q)) names below);
  least = λ m h some one a.
      least m h some one (All-from_recursion (λ q. IsPast m h (name_of q)) names (all_past m h names (names_listed told names l).formed a));
}

-- ---- how it stands

-- a sweep takes no number
takes_none : (q : Name) (n next : ℕ) → TakesOne [] q n next → next ≡ n
takes_none q n next (inl same) = same
takes_none q n next (inr one) = absurd (let no : false ≡ true = one.1 in cc)

abbrev pending_among : List Used → ℕ
pending_among us = count_by (λ (u : Used). u.users == 0) us

-- a name that nobody has is one of those that are counted as pending
some_pending : (us : List Used) (n : Name) → is_pending us n ≡ true → 0 < pending_among us
some_pending [] n h = absurd (let no : false ≡ true = h in cc)
some_pending (u ∷ us) n h = by (same_file_name n u.name) h (some_pending us n)
  where
    more : pending_among (u ∷ us) ≡ cond (u.users == 0) 1 0 + pending_among us
    more = sum_by-cons (λ (x : Used). cond (x.users == 0) 1 0) u us

    by : (b : Bool) → ((b || is_known us n) && (cond b u.users (users_of us n) == 0)) ≡ true → (is_pending us n ≡ true → 0 < pending_among us)
        → 0 < pending_among (u ∷ us)
    by true none rest =
        let one : pending_among (u ∷ us) ≡ 1 + pending_among us = more ∙ ap (λ b. cond b 1 0 + pending_among us) none in
        omega (arith, one)
    by false none rest = omega (arith, more, rest none)

-- which failures were counted, as the standing tells it
counted_first : (fails : Type 0) (before now : ℕ) (s : Shape) → CountsSwept fails before s now
    → (now ≡ before) ⊎ (fails × CountsOne before now × (0 < pending_in s))
counted_first fails before now s (inl same) = inl same
counted_first fails before now s (inr (can, one, (q, waits))) = inr (can, one, some_pending s.users (name_of q) waits)

module _ {D : Type 0} (bytes : D → ToldFiles) (can_fail : D → Type 0) (faults : D → ℕ) (device : D) where
  abbrev none_cached : Cache
  none_cached = record { sets = []; noted = []; making = None }

  abbrev Begins : Schema → Service D → Type 0
  Begins schema w = StandsFirst (named (bytes device)) (can_fail device) (faults device) schema (standing_of_service faults none_cached [] w)

  opened_so : (schema : Schema) (w : Service D) (mid : Shape) → HasOpened (bytes device) schema (bytes device) mid → Leaves [] mid (shape_of_service w)
      → CountsSwept (can_fail device) (faults device) (shape_of_service w) (faults (device_of w)) → Begins schema w
  opened_so schema w mid (inl c) swept counted =
      let s = shape_of_service w in
      let g : s.next_generation ≡ mid.next_generation = takes_none (Name.commit mid.next_generation) mid.next_generation s.next_generation swept.one_generation in
      let n : s.next_segment ≡ mid.next_segment = takes_none (Name.source mid.next_segment) mid.next_segment s.next_segment swept.one_segment in record {
        names = map name_of c.names;
        listed = names_listed (bytes device) c.names c.names_seen.listed;
        first = c.names_seen.first;
        next =
            subst (AreFirstNumbers (map name_of c.names) c.names_seen.first) (sym g)
            (first_numbers (bytes device) c.names c.names_seen.listed c.names_seen.first mid.next_generation c.names_seen.next.some c.names_seen.next.past
            c.names_seen.next.least);
        commit = inl (record {
          generation = c.generation;
          newest = newest_named (bytes device) c.generation c.newest;
          restored = c.restored;
          held = c.held;
          segments = ap (λ (x : Shape). map segment_told x.leaves) swept.rest ∙ ap (λ (x : Shape). map segment_told x.leaves) c.memory;
          next = n ∙ c.names_seen.segment;
        });
        waits = ap (λ (x : Shape). length x.buffered) swept.rest ∙ ap (λ (x : Shape). length x.buffered) c.memory;
        idle = ap (λ (x : Shape). option_map progress_of x.merging) swept.rest ∙ ap (λ (x : Shape). option_map progress_of x.merging) c.memory;
        cache = refl;
        counted = counted_first (can_fail device) (faults device) (faults (device_of w)) s counted;
        untried = refl;
      }
  opened_so schema w mid (inr c) swept counted =
      let s = shape_of_service w in
      let g : s.next_generation ≡ mid.next_generation = takes_none (Name.commit mid.next_generation) mid.next_generation s.next_generation swept.one_generation in
      let n : s.next_segment ≡ mid.next_segment = takes_none (Name.source mid.next_segment) mid.next_segment s.next_segment swept.one_segment in record {
        names = map name_of c.names;
        listed = names_listed (bytes device) c.names c.names_seen.listed;
        first = c.names_seen.first;
        next =
            subst (AreFirstNumbers (map name_of c.names) c.names_seen.first) (sym g)
            (first_numbers (bytes device) c.names c.names_seen.listed c.names_seen.first mid.next_generation c.names_seen.next.some c.names_seen.next.past
            c.names_seen.next.least);
        commit = inr (
          c.none,
          ap (λ (x : Shape). map segment_told x.leaves) swept.rest ∙ ap (λ (x : Shape). map segment_told x.leaves) c.memory,
          n ∙ c.names_seen.segment,
        );
        waits = ap (λ (x : Shape). length x.buffered) swept.rest ∙ ap (λ (x : Shape). length x.buffered) c.memory;
        idle = ap (λ (x : Shape). option_map progress_of x.merging) swept.rest ∙ ap (λ (x : Shape). option_map progress_of x.merging) c.memory;
        cache = refl;
        counted = counted_first (can_fail device) (faults device) (faults (device_of w)) s counted;
        untried = refl;
      }

  -- It stands as it was opened.
  pub stands_first : (schema : Schema) (w : Service D) → (shape_of_service w).schema ≡ schema
      → IsOpenedLedger (bytes device) (shape_of_service w).schema (bytes (device_of w)) (shape_of_service w)
      → CountsSwept (can_fail device) (faults device) (shape_of_service w) (faults (device_of w)) → Begins schema w
  stands_first schema w fields o counted = subst (λ k. Begins k w) fields (opened_so (shape_of_service w).schema w o.state o.opened o.swept counted)

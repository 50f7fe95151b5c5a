-- What the bytes of a file of live rows say.
use Rattle.std.proofs.Common.{◌≡◌, ◌+◌, ◌*◌, ◌<◌, ◌≤◌, ◌^◌, ℕ, Bool, true, false, cond, List, [], ◌∷◌, ◌++◌, length, drop, replicate, refl, sym, ap, ◌∙◌, inl, inr, subst, arith}
use Rattle.std.specs.Prelude.{codes, count_by}
use Rattle.std.proofs.lemmas.Bool.{cases_lt}
use Rattle.std.proofs.lemmas.List.{length-replicate}
use Rattle.std.proofs.lemmas.List.Sums.{sum_by-cons, count_by-le-length}
use Rattle.std.proofs.lemmas.List.Folds.{sum_by-replicate}
use Rattle.cat_base.specs.Bytes.{spelled_u32, spelled_u64}
use Rattle.cat_base.proofs.Spellings.{u32_exact, u64_exact}
use Rattle.cat_columns.proofs.Told.{same_sets}
use Rattle.cat_model.specs.RowSets.{IsPacked}
use Rattle.cat_model.specs.LiveFile.{LiveRows, AreLiveRows, SpellsLive}
use Rattle.cat_segment.specs.LiveStart.{MayStand}
use Rattle.cat_segment.specs.declared.live_file.Start.{Start}

abbrev pub spelled : (magic version number generation rows : ℕ) → List ℕ → List ℕ
spelled magic version number generation rows rest = spelled_u32 magic ++ (version ∷ (spelled_u64 number ++ (spelled_u64 generation ++ (spelled_u32 rows ++ rest))))

pub length-spelled : (magic version number generation rows : ℕ) (rest : List ℕ) → length (spelled magic version number generation rows rest) ≡ 25 + length rest
length-spelled magic version number generation rows rest = omega arith

pub rest_is : (magic version number generation rows : ℕ) (rest : List ℕ) → drop 25 (spelled magic version number generation rows rest) ≡ rest
rest_is magic version number generation rows rest = refl

-- CLIV
pub clive : spelled_u32 1129072982 ≡ codes "CLIV"
clive = refl

pub record IsSaid (magic version number generation rows : ℕ) (rest : List ℕ) (told : LiveRows) (packed : List ℕ) : Type 0 where
  pub the_magic : magic ≡ 1129072982
  pub the_version : version ≡ 1
  pub the_number : number ≡ told.number
  pub the_generation : generation ≡ told.generation
  pub the_rows : rows ≡ length told.live
  pub the_rest : rest ≡ packed

-- bytes are spelled in one way
pub said : (magic version number generation rows : ℕ) (rest : List ℕ) (told : LiveRows) → magic < 2 ^ 32 → number < 2 ^ 64 → generation < 2 ^ 64 → rows < 2 ^ 32 → AreLiveRows told
    → (s : SpellsLive (spelled magic version number generation rows rest) told) → IsSaid magic version number generation rows rest told s.packed
said magic version number generation rows rest told fit_magic fit_number fit_generation fit_rows are s =
    let one = u32_exact magic 1129072982 (version ∷ (spelled_u64 number ++ (spelled_u64 generation ++ (spelled_u32 rows ++ rest)))) (1 ∷ (spelled_u64 told.number ++ (spelled_u64 told.generation ++ (spelled_u32 (length told.live) ++ s.packed)))) fit_magic (omega arith) s.spelled in
    let tail : version ∷ (spelled_u64 number ++ (spelled_u64 generation ++ (spelled_u32 rows ++ rest))) ≡ 1 ∷ (spelled_u64 told.number ++ (spelled_u64 told.generation ++ (spelled_u32 (length told.live) ++ s.packed))) = one.1 in
    let version_is : version ≡ 1 = cc in
    let after : spelled_u64 number ++ (spelled_u64 generation ++ (spelled_u32 rows ++ rest)) ≡ spelled_u64 told.number ++ (spelled_u64 told.generation ++ (spelled_u32 (length told.live) ++ s.packed)) = cc in
    let two = u64_exact number told.number (spelled_u64 generation ++ (spelled_u32 rows ++ rest)) (spelled_u64 told.generation ++ (spelled_u32 (length told.live) ++ s.packed)) fit_number (omega (arith, are.number.1)) after in
    let three = u64_exact generation told.generation (spelled_u32 rows ++ rest) (spelled_u32 (length told.live) ++ s.packed) fit_generation (omega (arith, are.generation.1)) two.1 in
    let four = u32_exact rows (length told.live) rest s.packed fit_rows (omega (arith, are.few)) three.1 in
    record { the_magic = one.0; the_version = version_is; the_number = two.0; the_generation = three.0; the_rows = four.0; the_rest = four.1 }

-- and in no fewer than 25
pub spelled_long : (bytes : List ℕ) (told : LiveRows) → SpellsLive bytes told → 25 ≤ length bytes
spelled_long bytes told s = omega (arith, ap length s.spelled, length-spelled 1129072982 1 told.number told.generation (length told.live) s.packed)

-- the rows that are live are those of the set that stands there
pub live_told : (bytes : List ℕ) (magic version number generation rows : ℕ) (rest : List ℕ) (told : LiveRows) (set : List Bool) → bytes ≡ spelled magic version number generation rows rest
    → magic < 2 ^ 32 → number < 2 ^ 64 → generation < 2 ^ 64 → rows < 2 ^ 32 → AreLiveRows told → SpellsLive bytes told → length set ≡ rows → IsPacked (drop 25 bytes) set → told.live ≡ set
live_told bytes magic version number generation rows rest told set whole fit_magic fit_number fit_generation fit_rows are spells long packed =
    let s : SpellsLive (spelled magic version number generation rows rest) told = subst (λ l. SpellsLive l told) whole spells in
    let t = said magic version number generation rows rest told fit_magic fit_number fit_generation fit_rows are s in
    let there : IsPacked s.packed set = subst (λ l. IsPacked l set) (ap (drop 25) whole ∙ rest_is magic version number generation rows rest ∙ t.the_rest) packed in
    same_sets s.packed told.live set s.set there (sym t.the_rows ∙ sym long)

-- ---- a set of all rows

count_full : (n : ℕ) → count_by (λ b. b) (replicate n true) ≡ n
count_full n = let once : n * 1 ≡ n = omega arith in sum_by-replicate (λ (b : Bool). cond b 1 0) n true ∙ once

all_there : (s : List Bool) → count_by (λ b. b) s ≡ length s → s ≡ replicate (length s) true
all_there [] e = refl
all_there (true ∷ s) e = ap (λ (l : List Bool). true ∷ l) (all_there s (omega (arith, e, sum_by-cons (λ (b : Bool). cond b 1 0) true s)))
all_there (false ∷ s) e = absurd (omega (arith, e, sum_by-cons (λ (b : Bool). cond b 1 0) false s, count_by-le-length (λ (b : Bool). b) s))

some_dead : (s : List Bool) (n : ℕ) → length s ≡ n → (s ≡ replicate n true → ⊥) → count_by (λ b. b) s < length s
some_dead s n long apart = elim (cases_lt (count_by (λ b. b) s) (length s)) [
  | inl dead ↦ dead
  | inr all ↦ absurd (apart (all_there s (omega (arith, all, count_by-le-length (λ (b : Bool). b) s)) ∙ ap (λ k. replicate k true) long))
]

module _ (bytes rest : List ℕ) (start : Start) (whole : bytes ≡ spelled start.magic start.version start.number start.generation start.rows rest) where
  -- the set of all rows is no file's
  pub not_all_live : start.magic < 2 ^ 32 → start.number < 2 ^ 64 → start.generation < 2 ^ 64 → start.rows < 2 ^ 32 → IsPacked (drop 25 bytes) (replicate start.rows true) → (told : LiveRows) → SpellsLive bytes told → ⊥
  not_all_live fit_magic fit_number fit_generation fit_rows packed told spells =
      let n : ℕ = start.rows in
      let live = live_told bytes start.magic start.version start.number start.generation start.rows rest told (replicate start.rows true) whole fit_magic fit_number fit_generation fit_rows spells.form spells (length-replicate start.rows true) packed in
      omega (arith, spells.form.dead, ap (count_by (λ (b : Bool). b)) live, ap length live, count_full start.rows, length-replicate start.rows true)

  -- and every other set that is there makes one
  pub is_live_file : (set : List Bool) → MayStand start → length set ≡ start.rows → IsPacked (drop 25 bytes) set → (IsPacked (drop 25 bytes) (replicate start.rows true) → ⊥)
      → SpellsLive bytes (record { number = start.number; generation = start.generation; live = set })
  is_live_file set may long packed not_all = record {
    form = record {
      number = may.number;
      generation = may.generation;
      some = omega (arith, may.some, long);
      few = omega (arith, may.few, long);
      dead = some_dead set start.rows long (λ all. not_all (subst (λ s. IsPacked (drop 25 bytes) s) all packed));
    };
    packed = rest;
    set = subst (λ l. IsPacked l set) (ap (drop 25) whole) packed;
    spelled =
        whole ∙ ap (λ m. spelled m start.version start.number start.generation start.rows rest) may.magic ∙ ap (λ v. spelled 1129072982 v start.number start.generation start.rows rest) may.version
        ∙ ap (λ n. spelled 1129072982 1 start.number start.generation n rest) (sym long);
  }

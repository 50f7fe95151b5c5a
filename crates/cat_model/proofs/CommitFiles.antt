-- What bytes say of a commit is one thing, and the beginning of a commit's file says none, but the whole.
use Rattle.std.proofs.Common.{◌≡◌, ℕ, ◌<◌, ◌≤◌, ◌^◌, List, [], ◌∷◌, ◌++◌, length, true, false, cond, not, ◌&&◌, leb, refl, sym, ◌∙◌, ap, arith, append_assoc}
use Rattle.std.specs.Prelude.{codes, IsTrue, ◌==◌}
use Rattle.std.specs.List.{flat_map, list_all, AllByRecursion}
use Rattle.std.specs.Char.{is_ascii_lowercase}
use Rattle.std.proofs.lemmas.Bool.{and_parts}
use Rattle.std.proofs.lemmas.Bool.Decides.{nat_tests}
use Rattle.std.proofs.lemmas.List.Elements.{recursion_from_All}
use Rattle.cat_base.specs.Bytes.{spelled_u32, spelled_u64, spelled_bytes}
use Rattle.cat_base.proofs.Spellings.{u32_exact, u64_exact, bytes_exact}
use Rattle.cat_model.specs.Text.{Text, same_text}
use Rattle.cat_model.specs.Item.{Schema, IsSchema, Field, Kind, has_name_form, is_name_byte, is_field_name}
use Rattle.cat_model.specs.Layout.{kind_byte, spelled_field, spelled_fields}
use Rattle.cat_model.specs.CommitFile.{Version, ListedSegment, CommitFile, HasText, IsListed, IsCommitFile, SpellsCommit, spelled_commit, version_byte, spelled_text, spelled_listed}
use Rattle.cat_model.specs.SegmentLaws.{CommitsAreToldByTheirBytes}
use Rattle.cat_model.proofs.Lists.{All-weaken}

-- ---- lists of what is spelled

-- each element says what it is by its bytes, so a list does whose length is known
each_exact : {X : Type 0} (P : X → Type 0) (spell : X → List ℕ) → ((x y : X) (r s : List ℕ) → P x → P y → spell x ++ r ≡ spell y ++ s → (x ≡ y) × (r ≡ s))
    → (xs ys : List X) (r s : List ℕ) → length xs ≡ length ys → AllByRecursion P xs → AllByRecursion P ys → flat_map spell xs ++ r ≡ flat_map spell ys ++ s → (xs ≡ ys) × (r ≡ s)
each_exact P spell one [] [] r s l a b e = (refl, e)
each_exact P spell one [] (y ∷ ys) r s l a b e = absurd (omega (arith, l))
each_exact P spell one (x ∷ xs) [] r s l a b e = absurd (omega (arith, l))
each_exact P spell one (x ∷ xs) (y ∷ ys) r s l a b e =
    let parted = sym (append_assoc (spell x) (flat_map spell xs) r) ∙ e ∙ append_assoc (spell y) (flat_map spell ys) s in
    let head = one x y (flat_map spell xs ++ r) (flat_map spell ys ++ s) a.0 b.0 parted in
    let rest = each_exact P spell one xs ys r s (omega (arith, l)) a.1 b.1 head.1 in
    (λ i. head.0 i ∷ rest.0 i, rest.1)

-- ---- fields

kind_of_byte : ℕ → Kind
kind_of_byte n = cond (n == 1) Kind.text (cond (n == 2) Kind.keyword (cond (n == 3) Kind.number Kind.facet))

kind_back : (k : Kind) → kind_of_byte (kind_byte k) ≡ k
unfolding kind_of_byte
kind_back Kind.text = refl
kind_back Kind.keyword = refl
kind_back Kind.number = refl
kind_back Kind.facet = refl

kind_exact : (j k : Kind) → kind_byte j ≡ kind_byte k → j ≡ k
kind_exact j k e = sym (kind_back j) ∙ ap kind_of_byte e ∙ kind_back k

name_short : (name : Text) → IsTrue (is_field_name name) → length name < 2 ^ 32
name_short [] h = absurd (let no : false ≡ true = h in cc)
name_short (b ∷ bs) h =
    let form = (and_parts (has_name_form (b ∷ bs)) (not (same_text (b ∷ bs) (codes "id"))) h).0 in
    let short : leb (length bs) 31 ≡ true = (and_parts (is_ascii_lowercase b && list_all is_name_byte bs) (leb (length bs) 31) form).1 in
    let few : length bs ≤ 31 = grind (arith, nat_tests, short) in
    omega (arith, few)

abbrev IsShort : Field → Type 0
IsShort f = length f.name < 2 ^ 32

field_exact : (f g : Field) (r s : List ℕ) → IsShort f → IsShort g → spelled_field f ++ r ≡ spelled_field g ++ s → (f ≡ g) × (r ≡ s)
field_exact f g r s short short' e =
    let parted = sym (append_assoc (spelled_bytes f.name) (kind_byte f.kind ∷ []) r) ∙ e ∙ append_assoc (spelled_bytes g.name) (kind_byte g.kind ∷ []) s in
    let names = bytes_exact f.name g.name (kind_byte f.kind ∷ r) (kind_byte g.kind ∷ s) short short' parted in
    let behind : kind_byte f.kind ∷ r ≡ kind_byte g.kind ∷ s = names.1 in
    let kinds : kind_byte f.kind ≡ kind_byte g.kind = cc behind in
    let rest : r ≡ s = cc behind in
    (λ i. record { name = names.0 i; kind = kind_exact f.kind g.kind kinds i }, rest)

fields_short : (schema : Schema) → IsSchema schema → AllByRecursion IsShort schema
fields_short schema ok = All-weaken (λ f. IsTrue (is_field_name f.name)) IsShort (λ f h. name_short f.name h) schema ok.named

fields_exact : (one two : Schema) (r s : List ℕ) → IsSchema one → IsSchema two → spelled_fields one ++ r ≡ spelled_fields two ++ s → (one ≡ two) × (r ≡ s)
fields_exact one two r s ok ok' e =
    let parted = sym (append_assoc (spelled_u32 (length one)) (flat_map spelled_field one) r) ∙ e ∙ append_assoc (spelled_u32 (length two)) (flat_map spelled_field two) s in
    let counts = u32_exact (length one) (length two) (flat_map spelled_field one ++ r) (flat_map spelled_field two ++ s) (omega (arith, ok.few)) (omega (arith, ok'.few)) parted in
    each_exact IsShort spelled_field field_exact one two r s counts.0 (fields_short one ok) (fields_short two ok') counts.1

-- ---- segments

record Fits (s : ListedSegment) : Type 0 where
  number : s.number < 2 ^ 64
  file : s.file < 2 ^ 64

listed_exact : (x y : ListedSegment) (r s : List ℕ) → Fits x → Fits y → spelled_listed x ++ r ≡ spelled_listed y ++ s → (x ≡ y) × (r ≡ s)
listed_exact x y r s fits fits' e =
    let parted = sym (append_assoc (spelled_u64 x.number) (spelled_u64 x.file) r) ∙ e ∙ append_assoc (spelled_u64 y.number) (spelled_u64 y.file) s in
    let numbers = u64_exact x.number y.number (spelled_u64 x.file ++ r) (spelled_u64 y.file ++ s) fits.number fits'.number parted in
    let files = u64_exact x.file y.file r s fits.file fits'.file numbers.1 in
    (λ i. record { number = numbers.0 i; file = files.0 i }, files.1)

listed_fit : (c : CommitFile) → IsCommitFile c → AllByRecursion Fits c.segments
listed_fit c ok = All-weaken (IsListed c.generation c.next) Fits (λ s h. record { number = omega (arith, h.past, ok.next_high); file = omega (arith, h.file, ok.generation.1) }) c.segments (recursion_from_All _ c.segments ok.listed)

-- ---- the whole

version_of_byte : ℕ → Version
version_of_byte n = cond (n == 1) Version.first Version.second

version_back : (v : Version) → version_of_byte (version_byte v) ≡ v
unfolding version_of_byte
version_back Version.first = refl
version_back Version.second = refl

version_exact : (v w : Version) → version_byte v ≡ version_byte w → v ≡ w
version_exact v w e = sym (version_back v) ∙ ap version_of_byte e ∙ version_back w

text_exact : (v w : Version) (t u : Text) (r s : List ℕ) → version_byte v ≡ version_byte w → HasText v t → HasText w u → spelled_text v t ++ r ≡ spelled_text w u ++ s → (t ≡ u) × (r ≡ s)
text_exact Version.first Version.first t u r s same h k e = (h ∙ sym k, e)
text_exact Version.first Version.second t u r s same h k e = absurd (omega (arith, same))
text_exact Version.second Version.first t u r s same h k e = absurd (omega (arith, same))
text_exact Version.second Version.second t u r s same h k e = bytes_exact t u r s (omega (arith, h.short)) (omega (arith, k.short)) e

-- what stands behind the version, with more bytes behind it
listing : CommitFile → List ℕ → List ℕ
listing c rest = spelled_u32 (length c.segments) ++ (flat_map spelled_listed c.segments ++ rest)

behind : CommitFile → List ℕ → List ℕ
behind c rest =
    spelled_u64 c.generation ++ (spelled_u64 c.token ++ (spelled_u64 c.next ++ (spelled_text c.version c.text ++ (spelled_fields c.schema ++ listing c rest))))

whole : CommitFile → List ℕ
whole c =
    spelled_u64 c.generation ++ (spelled_u64 c.token ++ (spelled_u64 c.next ++ (spelled_text c.version c.text ++ (spelled_fields c.schema
    ++ (spelled_u32 (length c.segments) ++ flat_map spelled_listed c.segments)))))

append_six : (a b c d e f g r : List ℕ) → (a ++ (b ++ (c ++ (d ++ (e ++ (f ++ g)))))) ++ r ≡ a ++ (b ++ (c ++ (d ++ (e ++ (f ++ (g ++ r))))))
append_six a b c d e f g r =
    append_assoc a (b ++ (c ++ (d ++ (e ++ (f ++ g))))) r
    ∙ ap (λ l. a ++ l) (append_assoc b (c ++ (d ++ (e ++ (f ++ g)))) r
    ∙ ap (λ l. b ++ l) (append_assoc c (d ++ (e ++ (f ++ g))) r
    ∙ ap (λ l. c ++ l) (append_assoc d (e ++ (f ++ g)) r
    ∙ ap (λ l. d ++ l) (append_assoc e (f ++ g) r
    ∙ ap (λ l. e ++ l) (append_assoc f g r)))))

whole_and_more : (c : CommitFile) (rest : List ℕ) → whole c ++ rest ≡ behind c rest
unfolding whole behind listing
whole_and_more c rest =
    append_six (spelled_u64 c.generation) (spelled_u64 c.token) (spelled_u64 c.next) (spelled_text c.version c.text) (spelled_fields c.schema)
    (spelled_u32 (length c.segments)) (flat_map spelled_listed c.segments) rest

listing_exact : (a b : CommitFile) (r s : List ℕ) → IsCommitFile a → IsCommitFile b → listing a r ≡ listing b s → (a.segments ≡ b.segments) × (r ≡ s)
unfolding listing
listing_exact a b r s ok ok' e =
    let counts = u32_exact (length a.segments) (length b.segments) (flat_map spelled_listed a.segments ++ r) (flat_map spelled_listed b.segments ++ s) (omega (arith, ok.few)) (omega (arith, ok'.few)) e in
    each_exact Fits spelled_listed listed_exact a.segments b.segments r s counts.0 (listed_fit a ok) (listed_fit b ok') counts.1

commit_exact : (a b : CommitFile) (r s : List ℕ) → IsCommitFile a → IsCommitFile b → version_byte a.version ≡ version_byte b.version → behind a r ≡ behind b s
    → (a ≡ b) × (r ≡ s)
unfolding behind
commit_exact a b r s ok ok' same e =
    let versions : a.version ≡ b.version = version_exact a.version b.version same in
    let generations = u64_exact a.generation b.generation _ _ (omega (arith, ok.generation.1)) (omega (arith, ok'.generation.1)) e in
    let tokens = u64_exact a.token b.token _ _ (omega (arith, ok.token)) (omega (arith, ok'.token)) generations.1 in
    let nexts = u64_exact a.next b.next _ _ (omega (arith, ok.next_high)) (omega (arith, ok'.next_high)) tokens.1 in
    let texts = text_exact a.version b.version a.text b.text _ _ same ok.text ok'.text nexts.1 in
    let schemas = fields_exact a.schema b.schema (listing a r) (listing b s) ok.schema ok'.schema texts.1 in
    let segments = listing_exact a b r s ok ok' schemas.1 in (
      λ i. record {
        version = versions i;
        generation = generations.0 i;
        token = tokens.0 i;
        next = nexts.0 i;
        text = texts.0 i;
        schema = schemas.0 i;
        segments = segments.0 i;
      },
      segments.1,
    )

nothing_more : (l : List ℕ) → l ++ [] ≡ l
nothing_more [] = refl
nothing_more (x ∷ l) = ap (λ r. x ∷ r) (nothing_more l)

-- A beginning of a commit's file that spells a commit is the whole file, and spells that commit.
pub beginnings_are_whole : (bytes rest : List ℕ) (c d : CommitFile) → IsCommitFile c → SpellsCommit bytes d → bytes ++ rest ≡ spelled_commit c
    → (d ≡ c) × (rest ≡ [])
unfolding whole
beginnings_are_whole bytes rest c d form spells e =
    let both : codes "CSGM" ++ (version_byte d.version ∷ (whole d ++ rest)) ≡ codes "CSGM" ++ (version_byte c.version ∷ whole c) = sym (ap (λ b. b ++ rest) spells.spelled) ∙ e in
    let same : version_byte d.version ≡ version_byte c.version = cc both in
    let tails : whole d ++ rest ≡ whole c = cc both in
    let ends : whole c ≡ whole c ++ [] = sym (nothing_more (whole c)) in
    commit_exact d c rest [] spells.form form same (sym (whole_and_more d rest) ∙ tails ∙ ends ∙ whole_and_more c [])

pub commits_are_told_by_their_bytes : CommitsAreToldByTheirBytes
commits_are_told_by_their_bytes bytes a b one two = (beginnings_are_whole bytes [] b a two.form one (nothing_more bytes ∙ two.spelled)).0

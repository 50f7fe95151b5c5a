-- What a crash leaves of the newest commit is found with the run's table.
use Rattle.std.proofs.Common.{inl, inr, ◌⊎◌, ◌≡◌, ◌≢◌, ℕ, ◌<◌, ◌≤◌, leb, List, [], ◌∷◌, true, cond, refl, sym, ◌∙◌, ap, subst, arith, append-nil}
use Rattle.std.specs.Prelude.{◌&&◌, filter, Option, None, Some, Result, Ok, Contains, filter_map}
use Rattle.std.specs.List.{flat_map, AllByRecursion}
use Rattle.std.proofs.lemmas.Bool.Decides.{eqb_tells, leb_tells}
use Rattle.std.proofs.lemmas.List.Elements.{Contains-append_right}
use Rattle.cat_base.specs.declared.refusal.Refusal.{Refusal}
use Rattle.cat_model.specs.CommitFile.{CommitFile, SpellsCommit, commit_needs, listed_names}
use Rattle.cat_model.specs.Files.{Name}
use Rattle.cat_model.specs.Item.{Record, Schema}
use Rattle.cat_model.specs.Run.{Run, newest_commit, writes}
use Rattle.cat_model.specs.Served.{Begins, exchange}
use Rattle.cat_model.specs.Table.{Opened, Start, stands, table}
use Rattle.cat_model.specs.Text.{Text}
use Rattle.cat_model.specs.Told.{DirectoryKind, FileContent, IsNewestTold, IsTold, LeftByName, MayBeLeft, MayHave, Told, ToldByName, TellsAlways, TellsNoCommit, told_of}
use Rattle.cat_model.specs.Write.{Write}
use Rattle.cat_model.specs.Restored.{HasCommit}
use Rattle.cat_model.specs.Opens.{BeginsAtNewest, BeginsFrom, HoldsCommit, OpensFrom}
use Rattle.cat_model.specs.Promised.{HoldsGeneration, IsRefusedCommit, SurvivesCrash}
use Rattle.cat_model.specs.Serving.{IsServedIn}
use Rattle.cat_model.specs.Found.{CallsAreFound, FindsAfterwards, FindsNewest, FindsRefused, ReadsAgreeAfterwards, TellsJust}
use Rattle.cat_model.proofs.UpTo.{table-more}
use Rattle.cat_model.proofs.CommitFiles.{commits_are_told_by_their_bytes}
use Rattle.cat_items.specs.Laws.{HaveOneSchema}
use Rattle.cat_items.specs.Reading.{json}
use Rattle.cat_items.proofs.TalkTexts.{reads_lines}
use Rattle.cat_ledger_laws.proofs.lines.SameTable.{Same, same_table}
use Rattle.cat_ledger_laws.specs.lines.TriedLaws.{LiveAreTold, SegmentsAreTold}
use Rattle.cat_service.specs.theorem.Openings.{DirectoriesOpenOneWay}
use Rattle.cat_service.proofs.theorem.Calls.{call_said, sound}
use Rattle.cat_service.proofs.theorem.Law.{reads_agree_where}

some_text : (a b : Text) → ◌≡◌ {A = Option Text} (Some a) (Some b) → a ≡ b
some_text a b e = cc

-- what is so of each element is so along the list
all_contained : {X : Type 0} (P : X → Type 0) (xs : List X) → ((x : X) → Contains xs x → P x) → AllByRecursion P xs
all_contained P [] f = tt
all_contained P (x ∷ xs) f = (f x (0, omega arith, refl), all_contained P xs (λ y c. f y (Contains-append_right (x ∷ []) xs y c)))

-- ---- two directories that hold one commit

module _ (segments : SegmentsAreTold) (lives : LiveAreTold) (one two : ToldByName) where
  -- they hold one commit where its own file is the same
  pub same_commit : (g : ℕ) (c d : CommitFile) → HasCommit (MayHave one) g c → HasCommit (MayHave two) g d → Same segments lives one two (Name.commit g) → c ≡ d
  same_commit g c d h k same =
      let bytes : h.bytes ≡ k.bytes = same h.bytes k.bytes h.there k.there in
      commits_are_told_by_their_bytes k.bytes c d (subst (λ t. SpellsCommit t c) bytes h.spelled) k.spelled

-- ---- what is told, as files

content_of : Told → FileContent
content_of None = None
content_of (Some content) = content

content_told : (t : Told) → t ≢ None → t ≡ Some (content_of t)
unfolding content_of
content_told None a = absurd (a refl)
content_told (Some content) a = refl

-- ---- the newest commit

module _ (segments : SegmentsAreTold) (lives : LiveAreTold) (told told₂ : ToldByName) (always : (q : Name) → told q ≢ None) (may : LeftByName) (image : Name → FileContent)
    (left : MayBeLeft may image) (just : TellsJust told₂ image) (from : Opened) (run : Run) (g : ℕ) (here : HoldsGeneration told from run g)
    (settled : (q : Name) → Contains (commit_needs here.commit) q → (now e : FileContent) → told q ≡ Some now → may q e → e ≡ now)
    (schema : Schema) (found : Opened) (b : BeginsAtNewest told₂ schema found) (number : b.generation ≡ g) where
  alike : (q : Name) → Contains (commit_needs here.commit) q → Same segments lives told₂ told q
  alike q c x y theirs mine =
      let now : FileContent = content_of (told q) in
      let tells : told q ≡ Some now = content_told (told q) (always q) in
      let image_is : image q ≡ now = settled q c now (image q) tells (left q) in
      let one : image q ≡ Some x = subst (λ t. IsTold t (Some x)) (just q) theirs in
      let two : now ≡ Some y = subst (λ t. IsTold t (Some y)) tells mine in
      some_text x y (sym one ∙ image_is ∙ two)

  all_alike : AllByRecursion (Same segments lives told₂ told) (commit_needs here.commit)
  all_alike = all_contained (Same segments lives told₂ told) (commit_needs here.commit) alike

  one_commit : b.commit ≡ here.commit
  one_commit =
      same_commit segments lives told₂ told g b.commit here.commit (subst (λ n. HasCommit (MayHave told₂) n b.commit) number b.held.held.commit) here.held.held.commit
      (subst (λ n. Same segments lives told₂ told (Name.commit n)) here.held.held.commit.number all_alike.0)

  fields : schema ≡ from.start.schema
  fields = sym b.held.held.fields ∙ ap (λ (c : CommitFile). c.schema) one_commit ∙ here.held.held.fields

  records : found.start.records ≡ table from.start (writes run) here.commit.token
  records =
      same_table segments lives told₂ told from.start.schema b.generation g here.commit found.start.records (table from.start (writes run) here.commit.token)
      (subst (λ (s : Schema). HoldsCommit told₂ s b.generation here.commit found.start.records) fields
      (subst (λ (c : CommitFile). HoldsCommit told₂ schema b.generation c found.start.records) one_commit b.held))
      here.held all_alike.1

  pub finds_newest : newest_commit from run ≡ Some g → FindsNewest from run found
  finds_newest newest =
      let token : found.start.token ≡ here.commit.token = b.token ∙ ap (λ (c : CommitFile). c.token) one_commit in record {
        generation = g;
        newest = newest;
        commit =
            b.text
            ∙ ap (λ (c : CommitFile). Some (record { generation = c.generation; text = c.text })) one_commit
            ∙ (λ i. Some (record { generation = here.held.held.commit.number i; text = here.text i }));
        reaches = here.reaches ∙ ap Some (sym token);
        records = records ∙ ap (table from.start (writes run)) (sym token);
      }

-- ---- a commit above the newest

-- the files without those of commits past g
abbrev without_later : ℕ → (Name → FileContent) → Name → FileContent
without_later g image (Name.commit h) = cond (leb h g) (image (Name.commit h)) None
without_later g image q = image q

own_stays : (g : ℕ) (image : Name → FileContent) → without_later g image (Name.commit g) ≡ image (Name.commit g)
own_stays g image = elim (leb_tells g g) [
  | inl e ↦ ap (λ b. cond b (image (Name.commit g)) None) e.0
  | inr e ↦ absurd (omega (arith, e.1))
]

later_go : (g : ℕ) (image : Name → FileContent) (h : ℕ) → g < h → without_later g image (Name.commit h) ≡ None
later_go g image h past = elim (leb_tells h g) [
  | inl e ↦ absurd (omega (arith, past, e.1))
  | inr e ↦ ap (λ b. cond b (image (Name.commit h)) None) e.0
]

some_content : (c : FileContent) → (◌≡◌ {A = Option FileContent} (Some c) (Some None) → ⊥) → (bytes : Text) × (c ≡ Some bytes)
some_content None there = absurd (there refl)
some_content (Some bytes) there = (bytes, refl)

-- whatever commit and table are held at this generation are those of a COMMIT that was refused
abbrev IsRefusedAt : Opened → Run → (Name → FileContent) → ℕ → Type 0
IsRefusedAt from run image n = (schema : Schema) (commit : CommitFile) (records : List Record) → HoldsCommit (told_of image) schema n commit records
    → IsRefusedCommit from run commit.text commit.token records

-- The newest commit that is found is the run's newest; or it is above that, if there is one, and was tried.
newest_or_above : (may : LeftByName) (from : Opened) (run : Run) (s : SurvivesCrash may from run) (image : Name → FileContent) → MayBeLeft may image
    → (n : ℕ) → IsNewestTold (told_of image) n
    → (newest_commit from run ≡ Some n) ⊎ (((g : ℕ) → newest_commit from run ≡ Some g → g < n) × IsRefusedAt from run image n)
newest_or_above may from run s image left n newest =
    elim (s.found image n left newest) [ inl is ↦ inl is | inr tried ↦ by (newest_commit from run) refl tried ]
  where
    most : (g : ℕ) → newest_commit from run ≡ Some g → g ≤ n
    most g is =
        let mended = s.mended g is image (without_later g image) left (own_stays g image) (later_go g image) in
        let here = some_content (image (Name.commit g)) (λ none. mended.there (ap (λ c. Some c) (own_stays g image) ∙ none)) in
        newest.greatest g here.0 (ap (λ c. Some c) here.1)

    by : (o : Option ℕ) → newest_commit from run ≡ o → IsRefusedAt from run image n
        → (newest_commit from run ≡ Some n) ⊎ (((g : ℕ) → newest_commit from run ≡ Some g → g < n) × IsRefusedAt from run image n)
    by None is tried = inr (λ g other. absurd (let no : ◌≡◌ {A = Option ℕ} None (Some g) = sym is ∙ other in cc no), tried)
    by (Some k) is tried = elim (eqb_tells k n) [
      | inl e ↦ inl (is ∙ ap (λ m. Some m) e.1)
      | inr e ↦ inr (λ g other. let same : k ≡ g = (let one : ◌≡◌ {A = Option ℕ} (Some k) (Some g) = sym is ∙ other in cc one) in let low = most g other in omega (arith, same, low, e.1), tried)
    ]

finds_refused : (told₂ : ToldByName) (image : Name → FileContent) → told₂ ≡ told_of image → (from : Opened) (run : Run) (schema : Schema) (found : Opened)
    (b : BeginsAtNewest told₂ schema found) → ((g : ℕ) → newest_commit from run ≡ Some g → g < b.generation) → IsRefusedAt from run image b.generation
    → FindsRefused from run found
finds_refused told₂ image same from run schema found b above tried = record {
  commit = record { generation = b.commit.generation; text = b.commit.text };
  there = b.text;
  above = λ g is. let low = above g is in let number : b.commit.generation ≡ b.generation = b.held.held.commit.number in omega (arith, low, number);
  tried = subst (λ t. IsRefusedCommit from run b.commit.text t found.start.records) (sym b.token)
      (tried schema b.commit found.start.records (subst (λ (told : ToldByName). HoldsCommit told schema b.generation b.commit found.start.records) same b.held));
}

-- ---- the law

same_told : (told : ToldByName) (image : Name → FileContent) → TellsJust told image → told ≡ told_of image
same_told told image just = λ i. λ q. just q i

module _ {D : Type 0} (kind : DirectoryKind D) (device left : D) (segments : SegmentsAreTold) (lives : LiveAreTold) (always : TellsAlways kind) (first : Text) (lines : List Text)
    (output : Text) (s : IsServedIn json kind device left first lines output) (image : Name → FileContent) (crashed : MayBeLeft (kind.may_leave left) image)
    (told₂ : ToldByName) (just : TellsJust told₂ image) where
  abbrev run : Run
  run = filter_map exchange s.fitting

  abbrev lasts : SurvivesCrash (kind.may_leave left) s.from run
  lasts = s.survives always

  found_at : (schema : Schema) (found : Opened) → OpensFrom told₂ schema (Ok found) → FindsAfterwards s.from run found
  found_at schema found (inl b) =
      let first_told : IsNewestTold (told_of image) b.generation = subst (λ t. IsNewestTold t b.generation) (same_told told₂ image just) b.newest in
      elim (newest_or_above (kind.may_leave left) s.from run lasts image crashed b.generation first_told) [
        | inl newest ↦
            let here = s.promised.outlasts always b.generation newest in
            FindsAfterwards.newest (finds_newest segments lives (kind.bytes left) told₂ (always left) (kind.may_leave left) image crashed just s.from run b.generation here.0 here.1 schema found b refl newest)
        | inr later ↦ FindsAfterwards.refused (finds_refused told₂ image (same_told told₂ image just) s.from run schema found b later.0 later.1)
      ]
  found_at schema found (inr e) =
      FindsAfterwards.none (record {
        none = lasts.lost image crashed (subst TellsNoCommit (same_told told₂ image just) e.0);
        start = (ap (λ o. o.start.records) e.1, ap (λ o. o.start.token) e.1);
        commit = ap (λ o. o.commit) e.1;
      })

  pub found_by : (first₂ : Text) (found : Opened) → BeginsFrom json told₂ first₂ (Ok found) → FindsAfterwards s.from run found
  found_by first₂ found (Begins.opened f l text schema r readable a is opens) = found_at schema found opens

pub calls_are_found : SegmentsAreTold → LiveAreTold → {D E : Type 0} (kind : DirectoryKind D) (kind₂ : DirectoryKind E) → CallsAreFound json kind kind₂
calls_are_found segments lives kind kind₂ always device left first lines output s image crashed device₂ first₂ found just begins =
    found_by kind device left segments lives always first lines output s image crashed (kind₂.bytes device₂) just first₂ found begins

-- ---- the table that was found

whole_table : (t : ℕ) (rs : List Record) → AllByRecursion (λ r. r.number ≤ t) rs → filter (stands t []) rs ≡ rs
whole_table t [] a = refl
whole_table t (r ∷ rs) a =
    let rest : filter (stands t []) rs ≡ rs = whole_table t rs a.1 in
    elim (leb_tells r.number t) [
      | inl e ↦ subst (λ b. cond (b && true) (r ∷ filter (stands t []) rs) (filter (stands t []) rs) ≡ r ∷ rs) (sym e.0) (ap (λ xs. r ∷ xs) rest)
      | inr e ↦ absurd (let low : r.number ≤ t = a.0 in omega (arith, e.1, low))
    ]

first_table : (start : Start) (ws : List Write) → AllByRecursion (λ r. r.number ≤ start.token) start.records → table start ws start.token ≡ start.records
first_table start ws a =
    table-more start [] ws start.token (omega arith) ∙ ap (filter (stands start.token [])) (append-nil start.records) ∙ whole_table start.token start.records a

pub reads_afterwards : {D E : Type 0} (kind₁ : DirectoryKind D) (kind₂ : DirectoryKind E) → ReadsAgreeAfterwards json kind₁ kind₂
reads_afterwards kind₁ kind₂ device₁ left₁ device₂ left₂ first₁ first₂ lines₁ lines₂ output₁ output₂ one two finds schemas talk₁ talk₂ cut₁ cut₂ s₁ s₂ text reply₁ reply₂ read ask₁ ask₂ =
    let tables = sym finds.records ∙ sym (first_table two.served.from.start (writes (filter_map exchange two.served.fitting)) (sound (kind₂.bytes device₂) first₂ two.served.from two.served.begins).seen) in
    reads_agree_where (TellsAlways kind₁) (TellsAlways kind₂) json one.served.from two.served.from first₁ first₂ lines₁ lines₂ output₁ output₂ reads_lines
    (call_said kind₁ device₁ left₁ first₁ lines₁ output₁ one) (call_said kind₂ device₂ left₂ first₂ lines₂ output₂ two)
    schemas talk₁ talk₂ cut₁ cut₂ two.served.from.start.token s₁ s₂ text reply₁ reply₂ tables read ask₁ ask₂

-- ---- one way to open

-- what is told of a file that is there
there_told : (t : Told) → t ≢ None → t ≢ Some None → (bytes : Text) × (t ≡ Some (Some bytes))
there_told None a b = absurd (a refl)
there_told (Some None) a b = absurd (b refl)
there_told (Some (Some bytes)) a b = (bytes, refl)

held_told : (t : Told) → t ≢ None → (a b : Text) → IsTold t (Some a) → IsTold t (Some b) → a ≡ b
held_told None n a b h k = absurd (n refl)
held_told (Some content) n a b h k = some_text a b (sym h ∙ k)

module _ (segments : SegmentsAreTold) (lives : LiveAreTold) (told : ToldByName) (always : (q : Name) → told q ≢ None) (schema : Schema) (one two : Opened)
    (a : BeginsAtNewest told schema one) (b : BeginsAtNewest told schema two) where
  most : a.generation ≤ b.generation
  most = let t = there_told (told (Name.commit a.generation)) (always (Name.commit a.generation)) a.newest.there in b.newest.greatest a.generation t.0 t.1

  least : b.generation ≤ a.generation
  least = let t = there_told (told (Name.commit b.generation)) (always (Name.commit b.generation)) b.newest.there in a.newest.greatest b.generation t.0 t.1

  one_generation : a.generation ≡ b.generation
  one_generation = omega (arith, most, least)

  held_alike : (q : Name) → Same segments lives told told q
  held_alike q x y h k = held_told (told q) (always q) x y h k

  commits_alike : a.commit ≡ b.commit
  commits_alike =
      same_commit segments lives told told b.generation a.commit b.commit (subst (λ n. HasCommit (MayHave told) n a.commit) one_generation a.held.held.commit)
      b.held.held.commit (held_alike (Name.commit b.generation))

  pub opened_one : one ≡ two
  opened_one =
      let fields : one.start.schema ≡ two.start.schema = a.fields ∙ sym b.fields in
      let records : one.start.records ≡ two.start.records =
      same_table segments lives told told schema a.generation b.generation b.commit one.start.records two.start.records
      (subst (λ (c : CommitFile). HoldsCommit told schema a.generation c one.start.records) commits_alike a.held) b.held
      (all_contained (Same segments lives told told) (flat_map listed_names b.commit.segments) (λ q c. held_alike q)) in
      let token : one.start.token ≡ two.start.token = a.token ∙ ap (λ (x : CommitFile). x.token) commits_alike ∙ sym b.token in
      let commit : one.commit ≡ two.commit =
      a.text ∙ ap (λ (x : CommitFile). Some (record { generation = x.generation; text = x.text })) commits_alike ∙ sym b.text in
      λ i. record { start = record { schema = fields i; records = records i; token = token i }; commit = commit i }

opened_both : SegmentsAreTold → LiveAreTold → (told : ToldByName) → ((q : Name) → told q ≢ None) → (schema : Schema) (one two : Opened) → OpensFrom told schema (Ok one)
    → OpensFrom told schema (Ok two) → one ≡ two
opened_both segments lives told always schema one two (inl a) (inl b) = opened_one segments lives told always schema one two a b
opened_both segments lives told always schema one two (inl a) (inr b) =
    let t = there_told (told (Name.commit a.generation)) (always (Name.commit a.generation)) a.newest.there in absurd (b.0 a.generation t.0 t.1)
opened_both segments lives told always schema one two (inr a) (inl b) =
    let t = there_told (told (Name.commit b.generation)) (always (Name.commit b.generation)) b.newest.there in absurd (a.0 b.generation t.0 t.1)
opened_both segments lives told always schema one two (inr a) (inr b) = a.1 ∙ sym b.1

opened_lines : SegmentsAreTold → LiveAreTold → (told : ToldByName) → ((q : Name) → told q ≢ None) → (first₁ first₂ : Text) (one two : Opened) → HaveOneSchema first₁ first₂
    → BeginsFrom json told first₁ (Ok one) → BeginsFrom json told first₂ (Ok two) → one ≡ two
opened_lines segments lives told always first₁ first₂ one two same (Begins.opened f l text schema r readable a is opens) (Begins.opened g k text' schema' r' readable' b is' opens') =
    let schemas : schema' ≡ schema = ok_value (sym is' ∙ sym (same f l g k text text' a b) ∙ is) in
    opened_both segments lives told always schema one two opens (subst (λ s. OpensFrom told s (Ok two)) schemas opens')
  where
    ok_value : ◌≡◌ {A = Result Schema Refusal} (Ok schema') (Ok schema) → schema' ≡ schema
    ok_value e = cc e

pub open_one_way : SegmentsAreTold → LiveAreTold → DirectoriesOpenOneWay
open_one_way segments lives told₁ told₂ always same first₁ first₂ one two schemas b c =
    opened_lines segments lives told₁ always first₁ first₂ one two schemas b (subst (λ t. BeginsFrom json t first₂ (Ok two)) (λ i. λ q. sym (same q) i) c)

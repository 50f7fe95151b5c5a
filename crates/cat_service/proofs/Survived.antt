-- Which commits a crash may leave after lines, in the model's words: the answered one, or one that a refused COMMIT tried, with the table of then.
use Rattle.std.proofs.Common.{◌≡◌, ℕ, ◌<◌, List, [], ◌∷◌, ◌++◌, true, refl, sym, ◌∙◌, ap, subst, arith, inl, inr}
use Rattle.std.specs.Prelude.{◌⊎◌, Contains, Some, None, Ok, Err}
use Rattle.std.specs.List.{AllByRecursion}
use Rattle.std.proofs.lemmas.List.Elements.{Contains-append_left, Contains-append_right, recursion_from_All}
use Rattle.cat_model.specs.CommitFile.{CommitFile}
use Rattle.cat_model.specs.Files.{Name}
use Rattle.cat_model.specs.Item.{Record, Schema}
use Rattle.cat_model.specs.Opens.{HoldsCommit}
use Rattle.cat_model.specs.Promised.{IsRefusedCommit, SurvivesCrash, refuses_commit}
use Rattle.cat_model.specs.Run.{Answer, Command, Exchange, Reply, Run, commit_by, newest_commit, writes}
use Rattle.cat_model.specs.Table.{Opened, table}
use Rattle.cat_model.specs.Told.{IsNewestTold, MayBeLeft, ToldByName, told_of}
use Rattle.cat_directory.specs.Devices.{FileContent}
use Rattle.cat_directory.specs.Names.{file_of, name_of}
use Rattle.cat_directory.specs.declared.name.FileName.{FileName}
use Rattle.cat_directory.specs.declared.name.FileName.TheVariants as file
use Rattle.cat_commands.specs.cat_ledger.Histories.{Event, Goes, IsCrashed, IsTried, IsUnanswered, image_tells}
use Rattle.cat_commands.specs.cat_ledger.Lasting.{AlwaysTells}
use Rattle.cat_commands.specs.cat_ledger_state.startup.Newest.{HasNoCommit, IsNewestCommit}
use Rattle.cat_ledger_laws.proofs.shape.Told.{file_of_name, name_of_file}
use Rattle.cat_ledger_laws.specs.lines.RunLaws.{Stands}
use Rattle.cat_ledger_laws.specs.lines.TriedLaws.{IsPromisedBy, LiveAreTold, RefusedAreFound, SegmentsAreTold}
use Rattle.cat_ledger_laws.specs.shape.Shapes.{Shape}
use Rattle.cat_ledger_laws.specs.shape.Ties.{ToldFiles}
use Rattle.cat_ledger_laws.specs.shape.Tried.{LeavesTried, TriedCommit, tells_image}
use Rattle.cat_service.proofs.Reasoned.{Tries}
use Rattle.cat_service.specs.Histories.{MakesEvent}
use Rattle.cat_service.specs.Worlds.{Service, device_of, shape_of_service}

-- ---- what was tried

-- the generation that a refused COMMIT may have begun
abbrev pub tried_by : Event → List ℕ
tried_by (Event.Refused t) = t.commit.generation ∷ []
tried_by Event.Other = []
tried_by (Event.Answered g) = []

-- a refused COMMIT is one by its command, with the text that it tried, and by its reply
refused_so : (c : Command) (r : Reply) (t : TriedCommit) → MakesEvent c r (Event.Refused t)
    → (c ≡ Command.commit (Ok t.commit.text)) × (refuses_commit c r ≡ true)
refused_so (Command.commit (Ok text)) (Ok (Answer.number h)) t m = absurd (cc m)
refused_so (Command.commit (Ok text)) (Ok a) t m = absurd m
refused_so (Command.commit (Ok text)) (Err e) t (inl other) = absurd (cc other)
refused_so (Command.commit (Ok text)) (Err e) t (inr (x, is, own)) =
    let same : t ≡ x = (let k : Event.Refused t ≡ Event.Refused x = own in cc) in
    (ap (λ y. Command.commit (Ok y)) (sym is ∙ ap (λ (y : TriedCommit). y.commit.text) (sym same)), refl)
refused_so _ r t m = absurd (cc m)

-- what a refused COMMIT tries it takes
pub tries_so : {D : Type 0} (bytes : D → ToldFiles) (left : D → FileName → FileContent → Type 0) (event : Event) (c : Command) (r : Reply) (old new : Service D)
    (tried : List ℕ) → MakesEvent c r event → Goes bytes left event old.ledger new.ledger → Tries tried (tried_by event ++ tried) old new c r
tries_so bytes left Event.Other c r old new tried m goes = inl refl
tries_so bytes left (Event.Answered g) c r old new tried m goes = inl refl
tries_so bytes left (Event.Refused t) c r old new tried m goes =
    let next : t.commit.generation ≡ (shape_of_service old).next_generation = (goes.asked t.commit.generation refl).0 in
    inr (
      (refused_so c r t m).1,
      ap (λ n. n ∷ tried) next,
      subst (λ n. n < (shape_of_service new).next_generation) next (goes.taken t.commit.generation refl),
    )

-- a commit of the generation was refused
abbrev pub HasRefused : List Event → ℕ → Type 0
HasRefused [] g = ⊥
HasRefused (event ∷ events) g = Contains (tried_by event) g ⊎ HasRefused events g

refused_behind : (before since : List Event) (t : TriedCommit) → HasRefused (before ++ Event.Refused t ∷ since) t.commit.generation
refused_behind [] since t = inl (0, omega arith, refl)
refused_behind (e ∷ before) since t = inr (refused_behind before since t)

pub tried_refused : (events : List Event) (t : TriedCommit) → IsTried events t → HasRefused events t.commit.generation
tried_refused events t is = subst (λ es. HasRefused es t.commit.generation) (sym is.split) (refused_behind is.before is.since t)

-- one more is among those that were tried
pub tried_more : (event : Event) (events : List Event) (tried last : List ℕ)
    → ((g : ℕ) → HasRefused events g ⊎ Contains (tried_by event ++ tried) g → Contains last g)
    → (g : ℕ) → HasRefused (event ∷ events) g ⊎ Contains tried g → Contains last g
tried_more event events tried last f g (inl (inl c)) = f g (inr (Contains-append_left (tried_by event) tried g c))
tried_more event events tried last f g (inl (inr more)) = f g (inl more)
tried_more event events tried last f g (inr c) = f g (inr (Contains-append_right (tried_by event) tried g c))

-- ---- behind a COMMIT that was refused

abbrev pub Unanswering : Exchange → Type 0
Unanswering x = commit_by x.line.command x.reply ≡ None

pub unanswered_none : (c : Command) (r : Reply) (event : Event) → MakesEvent c r event → IsUnanswered event → commit_by c r ≡ None
unanswered_none (Command.commit (Ok text)) (Ok (Answer.number g)) event m u = absurd (subst IsUnanswered m u)
unanswered_none _ _ event m u = refl

-- no call tried nothing
pub none_tried : (t : TriedCommit) → IsTried [] t → ⊥
none_tried t is = by is.before is.split
  where
    by : (before : List Event) → [] ≡ before ++ Event.Refused t ∷ is.since → ⊥
    by [] k = let no : ◌≡◌ {A = List Event} [] (Event.Refused t ∷ is.since) = k in cc no
    by (b ∷ before) k = let no : ◌≡◌ {A = List Event} [] (b ∷ (before ++ Event.Refused t ∷ is.since)) = k in cc no

-- what is tried in more events was tried in those behind the first, unless that is the one and no COMMIT was answered OK behind it
pub tried_behind : (e : Event) (events : List Event) (t : TriedCommit) → IsTried (e ∷ events) t
    → ((e ≡ Event.Refused t) × AllByRecursion IsUnanswered events) ⊎ IsTried events t
tried_behind e events t is = by is.before is.split
  where
    by : (before : List Event) → e ∷ events ≡ before ++ Event.Refused t ∷ is.since → ((e ≡ Event.Refused t) × AllByRecursion IsUnanswered events) ⊎ IsTried events t
    by [] k =
        let rest : events ≡ is.since = cc k in
        inl ((cc k), subst (AllByRecursion IsUnanswered) (sym rest) (recursion_from_All IsUnanswered is.since is.none))
    by (b ∷ before) k = inr (record { before = before; since = is.since; split = cc k; none = is.none })

-- A COMMIT of the run was refused that tried this, and none was answered OK after it: what memory stood for before it, of which the table is
-- promised.
pub record HasTriedIn (from : Opened) (run : Run) (t : TriedCommit) : Type 0 where
  pub past : Run
  pub here : Exchange
  pub later : Run
  pub split : run ≡ past ++ here ∷ later
  pub asked : here.line.command ≡ Command.commit (Ok t.commit.text)
  pub refused : refuses_commit here.line.command here.reply ≡ true
  pub none : AllByRecursion Unanswering later
  pub told : ToldFiles
  pub shape : Shape
  pub stands : Stands told shape from past
  pub promised : IsPromisedBy told shape t

-- so it is with a line behind the past that was refused
pub tried_here : {D : Type 0} (bytes : D → ToldFiles) (left : D → FileName → FileContent → Type 0) (from : Opened) (past later : Run) (here : Exchange)
    (event : Event) (old new : Service D) (t : TriedCommit) → AlwaysTells bytes → Stands (bytes (device_of old)) (shape_of_service old) from past
    → MakesEvent here.line.command here.reply event → Goes bytes left event old.ledger new.ledger → event ≡ Event.Refused t → AllByRecursion Unanswering later
    → HasTriedIn from (past ++ here ∷ later) t
tried_here bytes left from past later here event old new t always stands makes goes own none =
    let is = refused_so here.line.command here.reply t (subst (MakesEvent here.line.command here.reply) own makes) in record {
      past = past;
      here = here;
      later = later;
      split = refl;
      asked = is.0;
      refused = is.1;
      none = none;
      told = bytes (device_of old);
      shape = shape_of_service old;
      stands = stands;
      promised = (goes.tried t own always).1;
    }

-- ---- what a crash leaves

-- files by the code's names
abbrev by_file : (Name → FileContent) → FileName → FileContent
by_file image q = image (name_of q)

image_told : (image : Name → FileContent) → told_of image ≡ tells_image (by_file image)
image_told image = λ i. λ q. Some (image (sym (name_of_file q) i))

crashed_so : (left : FileName → FileContent → Type 0) (image : Name → FileContent) → MayBeLeft (λ q. left (file_of q)) image → IsCrashed left (by_file image)
crashed_so left image may q = subst (λ f. left f (image (name_of q))) (file_of_name q) (may (name_of q))

-- What is so of the generation of whatever commit a crash leaves, where it is so by the code's names.
pub found_so : (P : ℕ → Type 0) (left : FileName → FileContent → Type 0)
    → ((image : FileName → FileContent) (g : ℕ) → IsCrashed left image → IsNewestCommit (image_tells image) g → P g)
    → (image : Name → FileContent) (g : ℕ) → MayBeLeft (λ q. left (file_of q)) image → IsNewestTold (told_of image) g → P g
found_so P left found image g may is = found (by_file image) g (crashed_so left image may) (record { there = is.there; greatest = is.greatest })

-- The laws by which a commit that was tried is found with its table: those of the bytes of segments and live sets, and the one of its files.
pub record FindsTables {D : Type 0} (left : D → FileName → FileContent → Type 0) : Type 0 where
  pub segments : SegmentsAreTold
  pub lives : LiveAreTold
  pub refused : RefusedAreFound left

module _ {D : Type 0} (left : D → FileName → FileContent → Type 0) (finds : FindsTables left) (last : D) (from : Opened) (run : Run) where
  -- Whatever commit and table are held under the generation of one that was tried, they are its own and the run's.
  refused_found : (t : TriedCommit) → HasTriedIn from run t → LeavesTried (left last) t → (image : Name → FileContent)
      → MayBeLeft (λ q. left last (file_of q)) image → (schema : Schema) (commit : CommitFile) (records : List Record)
      → HoldsCommit (told_of image) schema t.commit.generation commit records → IsRefusedCommit from run commit.text commit.token records
  refused_found t was leaves image may schema commit records holds =
      let held : HoldsCommit (tells_image (by_file image)) schema t.commit.generation commit records =
      subst (λ (told : ToldByName). HoldsCommit told schema t.commit.generation commit records) (image_told image) holds in
      let found =
      finds.refused finds.segments finds.lives was.told was.shape from was.past (was.here ∷ was.later) t was.stands was.promised last leaves (by_file image)
      (crashed_so (left last) image may) schema commit records held in record {
        past = was.past;
        here = was.here;
        later = was.later;
        split = was.split;
        asked = was.asked ∙ ap (λ (c : CommitFile). Command.commit (Ok c.text)) (sym found.0);
        refused = was.refused;
        none = was.none;
        reaches = found.1;
        shown = found.2 ∙ ap (λ r. table from.start (writes r) commit.token) (sym was.split);
      }

  -- What is found after a crash, by what the calls had to do with commits, is so in the model's words.
  pub survives : (events : List Event) → ((t : TriedCommit) → IsTried events t → HasTriedIn from run t)
      → ((image : FileName → FileContent) (g : ℕ) → IsCrashed (left last) image → IsNewestCommit (image_tells image) g
      → (newest_commit from run ≡ Some g) ⊎ ((t : TriedCommit) × (t.commit.generation ≡ g) × IsTried events t × LeavesTried (left last) t))
      → ((image : FileName → FileContent) → IsCrashed (left last) image → HasNoCommit (image_tells image) → newest_commit from run ≡ None)
      → ((g : ℕ) → newest_commit from run ≡ Some g → (image mended : FileName → FileContent) → IsCrashed (left last) image
      → mended (file.Commit g) ≡ image (file.Commit g) → ((h : ℕ) → g < h → mended (file.Commit h) ≡ None) → IsNewestCommit (image_tells mended) g)
      → SurvivesCrash (λ q. left last (file_of q)) from run
  survives events was found lost mended = record {
    found = λ image g may is.
        elim (found (by_file image) g (crashed_so (left last) image may) (record { there = is.there; greatest = is.greatest })) [
          | inl newest ↦ inl newest
          | inr t ↦ inr (λ schema commit records holds.
              refused_found t.0 (was t.0 t.2) t.3 image may schema commit records
              (subst (λ n. HoldsCommit (told_of image) schema n commit records) (sym t.1) holds))
        ];
    lost = λ image may no. lost (by_file image) (crashed_so (left last) image may) no;
    mended = λ g is image mended₁ may own gone.
        let n = mended g is (by_file image) (by_file mended₁) (crashed_so (left last) image may) own gone in
        record { there = n.there; greatest = n.greatest };
  }

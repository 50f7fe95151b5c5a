-- A world that answers as its machine does serves its input as is promised.
use Rattle.std.proofs.Common.{inl, inr, ◌≡◌, ℕ, List, [], ◌∷◌, ◌++◌, length, map, Bool, true, false, refl, sym, ◌∙◌, ap, ap₂, subst, arith, append-nil, append_assoc}
use Rattle.std.specs.List.{flat_map, AllByRecursion}
use Rattle.std.specs.Prelude.{◌⊎◌, ◌<◌, Contains, IsTrue, Option, None, Some, Result, Ok, Err, nat_lt, if◌then◌else◌, filter_map}
use Rattle.std.proofs.lemmas.Bool.{cases_lt}
use Rattle.std.proofs.lemmas.Bool.Decides.{nat_tests}
use Rattle.cat_base.specs.declared.refusal.Refusal.{Refusal}
use Rattle.cat_base.specs.declared.refusal.Refusal.TheVariants.{Device, Line as NoForm, Memory}
use Rattle.cat_model.specs.Heard.{Heard, Hears}
use Rattle.cat_model.specs.Item.{Schema}
use Rattle.cat_model.specs.Lines.{IsReadable, Said}
use Rattle.cat_model.specs.Input.{ended_lines, lines_of}
use Rattle.cat_model.specs.Answer.{Read}
use Rattle.cat_model.specs.Run.{Chore, Command, EachBehind, Exchange, Fits, IsRun, Reply, Run, may_refuse, newest_commit, now}
use Rattle.cat_model.specs.Served.{Answered, Begins, Ending, HeardAll, IsDue, Outcome, Refused, ServesBy, TellsFiles, exchange, heard, outcome_text, refused_text}
use Rattle.cat_model.specs.Promised.{LeavesPromised, SurvivesCrash}
use Rattle.cat_model.specs.Reasons.{CausesIn, CountsRefusal, HasTakenAll, IsCausedIn}
use Rattle.cat_model.specs.Serving.{AreLike, FailsRightly, IsServedIn, MayWantIn, RefusesFirst, ReplyLike, ServesIn}
use Rattle.cat_model.specs.Standings.{Cache, HasReason, HaveReasons, IsDamagedFor, Standing}
use Rattle.cat_model.specs.Table.{Opened}
use Rattle.cat_model.specs.Told.{DirectoryKind, TellsAlways}
use Rattle.cat_model.specs.Text.{Text}
use Rattle.cat_model.proofs.DeviceTold.{HasNoDevice, device_told, said_no_device}
use Rattle.cat_model.proofs.Runs.{runs_go_on}
use Rattle.cat_items.specs.Reading.{json}
use Rattle.cat_directory.specs.Devices.{FileContent, Told}
use Rattle.cat_directory.specs.Names.{by_names, file_of, name_of}
use Rattle.cat_directory.specs.declared.name.FileName.{FileName}
use Rattle.cat_directory.specs.declared.name.FileName.TheVariants as file
use Rattle.cat_commands.specs.cat_ledger.Histories.{Call, Event, IsHistory, IsTried, IsUnanswered, LeavesNoneAhead, events_of, image_tells}
use Rattle.cat_commands.specs.cat_ledger.Lasting.{AlwaysTells}
use Rattle.cat_commands.specs.cat_ledger_state.startup.Newest.{IsNewestCommit}
use Rattle.cat_ledger_laws.specs.model.Plans.{MergePolicy}
use Rattle.cat_ledger_laws.specs.shape.Shapes.{Shape}
use Rattle.cat_ledger_laws.specs.shape.Steps.{newest_generation}
use Rattle.cat_ledger_laws.specs.shape.Ties.{ToldFiles}
use Rattle.cat_ledger_laws.specs.shape.Tried.{TriedCommit}
use Rattle.cat_ledger_laws.specs.lines.RunLaws.{Stands}
use Rattle.cat_ledger_laws.proofs.lines.Held.{promised_are_held}
use Rattle.cat_ledger_laws.proofs.shape.Told.{file_of_name}
use Rattle.cat_commands.specs.cat_protocol.serving.Machine.{IsAnsweredByMachine, Steps, opened_text, short_line}
use Rattle.cat_commands.specs.cat_protocol.serving.Serving.{LeadsTo, RefusedAt}
use Rattle.cat_commands.specs.cat_protocol.declared.serving.machine.Stage.{Stage}
use Rattle.cat_commands.specs.cat_protocol.declared.serving.machine.Stage.TheVariants.{Open}
use Rattle.cat_commands.specs.cat_protocol.declared.serving.machine.Unopened.{Unopened}
use Rattle.cat_service.proofs.Begun.{formless_unasked}
use Rattle.cat_service.proofs.Caches.{IsCacheOf, no_sets, sets_counted}
use Rattle.cat_service.proofs.Caching.{cache_goes}
use Rattle.cat_service.proofs.Reasoned.{reasoned}
use Rattle.cat_service.proofs.Standing.{stands_first}
use Rattle.cat_service.proofs.Opens.{begins_from}
use Rattle.cat_service.proofs.Outlasted.{newest_number}
use Rattle.cat_service.proofs.Settled.{newest_settled, own_left}
use Rattle.cat_service.proofs.Survived.{FindsTables, HasRefused, HasTriedIn, Unanswering, found_so, none_tried, survives, tried_behind, tried_by, tried_here, tried_more, tried_refused, tries_so, unanswered_none}
use Rattle.cat_service.proofs.Caused.{failing_on}
use Rattle.cat_service.specs.Histories.{MakesEvent}
use Rattle.cat_service.specs.Lines.{IsCommandOf}
use Rattle.cat_service.specs.Opening.{OpensWorld}
use Rattle.cat_service.specs.Promises.{WorldLasts}
use Rattle.cat_service.specs.Reasons.{OpensCaused, OpensSo, StepsCaused, standing_of_service}
use Rattle.cat_service.specs.Serving.{ChangesByOutcome, OpensIfShort, StageLasts, StageOutlives, StepsIfShort, device_at}
use Rattle.cat_service.specs.Worlds.{Service, device_of, policy_of, shape_of_service}
use Rattle.cat_service.proofs.Wanted.{alike_wants}

-- ---- lines that are too long

too_long : (line : Text) → nat_lt 10000 (length line) ≡ true → IsReadable line → ⊥
too_long line long readable = absurd (grind (arith, nat_tests, readable.short))

-- ---- what is opened

started : (from : Opened) → now from.start [] ≡ from.start.token
started from = omega arith

-- as many writes were accepted as the start tells
counted : (told : ToldFiles) (s : Shape) (from : Opened) → Stands told s from [] → s.count ≡ from.start.token
counted told s from stands = ap (λ (x : Shape). x.count) (sym stands.carries.shape) ∙ stands.stands.shows.count_now ∙ started from

-- ---- what is taken away after a crash

none_no_text : (text : Text) → ◌≡◌ {A = FileContent} (Some text) None → ⊥
none_no_text text e = cc

told_content : (a b : FileContent) → ◌≡◌ {A = Told} (Some a) (Some b) → a ≡ b
told_content a b e = cc

-- a commit whose own file is there is the newest where those past it are taken away
newest_of_mended : (g : ℕ) (mended : FileName → FileContent) (text : Text) → mended (file.Commit g) ≡ Some text
    → ((h : ℕ) → g < h → mended (file.Commit h) ≡ None) → IsNewestCommit (image_tells mended) g
newest_of_mended g mended text own gone = record {
  there = λ no. none_no_text text (sym own ∙ told_content (mended (file.Commit g)) None no);
  greatest = λ h bytes e. elim (cases_lt g h) [
    | inl more ↦ absurd (none_no_text bytes (sym (told_content (mended (file.Commit h)) (Some bytes) e) ∙ gone h more))
    | inr less ↦ less
  ];
}

-- a command that was told that the device failed is one that the run may tell so
may_be_told : (from : Opened) (past : Run) (schema : Schema) (said : Option Said) (e : Exchange) (fitting : Reply) → IsCommandOf schema said e.line.command
    → ReplyLike e.reply fitting → Fits from past (record { line = e.line; reply = fitting }) → e.reply ≡ Err Device → IsTrue (may_refuse e.line.command Device)
may_be_told from past schema said e fitting is alike fits k =
    let same : Err Device ≡ fitting = subst (λ r. ReplyLike r fitting) k alike in
    device_told from past e.line.session e.line.command (form said is) (subst (λ r. Fits from past (record { line = e.line; reply = r })) (sym same) fits)
  where
    form : (said : Option Said) → IsCommandOf schema said e.line.command → HasNoDevice e.line.command
    form None is = subst HasNoDevice (sym is) tt
    form (Some said) is = said_no_device json schema said e.line.command is

-- ---- causes

-- a file is damaged in one's sense where it is in the other's, if that is known to tell of files where the one is
damaged_by : (one other : Type 0) → (other → one) → (from : Opened) (past : Run) (s : Standing) (c : Command) → IsDamagedFor one from past s c
    → IsDamagedFor other from past s c
damaged_by one other f from past s (Command.read t (Read.get (Ok id))) d = λ o. d (f o)
damaged_by one other f from past s (Command.chore Chore.merge) d = ((λ o. d.0 (f o)), d.1, d.2, d.3)
damaged_by one other f from past s _ d = d

reason_by : (one other : Type 0) → (other → one) → (factor least : ℕ) (from : Opened) (past : Run) (s : Standing) (e : Exchange) (new : Standing)
    → HasReason one factor least from past s e new → HasReason other factor least from past s e new
reason_by one other f factor least from past s e new h = record {
  spent = h.spent;
  counted = h.counted;
  quiet = h.quiet;
  damaged = λ is. damaged_by one other f from past s e.line.command (h.damaged is);
  told = h.told;
  merges = h.merges;
  items = h.items;
  writes = h.writes;
  views = h.views;
  moves = h.moves;
}

-- ---- one world

module _ {D : Type 0} (bytes : D → ToldFiles) (may_leave : D → FileName → FileContent → Type 0) (can_fail : D → Type 0) (faults : D → ℕ) where
  -- such devices, as the model knows them
  abbrev kind : DirectoryKind D
  kind = by_names bytes may_leave can_fail faults

  always_tells : TellsAlways kind → AlwaysTells bytes
  always_tells tells d q none = tells d (name_of q) (ap (bytes d) (file_of_name q) ∙ none)

  -- what the machine does with a line that may be too long, the world does with the line
  line_if_short : (old new : Service D) (line : Text) (told : Outcome) (b : Bool) → nat_lt 10000 (length line) ≡ b
      → StepsIfShort bytes may_leave can_fail old (if b then None else Some line) told new
      → Hears json (shape_of_service old).schema line (heard told) × ChangesByOutcome bytes may_leave can_fail old told new
  line_if_short old new line told true long s =
      subst (λ t. Hears json (shape_of_service old).schema line (heard t) × ChangesByOutcome bytes may_leave can_fail old t new) (sym s.0)
      (Hears.unreadable (λ readable session shows. too_long line long readable), s.1)
  line_if_short old new line told false long s = s

  opening_if_short : (device : D) (line : Text) (w : Service D) (b : Bool) → OpensIfShort bytes may_leave can_fail device (if b then None else Some line) (Ok w)
      → OpensWorld bytes may_leave device line (Ok w) × (AlwaysTells bytes → LeavesNoneAhead may_leave w.ledger)
      × (can_fail (device_of w) → can_fail device)
  opening_if_short device line w true o =
      absurd (let no : ◌≡◌ {A = Result (Service D) (Unopened D)} (Ok w) (Err (record { refusal = NoForm; seed = device })) = o in cc)
  opening_if_short device line w false o = o

  -- the exchanges of the rest of a run have their causes, from how the one world stands to how the other does
  abbrev pub Reasons : Opened → Run → Cache → List ℕ → Service D → Run → Cache → List ℕ → Service D → Type 0
  Reasons from past cache tried old rest last_cache last new =
      HaveReasons (TellsAlways kind) (policy_of old).factor (policy_of old).least from past (standing_of_service faults cache tried old) rest
      (standing_of_service faults last_cache last new)

  -- what comes of lines behind a past run: what was told, what fits, what is promised of the device that is left, what was tried, and which
  -- sets are cached
  pub record Goes (fails : Type 0) (from : Opened) (past : Run) (cache : Cache) (tried : List ℕ) (old : Service D) (lines : List Text)
      (outcomes : List Outcome) (new : Service D) : Type 0 where
    pub fitting : List Outcome
    pub heard_all : HeardAll json from.start.schema lines outcomes
    pub is_run : IsRun from (past ++ filter_map exchange fitting)
    pub alike : AreLike outcomes fitting
    pub same : TellsAlways kind → outcomes ≡ fitting
    pub wanting : EachBehind (λ p x. x.reply ≡ Err Memory → MayWantIn from p x.line.session x.line.command) past (filter_map exchange fitting)
    pub files : AllByRecursion TellsFiles outcomes
    pub failing : AllByRecursion (FailsRightly fails) outcomes
    pub promised : LeavesPromised kind (device_of new) from (past ++ filter_map exchange fitting)
    pub newest : newest_generation (shape_of_service new).commits ≡ newest_commit from (past ++ filter_map exchange fitting)
    pub last_cache : Cache
    pub cached : IsCacheOf new.sets last_cache
    pub last : List ℕ
    pub reasons : Reasons from past cache tried old (filter_map exchange fitting) last_cache last new
    pub calls : List (Call D)
    pub history : IsHistory bytes may_leave old.ledger calls new.ledger
    pub refused : (g : ℕ) → HasRefused (events_of calls) g ⊎ Contains tried g → Contains last g
    pub unanswered : TellsAlways kind → AllByRecursion IsUnanswered (events_of calls) → AllByRecursion Unanswering (filter_map exchange fitting)
    pub was_tried : TellsAlways kind → (t : TriedCommit) → IsTried (events_of calls) t → HasTriedIn from (past ++ filter_map exchange fitting) t

  -- what is promised is held
  promise : (w : Service D) (from : Opened) (run : Run) → (shape_of_service w).schema ≡ from.start.schema → WorldLasts bytes may_leave w
      → Stands (bytes (device_of w)) (shape_of_service w) from run → LeavesPromised kind (device_of w) from run
  promise w from run fields lasts stands = record {
    stand = promised_are_held (bytes (device_of w)) (shape_of_service w) from run fields stands;
    outlasts = λ tells.
        newest_settled (bytes (device_of w)) (may_leave (device_of w)) (shape_of_service w) from run fields (always_tells tells (device_of w))
        (lasts (always_tells tells)) stands;
  }

  -- the lines that the machine steps through are heard, and their exchanges go on with the run so far
  steps_go : (fails : Type 0) (from : Opened) (past : Run) (cache : Cache) (tried : List ℕ) (old new : Service D) (lines : List Text)
      (outcomes : List Outcome) → IsCacheOf old.sets cache → WorldLasts bytes may_leave new → (can_fail (device_of old) → fails) → (shape_of_service old).schema ≡ from.start.schema → IsRun from past → Stands (bytes (device_of old)) (shape_of_service old) from past
      → Steps (StepsCaused bytes may_leave can_fail faults) old (map short_line lines) outcomes new → Goes fails from past cache tried old lines outcomes new
  steps_go fails from past cache tried old new [] [] cached lasts can fields run stands s = record {
    fitting = [];
    heard_all = tt;
    is_run = subst (IsRun from) (sym (append-nil past)) run;
    alike = tt;
    same = λ tells. refl;
    wanting = tt;
    files = tt;
    failing = tt;
    promised = subst (λ w. LeavesPromised kind (device_of w) from (past ++ [])) (sym s)
        (subst (LeavesPromised kind (device_of old) from) (sym (append-nil past)) (promise old from past fields (subst (WorldLasts bytes may_leave) s lasts) stands));
    newest =
        ap (λ w. newest_generation (shape_of_service w).commits) s
        ∙ newest_number (bytes (device_of old)) (shape_of_service old) from past stands
        ∙ ap (newest_commit from) (sym (append-nil past));
    last_cache = cache;
    cached = subst (λ (w : Service D). IsCacheOf w.sets cache) (sym s) cached;
    last = tried;
    reasons = ap (standing_of_service faults cache tried) s;
    calls = [];
    history = ap (λ (w : Service D). w.ledger) s;
    refused = λ g has. elim has [ inl none ↦ absurd none | inr there ↦ there ];
    unanswered = λ tells all. tt;
    was_tried = λ tells t was. absurd (none_tried t was);
  }
  steps_go fails from past cache tried old new [] (told ∷ outcomes) cached lasts can fields run stands s = absurd s
  steps_go fails from past cache tried old new (line ∷ lines) [] cached lasts can fields run stands s = absurd s
  steps_go fails from past cache tried old new (line ∷ lines) (Outcome.unreadable ∷ outcomes) cached lasts can fields run stands (mid, step, steps) =
      let here = line_if_short old mid line Outcome.unreadable (nat_lt 10000 (length line)) refl step.0 in
      let rest = steps_go fails from past cache tried mid new lines outcomes (subst (λ (w : Service D). IsCacheOf w.sets cache) (sym here.1) cached) lasts (subst (λ w. can_fail (device_of w) → fails) (sym here.1) can) (ap (λ w. (shape_of_service w).schema) here.1 ∙ fields) run
      (subst (λ w. Stands (bytes (device_of w)) (shape_of_service w) from past) (sym here.1) stands) steps in record {
        fitting = Outcome.unreadable ∷ rest.fitting;
        heard_all = (subst (λ schema. Hears json schema line Heard.unreadable) fields here.0, rest.heard_all);
        is_run = rest.is_run;
        alike = (tt, rest.alike);
        same = λ tells. ap (λ os. Outcome.unreadable ∷ os) (rest.same tells);
        wanting = rest.wanting;
        files = (tt, rest.files);
        failing = (tt, rest.failing);
        promised = rest.promised;
        newest = rest.newest;
        last_cache = rest.last_cache;
        cached = rest.cached;
        last = rest.last;
        reasons = subst (λ w. Reasons from past cache tried w (filter_map exchange rest.fitting) rest.last_cache rest.last new) here.1 rest.reasons;
        calls = rest.calls;
        history = subst (λ (w : Service D). IsHistory bytes may_leave w.ledger rest.calls new.ledger) here.1 rest.history;
        refused = rest.refused;
        unanswered = rest.unanswered;
        was_tried = rest.was_tried;
      }
  steps_go fails from past cache tried old new (line ∷ lines) (Outcome.replied e ∷ outcomes) cached lasts can fields run stands (mid, step, steps) =
      let here = line_if_short old mid line (Outcome.replied e) (nat_lt 10000 (length line)) refl step.0 in
      let next = here.1.2 from past (sym fields) run stands in
      let fit : Exchange = record { line = e.line; reply = next.0 } in
      let event : Event = here.1.4.0 in
      let after : List ℕ = tried_by event ++ tried in
      let call : Call D = record { event = event; after = mid.ledger } in
      let caches = cache_goes bytes faults tried after from past old mid e next.0 step.1.0 cache cached stands next.2 next.1 step.1.1 step.1.6 step.1.2.told in
      let makes : TellsAlways kind → MakesEvent e.line.command next.0 event =
      λ tells. subst (λ r. MakesEvent e.line.command r event) (next.1.same (always_tells tells (device_of old))) here.1.4.1 in
      let rest = steps_go fails from (past ++ fit ∷ []) caches.0 after mid new lines outcomes caches.1 lasts (λ k. can (here.1.6 k)) (here.1.0 ∙ fields) (runs_go_on from past fit run next.2) next.3 steps in record {
        fitting = Outcome.replied fit ∷ rest.fitting;
        heard_all = (subst (λ schema. Hears json schema line (Heard.a_line e.line)) fields here.0, rest.heard_all);
        is_run = subst (IsRun from) (append_assoc past (fit ∷ []) (filter_map exchange rest.fitting)) rest.is_run;
        alike = ((refl, next.1.alike), rest.alike);
        same = λ tells.
            ap₂ (λ (r : Reply) (os : List Outcome). Outcome.replied (record { line = e.line; reply = r }) ∷ os)
            (next.1.same (λ q. always_tells tells (device_of old) q)) (rest.same tells);
        wanting = (λ k. here.1.3 (alike_wants e.reply next.0 next.1.alike k) from past (sym fields) run stands, rest.wanting);
        files = (here.1.1, rest.files);
        failing = (
          λ k. failing_on (can_fail (device_of old)) fails can e.line.command (may_be_told from past (shape_of_service old).schema step.1.0 e next.0 step.1.1 next.1.alike next.2 k) (here.1.5 k),
          rest.failing,
        );
        promised =
            subst (LeavesPromised kind (device_of new) from) (append_assoc past (fit ∷ []) (filter_map exchange rest.fitting)) rest.promised;
        newest = rest.newest ∙ ap (newest_commit from) (append_assoc past (fit ∷ []) (filter_map exchange rest.fitting));
        last_cache = rest.last_cache;
        cached = rest.cached;
        last = rest.last;
        reasons = (
          standing_of_service faults caches.0 after mid,
          reason_by (AlwaysTells bytes) (TellsAlways kind) always_tells (policy_of old).factor (policy_of old).least from past (standing_of_service faults cache tried old) fit (standing_of_service faults caches.0 after mid)
              (reasoned bytes can_fail faults tried after cache caches.0 from past old mid e next.0 stands next.2 next.1 step.1
              (tries_so bytes may_leave event e.line.command e.reply old mid tried here.1.4.1 here.1.4.2) (sets_counted old.sets cache cached) caches.2),
          subst (λ (p : MergePolicy). HaveReasons (TellsAlways kind) p.factor p.least from (past ++ fit ∷ []) (standing_of_service faults caches.0 after mid) (filter_map exchange rest.fitting) (standing_of_service faults rest.last_cache rest.last new))
              step.1.5 rest.reasons,
        );
        calls = call ∷ rest.calls;
        history = (here.1.4.2, rest.history);
        refused = tried_more event (events_of rest.calls) tried rest.last rest.refused;
        unanswered = λ tells all. (unanswered_none e.line.command next.0 event (makes tells) all.0, rest.unanswered tells all.1);
        was_tried = λ tells t was.
            elim (tried_behind event (events_of rest.calls) t was) [
              | inl own ↦
                  tried_here bytes may_leave from past (filter_map exchange rest.fitting) fit event old mid t (always_tells tells) stands (makes tells) here.1.4.2
                  own.0 (rest.unanswered tells own.1)
              | inr behind ↦
                  subst (λ run. HasTriedIn from run t) (append_assoc past (fit ∷ []) (filter_map exchange rest.fitting)) (rest.was_tried tells t behind)
            ];
      }

  -- what opened is still so without how it begins
  opening_less : (device : D) (line : Option Text) (r : Result (Service D) (Unopened D)) → OpensCaused bytes may_leave can_fail faults device line r
      → OpensIfShort bytes may_leave can_fail device line r
  opening_less device None r o = o
  opening_less device (Some line) r o = o.0

  opening_so : (device : D) (line : Text) (w : Service D) (b : Bool) → OpensCaused bytes may_leave can_fail faults device (if b then None else Some line) (Ok w)
      → OpensSo bytes can_fail faults device line w × (w.sets ≡ record { cached = []; noted = []; warming = None })
  opening_so device line w true o =
      absurd (let no : ◌≡◌ {A = Result (Service D) (Unopened D)} (Ok w) (Err (record { refusal = NoForm; seed = device })) = o in cc)
  opening_so device line w false o = o.1

  -- ---- what a crash leaves

  -- What is found after a crash behind calls in a row.
  survived : (finds : FindsTables may_leave) (opened last : Service D) (from : Opened) (run : Run) (calls : List (Call D))
      → IsHistory bytes may_leave opened.ledger calls last.ledger → (tells : TellsAlways kind)
      → LeavesNoneAhead may_leave opened.ledger → StageOutlives bytes may_leave (Open last) → LeavesPromised kind (device_of last) from run
      → newest_generation (shape_of_service last).commits ≡ newest_commit from run
      → ((t : TriedCommit) → IsTried (events_of calls) t → HasTriedIn from run t)
      → SurvivesCrash (kind.may_leave (device_of last)) from run
  survived finds opened last from run calls history tells none laws promised newest was =
      let always : AlwaysTells bytes = always_tells tells in
      survives may_leave finds (device_of last) from run (events_of calls) was
      (λ image g crashed is.
      elim (laws.0 opened.ledger calls always none history image g crashed is) [ inl own ↦ inl (sym newest ∙ own) | inr tried ↦ inr tried ])
      (λ image crashed no. sym newest ∙ laws.1 always image crashed no)
      (λ g is image mended crashed kept gone.
      let own = own_left (bytes (device_of last)) (may_leave (device_of last)) from run g (always (device_of last)) (promised.outlasts tells) is image crashed in
      newest_of_mended g mended own.0 (kept ∙ own.1) gone)

  -- the generations of commits that a crash leaves are taken
  taken_so : (opened last : Service D) (from : Opened) (run : Run) (cache : Cache) (tried : List ℕ) (calls : List (Call D)) → IsHistory bytes may_leave opened.ledger calls last.ledger
      → (tells : TellsAlways kind) → LeavesNoneAhead may_leave opened.ledger → StageOutlives bytes may_leave (Open last)
      → newest_generation (shape_of_service last).commits ≡ newest_commit from run
      → ((g : ℕ) → HasRefused (events_of calls) g ⊎ Contains [] g → Contains tried g)
      → HasTakenAll (kind.may_leave (device_of last)) from run (standing_of_service faults cache tried last)
  taken_so opened last from run cache tried calls history tells none laws newest refused =
      found_so (λ g. (g < (shape_of_service last).next_generation) × ((newest_commit from run ≡ Some g) ⊎ Contains tried g)) (may_leave (device_of last))
      (λ image g crashed is. (
        laws.2 opened.ledger calls (always_tells tells) none history image g crashed is,
        elim (laws.0 opened.ledger calls (always_tells tells) none history image g crashed is) [
          | inl own ↦ inl (sym newest ∙ own)
          | inr was ↦ inr (subst (Contains tried) was.1 (refused was.0.commit.generation (inl (tried_refused (events_of calls) was.0 was.2))))
        ],
      ))

  -- ---- the world serves

  answered_in : FindsTables may_leave → (device : D) (first : Text) (lines : List Text) (text : Text)
      → (a : IsAnsweredByMachine (OpensCaused bytes may_leave can_fail faults device) (StepsCaused bytes may_leave can_fail faults) (λ w. (shape_of_service w).count) first lines text)
      → WorldLasts bytes may_leave a.left → StageOutlives bytes may_leave (Open a.left) → IsCausedIn json kind device (device_of a.left) first lines text
  answered_in finds device first lines text a lasts laws =
      let long = nat_lt 10000 (length first) in
      let opened = opening_if_short device first a.opened long (opening_less device (if long then None else Some first) (Ok a.opened) a.begins) in
      let begun = opening_so device first a.opened long a.begins in
      let so = begun.0 in
      let opening = opened.0 in
      let none : Cache = record { sets = []; noted = []; making = None } in
      let goes = steps_go (can_fail device) opening.0 [] none [] a.opened a.left lines a.outcomes (subst (λ f. IsCacheOf f none) (sym begun.1) no_sets) lasts opened.2 opening.2 tt opening.3 a.steps in record {
        served = record {
          from = opening.0;
          begins = begins_from (bytes device) first (Ok opening.0) opening.1;
          tolds = a.outcomes;
          heard_all = goes.heard_all;
          fitting = goes.fitting;
          is_run = goes.is_run;
          alike = goes.alike;
          same = goes.same;
          wanting = goes.wanting;
          files = goes.files;
          failing = goes.failing;
          promised = goes.promised;
          survives = λ tells.
              survived finds a.opened a.left opening.0 (filter_map exchange goes.fitting) goes.calls goes.history tells (opened.1 (always_tells tells)) laws
              goes.promised goes.newest (goes.was_tried tells);
          whole = a.whole ∙ ap (λ n. opened_text n ++ flat_map outcome_text a.outcomes) (counted (bytes (device_of a.opened)) (shape_of_service a.opened) opening.0 opening.3);
        };
        factor = (policy_of a.opened).factor;
        least = (policy_of a.opened).least;
        fields = so.2;
        policy = so.3;
        opened = standing_of_service faults none [] a.opened;
        begins = stands_first bytes can_fail faults device opening.0.start.schema a.opened opening.2 so.0 so.1;
        last = standing_of_service faults goes.last_cache goes.last a.left;
        reasons = goes.reasons;
        failures = refl;
        taken = λ tells.
            taken_so a.opened a.left opening.0 (filter_map exchange goes.fitting) goes.last_cache goes.last goes.calls goes.history tells (opened.1 (always_tells tells)) laws
            goes.newest goes.refused;
      }

  -- ---- a first line that is refused

  -- the line opens nothing, its files are spared, and failures are counted as it says
  abbrev Refuses : D → D → Text → Refusal → Type 0
  Refuses device left first e = RefusesFirst json kind device left first e × CountsRefusal (can_fail device) (faults device) (faults left) e

  -- one that is too long has no form, and the directory comes back
  long_refused : (device : D) (line : Text) → nat_lt 10000 (length line) ≡ true → Refuses device device line NoForm
  long_refused device line long = (
    (
      inr (begins_from (bytes device) line (Err NoForm) (Begins.formless (λ readable factor least text spelled. too_long line long readable))),
      (λ q. refl),
      λ q e h. h,
    ),
    formless_unasked (can_fail device) (faults device),
  )

  refused_in : (device back : D) (first : Text) (e : Refusal) (b : Bool) → nat_lt 10000 (length first) ≡ b
      → OpensCaused bytes may_leave can_fail faults device (if b then None else Some first) (Err (record { refusal = e; seed = back }))
      → Refuses device back first e
  refused_in device back first e true long o =
      subst (λ (u : Unopened D). Refuses device u.seed first u.refusal) (sym (err_same (record { refusal = e; seed = back }) (record { refusal = NoForm; seed = device }) o))
      (long_refused device first long)
    where
      err_same : (a b : Unopened D) → ◌≡◌ {A = Result (Service D) (Unopened D)} (Err a) (Err b) → a ≡ b
      err_same a b e = cc
  refused_in device back first e false long o = (
    (
      elim o.0.0.0 [ inl memory ↦ inl memory | inr begins ↦ inr (begins_from (bytes device) first (Err e) begins) ],
      (λ q. o.0.0.1 (file_of q)),
      λ q. o.0.0.2 (file_of q),
    ),
    o.2,
  )

  -- ---- the stage that is left

  module _ (finds : FindsTables may_leave) (device : D) (stage : Stage (Service D) D) (lasts : StageLasts bytes may_leave stage) (laws : StageOutlives bytes may_leave stage) where
    abbrev leads_to : List Text → Text → Type 0
    leads_to = LeadsTo (OpensCaused bytes may_leave can_fail faults) (StepsCaused bytes may_leave can_fail faults) (λ w. (shape_of_service w).count) device stage

    abbrev refused_at : List Text → Refusal → Type 0
    refused_at = RefusedAt (OpensCaused bytes may_leave can_fail faults) device stage

    -- the directory is the one that was given
    abbrev Untouched : Type 0
    Untouched = ◌≡◌ {A = D} (device_at stage) device

    abbrev served : Text → List Text → Text → Type 0
    served = IsCausedIn json kind device (device_at stage)

    abbrev refuses : Text → Refusal → Type 0
    refuses = Refuses device (device_at stage)

    some_answer : (lines : List Text) (text : Text) → leads_to lines text → Answered Untouched served lines text
    some_answer [] text so = (ap device_at so.0, so.1)
    some_answer (first ∷ lines) text so =
        subst (λ d. IsCausedIn json kind device d first lines text) (sym (ap device_at so.1))
        (answered_in finds device first lines text so.0 (subst (StageLasts bytes may_leave) so.1 lasts) (subst (StageOutlives bytes may_leave) so.1 laws))

    some_refusal : (lines : List Text) (e : Refusal) → refused_at lines e → Refused Untouched refuses lines e
    some_refusal [] e so = (ap device_at so.0, so.1)
    some_refusal (first ∷ lines) e so =
        subst (λ (x : Stage (Service D) D). Refuses device (device_at x) first e) (sym so.2)
        (refused_in device so.0 first e (nat_lt 10000 (length first)) refl so.1)

    some_due : (lines : List Text) (text : Text)
        → ((first others : List Text) × (first ++ others ≡ lines) × leads_to first text)
        ⊎ ((e : Refusal) × refused_at lines e × (text ≡ refused_text e))
        → IsDue (Answered Untouched served) (Refused Untouched refuses) lines text
    some_due lines text (inl so) = inl (so.0, so.1, so.2, some_answer so.0 text so.3)
    some_due lines text (inr so) = inr (so.0, some_refusal lines so.0 so.1, so.2)

    -- What is served by a world's machine is served as is promised, and each reply has its cause.
    pub caused_in : (input left before after : Option Text) (r : Result (Unit {0}) Ending) → ServesBy leads_to refused_at input left before after r
        → CausesIn json kind device (device_at stage) input left before after r
    caused_in input left before after (Ok u) so = (so.0, so.1, so.2, so.3, some_answer (lines_of so.0) so.3 so.4, so.5)
    caused_in input left before after (Err Ending.schema) so = (so.0, so.1, so.2, so.3, so.4, some_refusal so.2 so.4 so.5, so.6)
    caused_in input left before after (Err Ending.read) so = (so.0, so.1, so.2, some_answer (ended_lines so.0) so.2 so.3, so.4)
    caused_in input left before after (Err Ending.write) so = (so.0, so.1, so.2, so.3, so.4, some_due so.2 so.4 so.5, so.6)

  -- ---- what follows

  module _ (device left : D) where
    abbrev causes : Text → List Text → Text → Type 0
    causes = IsCausedIn json kind device left

    abbrev plain : Text → List Text → Text → Type 0
    plain = IsServedIn json kind device left

    -- the directory is the one that was given
    abbrev Same : Type 0
    Same = ◌≡◌ {A = D} left device

    answer_less : (lines : List Text) (text : Text) → Answered Same causes lines text → Answered Same plain lines text
    answer_less [] text so = so
    answer_less (first ∷ lines) text so = so.served

    refusal_less : (lines : List Text) (e : Refusal) → Refused Same (Refuses device left) lines e → Refused Same (RefusesFirst json kind device left) lines e
    refusal_less [] e so = so
    refusal_less (first ∷ lines) e so = so.0

    due_less : (lines : List Text) (text : Text) → IsDue (Answered Same causes) (Refused Same (Refuses device left)) lines text
        → IsDue (Answered Same plain) (Refused Same (RefusesFirst json kind device left)) lines text
    due_less lines text (inl so) = inl (so.0, so.1, so.2, answer_less so.0 text so.3)
    due_less lines text (inr so) = inr (so.0, refusal_less lines so.0 so.1, so.2)

    -- It is so without the causes.
    pub served_in : (input rest before after : Option Text) (r : Result (Unit {0}) Ending) → CausesIn json kind device left input rest before after r
        → ServesIn json kind device left input rest before after r
    served_in input rest before after (Ok u) so = (so.0, so.1, so.2, so.3, answer_less (lines_of so.0) so.3 so.4, so.5)
    served_in input rest before after (Err Ending.schema) so = (so.0, so.1, so.2, so.3, so.4, refusal_less so.2 so.4 so.5, so.6)
    served_in input rest before after (Err Ending.read) so = (so.0, so.1, so.2, answer_less (ended_lines so.0) so.2 so.3, so.4)
    served_in input rest before after (Err Ending.write) so = (so.0, so.1, so.2, so.3, so.4, due_less so.2 so.4 so.5, so.6)

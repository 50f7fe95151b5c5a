-- What a GET that is told of a damaged file finds, where the device tells of its files.
use Rattle.std.proofs.Common.{◌≡◌, ◌≢◌, ℕ, List, [], ◌∷◌, map, Bool, true, false, ◌&&◌, cond, refl, sym, ◌∙◌, ap, subst, inl, inr}
use Rattle.std.specs.Prelude.{◌==◌, Option, None, Some, Ok, Err, is_some, option_map}
use Rattle.std.specs.List.{find, list_any, AllByRecursion}
use Rattle.std.proofs.lemmas.Bool.Decides.{eqb_tells}
use Rattle.std.proofs.lemmas.List.Elements.{All-from_recursion}
use Rattle.cat_base.specs.declared.refusal.Refusal.TheVariants.{Damaged, Memory, NotHeld}
use Rattle.cat_model.specs.Answer.{Found, HasNoLineFeed, Read, stored}
use Rattle.cat_model.specs.Files.{Name}
use Rattle.cat_model.specs.Run.{Answer, Command, Fits, Reply, Run, found_reply, or_not_held, holds, view_tokens, writes}
use Rattle.cat_model.specs.State.{Hold, RecordedTable, has_hold, held_in, table_recorded}
use Rattle.cat_model.specs.Table.{Opened, table}
use Rattle.cat_model.specs.Text.{Text}
use Rattle.cat_model.specs.View.{Leaf, View, records_in}
use Rattle.cat_model.proofs.Lists.{All-each, All-weaken}
use Rattle.cat_directory.specs.Devices.{Told}
use Rattle.cat_directory.specs.declared.name.FileName.{FileName}
use Rattle.cat_directory.specs.declared.name.FileName.TheVariants as file
use Rattle.cat_ledger_laws.specs.lines.LineLaws.{line_of}
use Rattle.cat_ledger_laws.specs.lines.ReadLaws.{IsRecordedAs, TellsSources}
use Rattle.cat_ledger_laws.specs.lines.RunLaws.{Stands}
use Rattle.cat_ledger_laws.specs.model.Ledger.{Ledger, RecordedView, view_shown}
use Rattle.cat_ledger_laws.specs.model.Portions.{Portion, leaf_of, records_of}
use Rattle.cat_ledger_laws.specs.model.Stored.{FileBytes, IsStored, joined_sources, portion_in}
use Rattle.cat_ledger_laws.specs.shape.Shapes.{Shape, recorded_view}
use Rattle.cat_ledger_laws.specs.shape.Ties.{IsTold, ToldFiles}
use Rattle.cat_ledger_laws.proofs.lines.Found.{All-unmap, any_found, any_weaker, find_map, holds_found}
use Rattle.cat_ledger_laws.proofs.lines.ReadAnswers.{sources_are_whole}
use Rattle.cat_ledger_laws.proofs.model.Shown.{All-map}
use Rattle.cat_ledger_laws.proofs.model.Sourced.{portions_are_read, views_are_read}
use Rattle.cat_ledger_laws.proofs.shape.Leaves.{any_map}
use Rattle.cat_commands.specs.cat_protocol.cat_views.Sources.{HoldsSource, TellsSource}
use Rattle.cat_commands.proofs.views.Answered.{sources_told}

-- ---- what is found

found_passes : {X : Type 0} (p : X → Bool) (xs : List X) (x : X) → find p xs ≡ Some x → p x ≡ true
found_passes p [] x e = absurd (cc e)
found_passes {X = X} p (y ∷ ys) x e = by (p y) refl (λ f. found_passes p ys x f) e
  where
    by : (b : Bool) → p y ≡ b → (find p ys ≡ Some x → p x ≡ true) → cond b (Some y) (find p ys) ≡ Some x → p x ≡ true
    by true is more e = subst (λ z. p z ≡ true) (let same : y ≡ x = cc in same) is
    by false is more e = more e

there : {X : Type 0} (o : Option X) → is_some o ≡ true → (x : X) × (o ≡ Some x)
there None e = absurd (let no : false ≡ true = e in cc)
there (Some x) e = (x, refl)

and_second : (a b : Bool) → (a && b) ≡ true → b ≡ true
and_second true b h = h
and_second false b h = absurd (let no : false ≡ true = h in cc)

equals : (a b : ℕ) → (a == b) ≡ true → a ≡ b
equals a b h = elim (eqb_tells a b) [ inl e ↦ e.1 | inr e ↦ absurd (let no : false ≡ true = sym e.0 ∙ h in cc) ]

-- ---- files

-- the bytes of a file, and none where it is absent
abbrev content_of : Option Text → Text
content_of None = []
content_of (Some bytes) = bytes

told_content : (t : Told) (content : Option Text) → IsTold t content → t ≢ None → t ≡ Some content
told_content None content h some = absurd (some refl)
told_content (Some x) content h some = ap Some h

-- ---- the run

module _ (from : Opened) (past : Run) (session t : ℕ) (id : Text) where
  abbrev due : Bool → Reply
  due b = cond b (found_reply (Ok (Found.source (stored (table from.start (writes past) t) id)))) (or_not_held None)

  abbrev FitsDamaged : Type 0
  FitsDamaged = Fits from past (record { line = line_of session (Command.read t (Read.get (Ok id))); reply = Err Damaged })

  answered : (b : Bool) → ◌≡◌ {A = Reply} (Err Damaged) (due b) → b ≡ true
  answered true e = refl
  answered false e = absurd (let no : ◌≡◌ {A = Reply} (Err Damaged) (Err NotHeld) = e in cc)

  fitting : (b : Bool) (a : Answer) → ◌≡◌ {A = Reply} (Ok a) (due b) → b ≡ true
  fitting true a e = refl
  fitting false a e = absurd (let no : ◌≡◌ {A = Reply} (Ok a) (Err NotHeld) = e in cc)

  by_due : (b : Bool) → holds session t past ≡ b → FitsDamaged → b ≡ true
  by_due b is (inl e) = answered b (e ∙ ap due is)
  by_due b is (inr (inl e)) = absurd (let no : ◌≡◌ {A = Reply} (Err Damaged) (Err Memory) = e.0 in cc)
  by_due b is (inr (inr e)) = fitting b e.1.0 (e.1.1 ∙ ap due is)

  -- an OK would fit where it is told of a damaged file: so the token is held
  held_there : FitsDamaged → holds session t past ≡ true
  held_there fits = by_due (holds session t past) refl fits

module _ (told : ToldFiles) (s : Shape) (from : Opened) (past : Run) (stands : Stands told s from past) where
  abbrev l : Ledger
  l = stands.ledger

  abbrev files : FileBytes
  files = stands.files

  abbrev sources : ℕ → Text
  sources n = content_of (files (Name.source n))

  -- the view that is recorded under a token that is held
  recorded : (session t : ℕ) → holds session t past ≡ true → (v : RecordedView) × (find (λ (v : RecordedView). v.token == t) l.views ≡ Some v)
  recorded session t held =
      let had : has_hold l.holds session t ≡ true = stands.stands.shows.holds_now session t ∙ held in
      let some : held_in l.holds t ≡ true =
      any_weaker (λ (x : Hold). (x.session == session) && (x.token == t)) (λ (x : Hold). x.token == t) (λ x e. and_second (x.session == session) (x.token == t) e) l.holds had in
      let seen : list_any (λ (v : RecordedView). v.token == t) l.views ≡ true =
      sym (any_map view_shown (λ (v : RecordedTable). v.token == t) l.views) ∙ stands.carries.sound.sound.held t some in
      there (find (λ (v : RecordedView). v.token == t) l.views)
      (sym (any_found (λ (v : RecordedView). v.token == t) (λ (v : RecordedView). v.token == t) (λ v. refl) l.views) ∙ seen)

  -- its table is the run's
  tables : AllByRecursion (λ (v : RecordedView). records_of v.portions ≡ table from.start (writes past) v.token) l.views
  tables =
      All-unmap (λ (v : RecordedTable). v.table ≡ table from.start (writes past) v.token) view_shown l.views
      (subst (λ vs. AllByRecursion (λ (v : RecordedTable). v.table ≡ table from.start (writes past) v.token) vs) (sym stands.stands.shows.views_now)
      (All-map (λ (v : RecordedTable). v.table ≡ table from.start (writes past) v.token) (table_recorded from.start past) (view_tokens from.start past)
      (All-each (λ (t : ℕ). table from.start (writes past) t ≡ table from.start (writes past) t) (λ t. refl) (view_tokens from.start past))))

  module _ (tells : (q : FileName) → told q ≢ None) (v : RecordedView) (stored_there : AllByRecursion (IsStored files l.schema) v.portions) where
    abbrev view : View
    view = recorded_view l.schema v

    tells_all : TellsSources told sources view
    tells_all =
        let said : AllByRecursion (λ (p : Portion). told (file.Source p.number) ≡ Some (Some (sources p.number))) v.portions =
        All-weaken (IsStored files l.schema) (λ (p : Portion). told (file.Source p.number) ≡ Some (Some (sources p.number)))
        (λ p h. told_content (told (file.Source p.number)) (files (Name.source p.number)) (stands.carries.agrees (Name.source p.number)) (tells (file.Source p.number)) ∙ ap (λ o. Some o) (h.source ∙ ap (λ o. Some (content_of o)) (sym h.source)))
        v.portions stored_there in
        All-from_recursion (λ (leaf : Leaf). told (file.Source leaf.segment.number) ≡ Some (Some (sources leaf.segment.number))) (map (leaf_of l.schema) v.portions)
        (All-map (λ (leaf : Leaf). told (file.Source leaf.segment.number) ≡ Some (Some (sources leaf.segment.number))) (leaf_of l.schema) v.portions said)

    back : (ps : List Portion) → AllByRecursion (λ (p : Portion). sources p.number ≡ joined_sources p.records) ps → map (portion_in sources) (map (leaf_of l.schema) ps) ≡ ps
    back [] a = refl
    back (p ∷ ps) a = λ i. portions_are_read l.schema p sources a.0 i ∷ back ps a.1 i

    read_there : records_in sources view ≡ records_of v.portions
    read_there =
        views_are_read sources view
        ∙ ap records_of
        (back v.portions
        (All-weaken (IsStored files l.schema) (λ (p : Portion). sources p.number ≡ joined_sources p.records) (λ p h. ap content_of h.source) v.portions stored_there))

  -- Where it is told of a damaged file, and the device tells of all, the run's text of the item has a line feed.
  pub damaged_get : ((q : FileName) → told q ≢ None) → (session t : ℕ) (id : Text)
      → Fits from past (record { line = line_of session (Command.read t (Read.get (Ok id))); reply = Err Damaged })
      → ((view : View) → IsRecordedAs s.views t view → (files : ℕ → Text) → TellsSource told files view id → HoldsSource files view id → ⊥)
      → HasNoLineFeed (stored (table from.start (writes past) t) id) → ⊥
  damaged_get tells session t id fits none one_line =
      let found = recorded session t (held_there from past session t id fits) in
      let v = found.0 in
      let all : AllByRecursion (IsStored files l.schema) v.portions =
      holds_found (λ (v : RecordedView). AllByRecursion (IsStored files l.schema) v.portions) (λ (v : RecordedView). v.token == t) l.views v stands.carries.stored.views found.1 in
      let token : v.token ≡ t = equals v.token t (found_passes (λ (v : RecordedView). v.token == t) l.views v found.1) in
      let rs : records_of v.portions ≡ table from.start (writes past) t =
      holds_found (λ (v : RecordedView). records_of v.portions ≡ table from.start (writes past) v.token) (λ (v : RecordedView). v.token == t) l.views v tables found.1
      ∙ ap (table from.start (writes past)) token in
      let is : IsRecordedAs s.views t (recorded_view l.schema v) =
      ap (λ (x : Shape). find (λ (u : View). u.token == t) x.views) (sym stands.carries.shape)
      ∙ find_map (recorded_view l.schema) (λ (u : View). u.token == t) l.views
      ∙ ap (option_map (recorded_view l.schema)) found.1 in
      let told_all = tells_all tells v all in
      none (recorded_view l.schema v) is sources (sources_told told sources (recorded_view l.schema v) id told_all) (record {
        whole = sources_are_whole told s l files stands.carries t (recorded_view l.schema v) sources is told_all id;
        one_line = subst (λ rs. HasNoLineFeed (stored rs id)) (sym (read_there tells v all ∙ rs)) one_line;
      })

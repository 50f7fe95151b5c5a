-- Recorded views and holds over shapes.
use Rattle.std.proofs.Common.{◌≡◌, ◌≢◌, ℕ, ◌<◌, ◌≤◌, List, [], ◌∷◌, ◌++◌, map, filter, Bool, true, false, not, cond, refl, sym, ◌∙◌, ap, subst, arith}
use Rattle.std.specs.Prelude.{◌==◌, All}
use Rattle.std.specs.List.{flat_map, list_any}
use Rattle.std.proofs.lemmas.List.{map_push}
use Rattle.std.proofs.lemmas.List.Elements.{All-from_recursion}
use Rattle.cat_model.specs.Item.{Schema, Record}
use Rattle.cat_model.specs.Files.{Name}
use Rattle.cat_model.specs.State.{Hold, held_in, IsSound}
use Rattle.cat_model.specs.View.{View, IsView, needs}
use Rattle.cat_model.proofs.Lists.{All-weaken}
use Rattle.cat_ledger_laws.specs.model.Portions.{records_of, all_records}
use Rattle.cat_ledger_laws.specs.model.Users.{users_of, times, Changes}
use Rattle.cat_ledger_laws.specs.model.Ledger.{Ledger, RecordedView, IsLedger, IsPutRecord, IsWholeView, AreWhole, names_of_portion, names_of_view, names_of_commit, names_of_merging, view_shown}
use Rattle.cat_ledger_laws.specs.model.Stored.{AreStored}
use Rattle.cat_ledger_laws.specs.model.Calls as model
use Rattle.cat_ledger_laws.specs.model.Calls.{tokens_in, has_recorded, stays_recorded, stays_pruned, views_that, views_not}
use Rattle.cat_ledger_laws.proofs.model.Users.{All-split, Apart-split, times-four}
use Rattle.cat_ledger_laws.proofs.model.Views.{views_are_recorded, views_are_pruned}
use Rattle.cat_ledger_laws.proofs.model.Begins.{holds_are_apart}
use Rattle.cat_ledger_laws.proofs.model.Stored.{records_store, prunes_store}
use Rattle.cat_ledger_laws.proofs.model.Shown.{whole_are_views, All-map}
use Rattle.cat_ledger_laws.specs.shape.Shapes.{Shape, shape_of, recorded_view, names_of_views, view_now}
use Rattle.cat_ledger_laws.specs.shape.Steps.{tokens_of, ShapeRecordsNow, IsPruned}
use Rattle.cat_ledger_laws.specs.shape.ViewLaws.{is_view_recorded, RecordsMake, RecordsKeep, PrunesMake, PrunesKeep, HoldsMake, HoldsKeep, ShapesAreViews, ViewsAreCounted}
use Rattle.cat_ledger_laws.proofs.shape.Told.{Lifts, KeepsSound, keeps, makes_untouched, makes_of}
use Rattle.cat_ledger_laws.proofs.shape.Leaves.{leaves_named, views_named, map_filter, any_map, map_twice}

-- ---- views that stay, and those that go

module _ (schema : Schema) (stays : List ℕ → ℕ → Bool) (vs : List RecordedView) where
  same_tokens : tokens_of (map (recorded_view schema) vs) ≡ tokens_in vs
  same_tokens = map_twice (recorded_view schema) (λ (v : View). v.token) vs

  kept_are : map (recorded_view schema) (views_that (stays (tokens_in vs)) vs) ≡ filter (λ (v : View). stays (tokens_of (map (recorded_view schema) vs)) v.token) (map (recorded_view schema) vs)
  kept_are =
      map_filter (recorded_view schema) (λ (v : View). stays (tokens_in vs) v.token) vs
      ∙ ap (λ ts. filter (λ (v : View). stays ts v.token) (map (recorded_view schema) vs)) (sym same_tokens)

  given_are : names_of_views (filter (λ (v : View). not (stays (tokens_of (map (recorded_view schema) vs)) v.token)) (map (recorded_view schema) vs)) ≡ flat_map names_of_view (views_not (stays (tokens_in vs)) vs)
  given_are =
      ap (λ ts. names_of_views (filter (λ (v : View). not (stays ts v.token)) (map (recorded_view schema) vs))) same_tokens
      ∙ ap names_of_views (sym (map_filter (recorded_view schema) (λ (v : View). not (stays (tokens_in vs) v.token)) vs))
      ∙ views_named schema (views_not (stays (tokens_in vs)) vs)

-- ---- a view of now

records_lift : (s new : Shape) → ShapeRecordsNow s new → Lifts model.RecordsNow s new
records_lift s new call l ok e = lifted (subst (λ s. ShapeRecordsNow s new) (sym e) call)
  where
    lifted : ShapeRecordsNow (shape_of l) new → (l' : Ledger) × (shape_of l' ≡ new) × model.RecordsNow l l'
    lifted c =
        let stays : List ℕ → ℕ → Bool = stays_recorded (held_in l.holds) in
        let kept : List RecordedView = views_that (stays (tokens_in l.views)) l.views in
        let l' : Ledger = record l { views = kept ++ model.recorded_view_now l ∷ []; users = new.users } in
        let views : map (recorded_view l.schema) (kept ++ model.recorded_view_now l ∷ []) ≡ filter (λ (v : View). stays (tokens_of (shape_of l).views) v.token) (shape_of l).views ++ view_now (shape_of l) ∷ [] =
        map_push (recorded_view l.schema) kept (model.recorded_view_now l) ∙ ap (λ vs. vs ++ view_now (shape_of l) ∷ []) (kept_are l.schema stays l.views) in (
          l',
          (λ i. record (shape_of l') { views = views i }) ∙ sym c.rest,
          record {
            users = subst (λ taken. Changes taken (flat_map names_of_view (views_not (stays (tokens_in l.views)) l.views)) l.users new.users) (leaves_named l.schema l.portions)
                (subst (λ given. Changes (needs (view_now (shape_of l))) given l.users new.users) (given_are l.schema stays l.views) c.users);
            rest = refl;
          },
        )

none_recorded : (s : Shape) (l : Ledger) → shape_of l ≡ s → list_any (λ v. v.token == s.count) s.views ≡ false → has_recorded l.views l.count ≡ false
none_recorded s l e none = sym (any_map (recorded_view l.schema) (λ (v : View). v.token == l.count) l.views) ∙ subst (λ (s : Shape). list_any (λ v. v.token == s.count) s.views ≡ false) (sym e) none

as_recorded : (l l' : Ledger) → has_recorded l.views l.count ≡ false → model.RecordsNow l l' → model.RecordsView l l'
as_recorded l l' none now = subst (λ b. cond b (l' ≡ l) (model.RecordsNow l l')) (sym none) now

records_sound : (s : Shape) → s.buffered ≡ [] → list_any (λ v. v.token == s.count) s.views ≡ false → (l : Ledger) → shape_of l ≡ s → KeepsSound model.RecordsNow l
records_sound s empty none l e l' ok now = (views_are_recorded l l' ok (ap (λ (s : Shape). s.buffered) e ∙ empty) (as_recorded l l' (none_recorded s l e none) now)).0

pub records_make : RecordsMake
records_make s new told told' empty none call same =
    makes_of model.RecordsNow model.RecordsView told told' s new (λ l l' e now. as_recorded l l' (none_recorded s l e none) now)
    (makes_untouched model.RecordsNow told told' s new same (records_lift s new call) (records_sound s empty none) (λ l l' files c now. records_store l l' files c.stored now))

pub records_keep : RecordsKeep
records_keep s new empty none call its = keeps model.RecordsNow s new (records_lift s new call) (records_sound s empty none) its

-- ---- PRUNE

prune_lifts : (n : ℕ) (s new : Shape) → IsPruned n s new → Lifts (model.Pruned n) s new
prune_lifts n s new call l ok e = lifted (subst (λ s. IsPruned n s new) (sym e) call)
  where
    lifted : IsPruned n (shape_of l) new → (l' : Ledger) × (shape_of l' ≡ new) × model.Pruned n l l'
    lifted c =
        let stays : List ℕ → ℕ → Bool = stays_pruned (held_in l.holds) n in
        let l' : Ledger = record l { views = views_that (stays (tokens_in l.views)) l.views; users = new.users } in (
          l',
          (λ i. record (shape_of l') { views = kept_are l.schema stays l.views i }) ∙ sym c.rest,
          record { users = subst (λ given. Changes [] given l.users new.users) (given_are l.schema stays l.views) c.users; rest = refl },
        )

prune_sound : (n : ℕ) (l : Ledger) → KeepsSound (model.Pruned n) l
prune_sound n l l' ok call = (views_are_pruned n l l' ok call).0

pub prunes_make : PrunesMake
prunes_make n s new told told' call same =
    makes_untouched (model.Pruned n) told told' s new same (prune_lifts n s new call) (λ l e. prune_sound n l) (λ l l' files c p. prunes_store n l l' files c.stored p)

pub prunes_keep : PrunesKeep
prunes_keep n s new call its = keeps (model.Pruned n) s new (prune_lifts n s new call) (λ l e. prune_sound n l) its

-- ---- holds

abbrev HoldsOnly : List Hold → Ledger → Ledger → Type 0
HoldsOnly hs l l' = l' ≡ record l { holds = hs }

abbrev HaveViews : Shape → List Hold → Type 0
HaveViews s hs = (t : ℕ) → held_in hs t ≡ true → is_view_recorded s.views t

holds_lift : (s : Shape) (hs : List Hold) → Lifts (HoldsOnly hs) s (record s { holds = hs })
holds_lift s hs l ok e = (record l { holds = hs }, ap (λ (s : Shape). record s { holds = hs }) e, refl)

holds_sound : (s : Shape) (hs : List Hold) → HaveViews s hs → (l : Ledger) → shape_of l ≡ s → KeepsSound (HoldsOnly hs) l
holds_sound s hs have l e l' ok same =
    let now : HaveViews (shape_of l) hs = subst (λ s. HaveViews s hs) (sym e) have in
    let sound : IsSound (map view_shown l.views) hs = record {
      some_view = ok.sound.some_view;
      held = λ t h. any_map view_shown (λ v. v.token == t) l.views ∙ sym (any_map (recorded_view l.schema) (λ (v : View). v.token == t) l.views) ∙ now t h;
    } in subst IsLedger (sym same) (holds_are_apart l hs ok sound).0

pub holds_make : HoldsMake
holds_make s hs told told' have same =
    makes_untouched (HoldsOnly hs) told told' s (record s { holds = hs }) same (holds_lift s hs) (holds_sound s hs have) (λ l l' files c e.
    subst (AreStored files) (sym e) (record { portions = c.stored.portions; views = c.stored.views; commits = c.stored.commits; merging = c.stored.merging }))

pub holds_keep : HoldsKeep
holds_keep s hs have its = keeps (HoldsOnly hs) s (record s { holds = hs }) (holds_lift s hs) (holds_sound s hs have) its

-- ---- what a shape gives

-- the current portions are a table at the number of writes, also where records wait
pub portions_whole : (l : Ledger) → IsLedger l → AreWhole l.schema l.count l.portions
portions_whole l ok = record {
  portions = ok.portions;
  rows = (All-split (IsPutRecord l.schema l.count) (all_records l.portions) l.buffered ok.rows).0;
  rising = (Apart-split (λ (r s : Record). r.number < s.number) (all_records l.portions) l.buffered ok.rising).0;
  ids = (Apart-split (λ (r s : Record). r.item.id ≢ s.item.id) (records_of l.portions) l.buffered ok.ids).0;
}

abbrev AreViews : Shape → Type 0
AreViews s = IsView (view_now s) × All IsView s.views × All (λ v. v.token ≤ s.count) s.views × All (λ v. v.schema ≡ s.schema) s.views

views_of : (l : Ledger) → IsLedger l → AreViews (shape_of l)
views_of l ok =
    let whole : RecordedView → Type 0 = IsWholeView l.schema l.count in
    let all : (P : View → Type 0) → ((v : RecordedView) → whole v → P (recorded_view l.schema v)) → All P (shape_of l).views = λ P f.
    All-from_recursion P (shape_of l).views (All-map P (recorded_view l.schema) l.views (All-weaken whole (λ v. P (recorded_view l.schema v)) f l.views ok.views)) in (
      (whole_are_views l.schema l.count l.portions (portions_whole l ok)).0,
      all IsView (λ v h. (whole_are_views l.schema v.token v.portions h.1).0),
      all (λ v. v.token ≤ l.count) (λ v h. h.0),
      all (λ v. v.schema ≡ l.schema) (λ v h. refl),
    )

pub shapes_are_views : ShapesAreViews
shapes_are_views s its = subst AreViews its.1 (views_of its.0 its.2)

views_counted : (l : Ledger) → IsLedger l → (q : Name) → times q (names_of_views (shape_of l).views) ≤ users_of l.users q
views_counted l ok q = omega (
  arith,
  ap (times q) (views_named l.schema l.views),
  ok.users q,
  times-four q (flat_map names_of_portion l.portions) (flat_map names_of_view l.views) (flat_map names_of_commit l.commits) (names_of_merging l.merging),
)

pub views_are_counted : ViewsAreCounted
views_are_counted s its = subst (λ (s : Shape). (q : Name) → times q (names_of_views s.views) ≤ users_of s.users q) its.1 (views_counted its.0 its.2)

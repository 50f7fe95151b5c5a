-- What a ledger is that was opened, from what its parts say.
use Rattle.std.proofs.Common.{◌≡◌, ℕ, List, true, Result, Ok, Err, IfOk, IfErr, refl, sym, ◌∙◌, subst}
use Rattle.std.specs.Prelude.{Contains}
use Rattle.std.proofs.Math.Nat.{max-eq_left}
use Rattle.cat_model.specs.Item.{Schema}
use Rattle.cat_model.specs.Files.{Name}
use Rattle.cat_directory.specs.declared.name.FileName.{FileName}
use Rattle.cat_directory.specs.declared.name.FileName.TheVariants as file
use Rattle.cat_directory.specs.Devices.{FileContent, IsSettled, Lists}
use Rattle.cat_directory.specs.Names.{name_of}
use Rattle.cat_lifetimes.specs.refs.Counts.{names_in}
use Rattle.cat_ledger_laws.specs.model.Users.{Used, has_name, is_known}
use Rattle.cat_ledger_laws.specs.model.Opening.{Restored, IsForeign, IsRestored}
use Rattle.cat_ledger_laws.specs.shape.Shapes.{Shape}
use Rattle.cat_ledger_laws.specs.shape.Ties.{ToldFiles, Carries}
use Rattle.cat_ledger_laws.specs.shape.OpeningLaws.{IsCountedEmpty, MayHold, empty_at}
use Rattle.cat_ledger_laws.proofs.shape.Opened.{opened_make, empty_make}
use Rattle.cat_commits.specs.reading.Numbers.{AreNext, IsNewest}
use Rattle.cat_commits.specs.reading.Told.{Tells}
use Rattle.cat_commits.proofs.reading.Parts.{as_one}
use Rattle.cat_ledger_state.specs.startup.Opened.{IsRestoredAt, IsOpenedAtCommit, IsOpenedEmpty}
use Rattle.cat_ledger_state.specs.startup.Refused.{IsNewestDamaged, IsNewestForeign}
use Rattle.cat_ledger_state.proofs.startup.Listing.{named, newest_is, none_is}

pub at_commit : (told told' : ToldFiles) (schema : Schema) (names : List FileName) (generation first g : ℕ) (refs : List Used) (s : Shape)
    → ((q : FileName) → told' q ≡ told q) → Lists told names → AreNext names first g → IsNewest names generation
    → ((q : Name) → is_known refs q ≡ has_name q (names_in names)) → ((q : Name) → is_known refs q ≡ true → is_known s.users q ≡ true)
    → IsRestoredAt told schema generation first g s → IsOpenedAtCommit told schema told' s
at_commit told told' schema names generation first g refs s same lists next newest known more at =
    let one : told' ≡ told = as_one told told' same in
    let made = opened_make told' schema generation at.restored s.users s.next_segment s.next_generation
    (subst (λ (t : ToldFiles). IsRestored (MayHold t) schema generation at.restored) (sym one) at.held) at.state.counted in
    record {
      generation = generation;
      newest = newest_is told names generation lists newest;
      restored = at.restored;
      held = at.held;
      names = names;
      among = newest;
      names_seen = record {
        listed = lists;
        known = λ q there. more (name_of q) (known (name_of q) ∙ named names q there);
        first = first;
        next = subst (AreNext names first) (sym at.state.next) next;
        segment = at.state.segment;
      };
      memory = at.state.memory;
      commit = made.2;
      same = made.3;
      ledger = made.0;
      files = made.1;
      opened = made.4;
      fresh = made.5;
      carries = subst (λ (x : Shape). Carries told' x made.0 made.1) (sym at.state.memory) made.6;
    }

pub where_none : (told told' : ToldFiles) (schema : Schema) (names : List FileName) (first g : ℕ) (refs : List Used) (s : Shape) → Lists told names → AreNext names first g
    → ((h : ℕ) → Contains names (file.Commit h) → ⊥) → ((q : Name) → is_known refs q ≡ has_name q (names_in names)) → IsCountedEmpty refs first g
    → s ≡ empty_at schema refs first g → IsOpenedEmpty told schema told' s
where_none told told' schema names first g refs s lists next none known counted is =
    subst (IsOpenedEmpty told schema told') (sym is)
    (let made = empty_make told' schema refs first g counted in
    record {
      none = none_is told names lists none;
      names = names;
      among = none;
      names_seen = record {
        listed = lists;
        known = λ q there. known (name_of q) ∙ named names q there;
        first = first;
        next = next;
        segment = sym (max-eq_left next.some.0);
      };
      only = known;
      memory = refl;
      ledger = made.0;
      files = made.1;
      opened = made.2;
      fresh = made.3;
      carries = made.4;
    })

-- ---- the answer of a call that is the answer

pub ok_of_both : {T E : Type 0} (r : Result T E) (P Q R : T → Type 0) → ((x : T) → P x → Q x → R x) → IfOk r P → IfOk r Q → IfOk r R
ok_of_both (Ok x) P Q R f p q = f x p q
ok_of_both (Err e) P Q R f p q = tt

pub err_of_both : {T E : Type 0} (r : Result T E) (P Q R : E → Type 0) → ((e : E) → P e → Q e → R e) → IfErr r P → IfErr r Q → IfErr r R
err_of_both (Ok x) P Q R f p q = tt
err_of_both (Err e) P Q R f p q = f e p q

-- ---- what is told doesn't change on the way

module _ (told mid : ToldFiles) (same : (q : FileName) → mid q ≡ told q) where
  pub told_settled : (left : FileName → FileContent → Type 0) (q : FileName) → IsSettled (mid q) (left q) → IsSettled (told q) (left q)
  told_settled left q settled now e is there = settled now e (same q ∙ is) there

  pub restored_as_told : (schema : Schema) (generation n g : ℕ) (s : Shape) → IsRestoredAt mid schema generation n g s → IsRestoredAt told schema generation n g s
  restored_as_told schema generation n g s at = subst (λ (t : ToldFiles). IsRestoredAt t schema generation n g s) (as_one told mid same) at

  pub is_damaged : (schema : Schema) (names : List FileName) (generation : ℕ) → Lists told names → IsNewest names generation
      → ((r : Restored) → IsRestored (Tells mid) schema generation r → ⊥) → (IsForeign (Tells mid) schema generation → ⊥) → IsNewestDamaged told schema
  is_damaged schema names generation lists newest lost own =
      let one : mid ≡ told = as_one told mid same in
      record {
        generation = generation;
        newest = newest_is told names generation lists newest;
        lost = λ r is. lost r (subst (λ (t : ToldFiles). IsRestored (Tells t) schema generation r) (sym one) is);
        own = λ is. own (subst (λ (t : ToldFiles). IsForeign (Tells t) schema generation) (sym one) is);
      }

  pub is_foreign : (schema : Schema) (names : List FileName) (generation : ℕ) → Lists told names → IsNewest names generation → IsForeign (MayHold mid) schema generation
      → IsNewestForeign told schema
  is_foreign schema names generation lists newest foreign = record {
    generation = generation;
    newest = newest_is told names generation lists newest;
    foreign = subst (λ (t : ToldFiles). IsForeign (MayHold t) schema generation) (as_one told mid same) foreign;
  }

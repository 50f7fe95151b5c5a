-- What the end of a merge leaves.
use Rattle.std.proofs.Common.{◌≡◌, ◌≢◌, ℕ, zero, suc, ◌+◌, ◌<◌, List, [], ◌∷◌, ◌++◌, length, map, take, drop, Bool, refl, sym, ◌∙◌, ap, ap₂, subst, arith, append-nil, append_assoc}
use Rattle.std.specs.List.{flat_map, AllByRecursion}
use Rattle.std.proofs.lemmas.List.{take-append-drop, drop-drop}
use Rattle.std.proofs.lemmas.Grind.{flat_map-append}
use Rattle.cat_model.specs.Item.{Record}
use Rattle.cat_model.specs.View.{selected}
use Rattle.cat_model.proofs.Lists.{All-weaken, All-both}
use Rattle.cat_ledger_laws.specs.model.Portions.{Portion, live_records, records_of, all_records, lives_of, Apart, ArePortions, Merging, portion_window_now, IsMergingOf, IsMerging, settled, merged, installed}
use Rattle.cat_model.specs.Files.{Name}
use Rattle.cat_ledger_laws.specs.model.Users.{times}
use Rattle.cat_ledger_laws.specs.model.Ledger.{IsPutRecord, IsLedger, state_of, names_used, names_of_portion, names_of_view, names_of_commit, names_of_merging, IsPast, view_shown, commit_shown}
use Rattle.cat_ledger_laws.specs.model.Laws.{MergesChangeNoState, KeptMayStand}
use Rattle.cat_ledger_laws.proofs.model.Users.{All-split, Apart-split, Apart-join, times-append, times-flat, times-four, Four, All-four, All-of_four, recounted}
use Rattle.cat_ledger_laws.proofs.model.Alone.{nobody_alone}
use Rattle.cat_model.proofs.Merged.{marked-none, LessLive-length, settle}
use Rattle.cat_ledger_laws.proofs.model.Marked.{marked-length, Full, lives-length, records-marked, Reduced-lives, Reduced-rows, Apart-marked, Apart-thinned, All-thinned}

-- a list in three parts
pub three : {A : Type 0} (xs : List A) (i k : ℕ) → xs ≡ take i xs ++ (take k (drop i xs) ++ drop (i + k) xs)
three xs i k = sym (take-append-drop i xs) ∙ ap (λ l. take i xs ++ l) (sym (take-append-drop k (drop i xs)) ∙ ap (λ l. take k (drop i xs) ++ l) (drop-drop k i xs))

pub take_whole : {A : Type 0} (xs : List A) (n : ℕ) → n ≡ length xs → take n xs ≡ xs
take_whole [] zero e = refl
take_whole [] (suc n) e = refl
take_whole (x ∷ xs) zero e = absurd (omega (arith, e))
take_whole (x ∷ xs) (suc n) e = ap (λ l. x ∷ l) (take_whole xs n (omega (arith, e)))

-- a merge that has passed all records
module _ (m : Merging) (ps : List Portion) (ok : IsMergingOf ps m) (full : Full ps) (done : m.passed ≡ length (all_records m.inputs)) where
  abbrev before : List Portion
  before = take m.index ps

  abbrev later : List Portion
  later = drop (m.index + length m.inputs) ps

  abbrev now : List Portion
  now = portion_window_now m ps

  parts : ps ≡ before ++ (now ++ later)
  parts = three ps m.index (length m.inputs)

  pub kept_all : m.kept ≡ selected (lives_of m.inputs) (all_records m.inputs)
  kept_all = ok.kept ∙ ap₂ (λ (a : List Bool) (b : List Record). selected a b)
      (take_whole (lives_of m.inputs) m.passed (done ∙ sym (lives-length m.inputs ok.lengths)))
      (take_whole (all_records m.inputs) m.passed done)

  full_parts : Full before × (Full now × Full later)
  full_parts =
      let two : Full before × Full (now ++ later) = All-split (λ p. length p.live ≡ length p.records) before (now ++ later) (subst Full parts full) in
      (two.0, All-split (λ p. length p.live ≡ length p.records) now later two.1)

  -- the live records of the new segment are those of its inputs now
  settled_live : live_records (settled m ps) ≡ records_of now
  settled_live =
      ap (selected (selected (lives_of m.inputs) (lives_of now))) kept_all
      ∙ settle (lives_of m.inputs) (lives_of now) (all_records m.inputs) (Reduced-lives m.inputs now ok.stand)
      ∙ ap (selected (lives_of now)) (sym (Reduced-rows m.inputs now ok.stand))
      ∙ records-marked now full_parts.1.0

  merged_live : (kept : List Record) → m.kept ≡ kept → records_of (merged kept (settled m ps)) ≡ records_of now
  merged_live [] e = sym (sym settled_live ∙ ap (selected (settled m ps).live) e ∙ marked-none (settled m ps).live)
  merged_live (r ∷ rs) e = append-nil (live_records (settled m ps)) ∙ settled_live

  merged_rows : (kept : List Record) → m.kept ≡ kept → all_records (merged kept (settled m ps)) ≡ selected (lives_of m.inputs) (all_records now)
  merged_rows [] e = sym (ap (selected (lives_of m.inputs)) (Reduced-rows m.inputs now ok.stand) ∙ sym kept_all ∙ e)
  merged_rows (r ∷ rs) e = append-nil m.kept ∙ kept_all ∙ ap (selected (lives_of m.inputs)) (sym (Reduced-rows m.inputs now ok.stand))

  over : {B : Type 0} (f : Portion → List B) (mid : List Portion) → flat_map f (before ++ (mid ++ later)) ≡ flat_map f before ++ (flat_map f mid ++ flat_map f later)
  over f mid = flat_map-append f before (mid ++ later) ∙ ap (λ l. flat_map f before ++ l) (flat_map-append f mid later)

  -- the list shows what it showed
  pub installed_records : records_of (installed m ps) ≡ records_of ps
  installed_records =
      over live_records (merged m.kept (settled m ps))
      ∙ ap (λ l. records_of before ++ (l ++ records_of later)) (merged_live m.kept refl)
      ∙ sym (over live_records now) ∙ ap records_of (sym parts)

  pub installed_rows : all_records (installed m ps) ≡ all_records before ++ (selected (lives_of m.inputs) (all_records now) ++ all_records later)
  installed_rows = over (λ p. p.records) (merged m.kept (settled m ps)) ∙ ap (λ l. all_records before ++ (l ++ all_records later)) (merged_rows m.kept refl)

  as_now : length (lives_of m.inputs) ≡ length (all_records now)
  as_now = lives-length m.inputs ok.lengths ∙ ap length (sym (Reduced-rows m.inputs now ok.stand))

  -- with the records that wait
  rows_with : (buffered : List Record) → all_records ps ++ buffered ≡ all_records before ++ (all_records now ++ (all_records later ++ buffered))
  rows_with buffered =
      ap (λ l. l ++ buffered) (ap all_records parts ∙ over (λ p. p.records) now)
      ∙ append_assoc (all_records before) (all_records now ++ all_records later) buffered
      ∙ ap (λ l. all_records before ++ l) (append_assoc (all_records now) (all_records later) buffered)

  thin_with : (buffered : List Record) → all_records (installed m ps) ++ buffered ≡ all_records before ++ (selected (lives_of m.inputs) (all_records now) ++ (all_records later ++ buffered))
  thin_with buffered =
      ap (λ l. l ++ buffered) installed_rows
      ∙ append_assoc (all_records before) (selected (lives_of m.inputs) (all_records now) ++ all_records later) buffered
      ∙ ap (λ l. all_records before ++ l) (append_assoc (selected (lives_of m.inputs) (all_records now)) (all_records later) buffered)

  pub installed_all : (P : Record → Type 0) (buffered : List Record) → AllByRecursion P (all_records ps ++ buffered) → AllByRecursion P (all_records (installed m ps) ++ buffered)
  installed_all P buffered a = subst (AllByRecursion P) (sym (thin_with buffered))
      (All-thinned P (all_records before) (all_records now) (all_records later ++ buffered) (lives_of m.inputs) as_now (subst (AllByRecursion P) (rows_with buffered) a))

  pub installed_apart : (R : Record → Record → Type 0) (buffered : List Record) → Apart R (all_records ps ++ buffered) → Apart R (all_records (installed m ps) ++ buffered)
  installed_apart R buffered a = subst (Apart R) (sym (thin_with buffered))
      (Apart-thinned R (all_records before) (all_records now) (all_records later ++ buffered) (lives_of m.inputs) as_now (subst (Apart R) (rows_with buffered) a))

  -- the kept records may stand in one segment
  pub kept_apart : Apart (λ r s. r.item.id ≢ s.item.id) m.kept
  kept_apart = subst (Apart (λ r s. r.item.id ≢ s.item.id)) (sym (kept_all ∙ records-marked m.inputs ok.lengths)) ok.ids

  kept_rising : (buffered : List Record) → Apart (λ r s. r.number < s.number) (all_records ps ++ buffered) → Apart (λ r s. r.number < s.number) m.kept
  kept_rising buffered a =
      let R : Record → Record → Type 0 = λ r s. r.number < s.number in
      let one = Apart-split R (all_records before) (all_records now ++ (all_records later ++ buffered)) (subst (Apart R) (rows_with buffered) a) in
      let two = Apart-split R (all_records now) (all_records later ++ buffered) one.1 in
      subst (Apart R) (sym (kept_all ∙ ap (selected (lives_of m.inputs)) (sym (Reduced-rows m.inputs now ok.stand)))) (Apart-marked R (lives_of m.inputs) (all_records now) two.0)

  -- the new segment is a portion, with a number of its own
  settled_full : length (settled m ps).live ≡ length m.kept
  settled_full =
      marked-length (lives_of m.inputs) (lives_of now) (all_records m.inputs) (sym (LessLive-length (lives_of m.inputs) (lives_of now) (Reduced-lives m.inputs now ok.stand)) ∙ lives-length m.inputs ok.lengths)
      ∙ ap length (sym kept_all)

  merged_each : (P : Portion → Type 0) (kept : List Record) → P (settled m ps) → AllByRecursion P (merged kept (settled m ps))
  merged_each P [] a = tt
  merged_each P (r ∷ rs) a = (a, tt)

  pub installed_portions : Apart (λ p q. p.number ≢ q.number) ps → ArePortions (installed m ps)
  installed_portions apart =
      let R : Portion → Portion → Type 0 = λ p q. p.number ≢ q.number in
      let free : AllByRecursion (λ p. p.number ≢ m.number) before × AllByRecursion (λ p. p.number ≢ m.number) (now ++ later) =
      All-split (λ p. p.number ≢ m.number) before (now ++ later) (subst (AllByRecursion (λ p. p.number ≢ m.number)) parts ok.free) in
      let free_later : AllByRecursion (λ p. p.number ≢ m.number) now × AllByRecursion (λ p. p.number ≢ m.number) later = All-split (λ p. p.number ≢ m.number) now later free.1 in
      let s = Apart-split R before (now ++ later) (subst (Apart R) parts apart) in
      let s2 = Apart-split R now later s.1 in
      let cross : AllByRecursion (λ x. AllByRecursion (R x) later) before = All-weaken (λ x. AllByRecursion (R x) (now ++ later)) (λ x. AllByRecursion (R x) later) (λ x a. (All-split (R x) now later a).1) before s.2 in
      let mid : Apart R (merged m.kept (settled m ps)) = alone m.kept in
      record {
        lengths = All-both _ before _ full_parts.0 (All-both _ (merged m.kept (settled m ps)) later (merged_each (λ p. length p.live ≡ length p.records) m.kept settled_full) full_parts.1.1);
        numbers = Apart-join R before (merged m.kept (settled m ps) ++ later) s.0
            (Apart-join R (merged m.kept (settled m ps)) later mid s2.1 (merged_each (λ p. AllByRecursion (R p) later) m.kept (All-weaken (λ p. p.number ≢ m.number) (R (settled m ps)) (λ p ne e. ne (sym e)) later free_later.1)))
            (All-zip before free.0 cross);
      }
    where
      alone : (kept : List Record) → Apart (λ (p q : Portion). p.number ≢ q.number) (merged kept (settled m ps))
      alone [] = tt
      alone (r ∷ rs) = (tt, tt)

      All-zip : (xs : List Portion) → AllByRecursion (λ p. p.number ≢ m.number) xs → AllByRecursion (λ x. AllByRecursion (λ q. x.number ≢ q.number) later) xs
          → AllByRecursion (λ x. AllByRecursion (λ q. x.number ≢ q.number) (merged m.kept (settled m ps) ++ later)) xs
      All-zip [] a b = tt
      All-zip (x ∷ xs) a b = (All-both (λ q. x.number ≢ q.number) (merged m.kept (settled m ps)) later (merged_each (λ q. x.number ≢ q.number) m.kept a.0) b.0, All-zip xs a.1 b.1)

  pub installed_times : (q : Name) → times q (flat_map names_of_portion (installed m ps)) + times q (flat_map names_of_portion now) ≡ times q (flat_map names_of_portion ps) + times q (flat_map names_of_portion (merged m.kept (settled m ps)))
  installed_times q =
      let mid : List Portion = merged m.kept (settled m ps) in
      let N : List Portion → ℕ = λ xs. times q (flat_map names_of_portion xs) in
      let a : N (installed m ps) ≡ N before + (N mid + N later) = times-flat q names_of_portion before (mid ++ later) ∙ ap (λ n. N before + n) (times-flat q names_of_portion mid later) in
      let b : N ps ≡ N before + (N now + N later) = ap N parts ∙ times-flat q names_of_portion before (now ++ later) ∙ ap (λ n. N before + n) (times-flat q names_of_portion now later) in
      omega (arith, a, b)

  pub installed_past : (P : Name → Type 0) → P (Name.segment m.number) → P (Name.source m.number) → AllByRecursion P (flat_map names_of_portion ps) → AllByRecursion P (flat_map names_of_portion (installed m ps))
  installed_past P x y a =
      let whole : AllByRecursion P (flat_map names_of_portion before ++ (flat_map names_of_portion now ++ flat_map names_of_portion later)) = subst (AllByRecursion P) (ap (flat_map names_of_portion) parts ∙ over names_of_portion now) a in
      let one = All-split P (flat_map names_of_portion before) _ whole in
      let two = All-split P (flat_map names_of_portion now) (flat_map names_of_portion later) one.1 in
      subst (AllByRecursion P) (sym (over names_of_portion (merged m.kept (settled m ps))))
      (All-both P (flat_map names_of_portion before) _ one.0 (All-both P (flat_map names_of_portion (merged m.kept (settled m ps))) _ (named m.kept) two.1))
    where
      named : (kept : List Record) → AllByRecursion P (flat_map names_of_portion (merged kept (settled m ps)))
      named [] = tt
      named (r ∷ rs) = (x, (y, tt))

pub kept_may_stand : KeptMayStand
kept_may_stand m l ok making all =
    let m_ok : IsMergingOf l.portions m = subst (λ o. IsMerging l.portions o) making ok.merging in
    (kept_rising m l.portions m_ok ok.portions.lengths all l.buffered ok.rising, kept_apart m l.portions m_ok ok.portions.lengths all)

pub merges_change_no_state : MergesChangeNoState
merges_change_no_state m l new ok call =
    let making : IsMergingOf l.portions m = subst (λ o. IsMerging l.portions o) call.making ok.merging in
    let full : Full l.portions = ok.portions.lengths in
    let P : Name → Type 0 = IsPast l.next_segment l.next_generation in
    let views : List Name = flat_map names_of_view l.views in
    let commits : List Name = flat_map names_of_commit l.commits in
    let next : List Portion = installed m l.portions in
    let past : Four P (flat_map names_of_portion l.portions) views commits (names_of_merging l.merging) = All-four P _ _ _ _ ok.fresh in
    let its : AllByRecursion P (Name.source m.number ∷ []) = subst (λ o. AllByRecursion P (names_of_merging o)) call.making past.merging in
    let taken : List Name = flat_map names_of_portion (merged m.kept (settled m l.portions)) in
    let given : List Name = flat_map names_of_portion (portion_window_now m l.portions) ++ Name.source m.number ∷ [] in
    let balance : (q : Name) → times q (flat_map names_of_portion next ++ (views ++ (commits ++ []))) + times q given ≡ times q (names_used l) + times q taken = λ q. omega (
      arith,
      installed_times m l.portions making full call.all q,
      ap (λ o. times q (names_of_merging o)) call.making,
      times-four q (flat_map names_of_portion next) views commits [],
      times-four q (flat_map names_of_portion l.portions) views commits (names_of_merging l.merging),
      times-append q (flat_map names_of_portion (portion_window_now m l.portions)) (Name.source m.number ∷ []),
    ) in (
      subst IsLedger (sym call.rest) (record {
        portions = installed_portions m l.portions making full call.all ok.portions.numbers;
        views = ok.views;
        commits = ok.commits;
        generations = ok.generations;
        rows = installed_all m l.portions making full call.all (IsPutRecord l.schema l.count) l.buffered ok.rows;
        rising = installed_apart m l.portions making full call.all (λ r s. r.number < s.number) l.buffered ok.rising;
        ids = subst (λ rs. Apart (λ r s. r.item.id ≢ s.item.id) (rs ++ l.buffered)) (sym (installed_records m l.portions making full call.all)) ok.ids;
        sound = ok.sound;
        merging = tt;
        alone = nobody_alone _ l.views l.commits;
        users = recounted (names_used l) (flat_map names_of_portion next ++ (views ++ (commits ++ []))) taken given l.users new.users ok.users call.users balance;
        fresh = All-of_four P (flat_map names_of_portion next) views commits [] (record { portions = installed_past m l.portions making full call.all P its.0 its.0 past.portions; views = past.views; commits = past.commits; merging = tt });
        numbers = ok.numbers;
        fits = ok.fits;
      }),
      ap state_of call.rest ∙ (λ i. record { table = installed_records m l.portions making full call.all i ++ l.buffered; count = l.count; views = map view_shown l.views; holds = l.holds; commits = map commit_shown l.commits; taken = l.taken }),
    )

-- What the end of a merge makes of a shape.
use Rattle.std.proofs.Common.{◌≡◌, ℕ, ◌+◌, ◌<◌, ◌≤◌, ◌^◌, ◌-◌, ◌||◌, ◌≢◌, Bool, true, false, cond, List, [], ◌∷◌, ◌++◌, Option, Some, None, length, take, drop, refl, sym, ◌∙◌, ap, subst, arith, inl}
use Rattle.std.specs.Prelude.{◌==◌, not, option_map}
use Rattle.std.specs.List.{flat_map, AllByRecursion}
use Rattle.std.proofs.lemmas.List.{length-append, length-take-le, length-drop}
use Rattle.std.proofs.lemmas.Bool.{true≢false}
use Rattle.cat_model.specs.Files.{Name}
use Rattle.cat_model.specs.Layout.{SpellsSegment}
use Rattle.cat_model.specs.Limits.{last_number, view_limit}
use Rattle.cat_model.specs.Merged.{merged_leaf}
use Rattle.cat_model.specs.View.{Leaf, live_rows}
use Rattle.cat_directory.specs.declared.name.FileName.{FileName}
use Rattle.cat_directory.specs.declared.name.FileName.TheVariants as file
use Rattle.cat_directory.specs.Names.{name_of}
use Rattle.cat_merge.specs.files.Making.{InMaking, merged_leaves}
use Rattle.cat_ledger_laws.specs.model.Leaves.{AreLeaves}
use Rattle.cat_ledger_laws.specs.model.Users.{Used, users_of, is_known, times, has_name, same_file_name, Changes}
use Rattle.cat_ledger_laws.proofs.model.Users.{times-append}
use Rattle.cat_ledger_laws.specs.shape.Shapes.{MergingShape, Shape, IsShape, names_of_leaves}
use Rattle.cat_ledger_laws.specs.shape.Steps.{IsInstalled, IsEnded, Leaves, window_now, merged_or_none}
use Rattle.cat_ledger_laws.specs.shape.Ties.{ToldFiles, TellsBytes, TouchesOnly}
use Rattle.cat_ledger_laws.proofs.shape.Committed.{users_fit}
use Rattle.cat_ledger_laws.proofs.shape.MergeSteps.{ends_keep}
use Rattle.cat_ledger_laws.proofs.shape.Told.{same_again}
use Rattle.cat_ledger_laws.proofs.shape.Writes.{refusals_keep}
use Rattle.cat_ledger_laws.proofs.shape.MergeWindows.{merges_find_their_window}
use Rattle.cat_ledger_state.specs.Installs.{HasAllPassed, HasFailed, HasInstalled, MayInstall, made_of, placed_in}
use Rattle.cat_ledger_state.proofs.Counting.{changes_join, or_none}
use Rattle.cat_ledger_state.proofs.Flushing.{at_most_one}

-- the segment that is made under the schema of all
pub made_is : (s : Shape) (m : InMaking) → m.schema ≡ s.schema → made_of m s.leaves ≡ merged_or_none m.shape s
made_is s m same = ap (λ schema. merged_leaves m.shape.number schema m.shape.inputs (window_now m.shape s.leaves)) same

-- a segment, or none, has a name twice at most
few_names : (made : Bool) (leaf : Leaf) (q : Name) → times q (names_of_leaves (cond made (leaf ∷ []) [])) ≤ 2
few_names false leaf q = omega arith
few_names true leaf q =
    let one : cond (same_file_name q (Name.segment leaf.segment.number)) 1 0 ≤ 1 = at_most_one (same_file_name q (Name.segment leaf.segment.number)) in
    let other : cond (same_file_name q (Name.source leaf.segment.number)) 1 0 ≤ 1 = at_most_one (same_file_name q (Name.source leaf.segment.number)) in
    omega arith

few_made : (m : InMaking) (leaves : List Leaf) (q : Name) → times q (names_of_leaves (made_of m leaves)) ≤ 2
few_made m leaves q =
    let leaf = merged_leaf m.shape.number m.schema m.shape.inputs (window_now m.shape leaves) in
    few_names (not (length leaf.segment.rows == 0)) leaf q

pub may_install : (s : Shape) (m : InMaking) (n : ℕ) (mid : List Used) → IsShape s → s.merging ≡ Some m.shape → m.schema ≡ s.schema → HasAllPassed s.merging
    → n ≡ length s.views → n ≤ view_limit → Changes [] (Name.source m.shape.number ∷ []) s.users mid → MayInstall m s.leaves mid
may_install s m n mid its making same all views few given =
    let found = merges_find_their_window m.shape s its making in
    let made : made_of m s.leaves ≡ merged_or_none m.shape s = made_is s m same in
    record {
      passed = subst HasAllPassed making all;
      deleted = found.deleted;
      place = record {
        some = found.some;
        within = found.within;
        rows = subst (λ ls. flat_map live_rows ls ≡ flat_map live_rows (window_now m.shape s.leaves)) (sym made) found.live;
        stands = subst (λ ls. AreLeaves (placed_in s.leaves m.shape.index (length m.shape.inputs) ls)) (sym made) found.stands;
      };
      fit = λ q.
          let room : users_of s.users q + 2 < 2 ^ 64 = users_fit s q its (subst (λ k. k ≤ view_limit) views few) in
          omega (arith, room, given.users q, few_made m s.leaves q);
      had = λ q. omega (arith, found.users q, given.users q, times-append q (names_of_leaves (window_now m.shape s.leaves)) (Name.source m.shape.number ∷ []));
    }

pub installed_is : (s : Shape) (m : InMaking) (mid users' : List Used) (leaves' : List Leaf) → s.merging ≡ Some m.shape → m.schema ≡ s.schema → HasAllPassed s.merging
    → Changes [] (Name.source m.shape.number ∷ []) s.users mid
    → Changes (names_of_leaves (made_of m s.leaves)) (names_of_leaves (window_now m.shape s.leaves)) mid users'
    → leaves' ≡ placed_in s.leaves m.shape.index (length m.shape.inputs) (made_of m s.leaves)
    → IsInstalled m.shape s (record s { leaves = leaves'; merging = None; users = users' })
installed_is s m mid users' leaves' making same all given moved placed =
    let made : made_of m s.leaves ≡ merged_or_none m.shape s = made_is s m same in
    let moves : Changes (names_of_leaves (merged_or_none m.shape s)) (names_of_leaves (window_now m.shape s.leaves)) mid users' =
    subst (λ ls. Changes (names_of_leaves ls) (names_of_leaves (window_now m.shape s.leaves)) mid users') made moved in
    record {
      making = making;
      all = subst HasAllPassed making all;
      users = record {
        users = λ q. omega (arith, given.users q, moves.users q, times-append q (names_of_leaves (window_now m.shape s.leaves)) (Name.source m.shape.number ∷ []));
        known = λ q. moves.known q ∙ ap (λ b. b || has_name q (names_of_leaves (merged_or_none m.shape s))) (given.known q ∙ or_none (is_known s.users q));
      };
      rest = ap (λ ls. record s { leaves = ls; merging = None; users = users' }) (placed ∙ ap (placed_in s.leaves m.shape.index (length m.shape.inputs)) made);
    }

-- ---- refused

pub over_is : (s : Shape) (m : InMaking) (mid : List Used) → s.merging ≡ Some m.shape → Changes [] (Name.source m.shape.number ∷ []) s.users mid
    → IsEnded m.shape s (record s { merging = None; users = mid })
over_is s m mid making given = record { making = making; users = given; rest = refl }

numbers_fit : (s : Shape) → IsShape s → (s.next_segment ≤ last_number + 1) × (s.next_generation ≤ last_number + 1)
numbers_fit s its = subst (λ (s : Shape). (s.next_segment ≤ last_number + 1) × (s.next_generation ≤ last_number + 1)) its.1 (its.2.fits.1, its.2.fits.2)

pub left_is_known : (s : Shape) (mid users' : List Used) → IsShape s → ((q : Name) → users_of users' q ≡ users_of mid q)
    → Leaves [] (record s { merging = None; users = mid }) (record s { merging = None; users = users' })
left_is_known s mid users' its same = record {
  known = λ q h. absurd (true≢false (sym h));
  users = same;
  segments = omega arith;
  generations = omega arith;
  one_segment = inl refl;
  one_generation = inl refl;
  left = numbers_fit s its;
  rest = refl;
}

-- ---- as memory has it then

-- the users as they move with the list
pub moved_is : (m : InMaking) (leaves window made : List Leaf) (taken given : List Name) (old mid new : List Used) → window ≡ window_now m.shape leaves
    → made ≡ merged_leaves m.shape.number m.schema m.shape.inputs window → taken ≡ names_of_leaves made → given ≡ names_of_leaves window
    → Changes taken [] old mid → Changes [] given mid new
    → Changes (names_of_leaves (made_of m leaves)) (names_of_leaves (window_now m.shape leaves)) old new
moved_is m leaves window made taken given old mid new stands is took gave first second =
    let all : made ≡ made_of m leaves = is ∙ ap (merged_leaves m.shape.number m.schema m.shape.inputs) stands in
    subst (λ names. Changes names (names_of_leaves (window_now m.shape leaves)) old new) (took ∙ ap names_of_leaves all)
    (subst (λ names. Changes taken names old new) (gave ∙ ap names_of_leaves stands) (changes_join taken given old mid new first second))

-- what is left where nothing could be installed
pub record Fails (s : Shape) (m : MergingShape) (new : Shape) : Type 0 where
  pub mid : Shape
  pub ended : IsEnded m s mid
  pub left : Leaves [] mid new

pub fails : (s : Shape) (m : InMaking) (mid users' : List Used) (leaves' : List Leaf) (o : Option InMaking) → IsShape s → s.merging ≡ Some m.shape
    → Changes [] (Name.source m.shape.number ∷ []) s.users mid → leaves' ≡ s.leaves → o ≡ None → ((q : Name) → users_of users' q ≡ users_of mid q)
    → Fails s m.shape (record s { leaves = leaves'; merging = option_map (λ x. x.shape) o; users = users' })
fails s m mid users' leaves' o its making given stands over same =
    let e : record s { merging = None; users = users' } ≡ record s { leaves = leaves'; merging = option_map (λ x. x.shape) o; users = users' } =
    λ i. record s { leaves = sym stands i; merging = option_map (λ (x : InMaking). x.shape) (sym over i); users = users' } in
    record {
      mid = record s { merging = None; users = mid };
      ended = over_is s m mid making given;
      left = subst (Leaves [] (record s { merging = None; users = mid })) e (left_is_known s mid users' its same);
    }

pub fails_keep : (s : Shape) (m : MergingShape) (new : Shape) → Fails s m new → IsShape s → IsShape new
fails_keep s m new f its = refusals_keep [] f.mid new f.left (ends_keep m s f.mid f.ended its)

-- what stands where it was installed
pub installs : (s : Shape) (m : InMaking) (mid users' : List Used) (leaves' : List Leaf) (o : Option InMaking) → s.merging ≡ Some m.shape → m.schema ≡ s.schema
    → HasAllPassed s.merging → Changes [] (Name.source m.shape.number ∷ []) s.users mid
    → Changes (names_of_leaves (made_of m s.leaves)) (names_of_leaves (window_now m.shape s.leaves)) mid users'
    → leaves' ≡ placed_in s.leaves m.shape.index (length m.shape.inputs) (made_of m s.leaves) → o ≡ None
    → IsInstalled m.shape s (record s { leaves = leaves'; merging = option_map (λ x. x.shape) o; users = users' })
installs s m mid users' leaves' o making same all given moved placed over =
    subst (λ x. IsInstalled m.shape s (record s { leaves = leaves'; merging = option_map (λ (y : InMaking). y.shape) x; users = users' })) (sym over)
    (installed_is s m mid users' leaves' making same all given moved placed)

few_made_of : (made : Bool) (leaf : Leaf) → length (cond made (leaf ∷ []) []) ≤ 1
few_made_of true leaf = omega arith
few_made_of false leaf = omega arith

-- the list grows no longer
pub no_longer : (s : Shape) (m : InMaking) (leaves' : List Leaf) (n : ℕ) → IsShape s → s.merging ≡ Some m.shape → length s.leaves ≤ n
    → leaves' ≡ placed_in s.leaves m.shape.index (length m.shape.inputs) (made_of m s.leaves) → length leaves' ≤ n
no_longer s m leaves' n its making few placed =
    let found = merges_find_their_window m.shape s its making in
    let leaf = merged_leaf m.shape.number m.schema m.shape.inputs (window_now m.shape s.leaves) in
    let one : length (made_of m s.leaves) ≤ 1 = few_made_of (not (length leaf.segment.rows == 0)) leaf in
    let front : length (take m.shape.index s.leaves) ≡ m.shape.index = length-take-le m.shape.index s.leaves (omega (arith, found.within)) in
    let back : length (drop (m.shape.index + length m.shape.inputs) s.leaves) ≡ length s.leaves - (m.shape.index + length m.shape.inputs) =
    length-drop (m.shape.index + length m.shape.inputs) s.leaves in
    subst (λ ls. length ls ≤ n) (sym placed) (omega (
      arith,
      few,
      one,
      front,
      back,
      found.within,
      found.some,
      length-append (take m.shape.index s.leaves) (made_of m s.leaves ++ drop (m.shape.index + length m.shape.inputs) s.leaves),
      length-append (made_of m s.leaves) (drop (m.shape.index + length m.shape.inputs) s.leaves),
    ))

-- ---- files

-- a name of another file than this one
other_segment : (n : ℕ) (q : FileName) → has_name (name_of q) (Name.segment n ∷ []) ≡ false → q ≢ file.Segment n
other_segment n q out is =
    true≢false (sym (ap (λ b. b || false) (same_again (Name.segment n))) ∙ ap (λ f. has_name (name_of f) (Name.segment n ∷ [])) (sym is) ∙ out)

pub touches_segment : (n : ℕ) (told told' : ToldFiles) → ((q : FileName) → q ≢ file.Segment n → told' q ≡ told q) → TouchesOnly (Name.segment n ∷ []) told told'
touches_segment n told told' others q out = others q (other_segment n q out)

pub installed_has : (s new : Shape) (m : InMaking) (told told' : ToldFiles) → IsInstalled m.shape s new → m.schema ≡ s.schema
    → ((q : FileName) → q ≢ file.Segment m.shape.number → told' q ≡ told q)
    → AllByRecursion (λ leaf. TellsBytes told' (file.Segment m.shape.number) (λ bytes. SpellsSegment bytes leaf.segment)) (made_of m s.leaves)
    → HasInstalled told s told' new
installed_has s new m told told' is same others written = record {
  merge = m.shape;
  installed = is;
  others = touches_segment m.shape.number told told' others;
  written = subst (AllByRecursion (λ leaf. TellsBytes told' (file.Segment m.shape.number) (λ bytes. SpellsSegment bytes leaf.segment))) (made_is s m same) written;
}

pub failed_has : (s new : Shape) (m : InMaking) (told told' : ToldFiles) → Fails s m.shape new
    → ((q : FileName) → q ≢ file.Segment m.shape.number → told' q ≡ told q) → HasFailed told s told' new
failed_has s new m told told' f others = record {
  merge = m.shape;
  mid = f.mid;
  ended = f.ended;
  left = f.left;
  others = touches_segment m.shape.number told told' others;
}

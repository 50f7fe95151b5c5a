-- What may be held, beside what is told.
use Rattle.std.proofs.Common.{◌≡◌, ℕ, ◌==◌, List, [], ◌∷◌, length, Bool, true, false, cond, replicate, Some, None, refl, sym, ◌∙◌, ap, subst}
use Rattle.cat_directory.specs.declared.name.FileName.TheVariants as file
use Rattle.cat_directory.specs.Devices.{Told}
use Rattle.cat_model.specs.Text.{Text}
use Rattle.cat_model.specs.Item.{Schema}
use Rattle.cat_model.specs.CommitFile.{ListedSegment}
use Rattle.cat_model.specs.Layout.{SpellsSegment}
use Rattle.cat_model.specs.LiveFile.{LiveRows, SpellsLive}
use Rattle.cat_model.specs.View.{Segment, Leaf}
use Rattle.cat_ledger_laws.specs.model.Opening.{HasSegment, HasLiveFile, IsLeafOf, AreLeavesOf}
use Rattle.cat_commits.specs.reading.Leaf.{HasLiveRows}
use Rattle.cat_ledger_laws.specs.shape.Ties.{ToldFiles, IsTold}
use Rattle.cat_ledger_laws.specs.shape.OpeningLaws.{MayHold}
use Rattle.cat_commits.specs.reading.Told.{Tells}

abbrev pub SegmentsLaw : Type 0
SegmentsLaw = (bytes : List ℕ) (s t : Segment) → SpellsSegment bytes s → SpellsSegment bytes t → s ≡ t

abbrev pub LiveLaw : Type 0
LiveLaw = (a : List ℕ) (r s : LiveRows) → SpellsLive a r → SpellsLive a s → r ≡ s

-- what is told is what may be
pub one_text : (t : Told) (a b : Text) → IsTold t (Some a) → t ≡ Some (Some b) → b ≡ a
one_text None a b h e = cc
one_text (Some now) a b h e = cc

pub segment_agrees : SegmentsLaw → (told : ToldFiles) (s t : Segment) → t.number ≡ s.number → HasSegment (MayHold told) s → HasSegment (Tells told) t → t ≡ s
segment_agrees law told s t e may tells =
    let there : told (file.Segment s.number) ≡ Some (Some tells.bytes) = subst (λ n. told (file.Segment n) ≡ Some (Some tells.bytes)) e tells.there in
    let bytes : tells.bytes ≡ may.bytes = one_text (told (file.Segment s.number)) may.bytes tells.bytes may.there there in
    law may.bytes t s (subst (λ b. SpellsSegment b t) bytes tells.spelled) may.spelled

pub live_file_agrees : LiveLaw → (told : ToldFiles) (x : ListedSegment) (a b : List Bool) → HasLiveFile (MayHold told) x a → HasLiveFile (Tells told) x b → b ≡ a
live_file_agrees law told x a b may tells =
    let bytes : tells.bytes ≡ may.bytes = one_text (told (file.Live x.number x.file)) may.bytes tells.bytes may.there tells.there in
    ap (λ (r : LiveRows). r.live) (law may.bytes (record { number = x.number; generation = x.file; live = b }) (record { number = x.number; generation = x.file; live = a })
    (subst (λ t. SpellsLive t (record { number = x.number; generation = x.file; live = b })) bytes tells.spelled) may.spelled)

pub live_agrees : LiveLaw → (told : ToldFiles) (x : ListedSegment) (rows : ℕ) (a b : List Bool) → HasLiveRows (MayHold told) x rows a → HasLiveRows (Tells told) x rows b → b ≡ a
live_agrees law told x rows a b = by (x.file == 0)
  where
    by : (c : Bool) → cond c (a ≡ replicate rows true) (HasLiveFile (MayHold told) x a) → cond c (b ≡ replicate rows true) (HasLiveFile (Tells told) x b) → b ≡ a
    by true h k = k ∙ sym h
    by false h k = live_file_agrees law told x a b h k

leaf_agrees : SegmentsLaw → LiveLaw → (told : ToldFiles) (schema : Schema) (x : ListedSegment) (a b : Leaf) → IsLeafOf (MayHold told) schema x a → IsLeafOf (Tells told) schema x b → b ≡ a
leaf_agrees segments lives told schema x a b may tells =
    let same : b.segment ≡ a.segment = segment_agrees segments told a.segment b.segment (tells.number ∙ sym may.number) may.segment tells.segment in
    let live : b.live ≡ a.live = live_agrees lives told x (length a.segment.rows) a.live b.live may.live (subst (λ (s : Segment). HasLiveRows (Tells told) x (length s.rows) b.live) same tells.live) in
    λ i. record { segment = same i; live = live i }

pub leaves_agree : SegmentsLaw → LiveLaw → (told : ToldFiles) (schema : Schema) (xs : List ListedSegment) (ls ms : List Leaf)
    → AreLeavesOf (MayHold told) schema xs ls → AreLeavesOf (Tells told) schema xs ms → ms ≡ ls
leaves_agree segments lives told schema [] [] [] h k = refl
leaves_agree segments lives told schema [] [] (b ∷ ms) h k = absurd k
leaves_agree segments lives told schema [] (a ∷ ls) ms h k = absurd h
leaves_agree segments lives told schema (x ∷ xs) [] ms h k = absurd h
leaves_agree segments lives told schema (x ∷ xs) (a ∷ ls) [] h k = absurd k
leaves_agree segments lives told schema (x ∷ xs) (a ∷ ls) (b ∷ ms) h k = λ i. leaf_agrees segments lives told schema x a b h.0 k.0 i ∷ leaves_agree segments lives told schema xs ls ms h.1 k.1 i

-- An item that is read from a line has no line feed in what is shown of it; and the law over bytes.
use Rattle.std.proofs.Common.{◌≡◌, ℕ, List, [], ◌∷◌, length, Bool, true, false, true≢false, cond, ◌&&◌, eqb, ltb, leb, Option, Some, None, Result, Ok, refl, sym, ap, ◌∙◌, subst, arith}
use Rattle.std.specs.List.{list_all, AllByRecursion}
use Rattle.std.specs.Char.{is_ascii_graphic}
use Rattle.std.proofs.lemmas.Bool.{and_parts}
use Rattle.std.proofs.lemmas.List.Elements.{recursion_from_All}
use Rattle.serde_json.specs.Data.{Data, null, boolean, number, string, array, object, Items, Members}
use Rattle.serde_json.specs.Events.{items_len}
use Rattle.serde_json.specs.Find.{get_member}
use Rattle.cat_base.specs.declared.refusal.Refusal.{Refusal}
use Rattle.cat_base.specs.declared.refusal.Refusal.TheVariants as refusal
use Rattle.cat_base.specs.Texts.{sorted_set}
use Rattle.cat_model.specs.Text.{Text, IsOneLine}
use Rattle.cat_model.specs.Item.{Field, Kind, Schema, is_id}
use Rattle.cat_model.specs.Forms.{is_plain_byte}
use Rattle.cat_model.specs.Talk.{HasOneLines, IsShownInLines, ReadsLines}
use Rattle.cat_model.proofs.Lists.{All-weaken}
use Rattle.cat_model.proofs.TalkWhole.{answers_of_any_start}
use Rattle.cat_model.proofs.TalkLaw.{talks_of_one_start}
use Rattle.cat_items.specs.Reading.{json, keyword_fault, label_fault, labels_fault, list_fault, label_texts, value_of, contents_in}
use Rattle.cat_items.specs.Laws.{EveryAnswerIsOneTalk, HeldReadsAgreeInBytes}
use Rattle.cat_items.proofs.LoweredRuns.{All-sorted_set}
use Rattle.cat_items.proofs.Formed.{IsRight, each_right, kinds, fields_right}
use Rattle.cat_items.proofs.WholeItem.{item_whole}

-- bytes that pass a test which a line feed doesn't
tested_line : (p : ℕ → Bool) (t : Text) → p 10 ≡ false → list_all p t ≡ true → IsOneLine t
tested_line p [] none h = tt
tested_line p (b ∷ t) none h =
    let parts = and_parts (p b) (list_all p t) h in
    (λ e. true≢false (sym parts.0 ∙ ap p e ∙ none), tested_line p t none parts.1)

id_line : (t : Text) → is_id t ≡ true → IsOneLine t
id_line t h = tested_line is_ascii_graphic t refl (and_parts (ltb 0 (length t) && leb (length t) 64) (list_all is_ascii_graphic t) h).1

keyword_line : (t : Text) → keyword_fault t ≡ None → IsOneLine t
keyword_line t right = by (ltb 128 (length t)) (list_all is_plain_byte t) refl right
  where
    by : (long plain : Bool) → list_all is_plain_byte t ≡ plain → cond long (Some refusal.Large) (cond plain None (Some refusal.Kind)) ≡ None → IsOneLine t
    by true plain is_plain right = absurd (cc)
    by false true is_plain right = tested_line is_plain_byte t refl is_plain
    by false false is_plain right = absurd (cc)

label_line : (t : Text) → label_fault t ≡ None → IsOneLine t
label_line t right = by (eqb (length t) 0) right
  where
    by : (empty : Bool) → cond empty (Some refusal.Kind) (keyword_fault t) ≡ None → IsOneLine t
    by true right = absurd (cc)
    by false right = keyword_line t right

labels_line : (ds : Items) → list_fault ds ≡ None → AllByRecursion IsOneLine (sorted_set (label_texts ds))
labels_line ds right = by (ltb 64 (items_len ds)) right
  where
    by : (many : Bool) → cond many (Some refusal.Large) (labels_fault ds) ≡ None → AllByRecursion IsOneLine (sorted_set (label_texts ds))
    by true right = absurd (cc)
    by false right = All-weaken (λ s. label_fault s ≡ None) IsOneLine label_line (sorted_set (label_texts ds)) (recursion_from_All (λ s. label_fault s ≡ None) (sorted_set (label_texts ds)) (All-sorted_set (λ s. label_fault s ≡ None) (label_texts ds) (each_right ds right)))

value_line : (k : Kind) (o : Option Data) → IsRight k o → HasOneLines (value_of k o)
value_line Kind.text o right = tt
value_line Kind.keyword None right = tt
value_line Kind.keyword (Some null) right = tt
value_line Kind.keyword (Some (boolean b)) right = tt
value_line Kind.keyword (Some (number n)) right = tt
value_line Kind.keyword (Some (string s)) right = keyword_line s right
value_line Kind.keyword (Some (array ds)) right = tt
value_line Kind.keyword (Some (object ms)) right = tt
value_line Kind.number o right = tt
value_line Kind.facet None right = tt
value_line Kind.facet (Some null) right = tt
value_line Kind.facet (Some (boolean b)) right = tt
value_line Kind.facet (Some (number n)) right = tt
value_line Kind.facet (Some (string s)) right = tt
value_line Kind.facet (Some (array ds)) right = labels_line ds right
value_line Kind.facet (Some (object ms)) right = tt

parts_line : (gs : List Field) (ms : Members) → AllByRecursion (λ g. IsRight g.kind (get_member g.name ms)) gs → AllByRecursion (λ p. HasOneLines p.content) (contents_in gs ms)
parts_line [] ms right = tt
parts_line (g ∷ gs) ms right = (value_line g.kind (get_member g.name ms) right.0, parts_line gs ms right.1)

pub reads_lines : ReadsLines json
reads_lines fs bytes i ok one is =
    let w = item_whole fs bytes i is in
    let parts = parts_line fs w.members (fields_right fs fs w.members w.right ok.named (kinds fs ok.rising)) in
    subst IsShownInLines w.is (record { id = id_line w.id w.form; source = one; fields = parts })

pub answers_one_talk : EveryAnswerIsOneTalk
answers_one_talk = answers_of_any_start json reads_lines

pub bytes_agree : HeldReadsAgreeInBytes
bytes_agree = talks_of_one_start json reads_lines

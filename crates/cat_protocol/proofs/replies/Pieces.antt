-- Lines of replies in pieces.
use Rattle.std.proofs.Common.{◌≡◌, ℕ, ◌+◌, List, [], ◌∷◌, ◌++◌, ◌<◌, codes, length, take, drop, get_or, sym, ap, ◌∙◌, append_assoc, append-nil}
use Rattle.std.specs.Prelude.{Option, map}
use Rattle.std.specs.List.{flat_map}
use Rattle.std.specs.Fmt.{decimal}
use Rattle.std.specs.Io.KnownBytes.{Appends}
use Rattle.cat_model.specs.Text.{Text}
use Rattle.cat_model.specs.Lines.{line_text, spaced, entry_words, key_text, counted_words, segment_words}
use Rattle.cat_model.specs.Page.{Entry}
use Rattle.cat_model.specs.Facets.{Counted}
use Rattle.cat_model.specs.Served.{AppendsFront}
use Rattle.cat_directory.specs.Names.{file_text}
use Rattle.cat_directory.specs.declared.name.FileName.{FileName}
use Rattle.cat_protocol.specs.sending.Out.{PassesOn}
use Rattle.cat_protocol.proofs.sending.Written.{front_before, front_behind, flat_map_more, flat_map_split, gathered_before, gathered_front, both_taken}
use Rattle.cat_protocol.specs.replies.Reply.{segment_stat_of}
use Rattle.cat_protocol.specs.declared.replies.news.SegmentStat.{SegmentStat}
use Rattle.cat_protocol.specs.replies.Words.{word_text, behind_space}
use Rattle.cat_protocol.specs.declared.replies.words.Word.{Word}

-- ---- a line

spaced_words : (first : Text) (words : List Word) → spaced (first ∷ map word_text words) ≡ first ++ flat_map behind_space words
spaced_words first [] = sym (append-nil first)
spaced_words first (word ∷ words) = ap (λ l. first ++ 32 ∷ l) (spaced_words (word_text word) words)

pub line_in_pieces : (session : ℕ) (words : List Word)
    → line_text (decimal session ∷ map word_text words) ≡ decimal session ++ (flat_map behind_space words ++ codes "\n")
line_in_pieces session words =
    ap (λ l. l ++ codes "\n") (spaced_words (decimal session) words) ∙ append_assoc (decimal session) (flat_map behind_space words) (codes "\n")

-- ---- lists

-- what the elements before one are written as went out, and a front of what it is written as itself
pub front_within : {X : Type 0} (f : X → Text) (xs : List X) (i : ℕ) (d : X) (a b c : Option Text) → i < length xs → Appends a b (flat_map f (take i xs))
    → AppendsFront b c (f (get_or xs i d)) → AppendsFront a c (flat_map f xs)
front_within f xs i d a b c h before part = rw (flat_map_split f xs i d h) (front_behind _ _ _ _ _ before (front_before _ part))

-- the elements before one were taken in, and of all that waited, with it, a front went out
pub gathered_within : {X : Type 0} (f : X → Text) (xs : List X) (i : ℕ) (d : X) (a b c : Option Text) (waited waits : Text) → i < length xs
    → PassesOn a b waited waits (flat_map f (take i xs)) → AppendsFront b c (waits ++ f (get_or xs i d)) → AppendsFront a c (waited ++ flat_map f xs)
gathered_within f xs i d a b c waited waits h before part = rw (flat_map_split f xs i d h) (gathered_front _ _ _ _ _ _ _ before (gathered_before waits (f (get_or xs i d)) (flat_map f (drop (i + 1) xs)) part))

-- one more element was taken in
pub gathered_more : {X : Type 0} (f : X → Text) (xs : List X) (i : ℕ) (d : X) (a b c : Option Text) (waited between waits : Text) → i < length xs
    → PassesOn a b waited between (flat_map f (take i xs)) → PassesOn b c between waits (f (get_or xs i d)) → PassesOn a c waited waits (flat_map f (take (i + 1) xs))
gathered_more f xs i d a b c waited between waits h before now = rw (flat_map_more f xs i d h) (both_taken _ _ _ _ _ _ _ _ before now)

-- ---- the further lines

abbrev pub entry_line : Text → Entry → Text
entry_line session entry = line_text (session ∷ entry_words entry)

abbrev pub counted_line : Text → Counted → Text
counted_line session counted = line_text (session ∷ counted_words counted)

abbrev pub name_line : ℕ → FileName → Text
name_line session name = line_text (decimal session ∷ file_text name ∷ [])

abbrev pub segment_line : ℕ → SegmentStat → Text
segment_line session segment = line_text (decimal session ∷ segment_words (segment_stat_of segment))

-- ---- the lines of a hit and of a label, by their words

abbrev pub key_on : Text → Text
key_on key = (32 ∷ key) ++ codes "\n"

abbrev pub id_on : Text → Text → Text
id_on id key = (32 ∷ id) ++ key_on key

pub entry_in_pieces : (session : Text) (entry : Entry) (number : ℕ) (id key : Text) → number ≡ entry.number → id ≡ entry.id → key ≡ key_text entry.key
    → entry_line session entry ≡ (session ++ 32 ∷ decimal number) ++ id_on id key
entry_in_pieces session entry number id key n i k = rw (n, i, k) (simp append_assoc)

pub counted_in_pieces : (session : Text) (counted : Counted) (count : ℕ) (label : Text) → count ≡ counted.count → label ≡ counted.label
    → counted_line session counted ≡ (session ++ 32 ∷ decimal count) ++ key_on label
counted_in_pieces session counted count label c l = rw (c, l) (simp append_assoc)

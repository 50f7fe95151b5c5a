-- Texts that are made of pieces, one behind another.
use Rattle.std.proofs.Common.{◌≡◌, ℕ, ◌+◌, ◌≤◌, ◌<◌, List, [], ◌∷◌, ◌++◌, codes, length, take, refl, sym, ap, ◌∙◌, append_assoc, append-nil, get_or}
use Rattle.std.specs.Prelude.{Ok, map}
use Rattle.std.specs.List.{flat_map}
use Rattle.std.specs.Fmt.{decimal}
use Rattle.std.proofs.lemmas.List.{take_all, take_more}
use Rattle.std.proofs.lemmas.List.Concat.{flat_map-append}
use Rattle.cat_model.specs.Text.{Text}
use Rattle.cat_model.specs.Lines.{line_text, counted_words, entry_words, reply_text}
use Rattle.cat_model.specs.Page.{Entry, Page}
use Rattle.cat_model.specs.Answer.{Found}
use Rattle.cat_model.specs.Run as run
use Rattle.cat_service_tests.specs.plain.Counts.{counted_of, facets_told}
use Rattle.cat_service_tests.specs.declared.plain.counts.Counts.{Counts}
use Rattle.cat_service_tests.specs.declared.plain.counts.LabelCount.{LabelCount}

-- ---- lists of lines

pub flat_map_more : {X Y : Type 0} (f : X → List Y) (xs : List X) (i : ℕ) (d : X) → i < length xs → flat_map f (take (i + 1) xs) ≡ flat_map f (take i xs) ++ f (get_or xs i d)
flat_map_more f xs i d h =
    ap (flat_map f) (take_more xs i d h) ∙ flat_map-append f (take i xs) (get_or xs i d ∷ []) ∙ ap (λ l. flat_map f (take i xs) ++ l) (append-nil (f (get_or xs i d)))

pub flat_map-map : {X Y : Type 0} (f : Y → Text) (g : X → Y) (xs : List X) → flat_map f (map g xs) ≡ flat_map (λ x. f (g x)) xs
flat_map-map f g [] = refl
flat_map-map f g (x ∷ xs) = ap (λ l. f (g x) ++ l) (flat_map-map f g xs)

-- a piece stands behind those so far
pub pieces_more : {X Y : Type 0} (f : X → List Y) (xs : List X) (i : ℕ) (d : X) (old so_far new : List Y) → i < length xs
    → so_far ≡ old ++ flat_map f (take i xs) → new ≡ so_far ++ f (get_or xs i d) → new ≡ old ++ flat_map f (take (i + 1) xs)
pieces_more f xs i d old so_far new lt before now =
    now ∙ ap (λ l. l ++ f (get_or xs i d)) before ∙ append_assoc old (flat_map f (take i xs)) (f (get_or xs i d)) ∙ ap (λ l. old ++ l) (sym (flat_map_more f xs i d lt))

-- all of them do
pub pieces_all : {X Y : Type 0} (f : X → List Y) (xs : List X) (i : ℕ) (old so_far : List Y) → length xs ≤ i → so_far ≡ old ++ flat_map f (take i xs) → so_far ≡ old ++ flat_map f xs
pieces_all f xs i old so_far ended before = before ∙ ap (λ l. old ++ flat_map f l) (take_all i xs ended)

-- ---- the lines of replies

abbrev pub entry_line : Text → Entry → Text
entry_line session entry = line_text (session ∷ entry_words entry)

abbrev pub label_line : Text → LabelCount → Text
label_line session counted = line_text (session ∷ counted_words (counted_of counted))

page_in_lines : (session : ℕ) (page : Page)
    → reply_text session (Ok (run.Answer.found (Found.page page)))
    ≡ line_text (decimal session ∷ codes "OK" ∷ decimal (length page.entries) ∷ decimal page.total ∷ []) ++ flat_map (entry_line (decimal session)) page.entries
page_in_lines session page = ap (λ l. line_text (decimal session ∷ codes "OK" ∷ decimal (length page.entries) ∷ decimal page.total ∷ []) ++ l) (flat_map-map (λ words. line_text (decimal session ∷ words)) entry_words page.entries)

counts_in_lines : (session : ℕ) (f : Counts)
    → reply_text session (Ok (run.Answer.found (Found.facets (facets_told f))))
    ≡ line_text (decimal session ∷ codes "OK" ∷ decimal f.matching ∷ decimal f.met ∷ []) ++ flat_map (label_line (decimal session)) f.counts.items
counts_in_lines session f =
    ap (λ l. line_text (decimal session ∷ codes "OK" ∷ decimal f.matching ∷ decimal f.met ∷ []) ++ l)
    (flat_map-map (λ words. line_text (decimal session ∷ words)) counted_words (map counted_of f.counts.items) ∙ flat_map-map (λ c. line_text (decimal session ∷ counted_words c)) counted_of f.counts.items)

-- the first line of an answer of several, with two numbers
abbrev pub totals_line : Text → ℕ → ℕ → Text
totals_line session first second = line_text (session ∷ codes "OK" ∷ decimal first ∷ decimal second ∷ [])

-- the lines stand behind the first one
pub page_behind : (s : ℕ) (session : Text) (page : Page) (shown total : ℕ) (old mid new : Text) (entries : List Entry) → session ≡ decimal s
    → shown ≡ length page.entries → total ≡ page.total → entries ≡ page.entries → mid ≡ old ++ totals_line session shown total
    → new ≡ mid ++ flat_map (entry_line session) entries → new ≡ old ++ reply_text s (Ok (run.Answer.found (Found.page page)))
page_behind s session page shown total old mid new entries is count whole all first lines =
    lines ∙ (rw (first, is, count, whole, all) (append_assoc old _ _ ∙ ap (λ l. old ++ l) (sym (page_in_lines s page))))

pub counts_behind : (s : ℕ) (session : Text) (f : Counts) (old mid new : Text) (counts : List LabelCount) → session ≡ decimal s
    → counts ≡ f.counts.items → mid ≡ old ++ totals_line session f.matching f.met → new ≡ mid ++ flat_map (label_line session) counts
    → new ≡ old ++ reply_text s (Ok (run.Answer.found (Found.facets (facets_told f))))
counts_behind s session f old mid new counts is all first lines =
    lines ∙ (rw (first, is, all) (append_assoc old _ _ ∙ ap (λ l. old ++ l) (sym (counts_in_lines s f))))

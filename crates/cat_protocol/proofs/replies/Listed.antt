-- Replies of several lines, as their first line and those behind it.
use Rattle.std.proofs.Common.{◌≡◌, ℕ, List, [], ◌∷◌, ◌++◌, codes, length, refl, sym, ap, subst, ◌∙◌}
use Rattle.std.proofs.lemmas.List.{length-map}
use Rattle.std.specs.Prelude.{Option, Result, map, Ok}
use Rattle.std.specs.Result.{IsErr}
use Rattle.std.specs.List.{flat_map}
use Rattle.std.specs.Fmt.{decimal}
use Rattle.std.specs.Io.KnownBytes.{Appends}
use Rattle.cat_model.specs.Text.{Text}
use Rattle.cat_model.specs.Lines.{line_text, reply_text, entry_words, counted_words, segment_words}
use Rattle.cat_model.specs.Page.{Entry, Page}
use Rattle.cat_model.specs.Facets.{Counted, Facets}
use Rattle.cat_model.specs.Answer.{Found}
use Rattle.cat_model.specs.Served.{AppendsFront}
use Rattle.cat_model.specs.Run as run
use Rattle.cat_directory.specs.Names.{file_text}
use Rattle.cat_directory.specs.declared.name.FileName.{FileName}
use Rattle.cat_protocol.specs.sending.Out.{PassesOn, Sent}
use Rattle.cat_protocol.proofs.sending.Written.{flat_map-map, both_taken, front_before, gathered_before, gathered_front, gathered_sent, sent_at_fault, sent_behind, unwaited}
use Rattle.cat_protocol.specs.replies.Reply.{segment_stat_of, stat_of}
use Rattle.cat_protocol.specs.replies.Words.{word_text}
use Rattle.cat_protocol.specs.declared.replies.words.Word.{Word}
use Rattle.cat_protocol.specs.declared.replies.news.Stat.{Stat}
use Rattle.cat_protocol.specs.declared.replies.news.SegmentStat.{SegmentStat}
use Rattle.cat_protocol.proofs.replies.Pieces.{entry_line, counted_line, name_line, segment_line}

-- the first line, by its words behind OK
abbrev pub ok_line : ℕ → List Text → Text
ok_line session words = line_text (decimal session ∷ codes "OK" ∷ words)

abbrev session_line : ℕ → List Text → Text
session_line session words = line_text (decimal session ∷ words)

-- The page was sent, or cut in its first line or behind it, where an equation tells the words of that line.
module _ (session : ℕ) (words : List Word) (page : Page) (entries : List Entry) where
  abbrev page_heads : List Text
  page_heads = codes "OK" ∷ decimal (length page.entries) ∷ decimal page.total ∷ []

  abbrev first_line : Text
  first_line = line_text (decimal session ∷ map word_text words)

  abbrev entry_lines : List Entry → Text
  entry_lines = flat_map (entry_line (decimal session))

  page_by : map word_text words ≡ page_heads → entries ≡ page.entries → reply_text session (Ok (run.Answer.found (Found.page page))) ≡ first_line ++ entry_lines entries
  page_by w e =
      ap (λ l. session_line session page_heads ++ l) (flat_map-map (session_line session) entry_words page.entries)
      ∙ ap (λ l. session_line session page_heads ++ entry_lines l) (sym e) ∙ ap (λ l. session_line session l ++ entry_lines entries) (sym w)

  pub page_sent : {T E : Type 0} (a b c d : Option Text) (waited first waits : Text) (r : Result T E)
      → waited ≡ [] → PassesOn a b waited first first_line → PassesOn b c first waits (entry_lines entries) → Sent c d r waits
      → map word_text words ≡ page_heads → entries ≡ page.entries → Sent a d r (reply_text session (Ok (run.Answer.found (Found.page page))))
  page_sent a b c d waited first waits r none one two last w e =
      subst (Sent a d r) (sym (page_by w e))
      (gathered_sent a c d waited waits r (first_line ++ entry_lines entries) none (both_taken a b c waited first waits first_line (entry_lines entries) one two) last)

  pub page_cut : {T E : Type 0} (a b : Option Text) (waited : Text) (r : Result T E)
      → waited ≡ [] → AppendsFront a b (waited ++ first_line) → IsErr r
      → map word_text words ≡ page_heads → entries ≡ page.entries → Sent a b r (reply_text session (Ok (run.Answer.found (Found.page page))))
  page_cut a b waited r none part fails w e =
      subst (Sent a b r) (sym (page_by w e))
      (sent_at_fault r fails (unwaited waited (first_line ++ entry_lines entries) none (gathered_before waited first_line (entry_lines entries) part)))

  pub page_cut_behind : {T E : Type 0} (a b c : Option Text) (waited first : Text) (r : Result T E)
      → waited ≡ [] → PassesOn a b waited first first_line → AppendsFront b c (first ++ entry_lines entries) → IsErr r
      → map word_text words ≡ page_heads → entries ≡ page.entries → Sent a c r (reply_text session (Ok (run.Answer.found (Found.page page))))
  page_cut_behind a b c waited first r none one part fails w e =
      subst (Sent a c r) (sym (page_by w e))
      (sent_at_fault r fails (unwaited waited (first_line ++ entry_lines entries) none (gathered_front a b c waited first first_line (entry_lines entries) one part)))

-- the words of its first line, by its two numbers
pub page_words_by : (shown total : ℕ) (page : Page) → shown ≡ length page.entries → total ≡ page.total
    → codes "OK" ∷ decimal shown ∷ decimal total ∷ [] ≡ codes "OK" ∷ decimal (length page.entries) ∷ decimal page.total ∷ []
page_words_by shown total page s t = rw (s, t) refl

pub counts_listed : (session matching met : ℕ) (facets : Facets) (counts : List Counted) → matching ≡ facets.matching → met ≡ facets.met → counts ≡ facets.counts
    → reply_text session (Ok (run.Answer.found (Found.facets facets)))
    ≡ ok_line session (decimal matching ∷ decimal met ∷ []) ++ flat_map (counted_line (decimal session)) counts
counts_listed session matching met facets counts m k e =
    rw (m, k, e) (ap (λ l. ok_line session (decimal facets.matching ∷ decimal facets.met ∷ []) ++ l) (flat_map-map (session_line session) counted_words facets.counts))

pub names_listed : (session : ℕ) (names : List FileName)
    → reply_text session (Ok (run.Answer.names (map file_text names))) ≡ ok_line session (decimal (length names) ∷ []) ++ flat_map (name_line session) names
names_listed session names =
    ap (λ n. ok_line session (decimal n ∷ []) ++ flat_map (session_line session) (map (λ name. name ∷ []) (map file_text names))) (length-map names file_text)
    ∙ ap (λ l. ok_line session (decimal (length names) ∷ []) ++ l)
    (flat_map-map (session_line session) (λ name. name ∷ []) (map file_text names) ∙ flat_map-map (λ name. session_line session (name ∷ [])) file_text names)

-- A STAT was sent, or cut in its first line, where an equation tells the words of that line.
module _ (session : ℕ) (words : List Word) (s : Stat) (segments : List SegmentStat) where
  abbrev stat_heads : ℕ → List Text
  stat_heads many = codes "OK" ∷ decimal s.writes ∷ decimal s.buffered ∷ decimal many ∷ decimal s.views ∷ decimal s.cached ∷ decimal s.pending ∷ []

  abbrev stat_line : Text
  stat_line = line_text (decimal session ∷ map word_text words)

  abbrev segment_lines : List SegmentStat → Text
  segment_lines = flat_map (segment_line session)

  stat_by : map word_text words ≡ stat_heads (length s.segments.items) → segments ≡ s.segments.items
      → reply_text session (Ok (run.Answer.news (run.News.state (stat_of s)))) ≡ stat_line ++ segment_lines segments
  stat_by w e =
      ap (λ n. session_line session (stat_heads n) ++ flat_map (session_line session) (map segment_words (map segment_stat_of s.segments.items))) (length-map s.segments.items segment_stat_of)
      ∙ ap (λ l. session_line session (stat_heads (length s.segments.items)) ++ l)
      (flat_map-map (session_line session) segment_words (map segment_stat_of s.segments.items) ∙ flat_map-map (λ p. session_line session (segment_words p)) segment_stat_of s.segments.items)
      ∙ ap (λ l. session_line session (stat_heads (length s.segments.items)) ++ segment_lines l) (sym e) ∙ ap (λ l. session_line session l ++ segment_lines segments) (sym w)

  pub stat_sent : {T E : Type 0} (a b c : Option Text) (r : Result T E) → Appends a b stat_line → Sent b c r (segment_lines segments)
      → map word_text words ≡ stat_heads (length s.segments.items) → segments ≡ s.segments.items → Sent a c r (reply_text session (Ok (run.Answer.news (run.News.state (stat_of s)))))
  stat_sent a b c r before more w e = subst (Sent a c r) (sym (stat_by w e)) (sent_behind a b c r stat_line (segment_lines segments) before more)

  pub stat_cut : {T E : Type 0} (a b : Option Text) (r : Result T E) → AppendsFront a b stat_line → IsErr r
      → map word_text words ≡ stat_heads (length s.segments.items) → segments ≡ s.segments.items → Sent a b r (reply_text session (Ok (run.Answer.news (run.News.state (stat_of s)))))
  stat_cut a b r part fails w e = subst (Sent a b r) (sym (stat_by w e)) (sent_at_fault r fails (front_before (segment_lines segments) part))

-- the words of its first line, by its six numbers
pub stat_words_by : (writes buffered many views cached pending : ℕ) (s : Stat)
    → writes ≡ s.writes → buffered ≡ s.buffered → many ≡ length s.segments.items → views ≡ s.views → cached ≡ s.cached → pending ≡ s.pending
    → codes "OK" ∷ decimal writes ∷ decimal buffered ∷ decimal many ∷ decimal views ∷ decimal cached ∷ decimal pending ∷ []
    ≡ codes "OK" ∷ decimal s.writes ∷ decimal s.buffered ∷ decimal (length s.segments.items) ∷ decimal s.views ∷ decimal s.cached ∷ decimal s.pending ∷ []
stat_words_by writes buffered many views cached pending s w b m v k p = rw (w, b, m, v, k, p) refl

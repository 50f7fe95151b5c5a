-- Portions as memory and files hold them together.
use Rattle.std.proofs.Common.{◌≡◌, ℕ, List, [], ◌∷◌, ◌++◌, length, map, take, drop, refl, ◌∙◌, ap, ap₂}
use Rattle.std.specs.List.{flat_map}
use Rattle.std.proofs.Math.Seq.{take-append_seam, drop-append_seam}
use Rattle.cat_model.specs.Text.{Text}
use Rattle.cat_model.specs.Item.{Record}
use Rattle.cat_model.specs.View.{Leaf, row_of, sourced, selected}
use Rattle.cat_ledger_laws.specs.model.Portions.{records_of}
use Rattle.cat_ledger_laws.specs.model.Stored.{joined_sources, portion_in}
use Rattle.cat_ledger_laws.specs.model.Laws.{PortionsAreRead, ViewsAreRead}

read_back : (rs : List Record) → sourced (map row_of rs) (joined_sources rs) ≡ rs
read_back [] = refl
read_back (r ∷ rs) =
    let first : take (length r.item.source) (r.item.source ++ joined_sources rs) ≡ r.item.source = take-append_seam r.item.source (joined_sources rs) in
    let rest : drop (length r.item.source) (r.item.source ++ joined_sources rs) ≡ joined_sources rs = drop-append_seam r.item.source (joined_sources rs) in
    let one : List Record → Text → List Record = λ l source. record { number = r.number; item = record { id = r.item.id; fields = r.item.fields; source = source } } ∷ l in
    ap₂ one (ap (sourced (map row_of rs)) rest ∙ read_back rs) first

pub portions_are_read : PortionsAreRead
portions_are_read schema p sources e = λ i. record { number = p.number; records = (ap (sourced (map row_of p.records)) e ∙ read_back p.records) i; live = p.live }

views_read : (sources : ℕ → Text) (leaves : List Leaf) → flat_map (λ leaf. selected leaf.live (sourced leaf.segment.rows (sources leaf.segment.number))) leaves ≡ records_of (map (portion_in sources) leaves)
views_read sources [] = refl
views_read sources (leaf ∷ leaves) = ap (λ l. selected leaf.live (sourced leaf.segment.rows (sources leaf.segment.number)) ++ l) (views_read sources leaves)

pub views_are_read : ViewsAreRead
views_are_read sources view = views_read sources view.leaves

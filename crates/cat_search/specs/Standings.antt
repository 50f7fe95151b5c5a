-- Where hits stand in the order of a sort.
use Rattle.std.specs.Prelude.{ℕ, Bool, Option, Some, None}
use Rattle.std.specs.declared.cmp.Ordering.{Ordering}
use Rattle.std.specs.declared.cmp.Ordering.TheVariants.{Less, Equal, Greater}
use Rattle.std.specs.Ordering.{is_lt, nat_cmp, ordering_then}
use Rattle.cat_model.specs.Text.{Text}
use Rattle.cat_model.specs.Page.{Entry, Key, key_cmp}

-- where a key stands in its order
pub data Rank : Type 0 where
  rising : Key → Rank
  falling : Key → Rank
  missing : Rank

-- where a hit stands among others, and its id
pub record HitStanding : Type 0 where
  pub rank : Rank
  pub number : ℕ
  pub id : Text

-- what is missing comes last
abbrev pub rank_cmp : Rank → Rank → Ordering
rank_cmp (Rank.rising a) (Rank.rising b) = key_cmp a b
rank_cmp (Rank.rising a) (Rank.falling b) = Less
rank_cmp (Rank.rising a) Rank.missing = Less
rank_cmp (Rank.falling a) (Rank.rising b) = Greater
rank_cmp (Rank.falling a) (Rank.falling b) = key_cmp b a
rank_cmp (Rank.falling a) Rank.missing = Less
rank_cmp Rank.missing (Rank.rising b) = Greater
rank_cmp Rank.missing (Rank.falling b) = Greater
rank_cmp Rank.missing Rank.missing = Equal

-- ties go by number
abbrev pub standing_before : HitStanding → HitStanding → Bool
standing_before a b = is_lt (ordering_then (rank_cmp a.rank b.rank) (nat_cmp a.number b.number))

-- the key that a rank shows
abbrev pub key_shown : Rank → Option Key
key_shown (Rank.rising k) = Some k
key_shown (Rank.falling k) = Some k
key_shown Rank.missing = None

-- the entry that a standing shows
abbrev pub entry_shown : HitStanding → Entry
entry_shown p = record { number = p.number; id = p.id; key = key_shown p.rank }

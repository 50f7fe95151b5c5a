-- What a cache ends as, once a set that it lends has been looked at.
use Rattle.std.specs.Prelude.{◌≡◌, List, ⊤}
use Rattle.std.specs.Borrow.{Fml, MutBor, follows_so}
use mathlib.Core.Option.{none}
use Rattle.cat_cached_sets.specs.contracts.cache.cache.FilterCache.{the_row}
use Rattle.cat_cached_sets.specs.cache.Cached.{CachedSet}

-- it has these entries
abbrev pub ends_as : MutBor (List CachedSet) → List CachedSet → Fml
ends_as c entries = follows_so the_row the_row c.ghost_name none (λ _ _. ⊤) (λ n. n ≡ entries)

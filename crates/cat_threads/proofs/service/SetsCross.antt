-- The cached sets may be sent to another thread, part by part.
use denote.Param.Send.{IsSend, IsSync, sendable}
use Rattle.std.proofs.Crossing.{crosses}
use Rattle.std.proofs.MapsCrossing.{crosses as maps_cross}
use Rattle.lru.proofs.Crosses.{List-send, KeyRef-send, Deed-send}
use Rattle.cat_commands.specs.cat_cached_sets.contracts.cache.key.Key as Key
use Rattle.cat_commands.specs.cat_cached_sets.contracts.cache.cache.FilterCache as FilterCache
use Rattle.cat_commands.specs.cat_cached_sets.contracts.cache.warm.Warm as Warm
use Rattle.cat_commands.specs.cat_cached_sets.contracts.filters.filters.Filters as Filters
use Rattle.cat_threads.proofs.service.SegmentsCross.{segment_send, segment_sync}
use Rattle.cat_threads.proofs.service.QueriesCross.{query_send, query_sync, set_send, set_sync}

ruleset base = (sendable, crosses, maps_cross)

key_send : IsSend (Key.the_field).row
key_send = search (base, query_send) depth 20

key_sync : IsSync (Key.the_field).row
key_sync = search (base, query_sync) depth 20

cache_send : IsSend (FilterCache.the_field).row
cache_send = search (base, key_send, key_sync, set_send, set_sync, List-send, KeyRef-send, Deed-send) depth 40

warm_send : IsSend Warm.the_row
warm_send = search (base, segment_send, segment_sync, key_send) depth 40

pub filters_send : IsSend (Filters.the_field).row
filters_send = search (base, cache_send, query_send, warm_send) depth 40

-- ---- What has to be believed, in the order of reading: each file stands on those before it. First what serving an input means, up to
-- `Served`; then what segments, their files and views are, and what a directory tells; then `Serving` and
-- `Reasons`, on which the contract of `serve` rests, and what the theorem says of every two calls, up to `Found`.
pub mod Text
pub mod Limits
pub mod Item
pub mod Words
pub mod Forms
pub mod Query
pub mod Write
pub mod Table
pub mod Grammar
pub mod Faults
pub mod Page
pub mod Facets
pub mod Answer
pub mod Run
pub mod Lines
pub mod Heard
pub mod Input
pub mod Files
pub mod Served
pub mod RowSets
pub mod Ordinals
pub mod View
pub mod SegmentFile
pub mod LiveFile
pub mod CommitFile
pub mod Merged
pub mod Window
pub mod Told
pub mod Restored
pub mod Opens
pub mod Promised
pub mod Serving
pub mod Standings
pub mod Reasons
pub mod Talk
pub mod Calls
pub mod Found
-- ---- What the contracts of single crates rest on beside these.
pub mod GlobalOrdinals
-- ---- What needs no belief: laws, each proved as the contract of a public function, samples that were judged by hand, and
-- what serves code and proofs (`Layout`, `Reader`, `Ranks`, `State`).
pub mod Layout
pub mod Reader
pub mod QueryLaws
pub mod QuerySamples
pub mod Ranks
pub mod RankLaws
pub mod State
pub mod Laws
pub mod TalkSample
pub mod ViewLaws
pub mod SegmentLaws
-- ---- The specifications below, for crates that stand on this one alone.
pub use Rattle.cat_base.specs as cat_base

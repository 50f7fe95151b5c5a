-- What the files of a commit say together, which is what an opening judges, is defined in the model; the laws here speak of it.
pub use Rattle.cat_model.specs.Restored.{AreLeavesOf, HasCommit, HasLiveFile, HasSegment, HasSources, In, IsForeign, IsLeafOf, IsRestored, Restored}

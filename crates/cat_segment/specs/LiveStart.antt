-- How a file of live rows begins.
use Rattle.std.specs.Prelude.{◌≡◌, ◌≤◌}
use Rattle.cat_model.specs.Files.{IsFileNumber}
use Rattle.cat_model.specs.Limits.{row_limit}
use Rattle.cat_segment.specs.declared.live_file.Start.{Start}

-- CLIV, the version 1, two numbers of files, and as many rows as a segment may have
pub record MayStand (start : Start) : Type 0 where
  pub magic : start.magic ≡ 1129072982
  pub version : start.version ≡ 1
  pub number : IsFileNumber start.number
  pub generation : IsFileNumber start.generation
  pub some : 1 ≤ start.rows
  pub few : start.rows ≤ row_limit

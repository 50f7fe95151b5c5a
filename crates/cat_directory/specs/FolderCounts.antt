-- How many calls of a folder have failed. The types of a file and of a listing, `F` and `D`, come with the system's.
use Rattle.std.specs.Prelude.{ℕ}
use Rattle.cat_directory.specs.declared.folder.FolderShelf.{FolderShelf}
use Rattle.cat_directory.specs.declared.folder.Folder.{Folder}

-- of a shelf
abbrev pub shelf_failures : {R F D : Type 0} → FolderShelf R F D → ℕ
shelf_failures shelf = shelf.failures

-- of a directory
abbrev pub folder_failures : {R F D : Type 0} → Folder R F D → ℕ
folder_failures folder = shelf_failures folder.shelf

use Rattle.cat_items.proofs.file_parts.Segments.{told_by_bytes}
use Rattle.cat_items.proofs.file_parts.reading.layouts_are_told_by_their_bytes.Goals as goal

pub returns : goal.returns
returns c = told_by_bytes

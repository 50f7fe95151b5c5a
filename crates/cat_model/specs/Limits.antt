-- The limits of the product by name. They are our own, and each is a constant of the code, which has its value: numbers.rt of cat_base.

-- ---- numbers

-- the last number of a write, a segment and a commit, and the last that a line may say: 2^63 - 1
pub use Rattle.cat_base.specs.declared.numbers.TheConstants.{LAST_NUMBER as last_number}
-- the last number of a session
pub use Rattle.cat_base.specs.declared.numbers.TheConstants.{LAST_SESSION as session_limit}
-- ---- lines, items and fields

-- the bytes of a line, without its end
pub use Rattle.cat_base.specs.declared.numbers.TheConstants.{MAX_LINE_BYTES as line_limit}
-- the bytes of an item's source
pub use Rattle.cat_base.specs.declared.numbers.TheConstants.{MAX_ITEM_BYTES as source_limit}
-- the bytes of an id
pub use Rattle.cat_base.specs.declared.numbers.TheConstants.{MAX_ID_BYTES as id_limit}
-- the bytes of a field's name
pub use Rattle.cat_base.specs.declared.numbers.TheConstants.{MAX_FIELD_NAME_BYTES as name_limit}
-- the fields of a schema
pub use Rattle.cat_base.specs.declared.numbers.TheConstants.{MAX_FIELDS as field_limit}
-- the bytes of a keyword or a label
pub use Rattle.cat_base.specs.declared.numbers.TheConstants.{MAX_KEYWORD_BYTES as keyword_limit}
-- the labels of an item in one field
pub use Rattle.cat_base.specs.declared.numbers.TheConstants.{MAX_LABELS as label_limit}
-- ---- reads

-- the clauses of a query
pub use Rattle.cat_base.specs.declared.numbers.TheConstants.{MAX_CLAUSES as clause_limit}
-- how deep groups nest
pub use Rattle.cat_base.specs.declared.numbers.TheConstants.{MAX_DEPTH as depth_limit}
-- the entries of a page, and the counts of a facet
pub use Rattle.cat_base.specs.declared.numbers.TheConstants.{MAX_PAGE as page_limit}
-- the recorded views
pub use Rattle.cat_base.specs.declared.numbers.TheConstants.{MAX_RECORDS as view_limit}
-- the sets of rows that are cached
pub use Rattle.cat_base.specs.declared.numbers.TheConstants.{MAX_CACHED_SETS as set_limit}
-- the queries that sets are made for
pub use Rattle.cat_base.specs.declared.numbers.TheConstants.{MAX_NOTED_QUERIES as noted_limit}
-- ---- segments and commits

-- the records in the write buffer
pub use Rattle.cat_base.specs.declared.numbers.TheConstants.{MAX_BUFFERED_ITEMS as buffer_limit}
-- the rows of a segment, and of all that one merge takes
pub use Rattle.cat_base.specs.declared.numbers.TheConstants.{MAX_ROWS as row_limit}
-- the rows that one step of a merge passes
pub use Rattle.cat_base.specs.declared.numbers.TheConstants.{MAX_STEP_ROWS as step_limit}
-- the segments that stand at once, and those of one commit
pub use Rattle.cat_base.specs.declared.numbers.TheConstants.{MAX_SEGMENTS as segment_limit}
-- the snapshots of one commit
pub use Rattle.cat_base.specs.declared.numbers.TheConstants.{MAX_SNAPSHOTS as snapshot_limit}
-- the bytes of a commit's text
pub use Rattle.cat_base.specs.declared.numbers.TheConstants.{MAX_COMMIT_TEXT_BYTES as commit_text_limit}
-- a merge joins at least so many segments
pub use Rattle.cat_base.specs.declared.numbers.TheConstants.{LEAST_MERGE_FACTOR as least_factor}
-- at most so many
pub use Rattle.cat_base.specs.declared.numbers.TheConstants.{GREATEST_MERGE_FACTOR as greatest_factor}
-- the rows of a segment of the lowest level are bounded by at least so many
pub use Rattle.cat_base.specs.declared.numbers.TheConstants.{LEAST_MERGE_MINIMUM as least_minimum}
-- at most so many
pub use Rattle.cat_base.specs.declared.numbers.TheConstants.{GREATEST_MERGE_MINIMUM as greatest_minimum}

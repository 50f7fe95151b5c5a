-- A segment may be sent to another thread and shared with one, part by part: a search that goes down through all runs out of steps.
use denote.Param.Send.{IsSend, IsSync, sendable}
use Rattle.std.proofs.Crossing.{crosses}
use Rattle.cat_base.specs.contracts.text.TextSet as TextSet
use Rattle.cat_columns.specs.contracts.Dictionary as Dictionary
use Rattle.cat_columns.specs.contracts.inverted.Terms as Terms
use Rattle.cat_commands.specs.cat_cached_sets.cat_views.cat_segment.contracts.column.Column as Column
use Rattle.cat_commands.specs.cat_cached_sets.cat_views.cat_segment.contracts.column.Keywords as Keywords
use Rattle.cat_commands.specs.cat_cached_sets.cat_views.cat_segment.contracts.column.Labels as Labels
use Rattle.cat_commands.specs.cat_cached_sets.cat_views.cat_segment.contracts.numbers.Numbers as Numbers
use Rattle.cat_commands.specs.cat_cached_sets.cat_views.cat_segment.contracts.segment.Segment as Segment
use Rattle.cat_commands.specs.cat_cached_sets.cat_views.cat_segment.cat_items.contracts.schema.Schema as Schema

ruleset base = (sendable, crosses)

set_send : IsSend TextSet.the_row
set_send = search base depth 40

set_sync : IsSync TextSet.the_row
set_sync = search base depth 40

dictionary_send : IsSend (Dictionary.the_field).row
dictionary_send = search (base, set_send, set_sync) depth 40

dictionary_sync : IsSync (Dictionary.the_field).row
dictionary_sync = search (base, set_send, set_sync) depth 40

terms_send : IsSend (Terms.the_field).row
terms_send = search (base, dictionary_send) depth 40

terms_sync : IsSync (Terms.the_field).row
terms_sync = search (base, dictionary_sync) depth 40

keywords_send : IsSend (Keywords.the_field).row
keywords_send = search (base, dictionary_send, terms_send) depth 40

keywords_sync : IsSync (Keywords.the_field).row
keywords_sync = search (base, dictionary_sync, terms_sync) depth 40

numbers_send : IsSend (Numbers.the_field).row
numbers_send = search base depth 40

numbers_sync : IsSync (Numbers.the_field).row
numbers_sync = search base depth 40

labels_send : IsSend (Labels.the_field).row
labels_send = search (base, dictionary_send, terms_send) depth 40

labels_sync : IsSync (Labels.the_field).row
labels_sync = search (base, dictionary_sync, terms_sync) depth 40

column_send : IsSend Column.the_row
column_send = search (base, terms_send, keywords_send, numbers_send, labels_send) depth 40

column_sync : IsSync Column.the_row
column_sync = search (base, terms_sync, keywords_sync, numbers_sync, labels_sync) depth 40

pub schema_send : IsSend (Schema.the_field).row
schema_send = search base depth 40

pub schema_sync : IsSync (Schema.the_field).row
schema_sync = search base depth 40

pub segment_send : IsSend Segment.the_row
segment_send = search (base, schema_send, column_send) depth 40

pub segment_sync : IsSync Segment.the_row
segment_sync = search (base, schema_sync, column_sync) depth 40

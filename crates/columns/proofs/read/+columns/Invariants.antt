use Rattle.std.proofs.Common.{◌+◌, ◌*◌}
use Rattle.items.specs.Reading.{file}
use Rattle.items.proofs.Siblings.{Going}
use Rattle.columns.specs.Entries.{column_table}
use Rattle.columns.proofs.Siblings.{column_family}
use Rattle.columns.proofs.read.+columns.Given as goal

-- each level goes through five functions
abbrev pub decreases-read_columns : goal.decreases-read_columns
decreases-read_columns l = 5 * l.level

abbrev pub decreases-read_column : goal.decreases-read_column
decreases-read_column l = 5 * l.level + 4

abbrev pub decreases-read_body : goal.decreases-read_body
decreases-read_body l = 5 * l.level + 3

abbrev pub decreases-read_list : goal.decreases-read_list
decreases-read_list l = 5 * l.level + 2

abbrev pub decreases-read_map : goal.decreases-read_map
decreases-read_map l = 5 * l.level + 2

abbrev pub decreases-read_children : goal.decreases-read_children
decreases-read_children l = 5 * l.level + 1

abbrev pub invariant-read_columns-loop : goal.invariant-read_columns-loop
invariant-read_columns-loop l = Going column_table (column_family (file l.initial.to.reader.now)) l.initial.to l.to l.level l.count l.holder l.holder l.counter

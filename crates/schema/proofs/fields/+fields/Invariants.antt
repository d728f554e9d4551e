use Rattle.std.proofs.Common.{◌+◌, ◌*◌}
use Rattle.schema.proofs.fields.+fields.Given as goal
use Rattle.items.proofs.Siblings.{Going}
use Rattle.schema.specs.Fields.{field_table}
use Rattle.schema.proofs.Siblings.{field_family}

-- each level goes through three functions
abbrev pub decreases-read_fields : goal.decreases-read_fields
decreases-read_fields l = 3 * l.level

abbrev pub decreases-read_field : goal.decreases-read_field
decreases-read_field l = 3 * l.level + 2

abbrev pub decreases-read_kind : goal.decreases-read_kind
decreases-read_kind l = 3 * l.level + 1

abbrev pub invariant-read_fields-loop : goal.invariant-read_fields-loop
invariant-read_fields-loop l = Going field_table field_family l.initial.to l.to l.level l.count l.key l.is_key l.counter

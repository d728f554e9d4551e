-- The slots are counted in two parts: whole bytes, and what is left.
use Rattle.std.proofs.Common.{◌-◌, ◌*◌, sym, ap, arith}
use Rattle.batch.specs.Views.{column_of, maybe_part_of}
use Rattle.info.proofs.Tallies.{none-null, unset_bound, unset_bytes, unset_parts}
use Rattle.info.proofs.nulls.count_nulls.Goals as goal

pub returns-in_default : goal.returns-in_default
returns-in_default c = sym (none-null (column_of c.args.column) (ap maybe_part_of c.in_default.is))

pub overflow_add-result : goal.overflow_add-result
overflow_add-result c =
    let bs = c.in-Some.validity.now in
    let w = c.min-whole.result in
    let front = unset_bytes bs w (omega (arith, c.min-whole.ensures)) in
    let few = unset_bound bs 0 (8 * w) in
    let rest = unset_bound bs (8 * w) (c.args.column.len - 8 * w) in
    omega (arith, front, few, rest, c.ranges, c.min-whole.ensures, c.unset_in_bytes-in_bytes.ensures, c.unset_in_slots-in_rest.ensures)

pub returns : goal.returns
returns c =
    let x = column_of c.args.column in
    let bs = c.in-Some.validity.now in
    let w = c.min-whole.result in
    let front = unset_bytes bs w (omega (arith, c.min-whole.ensures)) in
    let all = unset_parts x bs w (ap maybe_part_of c.in-Some.is) (omega (arith, c.min-whole.ensures)) in
    omega (arith, front, all, c.unset_in_bytes-in_bytes.ensures, c.unset_in_slots-in_rest.ensures)

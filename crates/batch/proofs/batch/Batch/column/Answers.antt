use Rattle.std.proofs.Common.{ap, ◌∙◌, inl, inr, arith}
use Rattle.std.specs.Option.{option_map}
use Rattle.columns.specs.Entries.{column_table}
use Rattle.batch.specs.Batches.{model}
use Rattle.batch.specs.Views.{column_seen}
use Rattle.batch.proofs.Seen.{nothing_there, entry_is, fitting, column_is}
use Rattle.batch.proofs.batch.Batch.column.Goals as goal

pub returns-in_err-entry-clause-shows : goal.returns-in_err-entry-clause-shows
returns-in_err-entry-clause-shows c =
    ap (option_map column_seen) c.from_residual.ensures
    ∙ nothing_there c.args.n (model c.args.self.now).columns (elim c.in_err-entry.ensures [ inl z ↦ inl z | inr p ↦ inr (omega (arith, p, c.args.self.now.counted)) ])

pub part-name-requires : goal.part-name-requires
part-name-requires c =
    let self = c.args.self.now in
    let e = c.in_ok-entry.ensures in
    (fitting self.standing c.args.n e.0.0 (omega (arith, e.0.1, self.counted)) c.in_ok-entry.entry (entry_is column_table _ _ c.args.n _ c.deref.ensures.value e.1)).name

pub maybe_part-id_text-requires : goal.maybe_part-id_text-requires
maybe_part-id_text-requires c =
    let self = c.args.self.now in
    let e = c.in_ok-entry.ensures in
    (fitting self.standing c.args.n e.0.0 (omega (arith, e.0.1, self.counted)) c.in_ok-entry.entry (entry_is column_table _ _ c.args.n _ c.deref.ensures.value e.1)).id

pub maybe_part-validity-requires : goal.maybe_part-validity-requires
maybe_part-validity-requires c =
    let self = c.args.self.now in
    let e = c.in_ok-entry.ensures in
    (fitting self.standing c.args.n e.0.0 (omega (arith, e.0.1, self.counted)) c.in_ok-entry.entry (entry_is column_table _ _ c.args.n _ c.deref.ensures.value e.1)).validity

pub offset_buffer-offsets-requires : goal.offset_buffer-offsets-requires
offset_buffer-offsets-requires c =
    let self = c.args.self.now in
    let e = c.in_ok-entry.ensures in
    (fitting self.standing c.args.n e.0.0 (omega (arith, e.0.1, self.counted)) c.in_ok-entry.entry (entry_is column_table _ _ c.args.n _ c.deref.ensures.value e.1)).offsets

pub part-body-requires : goal.part-body-requires
part-body-requires c =
    let self = c.args.self.now in
    let e = c.in_ok-entry.ensures in
    (fitting self.standing c.args.n e.0.0 (omega (arith, e.0.1, self.counted)) c.in_ok-entry.entry (entry_is column_table _ _ c.args.n _ c.deref.ensures.value e.1)).body

pub returns-clause-shows : goal.returns-clause-shows
returns-clause-shows c =
    let self = c.args.self.now in
    let e = c.in_ok-entry.ensures in
    column_is self.standing c.args.n e.0.0 (omega (arith, e.0.1, self.counted)) c.in_ok-entry.entry (entry_is column_table _ _ c.args.n _ c.deref.ensures.value e.1) _ _ _ _ _
    c.part-name.ensures c.maybe_part-id_text.ensures c.maybe_part-validity.ensures c.offset_buffer-offsets.ensures.shows c.part-body.ensures

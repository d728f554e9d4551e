use Rattle.std.proofs.Common.{◌≡◌, ap, ◌∙◌, inl, inr, arith, w32, to_z, of_z, rules}
use Rattle.std.specs.Option.{option_map}
use Rattle.schema.specs.Fields.{field_table}
use Rattle.batch.specs.Batches.{model}
use Rattle.batch.specs.Views.{field_seen}
use Rattle.batch.proofs.Seen.{nothing_there, entry_is, name-inside, field_is}
use Rattle.batch.proofs.batch.Batch.field.Goals as goal

pub returns-in_err-entry : goal.returns-in_err-entry
returns-in_err-entry c =
    ap (option_map field_seen) c.from_residual.ensures
    ∙ nothing_there c.args.n (model c.args.self.now).fields (elim c.in_err-entry.ensures [ inl z ↦ inl z | inr p ↦ inr (omega (arith, p, c.args.self.now.counted)) ])

pub part-name-requires : goal.part-name-requires
part-name-requires c =
    let self = c.args.self.now in
    let e = c.in_ok-entry.ensures in
    name-inside self.standing c.args.n e.0.0 (omega (arith, e.0.1, self.counted)) c.in_ok-entry.entry (entry_is field_table _ _ c.args.n _ c.deref.ensures.value e.1)

pub returns : goal.returns
returns c =
    let self = c.args.self.now in
    let e = c.in_ok-entry.ensures in
    let z : to_z w32 (of_z w32 c.in_ok-entry.entry.id) ≡ c.in_ok-entry.entry.id = search rules in
    field_is self.standing c.args.n e.0.0 (omega (arith, e.0.1, self.counted)) c.in_ok-entry.entry (entry_is field_table _ _ c.args.n _ c.deref.ensures.value e.1) _ _ z c.part-name.ensures

-- Work tables with nothing in them.
use Rattle.std.specs.Prelude.{◌≡◌, ℕ, replicate, vec_items}
use Rattle.schema.specs.Fields as fields
use Rattle.columns.specs.Entries as columns
use Rattle.batch.specs.declared.tables.Tables.{Tables}

-- so many blank entries for fields, and so many for columns
pub record Blank (nf nc : ℕ) (t : Tables) : Type 0 where
  pub fields : vec_items t.fields ≡ replicate nf fields.blank
  pub columns : vec_items t.columns ≡ replicate nc columns.blank

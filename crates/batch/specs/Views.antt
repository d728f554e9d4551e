-- What the views of fields and columns say.
use Rattle.std.specs.Prelude.{◌≡◌, ℕ, ◌+◌, ◌*◌, ◌/◌, List, length, Option}
use Rattle.std.specs.Borrow.{Bor}
use Rattle.std.specs.Option.{option_map}
use Rattle.meaning.specs.Forest.{Forest, size}
use Rattle.meaning.specs.Model as model
use Rattle.meaning.specs.Columns.{values}
use Rattle.items.specs.Cuts.{placed}
use Rattle.items.specs.Widths.{wide}
use Rattle.schema.specs.Forms.{shape_of}
use Rattle.columns.specs.Codes.{code_meant}
use Rattle.schema.specs.declared.types.Field.{Field as Field'}
use Rattle.columns.specs.declared.entry.Column.{Column as Column'}
use Rattle.batch.specs.declared.view.OffsetBuffer.{OffsetBuffer}

-- a field and a column with the bytes of their parts
abbrev pub Field : Type 0
Field = Field' (Bor (List ℕ))

abbrev pub Column : Type 0
Column = Column' (Bor (List ℕ)) OffsetBuffer

-- a head of a forest, and the number that comes after what is below it
abbrev pub numbered : {H : Type 0} → ℕ → Option (H × Forest H) → Option (H × ℕ)
numbered n o = option_map (λ x. (x.0, n + 1 + size x.1)) o

-- the field that a view shows
abbrev pub field_of : Field → model.Field
field_of f = record { id = f.id; required = f.required; name = f.name.now; shape = shape_of f.kind }

-- with the number after its subtree
abbrev pub field_seen : Field → model.Field × ℕ
field_seen f = (field_of f, f.end)

-- bytes, if there are any
abbrev pub maybe_part_of : Option (Bor (List ℕ)) → Option (List ℕ)
maybe_part_of o = option_map (λ x. x.now) o

-- the offsets that stand one after the other in a buffer
abbrev pub offsets_seen : OffsetBuffer → List ℕ
offsets_seen o = values (placed (wide o.width) o.bytes.now 0 (length o.bytes.now / wide o.width))

-- a buffer has as many bytes as its offsets need, and no more
abbrev pub HasWholeOffsets : OffsetBuffer → Type 0
HasWholeOffsets o = length o.bytes.now ≡ wide o.width * length (offsets_seen o)

-- the column that a view shows
abbrev pub column_of : Column → model.Column
column_of c = record {
  name = c.name.now;
  id_text = maybe_part_of c.id_text;
  code = code_meant c.code;
  len = c.len;
  validity = maybe_part_of c.validity;
  offsets = offsets_seen c.offsets;
  body = c.body.now;
}

-- with the number after its subtree
abbrev pub column_seen : Column → model.Column × ℕ
column_seen c = (column_of c, c.end)

-- The table of fields: how an entry stands for a field, and what is read into the table.
use Rattle.std.specs.Prelude.{ℕ, Bool, false, cond, List, pos, nat_lt}
use Rattle.meaning.specs.Forest.{Forest, none, tree}
use Rattle.meaning.specs.Model as model
use Rattle.meaning.specs.Items.{head, Read, refused, ◌then◌, give, number}
use Rattle.meaning.specs.Schema.{Fields, fielded, fields}
use Rattle.items.specs.Reading.{Inside, part}
use Rattle.items.specs.Tables.{Layout}
use Rattle.items.specs.declared.reader.Span.{Span}
use Rattle.schema.specs.declared.types.Field.{Field}
use Rattle.schema.specs.declared.types.Kind.TheVariants as kind
use Rattle.schema.specs.declared.types.Primitive.TheVariants.{Boolean}
use Rattle.schema.specs.Forms.{shape_of}

-- an entry of the table: a field whose name is where it lies in the file
abbrev pub FieldEntry : Type 0
FieldEntry = Field Span

-- the blank entry: all zero
abbrev pub blank : FieldEntry
blank = record { id = pos 0; required = false; name = record { start = 0; len = 0 }; kind = kind.Primitive Boolean; end = 0 }

-- the field that an entry says; its name is a part of the file
abbrev pub field_of : List ℕ → FieldEntry → model.Field
field_of bytes f = record { id = f.id; required = f.required; name = part bytes f.name; shape = shape_of f.kind }

-- the table of fields as a kind of table
abbrev pub field_table : Layout FieldEntry model.Field
field_table = record { blank = blank; fits = λ bytes e. Inside bytes e.name; says = field_of; end = λ e. e.end }

-- one field, as a forest of its own
abbrev pub one_field : Fields → Bool → ℕ → Read (Forest model.Field)
one_field kids key n = fielded kids key n then (λ f. give (tree f.0 f.1 none))

-- the number of fields and the fields, read into a table of so many entries; fewer than 256 are too few
abbrev pub schema_in : ℕ → Read (Forest model.Field)
schema_in room r = cond (nat_lt room 256) (refused 4 0 head) ((number head then (λ k. fields 16 k false 1)) r)

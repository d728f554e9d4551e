-- The table of columns: how an entry stands for a column.
use Rattle.std.specs.Prelude.{ℕ, cond, List, [], Some, None, Option, nat_lt}
use Rattle.std.specs.Option.{option_map}
use Rattle.meaning.specs.Forest.{Forest}
use Rattle.meaning.specs.Model as model
use Rattle.meaning.specs.Items.{head, Read, refused, ◌then◌, number}
use Rattle.meaning.specs.Columns as columns
use Rattle.meaning.specs.Columns.{values}
use Rattle.items.specs.declared.reader.Span.{Span}
use Rattle.items.specs.declared.reader.Offsets.{Offsets}
use Rattle.items.specs.declared.width.Width.TheVariants.{Four}
use Rattle.items.specs.Cuts.{Fits, offsets_of}
use Rattle.items.specs.Reading.{Inside, part}
use Rattle.items.specs.Tables.{Layout}
use Rattle.columns.specs.declared.code.Code.TheVariants.{Boolean}
use Rattle.columns.specs.declared.entry.Column.{Column}
use Rattle.columns.specs.Codes.{code_meant}

-- an entry of the table: a column whose parts are where they lie in the file
abbrev pub ColumnEntry : Type 0
ColumnEntry = Column Span Offsets

-- no bytes, and no offsets
abbrev pub no_bytes : Span
no_bytes = record { start = 0; len = 0 }

-- no offsets, for a column that has none
abbrev pub no_offsets : Offsets
no_offsets = record { width = Four; count = 0; start = 0 }

-- the blank entry: all zero
abbrev pub blank : ColumnEntry
blank = record { name = no_bytes; id_text = None; code = Boolean; len = 0; validity = None; offsets = no_offsets; body = no_bytes; end = 0 }

-- the column that an entry says; its texts, bits, offsets and stored bytes are parts of the file
abbrev pub column_of : List ℕ → ColumnEntry → model.Column
column_of bytes e = record {
  name = part bytes e.name;
  id_text = option_map (part bytes) e.id_text;
  code = code_meant e.code;
  len = e.len;
  validity = option_map (part bytes) e.validity;
  offsets = values (offsets_of bytes e.offsets);
  body = part bytes e.body;
}

-- what is there lies in the file
abbrev pub MaybeInside : List ℕ → Option Span → Type 0
MaybeInside bytes None = Unit {0}
MaybeInside bytes (Some s) = Inside bytes s

-- the parts that an entry names lie in the file
pub record Fitting (bytes : List ℕ) (e : ColumnEntry) : Type 0 where
  pub name : Inside bytes e.name
  pub id : MaybeInside bytes e.id_text
  pub validity : MaybeInside bytes e.validity
  pub offsets : Fits bytes e.offsets
  pub body : Inside bytes e.body

-- the table of columns as a kind of table
abbrev pub column_table : Layout ColumnEntry model.Column
column_table = record { blank = blank; fits = Fitting; says = column_of; end = λ e. e.end }

-- the number of top columns and the columns, read into a table of so many entries; fewer than 256 are too few
abbrev pub columns_in : ℕ → ℕ → Read (Forest model.Column)
columns_in room rows r = cond (nat_lt room 256) (refused 4 0 head) ((number head then (λ k. columns.columns 16 k (columns.exact rows) [] 0 1)) r)

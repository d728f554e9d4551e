-- What reading a file into work tables gives.
use Rattle.std.specs.Prelude.{◌≡◌, ℕ, Bool, cond, ◌||◌, List, Ok, Err, Result, nat_lt}
use Rattle.meaning.specs.Forest.{none, size}
use Rattle.meaning.specs.Model.{Model}
use Rattle.meaning.specs.Items as items
use Rattle.meaning.specs.Items.{head, refused}
use Rattle.meaning.specs.File.{decode}
use Rattle.fault.specs.declared.faults.BatchFault.{BatchFault}
use Rattle.fault.specs.Faults.{batch_fault_of}
use Rattle.batch.specs.declared.load.Sizes.{Sizes}
use Rattle.items.specs.Tables.{Stands}
use Rattle.schema.specs.Fields.{FieldEntry, field_table}
use Rattle.columns.specs.Entries.{ColumnEntry, column_table}

-- tables of so many fields and columns are too short
abbrev pub short : ℕ → ℕ → Bool
short nf nc = nat_lt nf 256 || nat_lt nc 256

-- what a file means where work tables of so many entries are handed over: too short tables are refused before anything is read
abbrev pub read_in : ℕ → ℕ → List ℕ → Result Model items.BatchFault
read_in nf nc bytes = cond (short nf nc) (refused 4 0 head) (decode bytes)

-- the batch that an accepted file means
abbrev pub or_empty : Result Model items.BatchFault → Model
or_empty (Ok m) = m
or_empty (Err e) = record { rows = 0; fields = none; columns = none }

-- what a file means, once it is known to be accepted
abbrev pub decoded : List ℕ → Model
decoded bytes = or_empty (decode bytes)

-- a batch stands in the tables: its fields and its columns in preorder
pub record Standing (bytes : List ℕ) (m : Model) (fields : List FieldEntry) (columns : List ColumnEntry) : Type 0 where
  pub schema : Stands field_table bytes fields 1 m.fields
  pub batch : Stands column_table bytes columns 1 m.columns

-- the numbers of rows, fields and columns
pub record Counted (m : Model) (s : Sizes) : Type 0 where
  pub rows : s.rows ≡ m.rows
  pub fields : s.fields ≡ size m.fields
  pub columns : s.columns ≡ size m.columns

-- the sizes of a batch that the file means, and that stands in the tables; or the fault
abbrev pub Answers : Result Model items.BatchFault → List ℕ → Result Sizes BatchFault → List FieldEntry → List ColumnEntry → Type 0
Answers meant bytes (Ok sizes) fields columns = (m : Model) × (Ok m ≡ meant) × Counted m sizes × Standing bytes m fields columns
Answers meant bytes (Err e) fields columns = Err (batch_fault_of e) ≡ meant

-- what was read into tables of so many entries
pub record Loaded (nf nc : ℕ) (bytes : List ℕ) (result : Result Sizes BatchFault) (fields : List FieldEntry) (columns : List ColumnEntry) : Type 0 where
  pub does : Answers (read_in nf nc bytes) bytes result fields columns

-- What stands after a column's head: its body, layout by layout.
use Rattle.std.specs.Prelude.{ℕ, ◌+◌, List, [], Result, IfOk}
use Rattle.meaning.specs.Forest.{Forest, none, size}
use Rattle.meaning.specs.Model.{Column}
use Rattle.meaning.specs.Items.{column, Read, ◌then◌, give, exactly, number}
use Rattle.meaning.specs.Columns.{Body, Columns, after, body, exact, first_len, free, offsets, values, past, unless}
use Rattle.items.specs.Cuts.{Fits, offsets_of}
use Rattle.fault.specs.declared.faults.BatchFault.{BatchFault}
use Rattle.items.specs.declared.reader.Reader.{Reader}
use Rattle.items.specs.declared.entries.EntryReader.{EntryReader}
use Rattle.items.specs.Reading.{Inside, Reads, file, part}
use Rattle.items.specs.Tables.{Enters}
use Rattle.columns.specs.Entries.{ColumnEntry, column_table}
use Rattle.columns.specs.declared.body.Body.{Body as Body'}
use Rattle.columns.specs.declared.length.Holder.{Holder}
use Rattle.columns.specs.Holders.{held_by}

-- what is read of a column after its head, with the columns below it
abbrev pub body_meant : List ℕ → Body' → Forest Column → Body
body_meant bytes b below = body (values (offsets_of bytes b.offsets)) (part bytes b.stored) below

-- the offsets and the stored bytes of a body lie in the file
pub record BodyInside (bytes : List ℕ) (b : Body') : Type 0 where
  pub offsets : Fits bytes b.offsets
  pub stored : Inside bytes b.stored

-- a call reads a body that holds no columns, and what it names lies in the file
pub record ReadsBody (read : Read Body) (before : Reader) (result : Result Body' BatchFault) (after : Reader) : Type 0 where
  pub reads : Reads (λ b. body_meant (file before) b none) read before result after
  pub inside : IfOk result (BodyInside (file before))

-- the same with the columns that it holds, which stand in the table from number n on
pub record EntersBody (read : Read Body) (n : ℕ) (old : EntryReader ColumnEntry) (result : Result Body' BatchFault) (new : EntryReader ColumnEntry) : Type 0 where
  pub fills : Enters column_table (body_meant (file old.reader.now)) read n old result new
  pub inside : IfOk result (BodyInside (file old.reader.now))

-- so many stored bytes
abbrev pub stored_from : ℕ → ℕ → Read Body
stored_from n size = exactly (column n) size then (λ bs. give (body [] bs none))

-- offsets of w bytes, one more than there are slots, and the data that they cut
abbrev pub variable_from : ℕ → ℕ → ℕ → Read Body
variable_from n w len =
    offsets w n (len + 1) 0
    then (λ os. number (column n)
    then (λ k r. unless (past os k) n ((exactly (column n) k then (λ bs. give (body (values os) bs none))) r)))

-- the columns of a holder, and the offsets by which it cuts them
abbrev pub children_from : List ℕ → ℕ → ℕ → Holder → ℕ → Read Body
children_from bytes level count h m = held_by bytes level count h m then (λ cs. give (body (values (offsets_of bytes h.cut)) [] cs))

-- offsets of w bytes and the child that they cut, which has number m
abbrev pub list_from : Columns → ℕ → ℕ → ℕ → ℕ → Read Body
list_from kids n m w len = offsets w n (len + 1) 0 then (λ os. kids 1 free os n m then (λ cs. give (body (values os) [] cs)))

-- offsets, the key column, which has number m, and the value column
abbrev pub map_from : Columns → ℕ → ℕ → ℕ → Read Body
map_from kids n m len =
    offsets 4 n (len + 1) 0
    then (λ os. kids 1 free os n m
    then (λ ks. kids 1 (exact (first_len ks)) os n (m + size ks)
    then (λ vs. give (body (values os) [] (after ks vs)))))

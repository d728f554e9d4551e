-- A reader of the code is a rest of the definitions.
use Rattle.std.specs.Prelude.{◌≡◌, ℕ, ◌+◌, ◌≤◌, List, length, take, drop, ℤ, Ok, Err, Result, IfOk, OnErr}
use Rattle.meaning.specs.Items as items
use Rattle.meaning.specs.Items.{Rest, Read, ◌then◌}
use Rattle.fault.specs.Faults.{batch_fault_of}
use Rattle.fault.specs.declared.faults.BatchFault.{BatchFault}
use Rattle.items.specs.declared.reader.Reader.{Reader}
use Rattle.items.specs.declared.reader.Span.{Span}

-- the bytes of the file
abbrev pub file : Reader → List ℕ
file r = r.bytes.now

-- what is left to read
abbrev pub rest : Reader → Rest
rest r = record { bytes = drop r.at (file r); at = r.at }

-- the bytes that a span names
abbrev pub part : List ℕ → Span → List ℕ
part bytes s = take s.len (drop s.start bytes)

-- a span lies in the file
abbrev pub Inside : List ℕ → Span → Type 0
Inside bytes s = s.start + s.len ≤ length bytes

-- a result of the code as one of the definitions: what its value means, and the reader afterwards
abbrev pub said : {X Y : Type 0} → (X → Y) → Result X BatchFault → Reader → Result (Y × Rest) items.BatchFault
said means (Ok x) r = Ok (means x, rest r)
said means (Err e) r = Err (batch_fault_of e)

-- a call reads what the definition reads, from the same file
pub record Reads {X Y : Type 0} (means : X → Y) (read : Read Y) (before : Reader) (result : Result X BatchFault) (after : Reader) : Type 0 where
  pub same : file after ≡ file before
  pub does : said means result after ≡ read (rest before)

-- a call reads an item; where it is refused, the reader stays where it was
pub record Takes {X Y : Type 0} (means : X → Y) (read : Read Y) (before : Reader) (result : Result X BatchFault) (after : Reader) : Type 0 where
  pub reads : Reads means read before result after
  pub stays : OnErr result (after.at ≡ before.at)

-- the same of an item that is a part of the file, and ends where the reader then is
pub record TakesPart (read : Read (List ℕ)) (before : Reader) (result : Result Span BatchFault) (after : Reader) : Type 0 where
  pub reads : Reads (part (file before)) read before result after
  pub inside : IfOk result (Inside (file before))
  pub ends : IfOk result (λ s. s.start + s.len ≡ after.at)
  pub stays : OnErr result (after.at ≡ before.at)

-- a field's id: four bytes, signed
abbrev pub id_from : items.Entry → Read ℤ
id_from e = items.exactly e 4 then (λ bs. items.give (items.signed 4 (items.little bs)))

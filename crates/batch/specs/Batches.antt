-- What a batch in hand is, and what reading promises.
use Rattle.std.specs.Prelude.{◌≡◌, ℕ, false, List, Ok, Err, vec_len, Result, ◌≢◌}
use Rattle.meaning.specs.Model.{Model}
use Rattle.meaning.specs.Items as items
use Rattle.meaning.specs.Encode.{encode}
use Rattle.meaning.specs.Keeps.{Keeps}
use Rattle.fault.specs.Faults.{batch_fault_of}
use Rattle.batch.specs.declared.batch.Batch.{Batch}
use Rattle.batch.specs.declared.batch.Unread.{Unread}
use Rattle.batch.specs.Blank.{Blank}
use Rattle.batch.specs.Loaded.{decoded, short}

-- the batch that is in hand: what its file means
abbrev pub model : Batch → Model
model b = decoded b.bytes.now

-- the answer of a reading: a batch, or the fault
abbrev pub said : Result Batch Unread → Result Model items.BatchFault
said (Ok b) = Ok (model b)
said (Err u) = Err (batch_fault_of u.fault)

-- a batch is of the file that was handed over, and holds the tables that were, with as many entries
abbrev pub Same : ℕ → ℕ → List ℕ → Result Batch Unread → Type 0
Same nf nc bytes (Ok b) = (b.bytes.now ≡ bytes) × (vec_len b.tables.fields ≡ nf) × (vec_len b.tables.columns ≡ nc)
Same nf nc bytes (Err u) = Unit {0}

-- a refused reading gives the tables back blank, with as many entries as before
abbrev pub Emptied : ℕ → ℕ → Result Batch Unread → Type 0
Emptied nf nc (Ok b) = Unit {0}
Emptied nf nc (Err u) = Blank nf nc u.tables

-- The law of reading, for tables that are not too short. A file is accepted exactly if it is the encoding of a batch that keeps the rules:
-- what is accepted keeps them and has this file as its encoding, and is the only such batch; of a refused file there is none.
abbrev pub Lawful : ℕ → ℕ → List ℕ → Result Batch Unread → Type 0
Lawful nf nc bytes (Ok b) = Keeps (model b) × (encode (model b) ≡ bytes) × ((m : Model) → Keeps m → encode m ≡ bytes → model b ≡ m)
Lawful nf nc bytes (Err u) = short nf nc ≡ false → (m : Model) → Keeps m → encode m ≢ bytes

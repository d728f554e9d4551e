-- How trees stand in a table of the code: the forest in preorder, entry n at place n - 1, each with the number that comes after its subtree.
use Rattle.std.specs.Prelude.{◌≡◌, ℕ, ◌+◌, ◌-◌, ◌<◌, ◌≤◌, List, Ok, Err, Result, slice_index_or}
use Rattle.meaning.specs.Forest.{Forest, none, tree, size}
use Rattle.meaning.specs.Items as items
use Rattle.meaning.specs.Items.{Rest, Read}
use Rattle.fault.specs.declared.faults.BatchFault.{BatchFault}
use Rattle.fault.specs.Faults.{batch_fault_of}
use Rattle.items.specs.declared.reader.Reader.{Reader}
use Rattle.items.specs.Reading.{file, rest}
use Rattle.items.specs.declared.entries.EntryReader.{EntryReader}

-- a kind of table: its blank entry, that an entry names parts of a file that are there, what it says of the file, and the number after its subtree
pub record Layout (E H : Type 0) : Type 1 where
  pub blank : E
  pub fits : List ℕ → E → Type 0
  pub says : List ℕ → E → H
  pub end : E → ℕ

module _ {E H : Type 0} (l : Layout E H) where
  -- what stands in the table under number n
  abbrev pub entry : List E → ℕ → E
  entry table n = slice_index_or table (n - 1) l.blank

  -- the trees of a forest stand in the table from number n on
  abbrev pub Stands : List ℕ → List E → ℕ → Forest H → Type 0
  Stands bytes table n none = Unit {0}
  Stands bytes table n (tree h below after) =
      l.fits bytes (entry table n) × (l.says bytes (entry table n) ≡ h) × (l.end (entry table n) ≡ n + 1 + size below) × Stands bytes table (n + 1) below × Stands bytes table (n + 1 + size below) after

  -- a forest was written from number n on up to m, and nothing else was
  pub record Filled (bytes : List ℕ) (old new : List E) (n m : ℕ) (trees : Forest H) : Type 0 where
    pub next : m ≡ n + size trees
    pub stands : Stands bytes new n trees
    pub before : (k : ℕ) → k + 1 < n → slice_index_or new k l.blank ≡ slice_index_or old k l.blank
    pub after : (k : ℕ) → m ≤ k + 1 → slice_index_or new k l.blank ≡ slice_index_or old k l.blank

  -- What a call answers that reads trees from number n on, as the definition does: the number m that comes next,
  -- or the refusal. `value` is what the definition gives beside the reader's rest, when the trees are these.
  abbrev pub Answers : {X Y : Type 0} → (X → ℕ) → (X → Forest H → Y) → Result (Y × Rest) items.BatchFault → ℕ → List ℕ → List E → List E → Reader → Result X BatchFault → Type 0
  Answers number value spec n bytes old new after (Ok x) = (trees : Forest H) × (Ok (value x trees, rest after) ≡ spec) × Filled bytes old new n (number x) trees
  Answers number value spec n bytes old new after (Err e) = Err (batch_fault_of e) ≡ spec

  -- a call reads what the definition reads, from the same file, and writes it into the table
  pub record Fills {X Y : Type 0} (number : X → ℕ) (value : X → Forest H → Y) (read : Read Y) (n : ℕ) (before : Reader) (old : List E) (result : Result X BatchFault) (after : Reader) (new : List E) : Type 0 where
    pub same : file after ≡ file before
    pub does : Answers number value (read (rest before)) n (file before) old new after result

  -- a call reads what the definition reads, from the number of the next entry on; the reader and the table are still the same ones
  pub record Enters {X Y : Type 0} (value : X → Forest H → Y) (read : Read Y) (n : ℕ) (old : EntryReader E) (result : Result X BatchFault) (new : EntryReader E) : Type 0 where
    pub reader : new.reader.ghost_name ≡ old.reader.ghost_name
    pub table : new.table.ghost_name ≡ old.table.ghost_name
    pub fills : Fills (λ _. new.next) value read n old.reader.now old.table.now result new.reader.now new.table.now

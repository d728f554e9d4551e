-- The law of files: a file is accepted exactly if it is the encoding of a batch that keeps the rules, and it then means that batch.
use Rattle.std.specs.Prelude.{◌≡◌, ℕ, List, Ok}
use Rattle.meaning.specs.Model.{Model}
use Rattle.meaning.specs.File.{decode}
use Rattle.meaning.specs.Encode.{encode}
use Rattle.meaning.specs.Keeps.{Bytes, Keeps}

-- encoding and reading are inverse to each other between the batches that keep the rules and the files that are accepted
pub record AcceptsLaw : Type 0 where
  -- the encoding of a batch that keeps the rules is a file: every number in it is a byte
  pub file : (m : Model) → Keeps m → Bytes (encode m)
  -- it is accepted, and means that batch
  pub read : (m : Model) → Keeps m → decode (encode m) ≡ Ok m
  -- a file that is accepted is the encoding of the batch that it means, and that batch keeps the rules
  pub written : (bs : List ℕ) (m : Model) → Bytes bs → decode bs ≡ Ok m → (encode m ≡ bs) × Keeps m

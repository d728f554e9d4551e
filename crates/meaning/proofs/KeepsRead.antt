-- A batch whose encoding is read back keeps the rules: for small batches both are found by computing.
use Rattle.std.proofs.Common.{◌≡◌, ℕ, ◌<◌, false, leb, List, Ok}
use Rattle.std.proofs.lemmas.Bool.{leb-false}
use Rattle.meaning.specs.Model.{Model}
use Rattle.meaning.specs.Lists.{any_of}
use Rattle.meaning.specs.File.{decode}
use Rattle.meaning.specs.Encode.{encode}
use Rattle.meaning.specs.Keeps.{Bytes, Keeps}
use Rattle.std.proofs.ByRecursion.{All-weaker}
use Rattle.meaning.proofs.SlotLists.{none_any}
use Rattle.meaning.proofs.Accepts.{accepts_law}

-- no number of a list is 256 or more
bytes-from : (bs : List ℕ) → any_of (leb 256) bs ≡ false → Bytes bs
bytes-from bs e = All-weaker (λ b. leb 256 b ≡ false) (λ b. b < 256) (λ b h. leb-false 256 b h) bs (none_any (leb 256) bs e)

pub keeps-read : (m : Model) → any_of (leb 256) (encode m) ≡ false → decode (encode m) ≡ Ok m → Keeps m
keeps-read m e d = (accepts_law.written (encode m) m (bytes-from (encode m) e) d).1

-- What a batch file means: the batch, or the first refusal in file order.
use Rattle.std.specs.Prelude.{ℕ, false, cond, List, [], length, Ok, Err, Result, ◌==◌, nat_eq, nat_lt}
use Rattle.meaning.specs.Model.{Model}
use Rattle.meaning.specs.Items.{head, Rest, BatchFault, Read, refused, ◌then◌, give, byte, number, limited}
use Rattle.meaning.specs.Schema.{fields}
use Rattle.meaning.specs.Columns.{columns, exact}

-- edition 1, rows, fields, columns
abbrev pub whole : Read Model
whole =
    byte head (λ b. nat_eq b 1)
    then (λ _. limited head 65536
    then (λ rows. number head
    then (λ nf. fields 16 nf false 1
    then (λ fs. number head
    then (λ nc. columns 16 nc (exact rows) [] 0 1
    then (λ cs. give (record { rows = rows; fields = fs; columns = cs })))))))

-- bytes after the last column are refused (8)
abbrev pub ended : Result (Model × Rest) BatchFault → Result Model BatchFault
ended (Ok (m, r)) = cond (length r.bytes == 0) (Ok m) (refused 8 r.at head)
ended (Err e) = Err e

-- a file of more than 1,048,576 bytes is refused (4) before its first item
abbrev pub decode : List ℕ → Result Model BatchFault
decode bs = cond (nat_lt 1048576 (length bs)) (refused 4 0 head) (ended (whole (record { bytes = bs; at = 0 })))

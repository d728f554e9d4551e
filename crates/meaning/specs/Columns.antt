-- Reading the columns of a batch: validity bits, offsets and layouts of the Arrow columnar format.
use Rattle.std.specs.Prelude.{ℕ, zero, suc, ◌+◌, ◌-◌, ◌*◌, ◌/◌, ◌^◌, Bool, true, false, cond, ◌&&◌, List, [], ◌∷◌, map as each, Some, None, Ok, Option, Result, ◌==◌, nat_le, nat_lt}
use Rattle.meaning.specs.Forest.{Forest, none, tree, size}
use Rattle.meaning.specs.Model.{Column, Code, Word, Variable, bits, words, variable, fixed_size_binary, structs, lists, large_lists, fixed_size_lists, maps, int32, int64, float32, float64, date32, time64, micros, nanos, utf8, large_utf8, binaries, large_binary}
use Rattle.meaning.specs.Items.{column, BatchFault, Read, refused, ◌then◌, give, exactly, byte, flag, number, limited, text, little}

-- the length that a holder asks of a child: any; exactly this; or, for a fixed-size list of this size, so many lists
pub data Need : Type 0 where
  free : Need
  exact : ℕ → Need
  parts : ℕ → ℕ → Need

-- whether a length is what the holder asks
abbrev pub meets : Need → ℕ → Bool
meets free n = true
meets (exact k) n = n == k
meets (parts s k) n = n / s == k

-- offsets, each with the byte at which it stands
abbrev pub Offsets : Type 0
Offsets = List (ℕ × ℕ)

-- the byte of the first offset past n
abbrev pub past : Offsets → ℕ → Option ℕ
past [] n = None
past (o ∷ os) n = cond (nat_lt n o.0) (Some o.1) (past os n)

-- an offset past the end is refused (5) at its own byte, in the column that owns it
abbrev pub unless : {X : Type 0} → Option ℕ → ℕ → Result X BatchFault → Result X BatchFault
unless None owner k = k
unless (Some b) owner k = refused 5 b (column owner)

-- the length of column n: its limit (4), then the offsets of its owner (5), then what the holder asks (6)
abbrev pub length_of : ℕ → Need → Offsets → ℕ → Read ℕ
length_of n need os owner r =
    (limited (column n) 65536 then (λ k r'. unless (past os k) owner (cond (meets need k) (Ok (k, r')) (refused 6 r.at (column n))))) r

-- so many offsets of w bytes in column n, signed; one that is negative or below the one before it is refused (5)
abbrev pub offsets : ℕ → ℕ → ℕ → ℕ → Read Offsets
offsets w n zero last = give []
offsets w n (suc k) last = λ r.
    (exactly (column n) w
    then (λ bs r'.
    cond (nat_le (2 ^ (8 * w - 1)) (little bs)) (refused 5 r.at (column n))
    (cond (nat_lt (little bs) last) (refused 5 r.at (column n))
    ((offsets w n k (little bs) then (λ os. give ((little bs, r.at) ∷ os))) r')))) r

-- the fixed-width column codes
abbrev pub word_of : ℕ → Word
word_of c = cond (c == 2) int32 (cond (c == 3) int64 (cond (c == 4) float32 (cond (c == 5) float64 (cond (c == 7) date32 (cond (c == 8) time64 (cond (c == 9) micros nanos))))))

-- the column codes of bytes cut by offsets
abbrev pub variable_of : ℕ → Variable
variable_of c = cond (c == 11) utf8 (cond (c == 12) large_utf8 (cond (c == 14) binaries large_binary))

-- the column code of number c, with its width or size d
abbrev pub detailed : ℕ → ℕ → Code
detailed c d =
    cond (c == 1) bits (cond (nat_le c 10) (words (word_of c)) (cond (c == 13) (fixed_size_binary d) (cond (nat_le c 15) (variable (variable_of c))
    (cond (c == 16) structs (cond (c == 17) lists (cond (c == 18) large_lists (cond (c == 19) (fixed_size_lists d) maps)))))))

-- the code of column n, and its width or size; 0 of either is refused (7)
abbrev pub code_of : ℕ → Read Code
code_of n =
    byte (column n) (λ c. nat_le 1 c && (nat_le c 20 && cond (c == 6) false true))
    then (λ c r. cond (cond (c == 13) true (c == 19))
    ((limited (column n) 65536 then (λ d r'. cond (d == 0) (refused 7 r.at (column n)) (Ok (detailed c d, r')))) r)
    (Ok (detailed c 0, r)))

-- the bytes of a fixed-width slot
abbrev pub width_of : Word → ℕ
width_of int32 = 4
width_of int64 = 8
width_of float32 = 4
width_of float64 = 8
width_of date32 = 4
width_of time64 = 8
width_of micros = 8
width_of nanos = 8

-- the bytes of an offset
abbrev pub offset_of : Variable → ℕ
offset_of utf8 = 4
offset_of large_utf8 = 8
offset_of binaries = 4
offset_of large_binary = 8

-- what follows a column's head: offsets, stored bytes, children
pub record Body : Type 0 where
  pub offsets : List ℕ
  pub stored : List ℕ
  pub below : Forest Column

-- a body of these
abbrev pub body : List ℕ → List ℕ → Forest Column → Body
body os bs below = record { offsets = os; stored = bs; below = below }

-- the offsets themselves
abbrev pub values : Offsets → List ℕ
values os = each (λ (o : ℕ × ℕ). o.0) os

-- a reader of so many columns side by side, with what their holder asks, its offsets and its number, from a number on
abbrev pub Columns : Type 0
Columns = ℕ → Need → Offsets → ℕ → ℕ → Read (Forest Column)

-- the length of the first column; a map's key column is its first
abbrev pub first_len : Forest Column → ℕ
first_len none = 0
first_len (tree x below rest) = x.len

-- a map's key column, then its value column
abbrev pub after : Forest Column → Forest Column → Forest Column
after none g = g
after (tree x below rest) g = tree x below g

-- the body of column n, by its length and code: bits, slots of a width, offsets and data, or offsets and children
abbrev pub body_of : Columns → ℕ → ℕ → Code → Read Body
body_of kids n len bits = exactly (column n) ((len + 7) / 8) then (λ bs. give (body [] bs none))
body_of kids n len (words w) = exactly (column n) (len * width_of w) then (λ bs. give (body [] bs none))
body_of kids n len (fixed_size_binary w) = exactly (column n) (len * w) then (λ bs. give (body [] bs none))
body_of kids n len (variable t) =
    offsets (offset_of t) n (len + 1) 0
    then (λ os. number (column n)
    then (λ k r. unless (past os k) n ((exactly (column n) k then (λ bs. give (body (values os) bs none))) r)))
body_of kids n len structs = number (column n) then (λ k. kids k (exact len) [] n (n + 1) then (λ cs. give (body [] [] cs)))
body_of kids n len lists = offsets 4 n (len + 1) 0 then (λ os. kids 1 free os n (n + 1) then (λ cs. give (body (values os) [] cs)))
body_of kids n len large_lists = offsets 8 n (len + 1) 0 then (λ os. kids 1 free os n (n + 1) then (λ cs. give (body (values os) [] cs)))
body_of kids n len (fixed_size_lists s) = kids 1 (parts s len) [] n (n + 1) then (λ cs. give (body [] [] cs))
body_of kids n len maps =
    offsets 4 n (len + 1) 0
    then (λ os. kids 1 free os n (n + 1)
    then (λ ks. kids 1 (exact (first_len ks)) os n (n + 1 + size ks)
    then (λ vs. give (body (values os) [] (after ks vs)))))

-- what a flag announces, if it is set
abbrev pub maybe : {X : Type 0} → Bool → Read X → Read (Option X)
maybe true m = m then (λ x. give (Some x))
maybe false m = give None

-- column n: name, id text, code, length, validity bits, body
abbrev pub columned : Columns → Need → Offsets → ℕ → ℕ → Read (Column × Forest Column)
columned kids need os owner n =
    text (column n)
    then (λ name. flag (column n)
    then (λ has. maybe has (text (column n))
    then (λ id. code_of n
    then (λ code. length_of n need os owner
    then (λ len. flag (column n)
    then (λ nulls. maybe nulls (exactly (column n) ((len + 7) / 8))
    then (λ validity. body_of kids n len code
    then (λ b. give (record { name = name; id_text = id; code = code; len = len; validity = validity; offsets = b.offsets; body = b.stored }, b.below)))))))))

-- so many columns side by side, the first being n; the 257th is refused (4) before its items
abbrev pub siblings : Columns → Columns
siblings kids zero need os owner n = give none
siblings kids (suc k) need os owner n = λ r.
    cond (nat_lt 256 n) (refused 4 r.at (column n))
    ((columned kids need os owner n then (λ x. siblings kids k need os owner (n + 1 + size x.1) then (λ xs. give (tree x.0 x.1 xs)))) r)

-- the same with so many levels left; an entry below them is refused (4) before its items
abbrev pub columns : ℕ → Columns
columns zero zero need os owner n = give none
columns zero (suc k) need os owner n = λ r. refused 4 r.at (column n)
columns (suc l) k need os owner n = siblings (λ k need os owner n. columns l k need os owner n) k need os owner n

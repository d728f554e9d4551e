-- What is written is bytes: numbers below 256.
use Rattle.std.proofs.Common.{ℕ, zero, suc, ◌/◌, ◌<◌, Bool, true, false, ltb, List, [], ◌∷◌, ◌++◌, length, Some, None, Option, inl, inr, arith}
use Rattle.std.proofs.lemmas.Bool.{cases_Bool, ltb-true}
use Rattle.std.proofs.ByRecursion.{All-append}
use Rattle.meaning.specs.Forest.{Forest, none, tree, count}
use Rattle.meaning.specs.Model.{Model, Field, Column, Shape, prim, struct, list, map, Primitive, boolean, int, long, float, double, date, time, timestamp, timestamptz, timestamp_ns, timestamptz_ns, string, uuid, fixed, binary, Code, bits, words, variable, fixed_size_binary, structs, lists, large_lists, fixed_size_lists, maps, int32, int64, float32, float64, date32, time64, micros, nanos, utf8, large_utf8, binaries, large_binary}
use Rattle.meaning.specs.Columns.{offset_of}
use Rattle.meaning.specs.Encode.{groups, numeral, fixed_width, text, flag, unsigned, optional, primitive_code, shape_code, field_bytes, column_code, offsets, body_bytes, column_bytes, encode}
use Rattle.meaning.specs.Keeps.{Bytes, Short, Optional, Bodied, Validity, FieldsKeep, ColumnsKeep, Keeps}
use Rattle.meaning.proofs.Widths.{width_bytes}

four : (a b c d : List ℕ) → Bytes a → Bytes b → Bytes c → Bytes d → Bytes (a ++ b ++ c ++ d)
four a b c d p q r s = All-append (λ b. b < 256) (a ++ b ++ c) d (All-append (λ b. b < 256) (a ++ b) c (All-append (λ b. b < 256) a b p q) r) s

five : (a b c d e : List ℕ) → Bytes a → Bytes b → Bytes c → Bytes d → Bytes e → Bytes (a ++ b ++ c ++ d ++ e)
five a b c d e p q r s t = All-append (λ b. b < 256) (a ++ b ++ c ++ d) e (four a b c d p q r s) t

groups-bytes : (k n : ℕ) → Bytes (groups k n)
groups-bytes zero n = tt
groups-bytes (suc k) n = elim (cases_Bool (ltb n 128)) [ inl s ↦ rw s (omega (arith, ltb-true n 128 s)) | inr s ↦ rw s (omega arith, groups-bytes k (n / 128)) ]

text-bytes : (xs : List ℕ) → Bytes xs → Bytes (text xs)
text-bytes xs y = All-append (λ b. b < 256) (numeral (length xs)) xs (groups-bytes 5 (length xs)) y

flag-bytes : (b : Bool) → Bytes (flag b)
flag-bytes true = omega arith
flag-bytes false = omega arith

optional-bytes : (f : List ℕ → List ℕ) (P : List ℕ → Type 0) → ((x : List ℕ) → P x → Bytes (f x)) → (o : Option (List ℕ)) → Optional P o → Bytes (optional f o)
optional-bytes f P t None p = omega arith
optional-bytes f P t (Some x) p = (omega arith, t x p)

primitive-bytes : (p : Primitive) → Bytes (primitive_code p)
primitive-bytes boolean = omega arith
primitive-bytes int = omega arith
primitive-bytes long = omega arith
primitive-bytes float = omega arith
primitive-bytes double = omega arith
primitive-bytes date = omega arith
primitive-bytes time = omega arith
primitive-bytes timestamp = omega arith
primitive-bytes timestamptz = omega arith
primitive-bytes timestamp_ns = omega arith
primitive-bytes timestamptz_ns = omega arith
primitive-bytes string = omega arith
primitive-bytes uuid = omega arith
primitive-bytes (fixed n) = (omega arith, groups-bytes 5 n)
primitive-bytes binary = omega arith

shape-bytes : (s : Shape) (n : ℕ) → Bytes (shape_code s n)
shape-bytes (prim p) n = primitive-bytes p
shape-bytes struct n = (omega arith, groups-bytes 5 n)
shape-bytes list n = omega arith
shape-bytes map n = omega arith

fields-bytes : (fs : Forest Field) → FieldsKeep fs → Bytes (field_bytes fs)
fields-bytes none k = tt
fields-bytes (tree f below rest) k =
    let a = fixed_width 4 (unsigned f.id) in
    let b = flag f.required in
    let c = text f.name in
    let d = shape_code f.shape (count below) in
    All-append (λ b. b < 256) (a ++ b ++ c ++ d ++ field_bytes below) (field_bytes rest)
    (five a b c d (field_bytes below) (width_bytes 4 (unsigned f.id)) (flag-bytes f.required) (text-bytes f.name k.1.1)
    (shape-bytes f.shape (count below)) (fields-bytes below k.3))
    (fields-bytes rest k.4)

code-bytes : (c : Code) → Bytes (column_code c)
code-bytes bits = omega arith
code-bytes (words int32) = omega arith
code-bytes (words int64) = omega arith
code-bytes (words float32) = omega arith
code-bytes (words float64) = omega arith
code-bytes (words date32) = omega arith
code-bytes (words time64) = omega arith
code-bytes (words micros) = omega arith
code-bytes (words nanos) = omega arith
code-bytes (variable utf8) = omega arith
code-bytes (variable large_utf8) = omega arith
code-bytes (fixed_size_binary w) = (omega arith, groups-bytes 5 w)
code-bytes (variable binaries) = omega arith
code-bytes (variable large_binary) = omega arith
code-bytes structs = omega arith
code-bytes lists = omega arith
code-bytes large_lists = omega arith
code-bytes (fixed_size_lists s) = (omega arith, groups-bytes 5 s)
code-bytes maps = omega arith

offset-bytes : (w : ℕ) (os : List ℕ) → Bytes (offsets w os)
offset-bytes w [] = tt
offset-bytes w (o ∷ os) = All-append (λ b. b < 256) (fixed_width w o) (offsets w os) (width_bytes w o) (offset-bytes w os)

body_bytes_lem : (c : Code) (x : Column) (below : Forest Column) → Bodied c x below → Bytes (body_bytes c x (count below))
body_bytes_lem bits x below p = p.1
body_bytes_lem (words w) x below p = p.1
body_bytes_lem (fixed_size_binary w) x below p = p.2.1
body_bytes_lem (variable t) x below p = All-append (λ b. b < 256) (offsets (offset_of t) x.offsets) (text x.body) (offset-bytes (offset_of t) x.offsets)
    (text-bytes x.body p.2)
body_bytes_lem structs x below p = groups-bytes 5 (count below)
body_bytes_lem lists x below p = offset-bytes 4 x.offsets
body_bytes_lem large_lists x below p = offset-bytes 8 x.offsets
body_bytes_lem (fixed_size_lists s) x below p = tt
body_bytes_lem maps x below p = offset-bytes 4 x.offsets

columns-bytes : (cs : Forest Column) → ColumnsKeep cs → Bytes (column_bytes cs)
columns-bytes none k = tt
columns-bytes (tree x below rest) k =
    let a = text x.name in
    let b = optional text x.id_text in
    let c = column_code x.code in
    let d = numeral x.len in
    let e = optional (λ bs. bs) x.validity in
    let f = body_bytes x.code x (count below) in
    four (a ++ b ++ c ++ d ++ e) f (column_bytes below) (column_bytes rest)
    (five a b c d e (text-bytes x.name k.0.1) (optional-bytes text Short (λ xs s. text-bytes xs s.1) x.id_text k.1) (code-bytes x.code)
    (groups-bytes 5 x.len)
    (optional-bytes (λ bs. bs) (Validity x.len) (λ xs s. s.1) x.validity k.3))
    (body_bytes_lem x.code x below k.4) (columns-bytes below k.5) (columns-bytes rest k.6)

pub encode-bytes : (m : Model) → Keeps m → Bytes (encode m)
encode-bytes m k =
    five (1 ∷ numeral m.rows) (numeral (count m.fields)) (field_bytes m.fields) (numeral (count m.columns)) (column_bytes m.columns)
    (omega arith, groups-bytes 5 m.rows) (groups-bytes 5 (count m.fields)) (fields-bytes m.fields k.fields) (groups-bytes 5 (count m.columns))
    (columns-bytes m.columns k.columns)

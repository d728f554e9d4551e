-- What the code's column codes say in the words of the definitions.
use Rattle.std.specs.Prelude.{◌≡◌, ℕ, Bool, true, false, cond, ◌&&◌, Ok, Err, Result, ◌==◌, nat_le}
use Rattle.meaning.specs.Model as model
use Rattle.meaning.specs.Items.{Entry, Read, refused, carry, limited}
use Rattle.meaning.specs.Columns.{detailed}
use Rattle.columns.specs.declared.code.Code.{Code}
use Rattle.columns.specs.declared.code.Code.TheVariants as code
use Rattle.columns.specs.declared.code.Form.{Form}
use Rattle.columns.specs.declared.code.Form.TheVariants as form
use Rattle.columns.specs.declared.code.UnknownCode.{UnknownCode}

-- the code bytes that are listed
abbrev pub listed : ℕ → Bool
listed c = nat_le 1 c && (nat_le c 20 && cond (c == 6) false true)

-- the column code of the definitions that a code stands for
abbrev pub code_meant : Code → model.Code
code_meant code.Boolean = model.bits
code_meant code.Int32 = model.words model.int32
code_meant code.Int64 = model.words model.int64
code_meant code.Float32 = model.words model.float32
code_meant code.Float64 = model.words model.float64
code_meant code.Date32 = model.words model.date32
code_meant code.Time64Microsecond = model.words model.time64
code_meant code.TimestampMicrosecond = model.words model.micros
code_meant code.TimestampNanosecond = model.words model.nanos
code_meant code.Utf8 = model.variable model.utf8
code_meant code.LargeUtf8 = model.variable model.large_utf8
code_meant (code.FixedSizeBinary w) = model.fixed_size_binary w
code_meant code.Binary = model.variable model.binaries
code_meant code.LargeBinary = model.variable model.large_binary
code_meant code.Struct = model.structs
code_meant code.List = model.lists
code_meant code.LargeList = model.large_lists
code_meant (code.FixedSizeList s) = model.fixed_size_lists s
code_meant code.Map = model.maps

-- the code byte is listed and goes on so, or it is not listed
abbrev pub Formed : ℕ → Result Form UnknownCode → Type 0
Formed c (Ok (form.Plain code)) = (listed c ≡ true) × (cond (c == 13) true (c == 19) ≡ false) × (code_meant code ≡ detailed c 0)
Formed c (Ok form.FixedSizeBinary) = c ≡ 13
Formed c (Ok form.FixedSizeList) = c ≡ 19
Formed c (Err e) = listed c ≡ false

-- a width or a size; 0 is refused (7)
abbrev pub size_from : Entry → Read ℕ
size_from e r = carry (λ d r'. cond (d == 0) (refused 7 r.at e) (Ok (d, r'))) (limited e 65536 r)

-- The text of types, as bytes of ASCII.
use Rattle.std.specs.Prelude.{ℕ, List, ◌++◌, codes}
use Rattle.meaning.specs.Model.{Primitive, boolean, int, long, float, double, date, time, timestamp, timestamptz, timestamp_ns, timestamptz_ns, string, uuid, fixed, binary, Shape, prim, struct, list, map}
use Rattle.meaning.specs.Text.{decimal}

-- the names of the Iceberg table specification
abbrev pub primitive_text : Primitive → List ℕ
primitive_text boolean = codes "boolean"
primitive_text int = codes "int"
primitive_text long = codes "long"
primitive_text float = codes "float"
primitive_text double = codes "double"
primitive_text date = codes "date"
primitive_text time = codes "time"
primitive_text timestamp = codes "timestamp"
primitive_text timestamptz = codes "timestamptz"
primitive_text timestamp_ns = codes "timestamp_ns"
primitive_text timestamptz_ns = codes "timestamptz_ns"
primitive_text string = codes "string"
primitive_text uuid = codes "uuid"
primitive_text (fixed n) = codes "fixed[" ++ decimal n ++ codes "]"
primitive_text binary = codes "binary"

-- the type of a field, without what it holds
abbrev pub type_text : Shape → List ℕ
type_text (prim p) = primitive_text p
type_text struct = codes "struct"
type_text list = codes "list"
type_text map = codes "map"

-- What the code's types of the schema say in the words of the definitions.
use Rattle.std.specs.Prelude.{◌≡◌, ℕ, Bool, true, false, ◌&&◌, Ok, Err, Result, ◌==◌, nat_le}
use Rattle.meaning.specs.Model as model
use Rattle.meaning.specs.Schema as schema
use Rattle.schema.specs.declared.types.Primitive.{Primitive}
use Rattle.schema.specs.declared.types.Primitive.TheVariants.{Boolean, Int, Long, Float, Double, Date, Time, Timestamp, Timestamptz, TimestampNs, TimestamptzNs, String, Uuid, Fixed, Binary}
use Rattle.schema.specs.declared.types.Kind.{Kind}
use Rattle.schema.specs.declared.types.Kind.TheVariants as kind
use Rattle.schema.specs.declared.code.Form.{Form}
use Rattle.schema.specs.declared.code.UnknownType.{UnknownType}
use Rattle.schema.specs.declared.code.Form.TheVariants.{Plain, Sized, Group, One, Pair, Decimal}

-- the primitive type that a type stands for
abbrev pub prim_of : Primitive → model.Primitive
prim_of Boolean = model.boolean
prim_of Int = model.int
prim_of Long = model.long
prim_of Float = model.float
prim_of Double = model.double
prim_of Date = model.date
prim_of Time = model.time
prim_of Timestamp = model.timestamp
prim_of Timestamptz = model.timestamptz
prim_of TimestampNs = model.timestamp_ns
prim_of TimestamptzNs = model.timestamptz_ns
prim_of String = model.string
prim_of Uuid = model.uuid
prim_of (Fixed n) = model.fixed n
prim_of Binary = model.binary

-- a type without the fields that it holds
abbrev pub shape_of : Kind → model.Shape
shape_of (kind.Primitive p) = model.prim (prim_of p)
shape_of kind.Struct = model.struct
shape_of kind.List = model.list
shape_of kind.Map = model.map

-- how a type goes on after its code
abbrev pub formed : Form → schema.Kind
formed (Plain p) = schema.plain (prim_of p)
formed Sized = schema.sized
formed Group = schema.group
formed One = schema.one
formed Pair = schema.pair
formed Decimal = schema.decimal

-- the one listed type that is not ported
abbrev pub decimal? : Form → Bool
decimal? (Plain p) = false
decimal? Sized = false
decimal? Group = false
decimal? One = false
decimal? Pair = false
decimal? Decimal = true

-- the code is listed and its form is this one, or it is not listed
abbrev pub Formed : ℕ → Result Form UnknownType → Type 0
Formed c (Ok f) = ((nat_le 1 c && nat_le c 19) ≡ true) × (schema.kind_of c ≡ formed f) × ((c == 6) ≡ decimal? f)
Formed c (Err e) = (nat_le 1 c && nat_le c 19) ≡ false

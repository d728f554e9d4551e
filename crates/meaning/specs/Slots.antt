-- What a column says at a slot: validity bits, offsets and stored values as in the Arrow columnar format, NaN as in IEEE 754.
use Rattle.std.specs.Prelude.{ℕ, ◌+◌, ◌-◌, ◌*◌, ◌/◌, ◌%◌, ◌^◌, Bool, false, not, ◌&&◌, List, take, drop, Some, None, Option, ◌==◌, nat_lt, slice_index}
use Rattle.meaning.specs.Model.{Column, Code, Word, int32, int64, float32, float64, date32, time64, micros, nanos, bits, words, variable, fixed_size_binary, structs, lists, large_lists, fixed_size_lists, maps}
use Rattle.meaning.specs.Lists.{from}
use Rattle.meaning.specs.Items.{little}

-- bit i; bits run from bit 0 of the first byte (Arrow)
abbrev pub bit : List ℕ → ℕ → Bool
bit bs i = slice_index bs (i / 8) / 2 ^ (i % 8) % 2 == 1

-- whether bit i is 0; without validity bits none is
abbrev pub unset : Option (List ℕ) → ℕ → Bool
unset None i = false
unset (Some bs) i = not (bit bs i)

-- a slot is null where the column has it, has validity bits, and its bit is 0 (Arrow)
abbrev pub null : Column → ℕ → Bool
null x i = nat_lt i x.len && unset x.validity i

-- where slot i's span begins and ends: between offsets i and i + 1, or at multiples of the width or size (Arrow)
abbrev pub span_by : Code → List ℕ → ℕ → ℕ × ℕ
span_by bits os i = (0, 0)
span_by (words w) os i = (0, 0)
span_by (variable t) os i = (slice_index os i, slice_index os (i + 1))
span_by (fixed_size_binary w) os i = (i * w, (i + 1) * w)
span_by structs os i = (0, 0)
span_by lists os i = (slice_index os i, slice_index os (i + 1))
span_by large_lists os i = (slice_index os i, slice_index os (i + 1))
span_by (fixed_size_lists s) os i = (i * s, (i + 1) * s)
span_by maps os i = (slice_index os i, slice_index os (i + 1))

-- the span of slot i: where its elements, pairs or bytes begin and end
abbrev pub span : Column → ℕ → ℕ × ℕ
span x i = span_by x.code x.offsets i

-- the child's slots in the span of slot i
abbrev pub span_slots : Column → ℕ → List ℕ
span_slots x i = from (span x i).0 ((span x i).1 - (span x i).0)

-- the number of w bytes at slot i, low byte first
abbrev pub stored : ℕ → List ℕ → ℕ → ℕ
stored w body i = little (take w (drop (i * w) body))

-- 32 bits are a NaN if the 8 bits of the exponent are all ones and the fraction is not 0 (IEEE 754)
abbrev pub nan32 : ℕ → Bool
nan32 b = b / 2 ^ 23 % 2 ^ 8 == 255 && not (b % 2 ^ 23 == 0)

-- 64 bits likewise, with 11 bits of exponent
abbrev pub nan64 : ℕ → Bool
nan64 b = b / 2 ^ 52 % 2 ^ 11 == 2047 && not (b % 2 ^ 52 == 0)

-- whether a fixed-width slot holds a NaN, null or not: only floats can
abbrev pub nan_word : Word → List ℕ → ℕ → Bool
nan_word int32 body i = false
nan_word int64 body i = false
nan_word float32 body i = nan32 (stored 4 body i)
nan_word float64 body i = nan64 (stored 8 body i)
nan_word date32 body i = false
nan_word time64 body i = false
nan_word micros body i = false
nan_word nanos body i = false

-- the same, by the column's code
abbrev pub nan_by : Code → List ℕ → ℕ → Bool
nan_by bits body i = false
nan_by (words w) body i = nan_word w body i
nan_by (variable t) body i = false
nan_by (fixed_size_binary w) body i = false
nan_by structs body i = false
nan_by lists body i = false
nan_by large_lists body i = false
nan_by (fixed_size_lists s) body i = false
nan_by maps body i = false

-- a slot that is not null and holds a NaN
abbrev pub nan : Column → ℕ → Bool
nan x i = not (null x i) && nan_by x.code x.body i

-- The table of refusals.
use Rattle.std.specs.Prelude.{ℕ}
use Rattle.fault.specs.declared.refusal.Refusal.{Refusal}
use Rattle.fault.specs.declared.refusal.Refusal.TheVariants.{Cut, LongNumber, Code, Limit, Offset, Length, Unported, Leftover, NoPlace, NoStruct, NoMatch, NoList, NoMap, WrongColumn, NullField, NullElement, UnevenRows, UnevenPairs, NullKey, ShortChild, NoCells, FullTable}

-- the number of each refusal: 1 to 8 are given by reading a file, 9 to 22 by the steps over a batch
abbrev pub number_of : Refusal → ℕ
number_of Cut = 1
number_of LongNumber = 2
number_of Code = 3
number_of Limit = 4
number_of Offset = 5
number_of Length = 6
number_of Unported = 7
number_of Leftover = 8
number_of NoPlace = 9
number_of NoStruct = 10
number_of NoMatch = 11
number_of NoList = 12
number_of NoMap = 13
number_of WrongColumn = 14
number_of NullField = 15
number_of NullElement = 16
number_of UnevenRows = 17
number_of UnevenPairs = 18
number_of NullKey = 19
number_of ShortChild = 20
number_of NoCells = 21
number_of FullTable = 22

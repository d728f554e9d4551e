-- What a part of the table has.
use Rattle.std.specs.Prelude.{◌==◌, ℕ, Bool, List, length, cond, nat_lt}
use Rattle.std.specs.List.{position_or_len, after_first}
use Rattle.std.specs.Str.Parse.{digits_value, without_leading_plus}

-- `*` parts the hex string from its count
abbrev pub is_star : ℕ → Bool
is_star c = c == 42

-- the count that follows the first `*`, or 1 where there is none
abbrev pub part_count : List ℕ → ℕ
part_count text = cond (nat_lt (position_or_len is_star text) (length text)) (digits_value 10 (without_leading_plus (after_first is_star text))) 1

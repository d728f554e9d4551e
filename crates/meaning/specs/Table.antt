-- The counter's table: an entry for each id, and what a call adds to it.
use Rattle.std.specs.Prelude.{ℕ, ◌+◌, ◌-◌, ◌^◌, min, Bool, cond, ◌||◌, List, [], ◌∷◌, length, ℤ, Some, None, Ok, Err, Option, Result, int_lt, nat_le}
use Rattle.meaning.specs.Lists.{any_of}
use Rattle.meaning.specs.Equal.{same_integer}
use Rattle.meaning.specs.Model.{Model}
use Rattle.meaning.specs.Access.{StepFault, fault}
use Rattle.meaning.specs.Codes.{float?}
use Rattle.meaning.specs.Reaches.{Reach}
use Rattle.meaning.specs.Nans.{nans}

-- a field id, and the NaNs counted under it
pub record CountEntry : Type 0 where
  pub id : ℤ
  pub count : ℕ

-- entries ascend by id; a new counter's table is empty
abbrev pub Table : Type 0
Table = List CountEntry

-- a count is an unsigned number of 64 bits: what would pass 2^64 - 1 is held there
abbrev pub saturated : ℕ → ℕ
saturated n = min n (2 ^ 64 - 1)

-- n more under an id: its entry grows, or a new one stands at its ascending place
abbrev pub added : Table → ℤ → ℕ → Table
added [] id n = record { id = id; count = saturated n } ∷ []
added (e ∷ es) id n =
    cond (same_integer id e.id) (record { id = id; count = saturated (e.count + n) } ∷ es)
    (cond (int_lt id e.id) (record { id = id; count = saturated n } ∷ (e ∷ es)) (e ∷ added es id n))

-- the count question: the count under an id, absent where the table has no entry of that id
abbrev pub count_of : Table → ℤ → Option ℕ
count_of [] id = None
count_of (e ∷ es) id = cond (same_integer id e.id) (Some e.count) (count_of es id)

-- whether the table has an entry of this id
abbrev pub has_id : Table → ℤ → Bool
has_id t id = any_of (λ e. same_integer id e.id) t

-- whether there is room: for an id that has an entry always, for a new one up to the 256th
abbrev pub has_room : Table → ℤ → Bool
has_room t id = has_id t id || nat_le (length t + 1) 256

-- what a call answers: nothing, or its refusal
abbrev pub Answer : Type 0
Answer = Result (Unit {0}) StepFault

-- the answer of a walk that ended with this refusal, or with none
abbrev pub answer : Option StepFault → Answer
answer None = Ok tt
answer (Some e) = Err e

-- reach by reach, each float column's NaNs under its field's id; a 257th id is refused (22), and what was added stays
abbrev pub add_reaches : Model → Table → List Reach → Option StepFault → Answer × Table
add_reaches m t [] e = (answer e, t)
add_reaches m t (r ∷ rs) e =
    cond (float? m r.column)
    (cond (has_room t r.id) (add_reaches m (added t r.id (nans m r.column)) rs e) (Err (fault 22 r.column r.field), t))
    (add_reaches m t rs e)

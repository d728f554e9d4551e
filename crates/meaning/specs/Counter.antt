-- The counter's hooks: each after hook adds a float column's NaNs under the field's id.
use Rattle.std.specs.Prelude.{◌≡◌, ℕ, cond, ℤ, Some, None, Ok, Err, Option}
use Rattle.meaning.specs.Forest.{Forest}
use Rattle.meaning.specs.Model.{Model, Field}
use Rattle.meaning.specs.Access.{Pick, Own, fault}
use Rattle.meaning.specs.Codes.{float?}
use Rattle.meaning.specs.Nans.{nans}
use Rattle.meaning.specs.Reaches.{reached}
use Rattle.meaning.specs.Table.{has_room, Table, added, Answer, add_reaches}
use Rattle.meaning.specs.Keeps.{Keeps}
use Rattle.meaning.specs.Walk.{Step, ret, refuse, Hooks, field_at, missing, visit_struct, refuse_if}

-- column c is reached under field n, whose id this is: a float column adds its NaNs, a 257th id is refused (22), and a column that is no float column adds nothing
abbrev pub count_reach : Model → ℤ → ℕ → ℕ → Step Table (Unit {0})
count_reach m id n c t =
    cond (float? m c)
    (cond (has_room t id) (Ok tt, added t id (nans m c)) (Err (fault 22 c n), t))
    (Ok tt, t)

-- a number that names no field or no column is refused first (9)
abbrev pub count_reach_by : Model → Option (Field × Forest Field) → ℕ → ℕ → Step Table (Unit {0})
count_reach_by m None n c = refuse (fault 9 c n)
count_reach_by m (Some (f, below)) n c = refuse_if (missing m c) (fault 9 c n) (count_reach m f.id n c)

-- the counter: the state is its table, and its results say nothing
abbrev pub counter : Model → Hooks Table (Unit {0})
counter m = record {
  before = λ r n c. ret tt;
  after = λ r n c. count_reach_by m (field_at m n) n c;
  on_field = λ n c t. ret tt;
  on_primitive = λ n c. ret tt;
  on_struct = λ n c ts. ret tt;
  on_list = λ n c t. ret tt;
  on_map = λ n c k v. ret tt;
}

-- one call of `compute`, as a walk of the schema's struct at column 0
abbrev pub compute_walk : Model → Pick → Table → Answer × Table
compute_walk m pick t = visit_struct m pick (counter m) 0 t

-- of every batch that keeps the rules, through every accessor and from every table on: the walk answers, and leaves the table, as adding what is reached does
abbrev pub CountedLaw : Type 0
CountedLaw = (m : Model) → Keeps m → (pick : Pick) → Own m pick → (t : Table) → compute_walk m pick t ≡ add_reaches m t (reached m pick).0 (reached m pick).1

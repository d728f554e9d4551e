-- The converter's hooks, on lists of values, and the law that its walk gives the rows.
use Rattle.std.specs.Prelude.{◌≡◌, ℕ, ◌+◌, ◌*◌, ◌/◌, Bool, true, false, cond, not, ◌&&◌, ltb, List, [], ◌∷◌, map as each, length, Some, None, Ok, Err, Option, Result, ◌==◌, nat_le, nat_lt, slice_index_or}
use Rattle.meaning.specs.Forest.{Forest, none, tree, size}
use Rattle.meaning.specs.Model.{Model, Column, Field, Shape, prim, struct, list, map, Primitive, Code, bits, words, variable, fixed_size_binary, structs, lists, large_lists, fixed_size_lists, maps, at}
use Rattle.meaning.specs.Lists.{upto, any_of, sum}
use Rattle.meaning.specs.Slots.{null, span, span_slots}
use Rattle.meaning.specs.Codes.{struct?, list?, map?}
use Rattle.meaning.specs.Access.{Pick, Own, StepFault, fault}
use Rattle.meaning.specs.Literals.{Literal, null_literal, struct_literal, list_literal, map_literal, Values, literal_at, Value, is_null_literal, same_literal, put_before, listed}
use Rattle.meaning.specs.Rows.{joined, kept, rows}
use Rattle.meaning.specs.Converts.{accepts, converts, first_required, after_first}
use Rattle.meaning.specs.Keeps.{Keeps}
use Rattle.meaning.specs.Walk.{Step, ret, Hooks, field_at, type_at, missing, visit_struct, refuse_if, or_refuse}

-- a result's value at a slot; a result is the list of the values of a column's slots
abbrev pub slot : List Value → ℕ → Value
slot t i = slice_index_or t i (null_literal, none)

-- what a hook asks of the field it is given: for `primitive` a primitive type
abbrev pub prim_of : Option (Shape × Forest Field) → Option Primitive
prim_of None = None
prim_of (Some (prim p, fs)) = Some p
prim_of (Some (struct, fs)) = None
prim_of (Some (list, fs)) = None
prim_of (Some (map, fs)) = None

-- for `struct` a struct type
abbrev pub struct_of : Option (Shape × Forest Field) → Option (Unit {0})
struct_of None = None
struct_of (Some (prim p, fs)) = None
struct_of (Some (struct, fs)) = Some tt
struct_of (Some (list, fs)) = None
struct_of (Some (map, fs)) = None

-- for `list` a list type, and whether its element is required
abbrev pub list_of : Option (Shape × Forest Field) → Option Bool
list_of None = None
list_of (Some (prim p, fs)) = None
list_of (Some (struct, fs)) = None
list_of (Some (list, fs)) = Some (first_required fs)
list_of (Some (map, fs)) = None

-- for `map` a map type, and whether its value is required
abbrev pub map_of : Option (Shape × Forest Field) → Option Bool
map_of None = None
map_of (Some (prim p, fs)) = None
map_of (Some (struct, fs)) = None
map_of (Some (list, fs)) = None
map_of (Some (map, fs)) = Some (first_required (after_first fs))

-- for `field` any field, and whether it is required
abbrev pub required_of : Option (Field × Forest Field) → Option Bool
required_of None = None
required_of (Some (f, below)) = Some f.required

-- a hook's first question: a field of the kind that the hook is for, and a column; else refusal 9
abbrev pub sought : {X Y : Type 0} → Model → Option X → ℕ → ℕ → (X → Step ℕ Y) → Step ℕ Y
sought m o n c k = or_refuse o (fault 9 c n) (λ x. refuse_if (missing m c) (fault 9 c n) (k x))

-- the column whose child column k is, the trees from n on being below column up
abbrev pub holder_in : ℕ → ℕ → ℕ → Forest Column → ℕ
holder_in k up n none = up
holder_in k up n (tree x below rest) = cond (k == n) up (cond (nat_lt k (n + 1 + size below)) (holder_in k n (n + 1) below) (holder_in k up (n + 1 + size below) rest))

-- the column whose child column k is
abbrev pub holder : Model → ℕ → ℕ
holder m k = holder_in k 0 1 m.columns

-- the rows of a list column over an element result of this length: a fixed-size list has as many as the result fills
abbrev pub list_rows : Code → ℕ → ℕ → ℕ
list_rows bits len l = len
list_rows (words w) len l = len
list_rows (variable t) len l = len
list_rows (fixed_size_binary w) len l = len
list_rows structs len l = len
list_rows lists len l = len
list_rows large_lists len l = len
list_rows (fixed_size_lists s) len l = l / s
list_rows maps len l = len

-- the span of one of the column's first slots, null or not, ends past a result of length l
abbrev pub past_end : Column → ℕ → ℕ → Bool
past_end x rows l = any_of (λ i. ltb l (span x i).1) (upto rows)

-- a null of a result in the span of a slot that is not null
abbrev pub null_in_span : Column → ℕ → List Value → Bool
null_in_span x rows t = any_of (λ i. not (null x i) && any_of (λ j. is_null_literal (slot t j).0) (span_slots x i)) (upto rows)

-- a row for each of so many slots: null where the slot is null, else this literal over these parts
abbrev pub row_values : Column → ℕ → Literal → (ℕ → Values) → List Value
row_values x rows l below = each (λ i. (cond (null x i) null_literal l, cond (null x i) none (below i))) (upto rows)

-- a struct's parts at a slot: the slot's value in each field's result
abbrev pub field_parts : List (List Value) → ℕ → Values
field_parts [] i = none
field_parts (t ∷ ts) i = put_before (slot t i) (field_parts ts i)

-- a list's parts at a slot: the values of the element result in its span
abbrev pub elements : Column → List Value → ℕ → Values
elements x t i = joined (λ j. put_before (slot t j) none) (span_slots x i)

-- the pairs that a map's slot keeps, as (key slot, value slot): a repeated key at its first place with its first key and its last value
abbrev pub kept_pairs : Column → List Value → ℕ → List (ℕ × ℕ)
kept_pairs x ks i = kept (λ a b. same_literal (slot ks a).0 (slot ks b).0) (span_slots x i)

-- a map's parts at a slot: the keys and values of its kept pairs, in turn
abbrev pub entries : Column → List Value → List Value → ℕ → Values
entries x ks vs i = joined (λ (kv : ℕ × ℕ). put_before (slot ks kv.0) (put_before (slot vs kv.1) none)) (kept_pairs x ks i)

-- two cells for each kept pair of a slot that is not null
abbrev pub pair_cells : Column → List Value → ℕ
pair_cells x ks = 2 * sum (λ i. cond (null x i) 0 (length (kept_pairs x ks i))) (upto x.len)

-- a field result that has not as many rows as the struct's column
abbrev pub uneven : ℕ → List (List Value) → Bool
uneven l [] = false
uneven l (t ∷ ts) = cond (length t == l) (uneven l ts) true

module _ (m : Model) (cells : ℕ) where
  -- so many more cells for a result, or refusal 21 where they do not fit
  abbrev pub taking : ℕ → ℕ → ℕ → List Value → Step ℕ (List Value)
  taking n c more t taken = cond (nat_le (taken + more) cells) (Ok t, taken + more) (Err (fault 21 c n), taken)

  -- a required field's null at a slot where the struct that holds the column is not null
  abbrev pub null_required : ℕ → List Value → Bool
  null_required c t = any_of (λ i. not (struct? m (holder m c) && null (at m (holder m c)) i) && is_null_literal (slot t i).0) (upto (length t))

  -- `field`: a null of a required field is refused (15)
  abbrev pub field_step : ℕ → ℕ → List Value → Step ℕ (List Value)
  field_step n c t =
      sought m (required_of (field_at m n)) n c (λ required.
      refuse_if (required && null_required c t) (fault 15 c n)
      (ret t))

  -- `primitive`: a column code that the type does not accept is refused (14); a literal and a cell for each slot
  abbrev pub primitive_step : ℕ → ℕ → Step ℕ (List Value)
  primitive_step n c =
      sought m (prim_of (type_at m n)) n c (λ p.
      refuse_if (not (accepts p (at m c).code)) (fault 14 c n)
      (taking n c (at m c).len (each (λ i. (literal_at (prim p) (at m c) i, none)) (upto (at m c).len))))

  -- `struct`: field results of another length are refused (17), then a struct type without fields at a column that is no struct (14); a row for each slot
  abbrev pub struct_step : ℕ → ℕ → List (List Value) → Step ℕ (List Value)
  struct_step n c ts =
      sought m (struct_of (type_at m n)) n c (λ _.
      refuse_if (uneven (at m c).len ts) (fault 17 c n)
      (refuse_if (length ts == 0 && not (struct? m c)) (fault 14 c n)
      (taking n c ((at m c).len + length ts * (at m c).len) (row_values (at m c) (at m c).len struct_literal (field_parts ts)))))

  -- `list`: a column that is no list is refused (12), then a span past the result (20), then a null of a required element in a span (16); a row for each slot
  abbrev pub list_step : ℕ → ℕ → List Value → Step ℕ (List Value)
  list_step n c t =
      let rows : ℕ = list_rows (at m c).code (at m c).len (length t) in
      sought m (list_of (type_at m n)) n c (λ required.
      refuse_if (not (list? m c)) (fault 12 c n)
      (refuse_if (past_end (at m c) rows (length t)) (fault 20 c n)
      (refuse_if (required && null_in_span (at m c) rows t) (fault 16 c n)
      (taking n c rows (row_values (at m c) rows list_literal (elements (at m c) t))))))

  -- `map`: a column that is no map is refused (13), then uneven results (18), a span past them (20), a null key in a span (19), a null of a required value in a span (16); a row for each slot
  abbrev pub map_step : ℕ → ℕ → List Value → List Value → Step ℕ (List Value)
  map_step n c ks vs =
      let rows : ℕ = (at m c).len in
      sought m (map_of (type_at m n)) n c (λ required.
      refuse_if (not (map? m c)) (fault 13 c n)
      (refuse_if (not (length ks == length vs)) (fault 18 c n)
      (refuse_if (past_end (at m c) rows (length ks)) (fault 20 c n)
      (refuse_if (null_in_span (at m c) rows ks) (fault 19 c n)
      (refuse_if (required && null_in_span (at m c) rows vs) (fault 16 c n)
      (taking n c (rows + pair_cells (at m c) ks) (row_values (at m c) rows map_literal (entries (at m c) ks vs))))))))

  -- the converter: the state is the number of cells taken, a result the values of a column's slots
  abbrev pub converter : Hooks ℕ (List Value)
  converter = record {
    before = λ r n c. ret tt;
    after = λ r n c. ret tt;
    on_field = field_step;
    on_primitive = primitive_step;
    on_struct = struct_step;
    on_list = list_step;
    on_map = map_step;
  }

-- conversion of the schema's struct at column 0, from no cells taken, as a walk
abbrev pub conversion : Model → Pick → ℕ → Result (List Value) StepFault × ℕ
conversion m pick cells = visit_struct m pick (converter m cells) 0 0

-- what the walk makes of a batch, through a pick and with so many cells
pub record Converted (m : Model) (pick : Pick) (cells : ℕ) : Type 0 where
  -- where `converts` accepts, the walk gives the rows and takes the cells that it says
  pub accepted : (t : ℕ) → converts m pick cells ≡ Ok t → conversion m pick cells ≡ (Ok (listed (rows m pick)), t)
  -- and it refuses exactly where `converts` does, with the same fault
  pub refused : (f : StepFault) → converts m pick cells ≡ Err f → (conversion m pick cells).0 ≡ Err f
  pub exactly : (f : StepFault) → (conversion m pick cells).0 ≡ Err f → converts m pick cells ≡ Err f

-- of every batch that keeps the rules, through every accessor
abbrev pub ConvertedLaw : Type 0
ConvertedLaw = (m : Model) → Keeps m → (pick : Pick) → Own m pick → (cells : ℕ) → Converted m pick cells

-- When conversion to rows refuses, in the order of the walk, and how many cells it takes.
use Rattle.std.specs.Prelude.{ℕ, ◌+◌, ◌*◌, Bool, false, cond, not, ◌&&◌, ◌||◌, length, Some, None, Ok, Err, Option, Result, ◌==◌, nat_le}
use Rattle.meaning.specs.Forest.{Forest, none, tree, size, count}
use Rattle.meaning.specs.Model.{Model, Field, Shape, prim, struct, list, map, Primitive, boolean, int, long, float, double, date, time, timestamp, timestamptz, timestamp_ns, timestamptz_ns, string, uuid, fixed, binary, Code, at}
use Rattle.meaning.specs.Lists.{upto, any_of, sum}
use Rattle.meaning.specs.Codes.{code_number, code_detail, struct?}
use Rattle.meaning.specs.Slots.{null, span_slots}
use Rattle.meaning.specs.Access.{child_at, Pick, StepFault, fault, partner}
use Rattle.meaning.specs.Literals.{same_by}
use Rattle.meaning.specs.Rows.{kept}

-- a code of this number
abbrev pub has_number : Code → ℕ → Bool
has_number k n = code_number k == n

-- whether the detail of a code is n
abbrev pub detail_is : Option ℕ → ℕ → Bool
detail_is None n = false
detail_is (Some d) n = d == n

-- a FixedSizeBinary of this width
abbrev pub has_width : Code → ℕ → Bool
has_width k w = has_number k 13 && detail_is (code_detail k) w

-- the column codes that each primitive type of the table format accepts
abbrev pub accepts : Primitive → Code → Bool
accepts boolean k = has_number k 1
accepts int k = has_number k 2
accepts long k = has_number k 3
accepts float k = has_number k 4
accepts double k = has_number k 5
accepts date k = has_number k 7
accepts time k = has_number k 8
accepts timestamp k = has_number k 9
accepts timestamptz k = has_number k 9
accepts timestamp_ns k = has_number k 10
accepts timestamptz_ns k = has_number k 10
accepts string k = has_number k 11 || has_number k 12
accepts uuid k = has_width k 16
accepts (fixed n) k = has_width k n
accepts binary k = has_number k 14 || has_number k 15

-- whether the first of these fields is required
abbrev pub first_required : Forest Field → Bool
first_required none = false
first_required (tree f below rest) = f.required

-- the fields after the first
abbrev pub after_first : Forest Field → Forest Field
after_first none = none
after_first (tree f below rest) = rest

-- the shape of the first one's type
abbrev pub first_shape : Forest Field → Shape
first_shape none = struct
first_shape (tree f below rest) = f.shape

-- a result, then what goes on with it; the first refusal ends it
abbrev pub and_then : Result ℕ StepFault → (ℕ → Result ℕ StepFault) → Result ℕ StepFault
and_then (Ok x) k = k x
and_then (Err e) k = Err e

-- so many more cells for field n at column c, or refusal 21 where they do not fit
abbrev pub takes : ℕ → ℕ → ℕ → ℕ → ℕ → Result ℕ StepFault
takes cells n c more taken = cond (nat_le (taken + more) cells) (Ok (taken + more)) (Err (fault 21 c n))

-- a null of column p in the span of a slot of column c that is not null
abbrev pub null_in_spans : Model → ℕ → ℕ → Bool
null_in_spans m c p = any_of (λ i. not (null (at m c) i) && any_of (λ j. null (at m p) j) (span_slots (at m c) i)) (upto (at m c).len)

-- what the hook of field n's own type refuses at column c, and the cells it takes:
-- a primitive one a slot; a struct of f fields 1 + f a row; a list one a row; a map one a row and two for each kept pair
abbrev pub own_hook : Model → ℕ → Shape → Forest Field → ℕ → ℕ → ℕ → Result ℕ StepFault
own_hook m cells (prim p) below n c taken = cond (accepts p (at m c).code) (takes cells n c (at m c).len taken) (Err (fault 14 c n))
own_hook m cells struct below n c taken =
    cond (count below == 0 && not (struct? m c)) (Err (fault 14 c n)) (takes cells n c ((at m c).len + count below * (at m c).len) taken)
own_hook m cells list below n c taken = cond (first_required below && null_in_spans m c (child_at m c 0)) (Err (fault 16 c n)) (takes cells n c (at m c).len taken)
own_hook m cells map below n c taken =
    let p : ℕ = child_at m c 0 in
    let q : ℕ = child_at m c 1 in
    cond (null_in_spans m c p) (Err (fault 19 c n))
    (cond (first_required (after_first below) && null_in_spans m c q) (Err (fault 16 c n))
    (takes cells n c ((at m c).len + 2 * sum (λ i. cond (null (at m c) i) 0 (length (kept (same_by (first_shape below) (at m p)) (span_slots (at m c) i)))) (upto (at m c).len)) taken))

-- what `field` refuses for field n, held by a type of this shape at column c, with its partner p: a null of a required field where its struct is not null
abbrev pub field_hook : Model → Shape → Field → ℕ → ℕ → ℕ → ℕ → Result ℕ StepFault
field_hook m (prim k) f n c p taken = Ok taken
field_hook m struct f n c p taken = cond (f.required && any_of (λ i. not (null (at m c) i) && null (at m p) i) (upto (at m c).len)) (Err (fault 15 p n)) (Ok taken)
field_hook m list f n c p taken = Ok taken
field_hook m map f n c p taken = Ok taken

module _ (m : Model) (pick : Pick) (cells : ℕ) where
  -- the fields held by a type of this shape, whose field is up, at column c, from field n on, with so many cells taken before:
  -- for each its partner, what is below it, its own type's hook, `field`, then the next
  abbrev pub check_fields : Forest Field → Shape → ℕ → ℕ → ℕ → ℕ → Result ℕ StepFault
  check_fields none s up n c taken = Ok taken
  check_fields (tree f below rest) s up n c taken =
      and_then (partner m pick s up c n)
      (λ p. and_then (check_fields below f.shape n (n + 1) p taken)
      (λ t. and_then (own_hook m cells f.shape below n p t)
      (λ t. and_then (field_hook m s f n c p t)
      (λ t. check_fields rest s up (n + 1 + size below) c t))))

  -- the cells that conversion of the schema's struct at column 0 takes, or its refusal
  abbrev pub converts : Result ℕ StepFault
  converts = and_then (check_fields m.fields struct 0 1 0 0) (λ t. own_hook m cells struct m.fields 0 0 t)

-- The two accessors' picks: the child that stands for a field, by id or by name.
use Rattle.std.specs.Prelude.{ℕ, ◌+◌, ◌-◌, ◌*◌, ◌^◌, Bool, false, cond, ◌&&◌, List, [], ◌∷◌, ℤ, pos, negsuc, Some, None, Option, ◌==◌, nat_le, nat_lt}
use Rattle.meaning.specs.Forest.{Forest, none, tree, size, find}
use Rattle.meaning.specs.Model.{Model, Field, Column, children}
use Rattle.meaning.specs.Equal.{same_integer, same_bytes}
use Rattle.meaning.specs.Access.{Pick}

-- the value of decimal digits, '0' being 48, those before them having value v
abbrev pub digits_value : ℕ → List ℕ → Option ℕ
digits_value v [] = Some v
digits_value v (b ∷ bs) = cond (nat_le 48 b && nat_le b 57) (digits_value (10 * v + (b - 48)) bs) None

-- the value of a text of at least one digit and nothing else
abbrev pub digits_only : List ℕ → Option ℕ
digits_only [] = None
digits_only (b ∷ bs) = digits_value 0 (b ∷ bs)

-- n, if it fits 32 signed bits
abbrev pub positive : Option ℕ → Option ℤ
positive None = None
positive (Some n) = cond (nat_lt n (2 ^ 31)) (Some (pos n)) None

-- -n
abbrev pub negated : ℕ → ℤ
negated n = cond (n == 0) (pos 0) (negsuc (n - 1))

-- -n, if it fits 32 signed bits
abbrev pub negative : Option ℕ → Option ℤ
negative None = None
negative (Some n) = cond (nat_le n (2 ^ 31)) (Some (negated n)) None

-- the id that a text stands for: one sign or none, '+' (43) or '-' (45), then at least one digit, within 32 signed bits
abbrev pub id_of : List ℕ → Option ℤ
id_of [] = None
id_of (b ∷ bs) = cond (b == 43) (positive (digits_only bs)) (cond (b == 45) (negative (digits_only bs)) (positive (digits_only (b ∷ bs))))

-- a column's id: a missing or unreadable id text is none
abbrev pub read_id : Option (List ℕ) → Option ℤ
read_id None = None
read_id (Some bs) = id_of bs

-- whether it is this id
abbrev pub is_id : ℤ → Option ℤ → Bool
is_id id None = false
is_id id (Some z) = same_integer id z

-- the number of the first of the columns side by side that passes a test, the first of them having number n
abbrev pub first_child : (Column → Bool) → ℕ → Forest Column → Option ℕ
first_child f n none = None
first_child f n (tree x below rest) = cond (f x) (Some n) (first_child f (n + 1 + size below) rest)

-- the first child of column c that the test ties to this field; no field, no child
abbrev pub by_field : (Field → Column → Bool) → Model → ℕ → Option (Field × Forest Field) → Option ℕ
by_field f m c None = None
by_field f m c (Some (x, below)) = first_child (f x) (c + 1) (children m c)

-- by id: the first child of column c whose id text reads as the id of field n
abbrev pub by_id : Model → Pick
by_id m c n = by_field (λ f x. is_id f.id (read_id x.id_text)) m c (find n 1 m.fields)

-- by name: the first child of column c with the name bytes of field n
abbrev pub by_name : Model → Pick
by_name m c n = by_field (λ f x. same_bytes f.name x.name) m c (find n 1 m.fields)

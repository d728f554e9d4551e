-- NaNs: of a column, at hidden slots, and in rows.
use Rattle.std.specs.Prelude.{ℕ, ◌+◌, Bool, false, cond, not, ◌&&◌, ℤ}
use Rattle.meaning.specs.Forest.{Forest, none, tree}
use Rattle.meaning.specs.Model.{Model, Field, Shape, prim, struct, list, map, at}
use Rattle.meaning.specs.Lists.{upto, tally}
use Rattle.meaning.specs.Equal.{same_integer}
use Rattle.meaning.specs.Slots.{nan, nan32, nan64}
use Rattle.meaning.specs.Literals.{Literal, null_literal, boolean_literal, int_literal, long_literal, float_literal, double_literal, bytes_literal, struct_literal, list_literal, map_literal, Values}
use Rattle.meaning.specs.Reaches.{Reach}

-- the NaNs of column c: slots that are not null and hold one
abbrev pub nans : Model → ℕ → ℕ
nans m c = tally (nan (at m c)) (upto (at m c).len)

-- the NaNs at the hidden slots of a reach
abbrev pub hidden_nans : Model → Reach → ℕ
hidden_nans m r = tally (λ i. nan (at m r.column) i && not (r.shown i)) (upto (at m r.column).len)

-- whether a literal is a NaN
abbrev pub nan_literal : Literal → Bool
nan_literal null_literal = false
nan_literal (boolean_literal b) = false
nan_literal (int_literal z) = false
nan_literal (long_literal z) = false
nan_literal (float_literal b) = nan32 b
nan_literal (double_literal b) = nan64 b
nan_literal (bytes_literal bs) = false
nan_literal struct_literal = false
nan_literal list_literal = false
nan_literal map_literal = false

-- the sum over a list's elements
abbrev pub sum_elements : (Literal → Values → ℕ) → Values → ℕ
sum_elements f none = 0
sum_elements f (tree x ps rest) = f x ps + sum_elements f rest

-- the sum over a map's pairs, which stand as key, value, key, value
abbrev pub sum_pairs : (Literal → Values → ℕ) → (Literal → Values → ℕ) → Values → ℕ
sum_pairs f g none = 0
sum_pairs f g (tree x ps none) = f x ps
sum_pairs f g (tree x ps (tree y qs rest)) = f x ps + (g y qs + sum_pairs f g rest)

-- 1 for a literal that is a NaN and stands for a field of this id, else 0
abbrev pub nan_of : ℤ → Field → Literal → ℕ
nan_of id f x = cond (same_integer id f.id && nan_literal x) 1 0

-- the NaNs that stand for fields of this id in the parts of a value whose type has this shape and holds these fields
abbrev pub nans_in : ℤ → Forest Field → Shape → Values → ℕ
nans_in id none s vs = 0
nans_in id (tree f below rest) (prim p) vs = 0
nans_in id (tree f below rest) struct none = 0
nans_in id (tree f below rest) struct (tree x ps more) = nan_of id f x + (nans_in id below f.shape ps + nans_in id rest struct more)
nans_in id (tree f below rest) list vs = sum_elements (λ x ps. nan_of id f x + nans_in id below f.shape ps) vs
nans_in id (tree f below none) map vs = 0
nans_in id (tree f below (tree g under' rest)) map vs =
    sum_pairs (λ x ps. nan_of id f x + nans_in id below f.shape ps) (λ x ps. nan_of id g x + nans_in id under' g.shape ps) vs

-- Column codes by their numbers: which code a number stands for, and which codes hold no NaN.
use Rattle.std.proofs.Common.{◌≡◌, ℕ, true, false, ◌||◌, List, sym, refl, ap, ◌∙◌}
use Rattle.meaning.specs.Model.{Code, bits, words, variable, fixed_size_binary, structs, lists, large_lists, fixed_size_lists, maps, int32, int64, float32, float64, date32, time64, micros, nanos, utf8, large_utf8, binaries, large_binary}
use Rattle.meaning.specs.Lists.{or_zero}
use Rattle.meaning.specs.Codes.{code_number, code_detail, is_struct, is_list, is_map, is_float}
use Rattle.meaning.specs.Columns.{detailed}
use Rattle.meaning.specs.Slots.{nan_by}

-- the code that is read from a code's number and detail is that code
pub code_back : (k : Code) → detailed (code_number k) (or_zero (code_detail k)) ≡ k
code_back bits = refl
code_back (words int32) = refl
code_back (words int64) = refl
code_back (words float32) = refl
code_back (words float64) = refl
code_back (words date32) = refl
code_back (words time64) = refl
code_back (words micros) = refl
code_back (words nanos) = refl
code_back (variable utf8) = refl
code_back (variable large_utf8) = refl
code_back (variable binaries) = refl
code_back (variable large_binary) = refl
code_back (fixed_size_binary w) = refl
code_back structs = refl
code_back lists = refl
code_back large_lists = refl
code_back (fixed_size_lists s) = refl
code_back maps = refl

pub is-float : (k : Code) → code_number k ≡ 4 → k ≡ words float32
is-float k e = sym (code_back k) ∙ ap (λ (n : ℕ). detailed n (or_zero (code_detail k))) e

pub is_double : (k : Code) → code_number k ≡ 5 → k ≡ words float64
is_double k e = sym (code_back k) ∙ ap (λ (n : ℕ). detailed n (or_zero (code_detail k))) e

-- a column that is no float column holds no NaN
pub no_nan : (k : Code) (body : List ℕ) (i : ℕ) → is_float k ≡ false → nan_by k body i ≡ false
no_nan bits body i e = refl
no_nan (words int32) body i e = refl
no_nan (words int64) body i e = refl
no_nan (words float32) body i e = cc
no_nan (words float64) body i e = cc
no_nan (words date32) body i e = refl
no_nan (words time64) body i e = refl
no_nan (words micros) body i e = refl
no_nan (words nanos) body i e = refl
no_nan (variable t) body i e = refl
no_nan (fixed_size_binary w) body i e = refl
no_nan structs body i e = refl
no_nan lists body i e = refl
no_nan large_lists body i e = refl
no_nan (fixed_size_lists s) body i e = refl
no_nan maps body i e = refl

-- nor does a struct, list or map column
pub nested_no_nan : (k : Code) (body : List ℕ) (i : ℕ) → (is_struct k || (is_list k || is_map k)) ≡ true → nan_by k body i ≡ false
nested_no_nan bits body i e = refl
nested_no_nan (words w) body i e = cc
nested_no_nan (variable t) body i e = refl
nested_no_nan (fixed_size_binary w) body i e = refl
nested_no_nan structs body i e = refl
nested_no_nan lists body i e = refl
nested_no_nan large_lists body i e = refl
nested_no_nan (fixed_size_lists s) body i e = refl
nested_no_nan maps body i e = refl

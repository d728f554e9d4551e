-- Worked cases of the converter's hooks and of both walks, by computing.
use Rattle.std.proofs.Common.{◌≡◌, ℕ, zero, suc, true, false, List, [], ◌∷◌, ◌++◌, pos, negsuc, Some, None, Ok, Err, codes, refl}
use Rattle.meaning.specs.Forest.{none, tree}
use Rattle.meaning.specs.Model.{Model, Column, prim, list, int, float, words, lists, fixed_size_lists, int32, float32}
use Rattle.meaning.specs.Access.{fault}
use Rattle.meaning.specs.Literals.{int_literal, float_literal, primitive_literal, same_key, Value, same_literal}
use Rattle.meaning.specs.Picks.{by_id}
use Rattle.meaning.specs.Converts.{converts}
use Rattle.meaning.specs.Samples.{optional_values, required_values, two_lists, second_list_null, null_struct, valid_struct, struct_value, list_value, map_value, sample_field, sample_column, int_column, lists_sample, beside_empty_struct, int_value, null_value}
use Rattle.meaning.specs.Reaches.{reached}
use Rattle.meaning.specs.Converter.{field_step, primitive_step, struct_step, list_step, map_step, conversion}
use Rattle.meaning.specs.Table.{Table}
use Rattle.meaning.specs.Counter.{compute_walk}

-- a map's kept pairs, and 16 with required values
pairs_kept : conversion optional_values (by_id optional_values) 100 ≡ (Ok (struct_value (map_value (int_value 5 ∷ int_value 3 ∷ int_value 6 ∷ null_value ∷ []) ∷ []) ∷ []), 13)
pairs_kept = refl

pairs_required : (conversion required_values (by_id required_values) 100).0 ≡ Err (fault 16 1 1)
pairs_required = refl

-- the same, with too few cells for the struct, the map, and the values
pairs_short : ((conversion optional_values (by_id optional_values) 12).0 ≡ Err (fault 21 0 0)) × ((conversion optional_values (by_id optional_values) 10).0 ≡ Err (fault 21 1 1)) × ((conversion optional_values (by_id optional_values) 5).0 ≡ Err (fault 21 3 3))
pairs_short = (refl, refl, refl)

-- the map's hook on results of its own: 9, 13, 18, 20, 19, 16, each before the next
abbrev two : List Value
two = int_value 5 ∷ int_value 5 ∷ []

abbrev three : List Value
three = int_value 5 ∷ int_value 6 ∷ int_value 5 ∷ []

abbrev holed : List Value
holed = null_value ∷ int_value 6 ∷ int_value 5 ∷ []

map-hook :
    ((map_step required_values 100 2 1 two three 0).0 ≡ Err (fault 9 1 2)) × ((map_step required_values 100 1 7 two three 0).0 ≡ Err (fault 9 7 1)) × ((map_step required_values 100 1 0 two three 0).0 ≡ Err (fault 13 0 1))
    × ((map_step required_values 100 1 1 two three 0).0 ≡ Err (fault 18 1 1)) × ((map_step required_values 100 1 1 (null_value ∷ []) (null_value ∷ []) 0).0 ≡ Err (fault 20 1 1))
    × ((map_step required_values 100 1 1 holed holed 0).0 ≡ Err (fault 19 1 1)) × ((map_step required_values 100 1 1 three holed 0).0 ≡ Err (fault 16 1 1)) × ((map_step required_values 4 1 1 three three 0).0 ≡ Err (fault 21 1 1))
map-hook = (refl, refl, refl, refl, refl, refl, refl, refl)

-- keys by value: NaNs of any bits are one key, -0 is 0, and 1 is not 2
keys_alike : (same_literal (float_literal 0x7fc00000) (float_literal 0xffc00001) ≡ true) × (same_literal (float_literal 0) (float_literal 0x80000000) ≡ true) × (same_literal (float_literal 0x3f800000) (float_literal 0x40000000) ≡ false) × (same_literal (int_literal (pos 1)) (float_literal 1) ≡ false)
keys_alike = (refl, refl, refl, refl)

-- offsets 1, 1, 3: [] and [2,3]; with the second slot null: [] and null, which is not cut
lists-cut :
    (conversion two_lists (by_id two_lists) 100 ≡ (Ok (struct_value (list_value [] ∷ []) ∷ struct_value (list_value (int_value 2 ∷ int_value 3 ∷ []) ∷ []) ∷ []), 10))
    × (conversion second_list_null (by_id second_list_null) 100 ≡ (Ok (struct_value (list_value [] ∷ []) ∷ struct_value (null_value ∷ []) ∷ []), 10))
lists-cut = (refl, refl)

-- a required element is null outside every span, inside one, and inside the span of a null slot
lists-null :
    ((conversion (lists_sample None (Some (6 ∷ []))) (by_id (lists_sample None (Some (6 ∷ [])))) 100).1 ≡ 10) × ((conversion (lists_sample None (Some (13 ∷ []))) (by_id (lists_sample None (Some (13 ∷ [])))) 100).0 ≡ Err (fault 16 1 1)) × ((conversion (lists_sample (Some (1 ∷ [])) (Some (13 ∷ []))) (by_id (lists_sample (Some (1 ∷ [])) (Some (13 ∷ [])))) 100).1 ≡ 10)
lists-null = (refl, refl, refl)

-- the list's hook on results of its own: 9, 12, 20 (also for a null slot's span, and before 16), 16, 21
list-hook :
    ((list_step two_lists 100 2 1 three 0).0 ≡ Err (fault 9 1 2)) × ((list_step two_lists 100 1 2 three 0).0 ≡ Err (fault 12 2 1)) × ((list_step second_list_null 100 1 1 (null_value ∷ null_value ∷ []) 0).0 ≡ Err (fault 20 1 1)) × ((list_step two_lists 100 1 1 (null_value ∷ null_value ∷ []) 0).0 ≡ Err (fault 20 1 1))
    × ((list_step two_lists 100 1 1 (int_value 1 ∷ null_value ∷ int_value 3 ∷ []) 0).0 ≡ Err (fault 16 1 1)) × ((list_step two_lists 100 1 1 three 99).0 ≡ Err (fault 21 1 1))
list-hook = (refl, refl, refl, refl, refl, refl)

-- a fixed-size list of size 2 has as many rows as its result fills, whatever its own length
abbrev sized : Model
sized = record {
  rows = 1;
  fields = tree (sample_field (pos 1) false list) (tree (sample_field (pos 2) false (prim int)) none none) none;
  columns = tree (sample_column (Some (codes "1")) (fixed_size_lists 2) 1 None [] []) (tree (int_column 3 None (1 ∷ 2 ∷ 3 ∷ [])) none none) none;
}

sized_rows :
    (conversion sized (by_id sized) 100 ≡ (Ok (struct_value (list_value (int_value 1 ∷ int_value 2 ∷ []) ∷ []) ∷ []), 6))
    × (list_step sized 100 1 1 (two ++ two) 0 ≡ (Ok (list_value two ∷ list_value two ∷ []), 2)) × (list_step sized 100 1 1 (int_value 1 ∷ []) 0 ≡ (Ok [], 0))
sized_rows = (refl, refl, refl)

-- a null struct over a null required Int gives null; with the struct not null, 15
holder-null : (conversion null_struct (by_id null_struct) 100 ≡ (Ok (struct_value (null_value ∷ []) ∷ []), 5)) × ((conversion valid_struct (by_id valid_struct) 100).0 ≡ Err (fault 15 2 2))
holder-null = (refl, refl)

-- the struct's hook on results of its own: 9, 17, 14; and `field` and `primitive`
struct-hook :
    ((struct_step valid_struct 100 2 1 ((int_value 1 ∷ []) ∷ []) 0).0 ≡ Err (fault 9 1 2)) × ((struct_step valid_struct 100 1 1 (two ∷ []) 0).0 ≡ Err (fault 17 1 1)) × ((struct_step valid_struct 100 1 2 [] 0).0 ≡ Err (fault 14 2 1))
    × (struct_step valid_struct 100 0 0 ((int_value 1 ∷ []) ∷ []) 3 ≡ (Ok (struct_value (int_value 1 ∷ []) ∷ []), 5))
    × ((field_step valid_struct 100 2 2 (null_value ∷ []) 0).0 ≡ Err (fault 15 2 2)) × (field_step null_struct 100 2 2 (null_value ∷ []) 0 ≡ (Ok (null_value ∷ []), 0)) × ((primitive_step valid_struct 100 2 1 0).0 ≡ Err (fault 14 1 2))
struct-hook = (refl, refl, refl, refl, refl, refl, refl)

-- Int 1, 2, 3 beside a struct without fields
abbrev beside-row : ℕ → Value
beside-row k = struct_value (int_value k ∷ struct_value [] ∷ [])

empty_struct : conversion beside_empty_struct (by_id beside_empty_struct) 100 ≡ (Ok (beside-row 1 ∷ beside-row 2 ∷ beside-row 3 ∷ []), 15)
empty_struct = refl

-- the counter: a NaN and 1 under id 7, added to the table it is given; a table of 256 ids refuses another one, and keeps what it has
abbrev one_float : Model
one_float = record {
  rows = 2;
  fields = tree (sample_field (pos 7) false (prim float)) none none;
  columns = tree (sample_column (Some (codes "7")) (words float32) 2 None [] (0 ∷ 0 ∷ 0xc0 ∷ 0x7f ∷ 0 ∷ 0 ∷ 0x80 ∷ 0x3f ∷ [])) none none;
}

counted-one : (compute_walk one_float (by_id one_float) [] ≡ (Ok tt, record { id = pos 7; count = 1 } ∷ [])) × (compute_walk one_float (by_id one_float) (record { id = pos 7; count = 4 } ∷ []) ≡ (Ok tt, record { id = pos 7; count = 5 } ∷ []))
counted-one = (refl, refl)

abbrev full : ℕ → Table
full zero = []
full (suc n) = record { id = negsuc n; count = 3 } ∷ full n

counted_full : (compute_walk one_float (by_id one_float) (full 256) ≡ (Err (fault 22 1 1), full 256)) × ((compute_walk one_float (by_id one_float) (full 255)).0 ≡ Ok tt)
counted_full = (refl, refl)

-- why the laws ask for bytes: these two Int slots hold no bytes, differ as slots, and are one value
abbrev unbyted : Column
unbyted = sample_column None (words int32) 2 None [] (4294967296 ∷ 0 ∷ 0 ∷ 0 ∷ 8589934592 ∷ 0 ∷ 0 ∷ 0 ∷ [])

unbyted_keys : (same_key int unbyted 0 1 ≡ false) × (same_literal (primitive_literal int unbyted 0) (primitive_literal int unbyted 1) ≡ true)
unbyted_keys = (refl, refl)

-- why they ask for types that hold exactly their fields: a list type of two fields is no place for the walk, but not for `converts` and `reached`
abbrev two_elements : Model
two_elements = record {
  rows = 0;
  fields = tree (sample_field (pos 1) false list) (tree (sample_field (pos 2) false (prim int)) none (tree (sample_field (pos 3) false (prim int)) none none)) none;
  columns = tree (sample_column (Some (codes "1")) lists 0 None (0 ∷ []) []) (tree (int_column 0 None []) none none) none;
}

two_elements-walk : ((conversion two_elements (by_id two_elements) 100).0 ≡ Err (fault 9 1 1)) × (converts two_elements (by_id two_elements) 100 ≡ Ok 0) × ((compute_walk two_elements (by_id two_elements) []).0 ≡ Err (fault 9 1 1)) × ((reached two_elements (by_id two_elements)).1 ≡ None)
two_elements-walk = (refl, refl, refl, refl)

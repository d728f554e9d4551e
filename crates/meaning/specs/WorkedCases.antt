-- The worked cases: small inputs, each with what the definitions say of it.
use Rattle.std.specs.Prelude.{◌≡◌, ℕ, ◌-◌, ◌^◌, Bool, true, false, cond, List, [], ◌∷◌, map as each, ℤ, pos, Some, None, Ok, Err, codes, Result, ◌==◌}
use Rattle.meaning.specs.Model.{Model, at}
use Rattle.meaning.specs.Lists.{upto}
use Rattle.meaning.specs.Items.{Entry, refused, number, numeral, value}
use Rattle.meaning.specs.Encode.{numeral as written}
use Rattle.meaning.specs.Keeps.{Keeps}
use Rattle.meaning.specs.Slots.{nan32}
use Rattle.meaning.specs.Access.{StepFault, fault}
use Rattle.meaning.specs.Picks.{id_of, by_id}
use Rattle.meaning.specs.Literals.{Values}
use Rattle.meaning.specs.Rows.{rows}
use Rattle.meaning.specs.Converts.{converts}
use Rattle.meaning.specs.Reaches.{Reach, reached}
use Rattle.meaning.specs.Samples.{one_int, optional_values, required_values, two_lists, second_list_null, null_struct, valid_struct, one_empty_struct, no_empty_struct, beside_empty_struct, values_of, int_value, null_value, struct_value, list_value, map_value}

-- the rows of a batch, its columns matched to fields by id
abbrev pub rows_by_id : Model → Values
rows_by_id m = rows m (by_id m)

-- the cells that its conversion takes, 2048 being there, or its refusal
abbrev pub converts_by_id : Model → Result ℕ StepFault
converts_by_id m = converts m (by_id m) 2048

-- whether each slot of column c is shown, by the first of these reaches that is of column c
abbrev pub shown_by : Model → ℕ → List Reach → List Bool
shown_by m c [] = []
shown_by m c (r ∷ rs) = cond (r.column == c) (each r.shown (upto (at m c).len)) (shown_by m c rs)

-- whether the rows show each slot of column c
abbrev pub shown_slots : Model → ℕ → List Bool
shown_slots m c = shown_by m c (reached m (by_id m)).0

-- all of them
pub record WorkedCases : Type 0 where
  -- 128 is the bytes 80 01
  pub number_128_written : written 128 ≡ 0x80 ∷ 0x01 ∷ []
  pub number_128_read : numeral (0x80 ∷ 0x01 ∷ []) ≡ value 128 2
  -- 80 00 is not the shortest form, and in ff ff ff ff 10 the fifth byte is 16: refusal 2, whatever the entry and the byte at which the number begins
  pub number_not_shortest : (e : Entry) (byte : ℕ) → number e (record { bytes = 0x80 ∷ 0x00 ∷ []; at = byte }) ≡ refused 2 byte e
  pub number_fifth_byte : (e : Entry) (byte : ℕ) → number e (record { bytes = 0xff ∷ 0xff ∷ 0xff ∷ 0xff ∷ 0x10 ∷ []; at = byte }) ≡ refused 2 byte e
  -- ff ff ff ff 0f is 2^32 - 1
  pub number_largest_written : written (2 ^ 32 - 1) ≡ 0xff ∷ 0xff ∷ 0xff ∷ 0xff ∷ 0x0f ∷ []
  pub number_largest_read : numeral (0xff ∷ 0xff ∷ 0xff ∷ 0xff ∷ 0x0f ∷ []) ≡ value (2 ^ 32 - 1) 5
  -- the id texts "+7" and "007" are 7, and "-0" is 0: the column with that text stands for the field of that id
  pub id_plus : (id_of (codes "+7") ≡ Some (pos 7)) × (by_id (one_int (codes "+7") (pos 7)) 0 1 ≡ Some 1)
  pub id_zeros : (id_of (codes "007") ≡ Some (pos 7)) × (by_id (one_int (codes "007") (pos 7)) 0 1 ≡ Some 1)
  pub id_minus_zero : (id_of (codes "-0") ≡ Some (pos 0)) × (by_id (one_int (codes "-0") (pos 0)) 0 1 ≡ Some 1)
  -- "2147483648", "-" and " 7" match no field, whatever its id
  pub id_too_large : (id : ℤ) → (id_of (codes "2147483648") ≡ None) × (by_id (one_int (codes "2147483648") id) 0 1 ≡ None)
  pub id_no_digit : (id : ℤ) → (id_of (codes "-") ≡ None) × (by_id (one_int (codes "-") id) 0 1 ≡ None)
  pub id_space : (id : ℤ) → (id_of (codes " 7") ≡ None) × (by_id (one_int (codes " 7") id) 0 1 ≡ None)
  -- the float bits 7f800000 (infinity) are no NaN, 7f800001 and ff800001 are
  pub infinity_no_nan : nan32 0x7f800000 ≡ false
  pub nan_positive : nan32 0x7f800001 ≡ true
  pub nan_negative : nan32 0xff800001 ≡ true
  -- keys 5, 6, 5 with values 1, null, 3 give <5:3,6:null>
  pub pairs_accepted : converts_by_id optional_values ≡ Ok 13
  pub pairs_rows : rows_by_id optional_values ≡ values_of (struct_value (map_value (int_value 5 ∷ int_value 3 ∷ int_value 6 ∷ null_value ∷ []) ∷ []) ∷ [])
  -- with required values it is refused with 16, at the map's column and field
  pub pairs_required : converts_by_id required_values ≡ Err (fault 16 1 1)
  -- both batches keep the rules
  pub pairs_keep : Keeps optional_values × Keeps required_values
  -- a child 1, 2, 3, 4 under offsets 1, 1, 3 gives [] and [2,3]; its slots 1 and 2 are shown, 0 and 3 are hidden
  pub lists_accepted : converts_by_id two_lists ≡ Ok 10
  pub lists_rows : rows_by_id two_lists ≡ values_of (struct_value (list_value [] ∷ []) ∷ struct_value (list_value (int_value 2 ∷ int_value 3 ∷ []) ∷ []) ∷ [])
  pub lists_shown : shown_slots two_lists 2 ≡ false ∷ true ∷ true ∷ false ∷ []
  -- with the second list null (validity bits 01) it gives [] and null, and all four are hidden
  pub null_list_accepted : converts_by_id second_list_null ≡ Ok 10
  pub null_list_rows : rows_by_id second_list_null ≡ values_of (struct_value (list_value [] ∷ []) ∷ struct_value (null_value ∷ []) ∷ [])
  pub null_list_shown : shown_slots second_list_null 2 ≡ false ∷ false ∷ false ∷ false ∷ []
  -- both batches keep the rules
  pub lists_keep : Keeps two_lists × Keeps second_list_null
  -- a null struct over a null required field gives null
  pub null_struct_accepted : converts_by_id null_struct ≡ Ok 5
  pub null_struct_rows : rows_by_id null_struct ≡ values_of (struct_value (null_value ∷ []) ∷ [])
  -- with the struct not null it is refused with 15, at the field's column
  pub struct_refused : converts_by_id valid_struct ≡ Err (fault 15 2 2)
  -- both batches keep the rules
  pub struct_keeps : Keeps null_struct × Keeps valid_struct
  -- a list of empty structs, none null: offsets 0, 1 give one row [{}], offsets 0, 0 one row []
  pub one_empty_struct_accepted : converts_by_id one_empty_struct ≡ Ok 4
  pub one_empty_struct_rows : rows_by_id one_empty_struct ≡ values_of (struct_value (list_value (struct_value [] ∷ []) ∷ []) ∷ [])
  pub no_empty_struct_accepted : converts_by_id no_empty_struct ≡ Ok 3
  pub no_empty_struct_rows : rows_by_id no_empty_struct ≡ values_of (struct_value (list_value [] ∷ []) ∷ [])
  -- both batches keep the rules
  pub empty_structs_keep : Keeps one_empty_struct × Keeps no_empty_struct
  -- Int 1, 2, 3 beside an empty struct gives {1,{}}, {2,{}}, {3,{}}
  pub beside_accepted : converts_by_id beside_empty_struct ≡ Ok 15
  pub beside_rows : rows_by_id beside_empty_struct ≡ values_of (struct_value (int_value 1 ∷ struct_value [] ∷ []) ∷ struct_value (int_value 2 ∷ struct_value [] ∷ []) ∷ struct_value (int_value 3 ∷ struct_value [] ∷ []) ∷ [])
  -- the batch keeps the rules
  pub beside_keeps : Keeps beside_empty_struct

-- Small batches and values, written out for the worked cases.
use Rattle.std.specs.Prelude.{ℕ, Bool, true, false, List, [], ◌∷◌, ◌++◌, ℤ, pos, Some, None, codes, Option}
use Rattle.meaning.specs.Forest.{none, tree}
use Rattle.meaning.specs.Model.{Model, Field, Column, Shape, prim, struct, list, map, int, Code, words, int32, structs, lists, maps}
use Rattle.meaning.specs.Encode.{fixed_width}
use Rattle.meaning.specs.Literals.{null_literal, int_literal, struct_literal, list_literal, map_literal, Values, Value, put_before}

-- a field of this id, required or not, of this shape
abbrev pub sample_field : ℤ → Bool → Shape → Field
sample_field id required s = record { id = id; required = required; name = []; shape = s }

-- a column with this id text, code, length, validity, offsets and body
abbrev pub sample_column : Option (List ℕ) → Code → ℕ → Option (List ℕ) → List ℕ → List ℕ → Column
sample_column id k n validity os body = record { name = []; id_text = id; code = k; len = n; validity = validity; offsets = os; body = body }

-- the body of an Int32 column
abbrev pub int_bytes : List ℕ → List ℕ
int_bytes [] = []
int_bytes (k ∷ ks) = fixed_width 4 k ++ int_bytes ks

-- an Int32 column without id text
abbrev pub int_column : ℕ → Option (List ℕ) → List ℕ → Column
int_column n validity ks = sample_column None (words int32) n validity [] (int_bytes ks)

-- one Int column, whose id text is this, and one field of this id
abbrev pub one_int : List ℕ → ℤ → Model
one_int text id = record {
  rows = 1;
  fields = tree (sample_field id false (prim int)) none none;
  columns = tree (sample_column (Some text) (words int32) 1 None [] (int_bytes (1 ∷ []))) none none;
}

-- a map from Int to Int: keys 5, 6, 5 with values 1, null, 3, required or not
abbrev pub pairs_sample : Bool → Model
pairs_sample required = record {
  rows = 1;
  fields = tree (sample_field (pos 1) false map) (tree (sample_field (pos 2) true (prim int)) none (tree (sample_field (pos 3) required (prim int)) none none)) none;
  columns = tree (sample_column (Some (codes "1")) maps 1 None (0 ∷ 3 ∷ []) [])
      (tree (int_column 3 None (5 ∷ 6 ∷ 5 ∷ [])) none (tree (int_column 3 (Some (5 ∷ [])) (1 ∷ 2 ∷ 3 ∷ [])) none none)) none;
}

-- with values that may be null, and with required values
abbrev pub optional_values : Model
optional_values = pairs_sample false

abbrev pub required_values : Model
required_values = pairs_sample true

-- two lists over 1, 2, 3, 4 with offsets 1, 1, 3; the validity of the lists and of the elements is open
abbrev pub lists_sample : Option (List ℕ) → Option (List ℕ) → Model
lists_sample of_lists of_elements = record {
  rows = 2;
  fields = tree (sample_field (pos 1) false list) (tree (sample_field (pos 2) true (prim int)) none none) none;
  columns = tree (sample_column (Some (codes "1")) lists 2 of_lists (1 ∷ 1 ∷ 3 ∷ []) []) (tree (int_column 4 of_elements (1 ∷ 2 ∷ 3 ∷ 4 ∷ [])) none none) none;
}

-- without nulls: [] and [2,3]
abbrev pub two_lists : Model
two_lists = lists_sample None None

-- the second list null: its validity bit is 0
abbrev pub second_list_null : Model
second_list_null = lists_sample (Some (1 ∷ [])) None

-- a struct over a required Int that is null; the struct's validity is open
abbrev pub struct_sample : Option (List ℕ) → Model
struct_sample of_struct = record {
  rows = 1;
  fields = tree (sample_field (pos 1) false struct) (tree (sample_field (pos 2) true (prim int)) none none) none;
  columns = tree (sample_column (Some (codes "1")) structs 1 of_struct [] []) (tree (sample_column (Some (codes "2")) (words int32) 1 (Some (0 ∷ [])) [] (int_bytes (9 ∷ []))) none none) none;
}

-- the struct null, and not null
abbrev pub null_struct : Model
null_struct = struct_sample (Some (0 ∷ []))

abbrev pub valid_struct : Model
valid_struct = struct_sample None

-- one list of structs without fields, cut by these offsets from a struct column of this length
abbrev pub empty_structs_sample : List ℕ → ℕ → Model
empty_structs_sample os n = record {
  rows = 1;
  fields = tree (sample_field (pos 1) false list) (tree (sample_field (pos 2) false struct) none none) none;
  columns = tree (sample_column (Some (codes "1")) lists 1 None os []) (tree (sample_column None structs n None [] []) none none) none;
}

-- offsets 0, 1 and offsets 0, 0
abbrev pub one_empty_struct : Model
one_empty_struct = empty_structs_sample (0 ∷ 1 ∷ []) 1

abbrev pub no_empty_struct : Model
no_empty_struct = empty_structs_sample (0 ∷ 0 ∷ []) 0

-- Int 1, 2, 3 beside a struct without fields
abbrev pub beside_empty_struct : Model
beside_empty_struct = record {
  rows = 3;
  fields = tree (sample_field (pos 1) false (prim int)) none (tree (sample_field (pos 2) false struct) none none);
  columns = tree (sample_column (Some (codes "1")) (words int32) 3 None [] (int_bytes (1 ∷ 2 ∷ 3 ∷ []))) none (tree (sample_column (Some (codes "2")) structs 3 None [] []) none none);
}

-- values side by side
abbrev pub values_of : List Value → Values
values_of [] = none
values_of (v ∷ vs) = put_before v (values_of vs)

-- an int
abbrev pub int_value : ℕ → Value
int_value k = (int_literal (pos k), none)

-- null
abbrev pub null_value : Value
null_value = (null_literal, none)

-- a struct of these fields
abbrev pub struct_value : List Value → Value
struct_value vs = (struct_literal, values_of vs)

-- a list of these elements
abbrev pub list_value : List Value → Value
list_value vs = (list_literal, values_of vs)

-- a map of these keys and values, in turn
abbrev pub map_value : List Value → Value
map_value vs = (map_literal, values_of vs)

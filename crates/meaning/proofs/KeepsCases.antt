-- Worked cases of the rules: a batch that keeps them, and batches that break one.
use Rattle.std.proofs.Common.{◌≡◌, ℕ, true, List, [], ◌∷◌, ℤ, pos, negsuc, Some, None, Ok, refl, arith}
use Rattle.meaning.specs.Forest.{none, tree}
use Rattle.meaning.specs.Model.{Model, Field, Shape, prim, map, struct, long, string, Column, Code, maps, words, int64, variable, utf8}
use Rattle.meaning.specs.Samples.{sample_column}
use Rattle.meaning.specs.File.{decode}
use Rattle.meaning.specs.Encode.{encode}
use Rattle.meaning.specs.Keeps.{ColumnsKeep, Keeps}

abbrev a_field : ℤ → Shape → Field
a_field id s = record { id = id; required = true; name = 107 ∷ []; shape = s }

abbrev a_column : Code → ℕ → List ℕ → List ℕ → Column
a_column c len os bs = sample_column None c len (Some (1 ∷ [])) os bs

-- one row, a map from Long to String with two entries; the key's type, the offsets of the map and the value's length are open
abbrev a_map : Shape → List ℕ → ℕ → Model
a_map key os n = record {
  rows = 1;
  fields = tree (a_field (negsuc 0) map) (tree (a_field (pos 2) key) none (tree (a_field (pos 3) (prim string)) none none)) none;
  columns = tree (a_column maps 1 os []) (tree (a_column (words int64) 2 [] (1 ∷ 0 ∷ 0 ∷ 0 ∷ 0 ∷ 0 ∷ 0 ∷ 0 ∷ 2 ∷ 0 ∷ 0 ∷ 0 ∷ 0 ∷ 0 ∷ 0 ∷ 0 ∷ [])) none
      (tree (a_column (variable utf8) n (0 ∷ 1 ∷ 1 ∷ []) (120 ∷ [])) none none)) none;
}

kept : Keeps (a_map (prim long) (0 ∷ 2 ∷ []) 2)
kept = record {
  rows = omega arith;
  few_fields = omega arith;
  field_levels = omega arith;
  fields = (omega arith, omega arith, (refl, tt), (omega arith, omega arith, (tt, refl), tt, (omega arith, omega arith, (tt, refl), tt, tt)), tt);
  few_columns = omega arith;
  column_levels = omega arith;
  columns = (
    omega arith,
    tt,
    omega arith,
    omega arith,
    (omega arith, refl, refl, omega arith, omega arith),
    (omega arith, tt, omega arith, omega arith, (refl, omega arith, refl, refl), tt, values),
    tt,
  );
  lengths = (refl, tt);
  small = omega arith;
}
  where
    values : ColumnsKeep (tree (a_column (variable utf8) 2 (0 ∷ 1 ∷ 1 ∷ []) (120 ∷ [])) none none)
    values = (omega arith, tt, omega arith, omega arith, (omega arith, omega arith, omega arith, refl), tt, tt)

-- a struct is no key
no_struct : Keeps (a_map struct (0 ∷ 2 ∷ []) 2) → ⊥
no_struct k = k.fields.2.1

-- no offset is past the key column
no_past : Keeps (a_map (prim long) (0 ∷ 3 ∷ []) 2) → ⊥
no_past k = omega (arith, k.columns.4.3.0.1.0)

-- a map's value column is as long as its key column
no_shorter : Keeps (a_map (prim long) (0 ∷ 1 ∷ []) 1) → ⊥
no_shorter k = omega (arith, k.columns.4.4.1.0)

-- why the law asks that a file's numbers are bytes: this is read as 300 rows, which are written otherwise
abbrev rows300 : Model
rows300 = record { rows = 300; fields = none; columns = none }

no_byte : decode (1 ∷ 300 ∷ 1 ∷ 0 ∷ 0 ∷ []) ≡ Ok rows300
no_byte = refl

its_bytes : encode rows300 ≡ 1 ∷ 172 ∷ 2 ∷ 0 ∷ 0 ∷ []
its_bytes = refl

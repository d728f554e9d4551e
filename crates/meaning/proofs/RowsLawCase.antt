-- A batch that keeps the rules, is accepted, and has NaNs in its rows and at hidden slots.
use Rattle.std.proofs.Common.{◌≡◌, zero, suc, false, [], ◌∷◌, pos, Some, None, Ok, refl}
use Rattle.meaning.specs.Forest.{none, tree}
use Rattle.meaning.specs.Model.{Model, prim, map, float, double, words, float32, float64, maps}
use Rattle.meaning.specs.Samples.{sample_field, sample_column}
use Rattle.meaning.specs.Access.{Pick, Own}
use Rattle.meaning.specs.Rows.{rows}
use Rattle.meaning.specs.Converts.{converts}
use Rattle.meaning.specs.Table.{count_of}
use Rattle.meaning.specs.CounterLaw.{Call, computes, row_nans_of, hidden_nans_of}
use Rattle.meaning.specs.Keeps.{Keeps}
use Rattle.meaning.specs.Literals.{listed}
use Rattle.meaning.specs.Converter.{conversion}
use Rattle.meaning.proofs.KeepsRead.{keeps-read}
use Rattle.meaning.proofs.ConvertedLaw.{converted_law}

-- one map of Float to Double: keys NaN, 1, another NaN; values NaN, NaN, 1
abbrev pub some : Model
some = record {
  rows = 1;
  fields = tree (sample_field (pos 1) false map) (tree (sample_field (pos 2) false (prim float)) none (tree (sample_field (pos 3) false (prim double)) none none)) none;
  columns = tree (sample_column None maps 1 None (0 ∷ 3 ∷ []) [])
      (tree (sample_column None (words float32) 3 None [] (0 ∷ 0 ∷ 192 ∷ 127 ∷ 0 ∷ 0 ∷ 128 ∷ 63 ∷ 1 ∷ 0 ∷ 192 ∷ 255 ∷ [])) none
      (tree (sample_column None (words float64) 3 None [] (0 ∷ 0 ∷ 0 ∷ 0 ∷ 0 ∷ 0 ∷ 248 ∷ 127 ∷ 0 ∷ 0 ∷ 0 ∷ 0 ∷ 0 ∷ 0 ∷ 248 ∷ 127 ∷ 0 ∷ 0 ∷ 0 ∷ 0 ∷ 0 ∷ 0 ∷ 240 ∷ 63 ∷ [])) none none)) none;
}

-- the batch's one top column for its one top field, and nothing else
abbrev pick : Pick
pick zero f = Some 1
pick (suc c) f = None

some_own : Own some pick
some_own zero f k e = rw (← (let t : 1 ≡ k = cc in t)) refl
some_own (suc c) f k e = cc

some_keeps : Keeps some
some_keeps = keeps-read some refl refl

abbrev call : Call
call = record { model = some; keeps = some_keeps; pick = pick; own = some_own }

-- two NaN keys are one key, shown once; the value kept for it is the last, 1, and one NaN value stands in the rows
some_accepted : converts some pick 2048 ≡ Ok 13
some_accepted = refl

some_keys : (count_of (computes call []).1 (pos 2) ≡ Some 2) × (row_nans_of call (pos 2) ≡ 1) × (hidden_nans_of call (pos 2) ≡ 1)
some_keys = (refl, refl, refl)

some_values : (count_of (computes call []).1 (pos 3) ≡ Some 2) × (row_nans_of call (pos 3) ≡ 1) × (hidden_nans_of call (pos 3) ≡ 1)
some_values = (refl, refl, refl)

-- the walk gives its rows
some_walked : conversion some pick 2048 ≡ (Ok (listed (rows some pick)), 13)
some_walked = (converted_law some some_keeps pick some_own 2048).accepted 13 some_accepted

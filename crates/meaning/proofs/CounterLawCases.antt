-- Worked cases of the law of sums, by computing: the calls that it speaks of exist.
use Rattle.std.proofs.Common.{◌≡◌, ℕ, zero, suc, true, false, List, [], ◌∷◌, ℤ, pos, negsuc, Some, None, Err, refl, subst, lit≤}
use Rattle.meaning.specs.Forest.{none, tree}
use Rattle.meaning.specs.Model.{Model, prim, float, words, float32}
use Rattle.meaning.specs.Keeps.{Keeps}
use Rattle.meaning.specs.Lists.{among}
use Rattle.meaning.specs.Samples.{sample_field, sample_column}
use Rattle.meaning.proofs.KeepsRead.{keeps-read}
use Rattle.meaning.specs.Access.{Pick, Own, fault, child_numbers}
use Rattle.meaning.specs.Table.{count_of}
use Rattle.meaning.specs.CounterLaw.{Call, computes, table_after, FewIds}

-- two rows, NaN and 0, under one id
abbrev small : ℤ → Model
small id = record {
  rows = 2;
  fields = tree (sample_field id false (prim float)) none none;
  columns = tree (sample_column None (words float32) 2 None [] (0 ∷ 0 ∷ 0xc0 ∷ 0x7f ∷ 0 ∷ 0 ∷ 0 ∷ 0 ∷ [])) none none;
}

-- the batch's first column, for field 1 alone
abbrev first_only : Pick
first_only zero zero = None
first_only zero (suc zero) = Some 1
first_only zero (suc (suc n)) = None
first_only (suc c) n = None

own : (id : ℤ) → Own (small id) first_only
own id zero zero k h = cc
own id zero (suc zero) k h = let e : ◌≡◌ {A = ℕ} 1 k = cc in subst (λ (n : ℕ). among n (child_numbers (small id) 0) ≡ true) e refl
own id zero (suc (suc n)) k h = cc
own id (suc c) n k h = cc

abbrev call : (id : ℤ) → Keeps (small id) → Call
call id k = record { model = small id; keeps = k; pick = first_only; own = own id }

nothing : (id : ℤ) → Own (small id) (λ c n. None)
nothing id c f k h = cc

abbrev refused : Call
refused = record { model = small (pos 3); keeps = keeps-read (small (pos 3)) refl refl; pick = λ c n. None; own = nothing (pos 3) }

-- 7, -2, 7 again, and a call that picks no column
abbrev calls : List Call
calls = call (pos 7) (keeps-read (small (pos 7)) refl refl) ∷ call (negsuc 1) (keeps-read (small (negsuc 1)) refl refl) ∷ refused ∷ call (pos 7) (keeps-read (small (pos 7)) refl refl) ∷ []

calls_few : FewIds calls
calls_few = lit≤ tt

calls_table : table_after calls [] ≡ record { id = negsuc 1; count = 1 } ∷ record { id = pos 7; count = 2 } ∷ []
calls_table = refl

calls_absent : count_of (table_after calls []) (pos 3) ≡ None
calls_absent = refl

refused-answer : (computes refused []).0 ≡ Err (fault 11 0 1)
refused-answer = refl

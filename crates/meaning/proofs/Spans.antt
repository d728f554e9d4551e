-- The spans of list and map columns ascend, and stay within the child.
use Rattle.std.proofs.Common.{◌≡◌, ℕ, zero, suc, ◌+◌, ◌-◌, ◌*◌, ◌/◌, ◌<◌, ◌≤◌, true, get_or, subst, le_trans, le_refl, add-zero, mul-le-mul_right, div-mul-le_self, add-one-le, arith}
use mathlib.Core.Bool.{false≢true}
use Rattle.meaning.specs.Model.{Column, Code, bits, words, variable, fixed_size_binary, structs, lists, large_lists, fixed_size_lists, maps}
use Rattle.meaning.specs.Slots.{span_by}
use Rattle.meaning.specs.Codes.{is_list, is_map}
use Rattle.meaning.proofs.Premises.{Ascends, Cutting}
use Rattle.meaning.proofs.SlotSums.{Cuts}

-- a fixed-size list cuts its child into equal parts
fixed-inside : (i n s l : ℕ) → i < n → n ≡ l / s → (i + 1) * s ≤ l
fixed-inside i n s l h e = le_trans (mul-le-mul_right s (add-one-le h)) (rw e (div-mul-le_self l s))

fixed-cuts : (n s l : ℕ) → n ≡ l / s → Cuts n l (λ i. i * s) (λ i. (i + 1) * s)
fixed-cuts n s l e = record {
  ordered = λ i h. mul-le-mul_right s (omega arith);
  apart = λ i j h k. mul-le-mul_right s (omega arith);
  inside = λ i h. fixed-inside i n s l h e;
}

-- offsets that do not fall
offset_up : (x : Column) (l : ℕ) → Ascends x l → (i k : ℕ) → i + k ≤ x.len → get_or x.offsets i 0 ≤ get_or x.offsets (i + k) 0
offset_up x l a i zero h = rw add-zero (le_refl _)
offset_up x l a i (suc k) h = le_trans (offset_up x l a i k (omega arith)) (subst (λ j. get_or x.offsets (i + k) 0 ≤ get_or x.offsets j 0) (omega arith) (a.up (i + k) (omega arith)))

offset_le : (x : Column) (l : ℕ) → Ascends x l → (i j : ℕ) → i ≤ j → j ≤ x.len → get_or x.offsets i 0 ≤ get_or x.offsets j 0
offset_le x l a i j h k = subst (λ t. get_or x.offsets i 0 ≤ get_or x.offsets t 0) (omega arith) (offset_up x l a i (j - i) (omega arith))

ascends_cuts : (x : Column) (l : ℕ) → Ascends x l → Cuts x.len l (λ i. get_or x.offsets i 0) (λ i. get_or x.offsets (i + 1) 0)
ascends_cuts x l a = record {
  ordered = λ i h. a.up i h;
  apart = λ i j h k. offset_le x l a (i + 1) j (omega arith) (omega arith);
  inside = λ i h. le_trans (offset_le x l a (i + 1) x.len (omega arith) (omega arith)) a.end;
}

-- list and map columns
pub list-cuts : (k : Code) (x : Column) (l : ℕ) → is_list k ≡ true → Cutting k x l → Cuts x.len l (λ i. (span_by k x.offsets i).0) (λ i. (span_by k x.offsets i).1)
list-cuts bits x l e c = absurd (false≢true e)
list-cuts (words w) x l e c = absurd (false≢true e)
list-cuts (variable t) x l e c = absurd (false≢true e)
list-cuts (fixed_size_binary w) x l e c = absurd (false≢true e)
list-cuts structs x l e c = absurd (false≢true e)
list-cuts lists x l e c = ascends_cuts x l c
list-cuts large_lists x l e c = ascends_cuts x l c
list-cuts (fixed_size_lists s) x l e c = fixed-cuts x.len s l c
list-cuts maps x l e c = absurd (false≢true e)

pub map-cuts : (k : Code) (x : Column) (l : ℕ) → is_map k ≡ true → Cutting k x l → Cuts x.len l (λ i. (span_by k x.offsets i).0) (λ i. (span_by k x.offsets i).1)
map-cuts bits x l e c = absurd (false≢true e)
map-cuts (words w) x l e c = absurd (false≢true e)
map-cuts (variable t) x l e c = absurd (false≢true e)
map-cuts (fixed_size_binary w) x l e c = absurd (false≢true e)
map-cuts structs x l e c = absurd (false≢true e)
map-cuts lists x l e c = absurd (false≢true e)
map-cuts large_lists x l e c = absurd (false≢true e)
map-cuts (fixed_size_lists s) x l e c = absurd (false≢true e)
map-cuts maps x l e c = ascends_cuts x l c

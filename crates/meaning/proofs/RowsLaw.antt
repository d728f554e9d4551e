-- The law of rows.
use Rattle.std.proofs.Common.{◌≡◌, ℕ, ◌+◌, ◌-◌, ◌^◌, ◌<◌, ◌≤◌, Bool, true, false, cond, not, ◌&&◌, ltb, List, [], ◌∷◌, length, ℤ, pos, Ok, Option, sym, refl, ap, ◌∙◌, inl, inr, le_trans, arith}
use Rattle.std.proofs.lemmas.Bool.{cases_Bool, lt-ltb}
use Rattle.meaning.specs.Forest.{size}
use Rattle.meaning.specs.Model.{Model, struct}
use Rattle.meaning.specs.Lists.{upto, sum, or_zero}
use Rattle.meaning.specs.Equal.{same_integer}
use Rattle.meaning.specs.Codes.{float?}
use Rattle.meaning.specs.Access.{StepFault}
use Rattle.meaning.specs.Rows.{parts, row, joined}
use Rattle.meaning.specs.Converts.{converts, check_fields}
use Rattle.meaning.specs.Reaches.{Reach, reached}
use Rattle.meaning.specs.Nans.{nans, nans_in}
use Rattle.meaning.specs.Table.{Table, count_of, Answer, answer}
use Rattle.meaning.specs.CounterLaw.{Call, computes, float_additions, sum_of, hidden_nans_of, nans_in_rows, row_nans_of, RowsLaw}
use Rattle.meaning.proofs.KeepsPremises.{keeps_premises}
use Rattle.meaning.proofs.SlotSums.{sum-upto, sum_to_equal}
use Rattle.meaning.proofs.AcceptedSteps.{and_then_ok}
use Rattle.meaning.proofs.FoundReaches.{Good}
use Rattle.meaning.proofs.ShownNans.{in_parts, conserves}
use Rattle.meaning.proofs.NanSums.{reach_sum, sum_hidden, reach_bound, nans-small, nans-none}
use Rattle.meaning.proofs.Additions.{folded, length_distinct, distinct_most, count_folded}
use Rattle.meaning.proofs.SumsLaw.{adding_all}

module _ (c : Call) (id : ℤ) where
  abbrev m : Model
  m = c.model

  abbrev ours : List Reach
  ours = (reached m c.pick).0

  -- what the float columns add is what all columns reached add, since no other column holds a NaN
  none-added : (b : Bool) (x : ℕ) → x ≡ 0 → cond b x 0 ≡ 0
  none-added true x e = e
  none-added false x e = refl

  additions_sum : (rs : List Reach) → sum_of id (float_additions m rs) ≡ reach_sum m id rs
  additions_sum [] = refl
  additions_sum (r ∷ rs) =
      elim (cases_Bool (float? m r.column)) [
        | inl f ↦ rw f (omega (arith, additions_sum rs))
        | inr f ↦ rw f (omega (arith, additions_sum rs, none-added (same_integer id r.id) (nans m r.column) (nans-none m r.column f)))
      ]

  additions_few : (rs : List Reach) → length (float_additions m rs) ≤ length rs
  additions_few [] = omega arith
  additions_few (r ∷ rs) =
      elim (cases_Bool (float? m r.column)) [
        | inl f ↦ rw f (omega (arith, additions_few rs))
        | inr f ↦ rw f (omega (arith, additions_few rs))
      ]

  rows-joined : (xs : List ℕ) → nans_in_rows id m.fields (joined (row m c.pick) xs) ≡ sum (λ i. nans_in id m.fields struct (parts m c.pick m.fields struct 1 0 i)) xs
  rows-joined [] = refl
  rows-joined (x ∷ xs) = ap (λ k. nans_in id m.fields struct (parts m c.pick m.fields struct 1 0 x) + k) (rows-joined xs)

  row-shown : (i n k : ℕ) → i < n → cond (ltb i n && not (ltb i n && false)) k 0 ≡ k
  row-shown i n k h = rw (lt-ltb i n h) refl

  rows-shown : in_parts m c.pick id m.fields struct 1 0 (λ i. ltb i m.rows) ≡ row_nans_of c id
  rows-shown = sum_to_equal m.rows _ _ (λ i h. row-shown i m.rows _ h) ∙ (sym (sum-upto _ m.rows) ∙ sym (rows-joined (upto m.rows)))

  -- where conversion accepts, the walk finds no refusal, few reaches, and shows the NaNs of the rows
  module _ (cells taken : ℕ) (e : converts m c.pick cells ≡ Ok taken) where
    walked : Good m id (reached m c.pick) (size m.fields) (in_parts m c.pick id m.fields struct 1 0 (λ i. ltb i m.rows))
    walked =
        let k = keeps_premises m c.keeps in
        let a = and_then_ok (check_fields m c.pick cells m.fields struct 0 1 0 0) _ taken e in
        conserves m c.pick id cells k c.own m.fields struct 0 1 0 (λ i. ltb i m.rows) 0 a.0 tt k.formed tt a.1

    few : length ours ≤ 256
    few = le_trans walked.few (keeps_premises m c.keeps).few

    small : reach_sum m id ours ≤ 2 ^ 64 - 1
    small = omega (arith, few, reach_bound m id 65536 (λ x. le_trans (nans-small m x) ((keeps_premises m c.keeps).short x)) ours)

    fits : length (folded [] (float_additions m ours)) ≤ 256
    fits = omega (arith, few, additions_few ours, distinct_most (float_additions m ours), length_distinct (float_additions m ours))

    computed : computes c [] ≡ (Ok tt, folded [] (float_additions m ours))
    computed = adding_all m [] ours (reached m c.pick).1 fits ∙ ap (λ (o : Option StepFault). (answer o, folded [] (float_additions m ours))) walked.whole

    accepted : (computes c []).0 ≡ Ok tt
    accepted = ap (λ (o : Answer × Table). o.0) computed

    conserved : or_zero (count_of (computes c []).1 id) ≡ row_nans_of c id + hidden_nans_of c id
    conserved =
        ap (λ (o : Answer × Table). or_zero (count_of o.1 id)) computed
        ∙ (count_folded (float_additions m ours) id (omega (arith, small, additions_sum ours))
        ∙ omega (arith, additions_sum ours, sum_hidden m id ours, walked.shows, rows-shown))

pub rows_law : RowsLaw
rows_law = record {
  accepted = λ c cells taken e. accepted c (pos 0) cells taken e;
  conserved = λ c cells taken e id. conserved c id cells taken e;
}

-- The law of sums: what the calls add is one list of additions.
use Rattle.std.proofs.Common.{◌≡◌, ℕ, ◌+◌, ◌≤◌, true, leb, List, [], ◌∷◌, map as each, length, ℤ, Option, sym, refl, ap, ◌∙◌, inl, inr, arith}
use Rattle.std.proofs.lemmas.Bool.{cases_Bool, le-leb}
use Rattle.meaning.specs.Model.{Model}
use Rattle.meaning.specs.Access.{StepFault}
use Rattle.meaning.specs.Codes.{float?}
use Rattle.meaning.specs.Nans.{nans}
use Rattle.meaning.specs.Reaches.{Reach, reached}
use Rattle.meaning.specs.Table.{Table, added, count_of, has_id, Answer, answer, add_reaches}
use Rattle.meaning.specs.CounterLaw.{Call, sum_of, mentions, Reordered, done, skip, swap, trans, computes, answers, SumsLaw, float_additions, table_after, all_additions, FewIds}
use Rattle.meaning.proofs.TableOrder.{alike_equal, length_new}
use Rattle.meaning.proofs.Additions.{folded, folded_both, ascending_folded, length_folded, sum_folded, length_distinct, distinct_length, sum_of_both, mentions_both, sum_of_turn, mentions_turn}

-- while the table has room for all that is to come, nothing is refused
pub adding_all : (m : Model) (t : Table) (rs : List Reach) (e : Option StepFault) → length (folded t (float_additions m rs)) ≤ 256 → add_reaches m t rs e ≡ (answer e, folded t (float_additions m rs))
adding_all m t [] e h = refl
adding_all m t (r ∷ rs) e h =
    elim (cases_Bool (float? m r.column)) [
      | inl f ↦
          let n : ℕ = nans m r.column in
          let u : Table = added t r.id n in
          let g : length (folded u (float_additions m rs)) ≤ 256 = rw f at h in
          elim (cases_Bool (has_id t r.id)) [
            | inl s ↦ rw (f, s) (adding_all m u rs e g)
            | inr s ↦
                let b : leb (length t + 1) 256 ≡ true = le-leb (length t + 1) 256 (omega (arith, length_new t r.id n s, length_folded u (float_additions m rs))) in
                rw (f, s, b) (adding_all m u rs e g)
          ]
      | inr f ↦ rw f (adding_all m t rs e (rw f at h))
    ]

abbrev own : Call → List (ℤ × ℕ)
own c = float_additions c.model (reached c.model c.pick).0

sum_of-reordered : {cs ds : List Call} (q : ℤ) → Reordered cs ds → sum_of q (all_additions cs) ≡ sum_of q (all_additions ds)
sum_of-reordered q done = refl
sum_of-reordered q (skip {x} {xs} {ys} r) = rw (sum_of_both q (own x) (all_additions xs), sum_of_both q (own x) (all_additions ys), sum_of-reordered q r)
sum_of-reordered q (swap {x} {y} {xs}) = sum_of_turn q (own x) (own y) (all_additions xs)
sum_of-reordered q (trans r s) = sum_of-reordered q r ∙ sum_of-reordered q s

mentions-reordered : {cs ds : List Call} (q : ℤ) → Reordered cs ds → mentions q (all_additions cs) ≡ mentions q (all_additions ds)
mentions-reordered q done = refl
mentions-reordered q (skip {x} {xs} {ys} r) = rw (mentions_both q (own x) (all_additions xs), mentions_both q (own x) (all_additions ys), mentions-reordered q r)
mentions-reordered q (swap {x} {y} {xs}) = mentions_turn q (own x) (own y) (all_additions xs)
mentions-reordered q (trans r s) = mentions-reordered q r ∙ mentions-reordered q s

folded_reordered : (cs ds : List Call) → Reordered cs ds → folded [] (all_additions cs) ≡ folded [] (all_additions ds)
folded_reordered cs ds r =
    alike_equal (folded [] (all_additions cs)) (folded [] (all_additions ds)) (ascending_folded [] (all_additions cs) tt) (ascending_folded [] (all_additions ds) tt)
    (λ q. sum_folded (all_additions cs) q ∙ (rw (sum_of-reordered q r, mentions-reordered q r) (sym (sum_folded (all_additions ds) q))))

-- one call, with room for it and for the calls to come
room : (c : Call) (cs : List Call) (t : Table) → length (folded t (all_additions (c ∷ cs))) ≤ 256 → length (folded (folded t (own c)) (all_additions cs)) ≤ 256
room c cs t h = rw (folded_both t (own c) (all_additions cs)) at h

computes_all : (c : Call) (cs : List Call) (t : Table) → length (folded t (all_additions (c ∷ cs))) ≤ 256 → computes c t ≡ (answer (reached c.model c.pick).1, folded t (own c))
computes_all c cs t h =
    adding_all c.model t (reached c.model c.pick).0 (reached c.model c.pick).1
    (omega (arith, room c cs t h, length_folded (folded t (own c)) (all_additions cs)))

-- all calls, from any table
after_all : (cs : List Call) (t : Table) → length (folded t (all_additions cs)) ≤ 256 → table_after cs t ≡ folded t (all_additions cs)
after_all [] t h = refl
after_all (c ∷ cs) t h =
    ap (λ (p : Answer × Table). table_after cs p.1) (computes_all c cs t h)
    ∙ (after_all cs (folded t (own c)) (room c cs t h)
    ∙ sym (folded_both t (own c) (all_additions cs)))

answers_all : (cs : List Call) (t : Table) → length (folded t (all_additions cs)) ≤ 256 → answers cs t ≡ each (λ c. (c, answer (reached c.model c.pick).1)) cs
answers_all [] t h = refl
answers_all (c ∷ cs) t h =
    ap (λ (p : Answer × Table). (c, p.0) ∷ answers cs p.1) (computes_all c cs t h)
    ∙ ap (λ (rest : List (Call × Answer)). (c, answer (reached c.model c.pick).1) ∷ rest) (answers_all cs (folded t (own c)) (room c cs t h))

fits : (cs : List Call) → FewIds cs → length (folded [] (all_additions cs)) ≤ 256
fits cs few = omega (arith, length_distinct (all_additions cs))

pub sums_law : SumsLaw
sums_law = record {
  counts = λ cs few id. ap (λ (t : Table). count_of t id) (after_all cs [] (fits cs few)) ∙ sum_folded (all_additions cs) id;
  order = λ cs ds few r.
      let e : folded [] (all_additions cs) ≡ folded [] (all_additions ds) = folded_reordered cs ds r in
      after_all cs [] (fits cs few) ∙ (e ∙ sym (after_all ds [] (rw e at (fits cs few))));
  alone = λ cs few. answers_all cs [] (fits cs few);
  few = λ cs ds few r. omega (arith, fits cs few, ap {B = ℕ} length (folded_reordered cs ds r), distinct_length (all_additions ds));
}

-- An entry of a table by its number.
use Rattle.std.proofs.Common.{◌≡◌, ℕ, ◌+◌, ◌<◌, ◌≤◌, true, false, eqb, ltb, ◌⊎◌, List, Some, None, Option, sym, refl, ap, ◌∙◌, subst, inl, inr, arith}
use Rattle.std.proofs.lemmas.Bool.Decides.{nat_tests, eqb_tells, leb_tells}
use Rattle.meaning.specs.Forest.{Forest, none, tree, size, find}
use Rattle.items.specs.Tables.{Layout, entry, Stands}
use Rattle.items.proofs.Taken.{if_true, if_false}

module _ {E H : Type 0} (l : Layout E H) (bytes : List ℕ) (table : List E) where
  -- what a number of the forest names, and what stands under it in the table
  pub record Found (k : ℕ) (at : Option (H × Forest H)) : Type 0 where
    pub head : H
    pub kids : Forest H
    pub is : at ≡ Some (head, kids)
    pub fits : l.fits bytes (entry l table k)
    pub says : l.says bytes (entry l table k) ≡ head
    pub ends : l.end (entry l table k) ≡ k + 1 + size kids

  moved : (k : ℕ) (a b : Option (H × Forest H)) → a ≡ b → Found k a → Found k b
  moved k a b e f = subst (λ o. Found k o) e f

  pub found : (k n : ℕ) (f : Forest H) → Stands l bytes table n f → n ≤ k → k < n + size f → Found k (find k n f)
  found k n none s h m = absurd (omega arith)
  found k n (tree x kids rest) s h m =
      elim (eqb_tells k n) [
        | inl t ↦
            let e : k ≡ n = t.1 in
            record {
              head = x;
              kids = kids;
              is = if_true _ _ t.0;
              fits = subst (λ i. l.fits bytes (entry l table i)) (sym e) s.0;
              says = ap (λ i. l.says bytes (entry l table i)) e ∙ s.1;
              ends = ap (λ i. l.end (entry l table i)) e ∙ s.2 ∙ omega arith;
            }
        | inr u ↦
            elim (leb_tells (k + 1) (n + 1 + size kids)) [
              | inl t ↦
                  let below : ltb k (n + 1 + size kids) ≡ true = grind (arith, nat_tests) in
                  moved k _ _ (sym (if_false _ _ u.0 ∙ if_true _ _ below)) (found k (n + 1) kids s.3 (omega (arith, u.1)) (omega (arith, t.1)))
              | inr v ↦
                  let past : ltb k (n + 1 + size kids) ≡ false = grind (arith, nat_tests) in
                  moved k _ _ (sym (if_false _ _ u.0 ∙ if_false _ _ past)) (found k (n + 1 + size kids) rest s.4 (omega (arith, v.1)) (omega arith))
            ]
      ]

-- a number outside the forest names nothing
pub not_found : {H : Type 0} (k n : ℕ) (f : Forest H) → (k < n) ⊎ (n + size f ≤ k) → find k n f ≡ None
not_found k n none h = refl
not_found k n (tree x kids rest) h =
    let ne : eqb k n ≡ false = elim h [ inl a ↦ grind (arith, nat_tests) | inr b ↦ grind (arith, nat_tests) ] in
    elim (leb_tells (k + 1) (n + 1 + size kids)) [
      | inl t ↦
          let below : ltb k (n + 1 + size kids) ≡ true = grind (arith, nat_tests) in
          if_false _ _ ne ∙ if_true _ _ below ∙ not_found k (n + 1) kids (elim h [ inl a ↦ inl (omega arith) | inr b ↦ absurd (omega (arith, t.1)) ])
      | inr v ↦
          let past : ltb k (n + 1 + size kids) ≡ false = grind (arith, nat_tests) in
          if_false _ _ ne ∙ if_false _ _ past ∙ not_found k (n + 1 + size kids) rest (elim h [ inl a ↦ absurd (omega (arith, v.1)) | inr b ↦ inr (omega arith) ])
    ]

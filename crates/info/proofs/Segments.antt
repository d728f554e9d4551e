-- Trees side by side, found by the number of the first.
use Rattle.std.proofs.Common.{◌≡◌, ℕ, ◌+◌, ◌<◌, ◌≤◌, true, false, cond, eqb, ltb, Some, sym, refl, ap, ◌∙◌, inl, inr, arith}
use Rattle.std.proofs.lemmas.Bool.{cases_lt}
use Rattle.std.proofs.lemmas.Bool.Decides.{nat_tests}
use Rattle.meaning.specs.Forest.{Forest, none, tree, size, find}
use Rattle.items.proofs.Taken.{if_true, if_false}
use Rattle.info.specs.Segments.{siblings_from}

-- which of three stands for number k: the first is for n, the second for those below m, the third for m and above
module _ {A : Type 0} (k n m : ℕ) (x y z : A) where
  is_first : k ≡ n → cond (eqb k n) x (cond (ltb k m) y z) ≡ x
  is_first e = let a : eqb k n ≡ true = grind (arith, nat_tests) in if_true _ _ a

  is_under : k < n → k < m → cond (eqb k n) x (cond (ltb k m) y z) ≡ y
  is_under l r = let a : eqb k n ≡ false = grind (arith, nat_tests) in let b : ltb k m ≡ true = grind (arith, nat_tests) in if_false _ _ a ∙ if_true _ _ b

  is_below : n < k → k < m → cond (eqb k n) x (cond (ltb k m) y z) ≡ y
  is_below l r = let a : eqb k n ≡ false = grind (arith, nat_tests) in let b : ltb k m ≡ true = grind (arith, nat_tests) in if_false _ _ a ∙ if_true _ _ b

  is_past : n < m → m ≤ k → cond (eqb k n) x (cond (ltb k m) y z) ≡ z
  is_past l r = let a : eqb k n ≡ false = grind (arith, nat_tests) in let b : ltb k m ≡ false = grind (arith, nat_tests) in if_false _ _ a ∙ if_false _ _ b

module _ {H : Type 0} where
  -- the first tree, what is below it, and the trees after it
  pub record First (f : Forest H) : Type 0 where
    pub head : H
    pub kids : Forest H
    pub rest : Forest H
    pub is : f ≡ tree head kids rest

  pub first_of : (f : Forest H) → 0 < size f → First f
  first_of none h = absurd (omega arith)
  first_of (tree x kids rest) h = record { head = x; kids = kids; rest = rest; is = refl }

  pub empty : (f : Forest H) → size f ≡ 0 → none ≡ f
  empty none h = refl
  empty (tree x kids rest) h = absurd (omega arith)

  -- from its first number on, a forest is itself
  start : (k n : ℕ) (f : Forest H) → k ≡ n → siblings_from k n f ≡ f
  start k n none e = refl
  start k n (tree x ks rs) e = is_first k n (n + 1 + size ks) _ _ _ e

  -- the trees from number k on are all of them, or stand below the first, or after it
  data Place (k n : ℕ) (x : H) (ks rs found : Forest H) : Type 0 where
    all : k ≡ n → tree x ks rs ≡ found → Place k n x ks rs found
    below : n < k → k < n + 1 + size ks → siblings_from k (n + 1) ks ≡ found → Place k n x ks rs found
    past : n + 1 + size ks ≤ k → siblings_from k (n + 1 + size ks) rs ≡ found → Place k n x ks rs found

  place : (k n : ℕ) (x : H) (ks rs found : Forest H) → siblings_from k n (tree x ks rs) ≡ found → n ≤ k → Place k n x ks rs found
  place k n x ks rs found e low =
      elim (cases_lt n k) [
        | inl l ↦
            elim (cases_lt k (n + 1 + size ks)) [
              | inl r ↦ below l r (sym (is_below k n (n + 1 + size ks) _ _ _ l r) ∙ e)
              | inr r ↦ past r (sym (is_past k n (n + 1 + size ks) _ _ _ (omega arith) r) ∙ e)
            ]
        | inr r ↦ all (omega arith) (sym (is_first k n (n + 1 + size ks) _ _ _ (omega arith)) ∙ e)
      ]

  module _ (k : ℕ) (h : H) (kids rest : Forest H) where
    -- what stands at the number is the first of those trees
    pub found_first : (n : ℕ) (f : Forest H) → siblings_from k n f ≡ tree h kids rest → find k n f ≡ Some (h, kids)
    found_first n none e = cc
    found_first n (tree x ks rs) e =
        elim (cases_lt k n) [
          | inl l ↦
              is_under k n (n + 1 + size ks) _ _ _ l (omega arith) ∙ found_first (n + 1) ks (sym (is_under k n (n + 1 + size ks) _ _ _ l (omega arith)) ∙ e)
          | inr low ↦
              elim (place k n x ks rs (tree h kids rest) e low) [
                | all at same ↦ is_first k n (n + 1 + size ks) _ _ _ at ∙ (let a : x ≡ h = cc in let b : ks ≡ kids = cc in (λ i. Some (a i, b i)))
                | below l r inner ↦ is_below k n (n + 1 + size ks) _ _ _ l r ∙ found_first (n + 1) ks inner
                | past r inner ↦ is_past k n (n + 1 + size ks) _ _ _ (omega arith) r ∙ found_first (n + 1 + size ks) rs inner
              ]
        ]

    -- they end within the forest
    bound : (n : ℕ) (f : Forest H) → siblings_from k n f ≡ tree h kids rest → n ≤ k → k + 1 + size kids + size rest ≤ n + size f
    bound n none e low = cc
    bound n (tree x ks rs) e low =
        elim (place k n x ks rs (tree h kids rest) e low) [
          | all at same ↦ let s = ap size same in omega arith
          | below l r inner ↦ omega (arith, bound (n + 1) ks inner (omega arith))
          | past r inner ↦ omega (arith, bound (n + 1 + size ks) rs inner r)
        ]

    -- the trees below the first begin at the next number
    pub kids_from : (n : ℕ) (f : Forest H) → siblings_from k n f ≡ tree h kids rest → n ≤ k → 0 < size kids → siblings_from (k + 1) n f ≡ kids
    kids_from n none e low some = cc
    kids_from n (tree x ks rs) e low some =
        elim (place k n x ks rs (tree h kids rest) e low) [
          | all at same ↦
              let b : ks ≡ kids = cc in
              let s = ap size b in
              is_below (k + 1) n (n + 1 + size ks) _ _ _ (omega arith) (omega arith) ∙ start (k + 1) (n + 1) ks (omega arith) ∙ b
          | below l r inner ↦
              let b = bound (n + 1) ks inner (omega arith) in
              is_below (k + 1) n (n + 1 + size ks) _ _ _ (omega arith) (omega arith) ∙ kids_from (n + 1) ks inner (omega arith) some
          | past r inner ↦ is_past (k + 1) n (n + 1 + size ks) _ _ _ (omega arith) (omega arith) ∙ kids_from (n + 1 + size ks) rs inner r some
        ]

    -- the trees after the first begin after those below it
    pub rest_from : (n : ℕ) (f : Forest H) → siblings_from k n f ≡ tree h kids rest → n ≤ k → 0 < size rest → siblings_from (k + 1 + size kids) n f ≡ rest
    rest_from n none e low some = cc
    rest_from n (tree x ks rs) e low some =
        let next = k + 1 + size kids in
        elim (place k n x ks rs (tree h kids rest) e low) [
          | all at same ↦
              let b : ks ≡ kids = cc in
              let r : rs ≡ rest = cc in
              let s = ap size b in
              is_past next n (n + 1 + size ks) _ _ _ (omega arith) (omega arith) ∙ start next (n + 1 + size ks) rs (omega arith) ∙ r
          | below l r inner ↦
              let b = bound (n + 1) ks inner (omega arith) in
              is_below next n (n + 1 + size ks) _ _ _ (omega arith) (omega arith) ∙ rest_from (n + 1) ks inner (omega arith) some
          | past r inner ↦ is_past next n (n + 1 + size ks) _ _ _ (omega arith) (omega arith) ∙ rest_from (n + 1 + size ks) rs inner r some
        ]

-- Where a walk stands: its fields are found by their numbers, and a column's child has it for its holder.
use Rattle.std.proofs.Common.{◌≡◌, ℕ, zero, suc, ◌+◌, ◌<◌, ◌≤◌, Bool, true, false, cond, ◌||◌, eqb, ltb, ◌⊎◌, List, [], ◌∷◌, get_or, Some, None, Option, sym, refl, ap, ◌∙◌, subst₂, inl, inr, ⊎_elim, arith}
use Rattle.std.proofs.lemmas.Bool.{eqb-true, eq-eqb, ne_eqb, lt-ltb, le-ltb, cond-true, cond-false, or_left, or_right}
use Rattle.meaning.specs.Forest.{Forest, none, tree, size, numbers, find}
use Rattle.meaning.specs.Model.{Model, Field, Column, below}
use Rattle.meaning.specs.Lists.{among}
use Rattle.meaning.specs.Access.{child_at, child_numbers}
use Rattle.meaning.specs.Walk.{field_at, type_of, type_at, missing, absent_column}
use Rattle.meaning.specs.Converter.{holder_in, holder}
use Rattle.meaning.proofs.ColumnNumbers.{Tree, some_is, find-end, among_range, column_child}

-- the fields that a walk has before it, from field n on, are the schema's under their numbers
module _ (m : Model) where
  pub record Placed (fs : Forest Field) (n : ℕ) : Type 0 where
    pub inner : 1 ≤ n
    pub found : (k : ℕ) → n ≤ k → k < n + size fs → field_at m k ≡ find k n fs

  pub placed_all : Placed m.fields 1
  placed_all = record { inner = omega arith; found = λ k h l. refl }

  module _ (f : Field) (below rest : Forest Field) (n : ℕ) (pl : Placed (tree f below rest) n) where
    pub placed_here : field_at m n ≡ Some (f, below)
    placed_here = pl.found n (omega arith) (omega arith) ∙ cond-true (eqb n n) _ _ (eq-eqb n n refl)

    pub placed_type : type_at m n ≡ Some (f.shape, below)
    placed_type = go n pl.inner placed_here
      where
        go : (k : ℕ) → 1 ≤ k → field_at m k ≡ Some (f, below) → type_at m k ≡ Some (f.shape, below)
        go zero h e = absurd (omega arith)
        go (suc k) h e = ap type_of e

    pub placed_below : Placed below (n + 1)
    placed_below = record {
      inner = omega arith;
      found = λ k h l. pl.found k (omega arith) (omega arith) ∙ (cond-false (eqb k n) _ _ (ne_eqb k n (λ e. omega arith)) ∙ cond-true (ltb k (n + 1 + size below)) _ _ (lt-ltb k (n + 1 + size below) l));
    }

    pub placed-rest : Placed rest (n + 1 + size below)
    placed-rest = record {
      inner = omega arith;
      found = λ k h l. pl.found k (omega arith) (omega arith) ∙ (cond-false (eqb k n) _ _ (ne_eqb k n (λ e. omega arith)) ∙ cond-false (ltb k (n + 1 + size below)) _ _ (le-ltb k (n + 1 + size below) h));
    }

-- a tree side by side is held by what holds them all
held_beside : (F : Forest Column) (k up n : ℕ) → among k (numbers n F) ≡ true → holder_in k up n F ≡ up
held_beside none k up n e = refl
held_beside (tree x ks rest) k up n e = pass (eqb k n) e (held_beside rest k up (n + 1 + size ks))
  where
    pass : (b : Bool) → (b || among k (numbers (n + 1 + size ks) rest)) ≡ true → (among k (numbers (n + 1 + size ks) rest) ≡ true → holder_in k up (n + 1 + size ks) rest ≡ up)
        → cond b up (cond (ltb k (n + 1 + size ks)) (holder_in k n (n + 1) ks) (holder_in k up (n + 1 + size ks) rest)) ≡ up
    pass true e r = refl
    pass false e r = cond-false (ltb k (n + 1 + size ks)) _ _ (le-ltb k (n + 1 + size ks) (among_range rest k (n + 1 + size ks) e).0) ∙ r e

-- a column that is found is the holder of the trees straight below it
held_below : (F : Forest Column) (c k up n : ℕ) (v : Tree) → find c n F ≡ Some v → among k (numbers (c + 1) v.1) ≡ true → holder_in k up n F ≡ c
held_below none c k up n v e a = absurd (let z : ◌≡◌ {A = ℕ} 0 1 = cc in omega arith)
held_below (tree h ks rest) c k up n v e a =
    pass (eqb c n) (ltb c (n + 1 + size ks)) refl e (λ t. held_below ks c k n (n + 1) v t a) (λ t. held_below rest c k up (n + 1 + size ks) v t a)
  where
    far : (c + 1 ≤ k) × (k < c + 1 + size v.1)
    far = among_range v.1 k (c + 1) a

    inside : n + 1 ≤ k → k < n + 1 + size ks → holder_in k n (n + 1) ks ≡ c → holder_in k up n (tree h ks rest) ≡ c
    inside lo hi e = cond-false (eqb k n) _ _ (ne_eqb k n (λ t. omega arith)) ∙ (cond-true (ltb k (n + 1 + size ks)) _ _ (lt-ltb k (n + 1 + size ks) hi) ∙ e)

    past : n + 1 + size ks ≤ k → holder_in k up (n + 1 + size ks) rest ≡ c → holder_in k up n (tree h ks rest) ≡ c
    past lo e = cond-false (eqb k n) _ _ (ne_eqb k n (λ t. omega arith)) ∙ (cond-false (ltb k (n + 1 + size ks)) _ _ (le-ltb k (n + 1 + size ks) lo) ∙ e)

    pass : (b d : Bool) → eqb c n ≡ b → cond b (Some (h, ks)) (cond d (find c (n + 1) ks) (find c (n + 1 + size ks) rest)) ≡ Some v
        → (find c (n + 1) ks ≡ Some v → holder_in k n (n + 1) ks ≡ c) → (find c (n + 1 + size ks) rest ≡ Some v → holder_in k up (n + 1 + size ks) rest ≡ c)
        → holder_in k up n (tree h ks rest) ≡ c
    pass true d t e x y =
        let g = far in
        let z = eqb-true c n t in
        let w = ap (λ (u : Tree). size u.1) (some_is (h, ks) v e) in
        let q : among k (numbers (n + 1) ks) ≡ true = subst₂ (λ (j : ℕ) (u : Tree). among k (numbers (j + 1) u.1) ≡ true) z (sym (some_is (h, ks) v e)) a in
        inside (omega arith) (omega arith) (held_beside ks k n (n + 1) q ∙ sym z)
    pass false true t e x y = let g = far in let r = find-end ks c (n + 1) v e in inside (omega arith) (omega arith) (x e)
    pass false false t e x y = let g = far in let r = find-end rest c (n + 1 + size ks) v e in past (omega arith) (y e)

-- a column's child has it for its holder
pub held_child : (m : Model) (c k : ℕ) → among k (child_numbers m c) ≡ true → holder m k ≡ c
held_child m zero k a = held_beside m.columns k 0 1 a
held_child m (suc c) k a = go (find (suc c) 1 m.columns) refl a
  where
    go : (o : Option Tree) → find (suc c) 1 m.columns ≡ o → among k (numbers (suc c + 1) (below o)) ≡ true → holder m k ≡ suc c
    go None e a = absurd (let z : ◌≡◌ {A = ℕ} 0 1 = cc in omega arith)
    go (Some v) e a = held_below m.columns (suc c) k 0 1 v e a

-- a column's child is a column
pub found_child : (m : Model) (c k : ℕ) → among k (child_numbers m c) ≡ true → missing m k ≡ false
found_child m c k a = ap absent_column (column_child m c k a).1

-- so is the child at a place; where there is none the place says 0, which is the batch
get_or_among : (ns : List ℕ) (i : ℕ) → (get_or ns i 0 ≡ 0) ⊎ (among (get_or ns i 0) ns ≡ true)
get_or_among [] i = inl refl
get_or_among (n ∷ ns) zero = inr (or_left (eqb n n) (among n ns) (eq-eqb n n refl))
get_or_among (n ∷ ns) (suc i) = ⊎_elim (λ e. inl e) (λ e. inr (or_right (eqb (get_or ns i 0) n) (among (get_or ns i 0) ns) e)) (get_or_among ns i)

pub found_kid : (m : Model) (c i : ℕ) → missing m (child_at m c i) ≡ false
found_kid m c i = ⊎_elim (λ e. ap (missing m) e) (λ e. found_child m c (child_at m c i) e) (get_or_among (child_numbers m c) i)

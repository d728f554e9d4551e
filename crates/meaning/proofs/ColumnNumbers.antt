-- Columns by their numbers: what is found at a number, where it ends, and that a column's children are columns.
use Rattle.std.proofs.Common.{◌≡◌, ℕ, zero, suc, ◌+◌, ◌<◌, ◌≤◌, Bool, true, false, cond, ◌||◌, eqb, ltb, Some, None, Option, sym, refl, ap, ◌∙◌, subst, subst₂, arith}
use Rattle.std.proofs.lemmas.Bool.{eqb-true, eq-eqb, ne_eqb, lt-ltb, le-ltb, cond-true, cond-false}
use Rattle.meaning.specs.Forest.{Forest, none, tree, size, numbers, find}
use Rattle.meaning.specs.Model.{Model, Column, batch, column, below}
use Rattle.meaning.specs.Lists.{among}
use Rattle.meaning.specs.Keeps.{Lengths}
use Rattle.meaning.specs.Access.{child_numbers}

-- a column and what is below it
abbrev pub Tree : Type 0
Tree = Column × Forest Column

pub some_is : (u v : Tree) → ◌≡◌ {A = Option Tree} (Some u) (Some v) → u ≡ v
some_is u v e = cc

-- what is found ends before what follows
pub find-end : (F : Forest Column) (c n : ℕ) (v : Tree) → find c n F ≡ Some v → (n ≤ c) × (c + 1 + size v.1 ≤ n + size F)
find-end none c n v e = absurd (let z : ◌≡◌ {A = ℕ} 0 1 = cc in omega arith)
find-end (tree h ks rest) c n v e = pass (eqb c n) (ltb c (n + 1 + size ks)) refl e (find-end ks c (n + 1) v) (find-end rest c (n + 1 + size ks) v)
  where
    pass : (b d : Bool) → eqb c n ≡ b → cond b (Some (h, ks)) (cond d (find c (n + 1) ks) (find c (n + 1 + size ks) rest)) ≡ Some v
        → (find c (n + 1) ks ≡ Some v → (n + 1 ≤ c) × (c + 1 + size v.1 ≤ n + 1 + size ks))
        → (find c (n + 1 + size ks) rest ≡ Some v → (n + 1 + size ks ≤ c) × (c + 1 + size v.1 ≤ n + 1 + size ks + size rest))
        → (n ≤ c) × (c + 1 + size v.1 ≤ n + (1 + size ks + size rest))
    pass true d t e a b = let z = eqb-true c n t in let w = ap (λ (u : Tree). size u.1) (some_is (h, ks) v e) in (omega arith, omega arith)
    pass false true t e a b = let r = a e in (omega arith, omega arith)
    pass false false t e a b = let r = b e in (omega arith, omega arith)

-- what is found below a tree or after it is found from it on
pub find-below : (h : Column) (ks rest : Forest Column) (k n : ℕ) (v : Tree) → find k (n + 1) ks ≡ Some v → find k n (tree h ks rest) ≡ Some v
find-below h ks rest k n v e =
    let r = find-end ks k (n + 1) v e in
    cond-false (eqb k n) _ _ (ne_eqb k n (λ t. omega arith)) ∙ (cond-true (ltb k (n + 1 + size ks)) _ _ (lt-ltb k (n + 1 + size ks) (omega arith)) ∙ e)

pub find-after : (h : Column) (ks rest : Forest Column) (k n : ℕ) (v : Tree) → find k (n + 1 + size ks) rest ≡ Some v → find k n (tree h ks rest) ≡ Some v
find-after h ks rest k n v e =
    let r = find-end rest k (n + 1 + size ks) v e in
    cond-false (eqb k n) _ _ (ne_eqb k n (λ t. omega arith)) ∙ (cond-false (ltb k (n + 1 + size ks)) _ _ (le-ltb k (n + 1 + size ks) (omega arith)) ∙ e)

pub find_here : (h : Column) (ks rest : Forest Column) (n : ℕ) → find n n (tree h ks rest) ≡ Some (h, ks)
find_here h ks rest n = cond-true (eqb n n) _ _ (eq-eqb n n refl)

-- what is found below what is found
pub find-nested : (F : Forest Column) (c n k : ℕ) (u v : Tree) → find c n F ≡ Some u → find k (c + 1) u.1 ≡ Some v → find k n F ≡ Some v
find-nested none c n k u v e f = cc
find-nested (tree h ks rest) c n k u v e f = pass (eqb c n) (ltb c (n + 1 + size ks)) refl e (λ t. find-nested ks c (n + 1) k u v t f) (λ t. find-nested rest c (n + 1 + size ks) k u v t f)
  where
    pass : (b d : Bool) → eqb c n ≡ b → cond b (Some (h, ks)) (cond d (find c (n + 1) ks) (find c (n + 1 + size ks) rest)) ≡ Some u
        → (find c (n + 1) ks ≡ Some u → find k (n + 1) ks ≡ Some v) → (find c (n + 1 + size ks) rest ≡ Some u → find k (n + 1 + size ks) rest ≡ Some v)
        → find k n (tree h ks rest) ≡ Some v
    pass true d t e a b = find-below h ks rest k n v (subst₂ (λ (j : ℕ) (w : Tree). find k (j + 1) w.1 ≡ Some v) (eqb-true c n t) (sym (some_is (h, ks) u e)) f)
    pass false true t e a b = find-below h ks rest k n v (a e)
    pass false false t e a b = find-after h ks rest k n v (b e)

-- numbers side by side find the trees side by side, and what holds of all their lengths
pub find_length : (P : ℕ → Type 0) (F : Forest Column) (k n : ℕ) → Lengths P F → among k (numbers n F) ≡ true → (v : Tree) × (find k n F ≡ Some v) × P v.0.len
find_length P none k n l e = absurd (let z : ◌≡◌ {A = ℕ} 0 1 = cc in omega arith)
find_length P (tree h ks rest) k n l e = pass (eqb k n) refl e (find_length P rest k (n + 1 + size ks) l.1)
  where
    pass : (b : Bool) → eqb k n ≡ b → (b || among k (numbers (n + 1 + size ks) rest)) ≡ true
        → (among k (numbers (n + 1 + size ks) rest) ≡ true → (v : Tree) × (find k (n + 1 + size ks) rest ≡ Some v) × P v.0.len)
        → (v : Tree) × (find k n (tree h ks rest) ≡ Some v) × P v.0.len
    pass true t e r = ((h, ks), cond-true (eqb k n) _ _ t, l.0)
    pass false t e r = let w = r e in (w.0, find-after h ks rest k n w.0 w.1, w.2)

any_lengths : (F : Forest Column) → Lengths (λ l. Unit {0}) F
any_lengths none = tt
any_lengths (tree x ks rest) = (tt, any_lengths rest)

pub find-among : (F : Forest Column) (k n : ℕ) → among k (numbers n F) ≡ true → (v : Tree) × (find k n F ≡ Some v)
find-among F k n e = let w = find_length (λ l. Unit {0}) F k n (any_lengths F) e in (w.0, w.1)

-- they begin at the first and end before what follows
pub among_range : (F : Forest Column) (k n : ℕ) → among k (numbers n F) ≡ true → (n ≤ k) × (k < n + size F)
among_range F k n e = let w = find-among F k n e in let r = find-end F k n w.0 w.1 in (omega arith, omega arith)

-- what is found below a column is a column
pub column-below : (m : Model) (c k : ℕ) (u v : Tree) → column m c ≡ Some u → find k (c + 1) u.1 ≡ Some v → column m k ≡ Some v
column-below m zero zero u v e f = absurd (let t = find-end u.1 0 1 v f in omega arith)
column-below m zero (suc k) u v e f = subst (λ (w : Tree). find (suc k) 1 w.1 ≡ Some v) (sym (some_is (batch m, m.columns) u e)) f
column-below m (suc c) zero u v e f = absurd (let t = find-end u.1 0 (suc c + 1) v f in omega arith)
column-below m (suc c) (suc k) u v e f = find-nested m.columns (suc c) 1 (suc k) u v e f

-- so a column's child is a column
pub column_child : (m : Model) (c k : ℕ) → among k (child_numbers m c) ≡ true → (v : Tree) × (column m k ≡ Some v)
column_child m c k a = go (column m c) refl a
  where
    go : (o : Option Tree) → column m c ≡ o → among k (numbers (c + 1) (below o)) ≡ true → (v : Tree) × (column m k ≡ Some v)
    go None e a = absurd (let z : ◌≡◌ {A = ℕ} 0 1 = cc in omega arith)
    go (Some u) e a = let w = find-among u.1 k (c + 1) a in (w.0, column-below m c k u w.0 e w.1)

-- A batch that keeps the rules fulfils the premises of the laws' proofs.
use Rattle.std.proofs.Common.{◌≡◌, ℕ, zero, suc, ◌+◌, ◌/◌, ◌<◌, ◌≤◌, Bool, true, false, cond, eqb, ltb, List, [], ◌∷◌, length, get_or, Some, None, Option, sym, refl, ap, ◌∙◌, subst, add-one, arith}
use mathlib.Core.Bool.{false≢true}
use Rattle.meaning.specs.Forest.{Forest, none, tree, size, count, numbers, find}
use Rattle.meaning.specs.Model.{Model, Field, Column, Shape, prim, struct, list, map, Code, bits, words, variable, fixed_size_binary, structs, lists, large_lists, fixed_size_lists, maps, column, head, below, at}
use Rattle.meaning.specs.Lists.{among}
use Rattle.meaning.specs.Codes.{is_struct, is_map, struct?, map?}
use Rattle.meaning.specs.Access.{child_at, child_numbers}
use Rattle.meaning.specs.Keeps.{Keeps, FieldsKeep, ColumnsKeep, Bytes, Lengths, Rising, Cuts, Within, Bodied, KeyFirst, Holds}
use Rattle.meaning.proofs.Premises.{Exactly, Formed, Ascends, Cutting, Premises}
use Rattle.meaning.proofs.ColumnNumbers.{Tree, find-after, find_here, find_length, column-below}

-- types hold exactly the fields that they name
no_fields : (fs : Forest Field) → fs ≡ none → (s : Shape) → Holds s fs → Exactly s fs
no_fields none e (prim p) h = tt
no_fields none e struct h = tt
no_fields none e list h = absurd (omega arith)
no_fields none e map h = absurd (omega (arith, h.0))
no_fields (tree f ks rest) e s h = let z : 1 + count rest ≡ 0 = ap count e in absurd (omega arith)

exactly-list : (fs : Forest Field) → count fs ≡ 1 → Exactly list fs
exactly-list none n = absurd (omega arith)
exactly-list (tree f ks none) n = tt
exactly-list (tree f ks (tree g under rest)) n = absurd (omega arith)

exactly-map : (fs : Forest Field) → count fs ≡ 2 → KeyFirst fs → Exactly map fs
exactly-map none n k = absurd (omega arith)
exactly-map (tree f ks none) n k = absurd (omega arith)
exactly-map (tree f ks (tree g under none)) n k = k
exactly-map (tree f ks (tree g under (tree i over rest))) n k = absurd (omega arith)

exactly : (s : Shape) (fs : Forest Field) → Holds s fs → Exactly s fs
exactly (prim p) fs h = no_fields fs h.1 (prim p) h
exactly struct fs h = tt
exactly list fs h = exactly-list fs h
exactly map fs h = exactly-map fs h.0 h.1

formed : (fs : Forest Field) → FieldsKeep fs → Formed fs
formed none k = tt
formed (tree f ks rest) k = (exactly f.shape ks k.2, formed ks k.3, formed rest k.4)

pub keeps-formed : (m : Model) → Keeps m → Formed m.fields
keeps-formed m k = formed m.fields k.fields

-- bodies are bytes
no_bytes : (bs : List ℕ) → bs ≡ [] → Bytes bs
no_bytes bs e = subst Bytes (sym e) tt

bodied : (k : Code) (x : Column) (ks : Forest Column) → Bodied k x ks → Bytes x.body
bodied bits x ks b = b.1
bodied (words w) x ks b = b.1
bodied (variable t) x ks b = b.2
bodied (fixed_size_binary w) x ks b = b.2.1
bodied structs x ks b = no_bytes x.body b.1
bodied lists x ks b = no_bytes x.body b.1
bodied large_lists x ks b = no_bytes x.body b.1
bodied (fixed_size_lists s) x ks b = no_bytes x.body b.3
bodied maps x ks b = no_bytes x.body b.1

-- offsets
rises : (top last : ℕ) (os : List ℕ) → Rising top last os → (i : ℕ) → suc i < length os → get_or os i 0 ≤ get_or os (suc i) 0
rises top last [] r i h = absurd (omega arith)
rises top last (o ∷ []) r i h = absurd (omega arith)
rises top last (o ∷ p ∷ os) r zero h = r.2.0
rises top last (o ∷ p ∷ os) r (suc i) h = rises top o (p ∷ os) r.2 i (omega arith)

inside : (os : List ℕ) (l : ℕ) → Within os l → (i : ℕ) → i < length os → get_or os i 0 ≤ l
inside [] l w i h = absurd (omega arith)
inside (o ∷ os) l w zero h = w.0
inside (o ∷ os) l w (suc i) h = inside os l w.1 i (omega arith)

ascends : (width : ℕ) (x : Column) (l : ℕ) → Cuts width x → Within x.offsets l → Ascends x l
ascends width x l c w = record {
  up = λ i h. rw add-one (rises _ 0 x.offsets c.1 i (omega (arith, c.0)));
  end = inside x.offsets l w x.len (omega (arith, c.0));
}

-- what a column found keeps
abbrev Well : Option Tree → Type 0
Well None = Unit {0}
Well (Some (x, ks)) = (x.len ≤ 65536) × Bodied x.code x ks

find_well : (F : Forest Column) (k n : ℕ) → ColumnsKeep F → Well (find k n F)
find_well none k n s = tt
find_well (tree h ks rest) k n s = pass (eqb k n) (ltb k (n + 1 + size ks)) (find_well ks k (n + 1) s.5) (find_well rest k (n + 1 + size ks) s.6)
  where
    pass : (b d : Bool) → Well (find k (n + 1) ks) → Well (find k (n + 1 + size ks) rest) → Well (cond b (Some (h, ks)) (cond d (find k (n + 1) ks) (find k (n + 1 + size ks) rest)))
    pass true d x y = (s.2, s.4)
    pass false true x y = x
    pass false false x y = y

module _ (m : Model) (r : Keeps m) where
  well : (c : ℕ) → Well (column m c)
  well zero = (r.rows, (refl, refl, r.lengths))
  well (suc c) = find_well m.columns (suc c) 1 r.columns

  below_length : (c k l : ℕ) (u v : Tree) → column m c ≡ Some u → find k (c + 1) u.1 ≡ Some v → v.0.len ≡ l → (at m k).len ≡ l
  below_length c k l u v e f h = ap (λ (o : Option Tree). (head o).len) (column-below m c k u v e f) ∙ h

  short : (c : ℕ) → (at m c).len ≤ 65536
  short c = go (column m c) (well c)
    where
      go : (o : Option Tree) → Well o → (head o).len ≤ 65536
      go None h = omega arith
      go (Some u) h = h.0

  -- struct columns
  long_of : (x : Column) (ks : Forest Column) (k : Code) → is_struct k ≡ true → Bodied k x ks → Lengths (λ l. l ≡ x.len) ks
  long_of x ks bits e b = absurd (false≢true e)
  long_of x ks (words w) e b = absurd (false≢true e)
  long_of x ks (variable w) e b = absurd (false≢true e)
  long_of x ks (fixed_size_binary w) e b = absurd (false≢true e)
  long_of x ks structs e b = b.2
  long_of x ks lists e b = absurd (false≢true e)
  long_of x ks large_lists e b = absurd (false≢true e)
  long_of x ks (fixed_size_lists s) e b = absurd (false≢true e)
  long_of x ks maps e b = absurd (false≢true e)

  level : (c k : ℕ) → struct? m c ≡ true → among k (child_numbers m c) ≡ true → (at m k).len ≡ (at m c).len
  level c k e a = go (column m c) refl (well c) e a
    where
      go : (o : Option Tree) → column m c ≡ o → Well o → is_struct (head o).code ≡ true → among k (numbers (c + 1) (below o)) ≡ true → (at m k).len ≡ (head o).len
      go None p h e a = absurd (let z : ◌≡◌ {A = ℕ} 0 1 = cc in omega arith)
      go (Some (x, ks)) p h e a = let w = find_length (λ l. l ≡ x.len) ks k (c + 1) (long_of x ks x.code e h.1) a in below_length c k x.len (x, ks) w.0 p w.1 w.2

  -- list and map columns, by their first child and their second
  first-len : (c : ℕ) (x y : Column) (ls rest : Forest Column) → column m c ≡ Some (x, tree y ls rest) → (at m (c + 1)).len ≡ y.len
  first-len c x y ls rest p = below_length c (c + 1) y.len (x, tree y ls rest) (y, ls) p (find_here y ls rest (c + 1)) refl

  second_len : (c : ℕ) (x y z : Column) (ls ks rest : Forest Column) → column m c ≡ Some (x, tree y ls (tree z ks rest)) → (at m (c + 1 + 1 + size ls)).len ≡ z.len
  second_len c x y z ls ks rest p =
      below_length c (c + 1 + 1 + size ls) z.len (x, tree y ls (tree z ks rest)) (z, ks) p
      (find-after y ls (tree z ks rest) (c + 1 + 1 + size ls) (c + 1) (z, ks) (find_here z ks rest (c + 1 + 1 + size ls))) refl

  cut_of : (c : ℕ) (k : Code) (x : Column) (ks : Forest Column) → column m c ≡ Some (x, ks) → Bodied k x ks → Cutting k x (at m (get_or (numbers (c + 1) ks) 0 0)).len
  cut_of c bits x ks p b = tt
  cut_of c (words w) x ks p b = tt
  cut_of c (variable t) x ks p b = tt
  cut_of c (fixed_size_binary w) x ks p b = tt
  cut_of c structs x ks p b = tt
  cut_of c lists x none p b = absurd (omega (arith, b.2))
  cut_of c lists x (tree y ls rest) p b = subst (λ l. Ascends x l) (sym (first-len c x y ls rest p)) (ascends 4 x y.len b.0 b.3.0)
  cut_of c large_lists x none p b = absurd (omega (arith, b.2))
  cut_of c large_lists x (tree y ls rest) p b = subst (λ l. Ascends x l) (sym (first-len c x y ls rest p)) (ascends 8 x y.len b.0 b.3.0)
  cut_of c (fixed_size_lists s) x none p b = absurd (omega (arith, b.4))
  cut_of c (fixed_size_lists s) x (tree y ls rest) p b = subst (λ l. x.len ≡ l / s) (sym (first-len c x y ls rest p)) (sym b.5.0)
  cut_of c maps x none p b = absurd (omega (arith, b.2))
  cut_of c maps x (tree y ls none) p b = absurd (omega (arith, b.2))
  cut_of c maps x (tree y ls (tree z ks rest)) p b = subst (λ l. Ascends x l) (sym (first-len c x y ls (tree z ks rest) p)) (ascends 4 x y.len b.0 b.3.0)

  cutting : (c : ℕ) → Cutting (at m c).code (at m c) (at m (child_at m c 0)).len
  cutting c = go (column m c) refl (well c)
    where
      go : (o : Option Tree) → column m c ≡ o → Well o → Cutting (head o).code (head o) (at m (get_or (numbers (c + 1) (below o)) 0 0)).len
      go None p h = tt
      go (Some (x, ks)) p h = cut_of c x.code x ks p h.1

  pair_of : (c : ℕ) (k : Code) (x : Column) (ks : Forest Column) → is_map k ≡ true → column m c ≡ Some (x, ks) → Bodied k x ks
      → (at m (get_or (numbers (c + 1) ks) 1 0)).len ≡ (at m (get_or (numbers (c + 1) ks) 0 0)).len
  pair_of c bits x ks e p b = absurd (false≢true e)
  pair_of c (words w) x ks e p b = absurd (false≢true e)
  pair_of c (variable t) x ks e p b = absurd (false≢true e)
  pair_of c (fixed_size_binary w) x ks e p b = absurd (false≢true e)
  pair_of c structs x ks e p b = absurd (false≢true e)
  pair_of c lists x ks e p b = absurd (false≢true e)
  pair_of c large_lists x ks e p b = absurd (false≢true e)
  pair_of c (fixed_size_lists s) x ks e p b = absurd (false≢true e)
  pair_of c maps x none e p b = absurd (omega (arith, b.2))
  pair_of c maps x (tree y ls none) e p b = absurd (omega (arith, b.2))
  pair_of c maps x (tree y ls (tree z ks rest)) e p b = second_len c x y z ls ks rest p ∙ (b.4.1.0 ∙ sym (first-len c x y ls (tree z ks rest) p))

  paired : (c : ℕ) → map? m c ≡ true → (at m (child_at m c 1)).len ≡ (at m (child_at m c 0)).len
  paired c e = go (column m c) refl (well c) e
    where
      go : (o : Option Tree) → column m c ≡ o → Well o → is_map (head o).code ≡ true → (at m (get_or (numbers (c + 1) (below o)) 1 0)).len ≡ (at m (get_or (numbers (c + 1) (below o)) 0 0)).len
      go None p h e = absurd (false≢true e)
      go (Some (x, ks)) p h e = pair_of c x.code x ks e p h.1

  bytes : (c : ℕ) → Bytes (at m c).body
  bytes c = go (column m c) (well c)
    where
      go : (o : Option Tree) → Well o → Bytes (head o).body
      go None h = tt
      go (Some (x, ks)) h = bodied x.code x ks h.1

pub keeps_premises : (m : Model) → Keeps m → Premises m
keeps_premises m k = record { formed = keeps-formed m k; few = k.few_fields; short = short m k; level = level m k; cutting = cutting m k; paired = paired m k; bytes = bytes m k }

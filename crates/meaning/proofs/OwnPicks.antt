-- The two accessors pick a struct's own children.
use Rattle.std.proofs.Common.{◌≡◌, ℕ, ◌+◌, Bool, true, false, cond, ◌||◌, eqb, Some, None, Option, arith}
use Rattle.std.proofs.lemmas.Bool.{eq-eqb, or_left, or_right}
use Rattle.meaning.specs.Forest.{Forest, none, tree, size, numbers, find}
use Rattle.meaning.specs.Model.{Model, Field, Column, children}
use Rattle.meaning.specs.Lists.{among}
use Rattle.meaning.specs.Access.{Own, child_numbers}
use Rattle.meaning.specs.Equal.{same_bytes}
use Rattle.meaning.specs.Picks.{by_field, by_id, by_name, read_id, is_id, first_child}

first-among : (f : Column → Bool) (n k : ℕ) (F : Forest Column) → first_child f n F ≡ Some k → among k (numbers n F) ≡ true
first-among f n k none e = absurd (let z : ◌≡◌ {A = ℕ} 0 1 = cc in omega arith)
first-among f n k (tree x below rest) e = go (f x) e (first-among f (n + 1 + size below) k rest)
  where
    go : (b : Bool) → cond b (Some n) (first_child f (n + 1 + size below) rest) ≡ Some k → (first_child f (n + 1 + size below) rest ≡ Some k → among k (numbers (n + 1 + size below) rest) ≡ true)
        → (eqb k n || among k (numbers (n + 1 + size below) rest)) ≡ true
    go true e r = let d : k ≡ n = cc in or_left (eqb k n) (among k (numbers (n + 1 + size below) rest)) (eq-eqb k n d)
    go false e r = or_right (eqb k n) (among k (numbers (n + 1 + size below) rest)) (r e)

field-among : (f : Field → Column → Bool) (m : Model) (c k : ℕ) (o : Option (Field × Forest Field)) → by_field f m c o ≡ Some k → among k (child_numbers m c) ≡ true
field-among f m c k None e = absurd (let z : ◌≡◌ {A = ℕ} 0 1 = cc in omega arith)
field-among f m c k (Some (x, below)) e = first-among (f x) (c + 1) k (children m c) e

pub own-id : (m : Model) → Own m (by_id m)
own-id m c n k e = field-among (λ f x. is_id f.id (read_id x.id_text)) m c k (find n 1 m.fields) e

pub own_name : (m : Model) → Own m (by_name m)
own_name m c n k e = field-among (λ f x. same_bytes f.name x.name) m c k (find n 1 m.fields) e

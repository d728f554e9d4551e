-- The definition `fields` as one that reads trees side by side; beside them stands whether the first is a map's key.
use Rattle.std.proofs.Common.{◌≡◌, ℕ, zero, suc, ◌+◌, ◌<◌, ◌≤◌, Bool, true, false, ltb, ◌⊎◌, Ok, Err, Result, refl, ap, ◌∙◌, inl, inr, arith}
use Rattle.std.proofs.lemmas.Bool.Decides.{nat_tests}
use Rattle.meaning.specs.Forest.{Forest, none, tree, size}
use Rattle.meaning.specs.Model as model
use Rattle.meaning.specs.Items.{field, BatchFault as Fault, Rest, refused, carry, give}
use Rattle.meaning.specs.Schema.{fields, fielded}
use Rattle.items.proofs.Filling.{onto}
use Rattle.items.proofs.Siblings.{Family}
use Rattle.items.proofs.Taken.{if_true, if_false}
use Rattle.schema.specs.Fields.{one_field}

pub no_more : (level : ℕ) (key : Bool) (n : ℕ) (r : Rest) → fields level 0 key n r ≡ Ok (none, r)
no_more zero key n r = refl
no_more (suc l) key n r = refl

-- an entry below the last level, or the 257th
pub no_room : (level c : ℕ) (key : Bool) (n : ℕ) (r : Rest) → (level ≡ 0) ⊎ (256 < n) → fields level (suc c) key n r ≡ refused 4 r.at (field n)
no_room zero c key n r h = refl
no_room (suc l) c key n r (inl e) = absurd (omega arith)
no_room (suc l) c key n r (inr h) = let t : ltb 256 n ≡ true = grind (arith, nat_tests) in if_true _ _ t

-- the first field, and then the others
first_then : (l c n : ℕ) (m : Result ((model.Field × Forest model.Field) × Rest) Fault)
    → carry (λ f r. carry (λ fs. give (tree f.0 f.1 fs)) (fields (suc l) c false (n + 1 + size f.1) r)) m
    ≡ carry (λ g r. onto g (fields (suc l) c false (n + size g) r)) (carry (λ f. give (tree f.0 f.1 none)) m)
first_then l c n (Ok ((h, below), r)) =
    let e : n + 1 + size below ≡ n + (1 + size below + 0) = omega arith in
    ap (λ k. carry (λ fs. give (tree h below fs)) (fields (suc l) c false k r)) e
first_then l c n (Err e) = refl

pub one_more : (l c : ℕ) (key : Bool) (n : ℕ) (r : Rest) → n ≤ 256
    → fields (suc l) (suc c) key n r ≡ carry (λ g r'. onto g (fields (suc l) c false (n + size g) r')) (one_field (fields l) key n r)
one_more l c key n r h = let t : ltb 256 n ≡ false = grind (arith, nat_tests) in if_false _ _ t ∙ first_then l c n (fielded (fields l) key n r)

abbrev pub field_family : Family model.Field Bool
field_family = record {
  many = λ level count key n. fields level count key n;
  one = λ level key n. one_field (fields level) key n;
  later = λ _. false;
  place = field;
  no_more = no_more;
  no_room = no_room;
  one_more = one_more;
}

-- The definition `columns` as one that reads trees side by side; beside them stands their holder, whose offsets are in the file.
use Rattle.std.proofs.Common.{◌≡◌, ℕ, zero, suc, ◌+◌, ◌<◌, ◌≤◌, true, false, ltb, ◌⊎◌, List, Ok, Err, Result, refl, ap, ◌∙◌, inl, inr, arith}
use Rattle.std.proofs.lemmas.Bool.Decides.{nat_tests, leb_tells}
use Rattle.meaning.specs.Forest.{Forest, none, tree, size}
use Rattle.meaning.specs.Model as model
use Rattle.meaning.specs.Items.{column, BatchFault as Fault, Rest, refused, carry, give}
use Rattle.meaning.specs.Columns.{columned, columns}
use Rattle.items.proofs.Filling.{onto}
use Rattle.items.proofs.Siblings.{Family}
use Rattle.items.proofs.Taken.{if_true, if_false, then_then}
use Rattle.items.specs.Cuts.{offsets_of}
use Rattle.columns.specs.declared.length.Holder.{Holder}
use Rattle.columns.specs.Heads.{column_from}
use Rattle.columns.specs.Holders.{need_of, held_by}

-- one column is one tree, and there was room for it
pub record Single (n : ℕ) (t : Forest model.Column) : Type 0 where
  pub head : model.Column
  pub kids : Forest model.Column
  pub is : t ≡ tree head kids none
  pub room : n ≤ 256

module _ (bytes : List ℕ) where
  pub no_more : (level : ℕ) (h : Holder) (n : ℕ) (r : Rest) → held_by bytes level 0 h n r ≡ Ok (none, r)
  no_more zero h n r = refl
  no_more (suc l) h n r = refl

  -- an entry below the last level, or the 257th
  pub no_room : (level c : ℕ) (h : Holder) (n : ℕ) (r : Rest) → (level ≡ 0) ⊎ (256 < n) → held_by bytes level (suc c) h n r ≡ refused 4 r.at (column n)
  no_room zero c h n r full = refl
  no_room (suc l) c h n r (inl e) = absurd (omega arith)
  no_room (suc l) c h n r (inr past) = let t : ltb 256 n ≡ true = grind (arith, nat_tests) in if_true _ _ t

  -- a column as its head and its body
  head_then : (level : ℕ) (h : Holder) (n : ℕ) (r : Rest)
      → carry (λ x. give (tree x.0 x.1 none)) (columned (columns level) (need_of h.need) (offsets_of bytes h.cut) h.owner n r) ≡ column_from bytes level h n r
  head_then level h n r = simp then_then

  -- the first column, and then the others
  first_then : (l c n : ℕ) (h : Holder) (m : Result ((model.Column × Forest model.Column) × Rest) Fault)
      → carry (λ x r. carry (λ xs. give (tree x.0 x.1 xs)) (held_by bytes (suc l) c h (n + 1 + size x.1) r)) m
      ≡ carry (λ g r. onto g (held_by bytes (suc l) c h (n + size g) r)) (carry (λ x. give (tree x.0 x.1 none)) m)
  first_then l c n h (Ok ((x, kids), r)) =
      let e : n + 1 + size kids ≡ n + (1 + size kids + 0) = omega arith in
      ap (λ k. carry (λ xs. give (tree x kids xs)) (held_by bytes (suc l) c h k r)) e
  first_then l c n h (Err e) = refl

  one_first : (l c n : ℕ) (h : Holder) (r : Rest) → n ≤ 256
      → held_by bytes (suc l) (suc c) h n r
      ≡ carry (λ g r. onto g (held_by bytes (suc l) c h (n + size g) r)) (carry (λ x. give (tree x.0 x.1 none)) (columned (columns l) (need_of h.need) (offsets_of bytes h.cut) h.owner n r))
  one_first l c n h r room =
      let t : ltb 256 n ≡ false = grind (arith, nat_tests) in
      if_false _ _ t ∙ first_then l c n h (columned (columns l) (need_of h.need) (offsets_of bytes h.cut) h.owner n r)

  pub one_more : (l c : ℕ) (h : Holder) (n : ℕ) (r : Rest) → n ≤ 256
      → held_by bytes (suc l) (suc c) h n r ≡ carry (λ g r'. onto g (held_by bytes (suc l) c h (n + size g) r')) (column_from bytes l h n r)
  one_more l c h n r room =
      one_first l c n h r room
      ∙ ap (carry (λ g r'. onto g (held_by bytes (suc l) c h (n + size g) r'))) (head_then l h n r)

  abbrev pub column_family : Family model.Column Holder
  column_family = record {
    many = held_by bytes;
    one = column_from bytes;
    later = λ h. h;
    place = column;
    no_more = no_more;
    no_room = no_room;
    one_more = one_more;
  }

  one-tree : (l : ℕ) (h : Holder) (n : ℕ) (s : Rest) (t : Forest model.Column) (m : Result ((model.Column × Forest model.Column) × Rest) Fault) → n ≤ 256
      → Ok (t, s) ≡ carry (λ g r. onto g (held_by bytes (suc l) 0 h (n + size g) r)) (carry (λ x. give (tree x.0 x.1 none)) m) → Single n t
  one-tree l h n s t (Ok ((x, kids), q)) room e =
      let p : ◌≡◌ {A = Forest model.Column × Rest} (t, s) (tree x kids none, q) = cc in
      record { head = x; kids = kids; is = ap (λ y. y.0) p; room = room }
  one-tree l h n s t (Err x) room e = absurd cc

  pub single : (level : ℕ) (h : Holder) (n : ℕ) (r s : Rest) (t : Forest model.Column) → Ok (t, s) ≡ held_by bytes level 1 h n r → Single n t
  single zero h n r s t e = absurd cc
  single (suc l) h n r s t e =
      elim (leb_tells n 256) [
        | inl y ↦ one-tree l h n s t (columned (columns l) (need_of h.need) (offsets_of bytes h.cut) h.owner n r) y.1 (e ∙ one_first l 0 n h r y.1)
        | inr f ↦ absurd (let bad = e ∙ no_room (suc l) 0 h n r (inr f.1) in cc)
      ]

-- The loop that adds the lines of trees side by side.
use Rattle.std.proofs.Common.{◌≡◌, ℕ, ◌+◌, ◌<◌, ◌≤◌, true, false, leb, List, [], ◌∷◌, ◌++◌, Some, None, Option, sym, ap, ◌∙◌, inl, inr, append_assoc, arith}
use Rattle.std.proofs.lemmas.Bool.Decides.{nat_tests, eqb_tells}
use Rattle.std.specs.Fmt.{AppendsText, ◌++?◌}
use Rattle.meaning.specs.Forest.{Forest, none, tree, size, find}
use Rattle.items.proofs.Taken.{if_true, if_false}
use Rattle.batch.specs.Views.{numbered}
use Rattle.info.specs.Lines.{lines}
use Rattle.info.specs.Segments.{siblings_from, between, written}
use Rattle.info.proofs.Segments.{First, first_of, empty, found_first, kids_from, rest_from}

module _ {H : Type 0} (w : Forest H) (line : ℕ → ℕ → H → List ℕ) where
  -- What the loop keeps: the trees that are left begin at n, and their lines, added to what is written, make up the whole.
  pub record Putting (level first end n : ℕ) (before now : List ℕ) : Type 0 where
    pub left : end ≡ n + size (between w n end)
    pub deep : level ≤ n
    pub numbers : 1 ≤ n
    pub from : first ≤ n
    pub text : now ++ lines line level n (between w n end) ≡ before ++ lines line level first (between w first end)

  module _ {level first end n : ℕ} {before now : List ℕ} (p : Putting level first end n before now) where
    module _ (more : n < end) where
      opened : between w n end ≡ siblings_from n 1 w
      opened = let t : leb end n ≡ false = grind (arith, nat_tests) in if_false _ _ t

      this : First (between w n end)
      this = first_of (between w n end) (let l = p.left in omega arith)

      stands : siblings_from n 1 w ≡ tree this.head this.kids this.rest
      stands = sym opened ∙ this.is

      sized : end ≡ n + 1 + size this.kids + size this.rest
      sized = let l = p.left in let s = ap size this.is in omega arith

      here : find n 1 w ≡ Some (this.head, this.kids)
      here = found_first n this.head this.kids this.rest 1 w stands

      -- an entry is there
      pub not_missing : {L : Type 0} (output : L → Option (List ℕ)) → written output None ≡ written (λ h. Some (line level n h)) (numbered n (find n 1 w)) → ⊥
      not_missing output e = let bad = e ∙ ap (λ o. written (λ h. Some (line level n h)) (numbered n o)) here in cc

      -- what is given is its line, and the number after its subtree
      module _ {L : Type 0} (output : L → Option (List ℕ)) (l : L) (next : ℕ) (given : written output (Some (l, next)) ≡ written (λ h. Some (line level n h)) (numbered n (find n 1 w))) where
        both : ◌≡◌ {A = Option (List ℕ) × ℕ} (output l, next) (Some (line level n this.head), n + 1 + size this.kids)
        both = let e = given ∙ ap (λ o. written (λ h. Some (line level n h)) (numbered n o)) here in cc

        after : n + 1 + size this.kids ≡ next
        after = sym (ap (λ (x : Option (List ℕ) × ℕ). x.1) both)

        kids_are : between w (n + 1) next ≡ this.kids
        kids_are =
            let a = after in
            elim (eqb_tells (size this.kids) 0) [
              | inl t ↦ let l : leb next (n + 1) ≡ true = grind (arith, nat_tests, t.1) in if_true _ _ l ∙ empty this.kids t.1
              | inr u ↦
                  let l : leb next (n + 1) ≡ false = grind (arith, nat_tests, u.1) in
                  if_false _ _ l ∙ kids_from n this.head this.kids this.rest 1 w stands p.numbers (omega (arith, u.1))
            ]

        rest_is : between w next end ≡ this.rest
        rest_is =
            let a = after in
            let s = sized in
            elim (eqb_tells (size this.rest) 0) [
              | inl t ↦ let l : leb end next ≡ true = grind (arith, nat_tests, t.1) in if_true _ _ l ∙ empty this.rest t.1
              | inr u ↦
                  let l : leb end next ≡ false = grind (arith, nat_tests, u.1) in
                  if_false _ _ l ∙ ap (λ k. siblings_from k 1 w) (sym a) ∙ rest_from n this.head this.kids this.rest 1 w stands p.numbers (omega (arith, u.1))
            ]

        -- what the call for the trees below asks: they are fewer, and end within
        pub below_asks : (n < next) × (next ≤ end) × (next ≡ n + 1 + size (between w (n + 1) next))
        below_asks = let a = after in let s = sized in (omega arith, omega arith, sym after ∙ ap (λ f. n + 1 + size f) (sym kids_are))

        -- its line and those below it are added
        pub goes_on : (t1 t2 : List ℕ) → AppendsText now t1 (output l ++? Some (10 ∷ [])) → t2 ≡ t1 ++ lines line (level + 1) (n + 1) (between w (n + 1) next) → Putting level first end next before t2
        goes_on t1 t2 e1 e2 =
            let below : List ℕ = lines line (level + 1) (n + 1) this.kids in
            let others : List ℕ = lines line level (n + 1 + size this.kids) this.rest in
            let put : t1 ≡ now ++ (line level n this.head ++ (10 ∷ [])) = rw (ap (λ (x : Option (List ℕ) × ℕ). x.0) both) at e1 in
            let written : t2 ≡ (now ++ (line level n this.head ++ (10 ∷ []))) ++ below = e2 ∙ ap (λ f. t1 ++ lines line (level + 1) (n + 1) f) kids_are ∙ ap (λ t. t ++ below) put in
            let tail : lines line level next (between w next end) ≡ others = ap (lines line level next) rest_is ∙ ap (λ k. lines line level k this.rest) (sym after) in
            let all : ((now ++ (line level n this.head ++ (10 ∷ []))) ++ below) ++ others ≡ now ++ lines line level n (tree this.head this.kids this.rest) = simp append_assoc in
            record {
              left = sized ∙ (let a = after in let r = ap size rest_is in omega arith);
              deep = let d = p.deep in let b = below_asks in omega arith;
              numbers = let b = below_asks in omega arith;
              from = let b = below_asks in let g = p.from in omega arith;
              text = ap (λ t. t ++ lines line level next (between w next end)) written ∙ ap (λ l. ((now ++ (line level n this.head ++ (10 ∷ []))) ++ below) ++ l) tail ∙ all
                  ∙ ap (λ f. now ++ lines line level n f) (sym this.is) ∙ p.text;
            }

-- all trees of a forest
pub whole-between : {H : Type 0} (f : Forest H) (k : ℕ) → k ≡ size f → between f 1 (k + 1) ≡ f
whole-between none k e = let t : leb (k + 1) 1 ≡ true = grind (arith, nat_tests) in if_true _ _ t
whole-between (tree x kids rest) k e = let t : leb (k + 1) 1 ≡ false = grind (arith, nat_tests) in if_false _ _ t

pub all_asked : {H : Type 0} (f : Forest H) (k : ℕ) → k ≡ size f → k + 1 ≡ 1 + size (between f 1 (k + 1))
all_asked f k e = let s = ap size (whole-between f k e) in omega arith

-- The loop over trees side by side, for fields and for columns.
use Rattle.std.proofs.Common.{◌≡◌, ℕ, suc, ◌+◌, ◌-◌, ◌<◌, ◌≤◌, ◌⊎◌, Ok, Err, Result, sym, refl, ap, ◌∙◌, subst, arith}
use Rattle.meaning.specs.Forest.{Forest, none, size, beside}
use Rattle.meaning.specs.Items.{Entry, BatchFault as Fault, Rest, Read, refused, carry}
use Rattle.items.specs.declared.entries.EntryReader.{EntryReader}
use Rattle.items.specs.Reading.{file, rest}
use Rattle.items.specs.Tables.{Layout, Filled, Enters}
use Rattle.items.proofs.Filling.{beside_none, onto, onto_none, onto_onto, filled_none, filled_beside}

-- A definition that reads so many trees side by side, with so many levels left and some P beside, from a number on;
-- `one` reads one of them, with the levels left below it, and `later` is the P of those after it.
pub record Family (H P : Type 0) : Type 0 where
  pub many : ℕ → ℕ → P → ℕ → Read (Forest H)
  pub one : ℕ → P → ℕ → Read (Forest H)
  pub later : P → P
  pub place : ℕ → Entry
  pub no_more : (level : ℕ) (p : P) (n : ℕ) (r : Rest) → many level 0 p n r ≡ Ok (none, r)
  pub no_room : (level c : ℕ) (p : P) (n : ℕ) (r : Rest) → (level ≡ 0) ⊎ (256 < n) → many level (suc c) p n r ≡ refused 4 r.at (place n)
  pub one_more : (l c : ℕ) (p : P) (n : ℕ) (r : Rest) → n ≤ 256
      → many (suc l) (suc c) p n r ≡ carry (λ g r'. onto g (many (suc l) c (later p) (n + size g) r')) (one l p n r)

module _ {E H P : Type 0} (l : Layout E H) (f : Family H P) where
  -- What the loop keeps: `done` is read and stands in the table, and the trees that are left go on from here.
  pub record Going (before now : EntryReader E) (level count : ℕ) (p p' : P) (turn : ℕ) : Type 0 where
    pub done : Forest H
    pub reader : now.reader.ghost_name ≡ before.reader.ghost_name
    pub table : now.table.ghost_name ≡ before.table.ghost_name
    pub same : file now.reader.now ≡ file before.reader.now
    pub left : onto done (f.many level (count - turn) p' now.next (rest now.reader.now)) ≡ f.many level count p before.next (rest before.reader.now)
    pub filled : Filled l (file before.reader.now) before.table.now now.table.now before.next now.next done

  pub start : (r : EntryReader E) (level count : ℕ) (p : P) → Going r r level count p p 0
  start r level count p =
      let e : count - 0 ≡ count = omega arith in
      record {
        done = none;
        reader = refl;
        table = refl;
        same = refl;
        left = onto_none (f.many level (count - 0) p r.next (rest r.reader.now)) ∙ ap (λ k. f.many level k p r.next (rest r.reader.now)) e;
        filled = filled_none l (file r.reader.now) r.table.now r.next;
      }

module _ {E H P : Type 0} {l : Layout E H} {f : Family H P} {before now : EntryReader E} {level count : ℕ} {p p' : P} {turn : ℕ} (g : Going l f before now level count p p' turn) where
  -- the trees are all read
  pub finish : count ≤ turn → Enters l (λ _ (ts : Forest H). ts) (f.many level count p before.next) before.next before (Ok (tt {0})) now
  finish h =
      let e : count - turn ≡ 0 = omega arith in
      let none_left : f.many level (count - turn) p' now.next (rest now.reader.now) ≡ Ok (none, rest now.reader.now) =
      ap (λ k. f.many level k p' now.next (rest now.reader.now)) e ∙ f.no_more level p' now.next (rest now.reader.now)
      in
      record {
        reader = g.reader;
        table = g.table;
        fills = record { same = g.same; does = (g.done, ap (λ t. Ok (t, rest now.reader.now)) (sym (beside_none g.done)) ∙ sym (ap (onto g.done) none_left) ∙ g.left, g.filled) };
      }

  opened : (m : Result (Forest H × Rest) Fault) → m ≡ f.many level (count - turn) p' now.next (rest now.reader.now) → onto g.done m ≡ f.many level count p before.next (rest before.reader.now)
  opened m e = ap (onto g.done) e ∙ g.left

  -- there is no room for the next one
  pub stuck : turn < count → (level ≡ 0) ⊎ (256 < now.next) → refused {X = Forest H × Rest} 4 now.reader.now.at (f.place now.next) ≡ f.many level count p before.next (rest before.reader.now)
  stuck h full =
      let e : count - turn ≡ suc (count - (turn + 1)) = omega arith in
      opened (refused 4 now.reader.now.at (f.place now.next)) (sym (ap (λ k. f.many level k p' now.next (rest now.reader.now)) e ∙ f.no_room level (count - (turn + 1)) p' now.next (rest now.reader.now) full))

  -- what is left, from the reading of the next one on
  nexts : turn < count → 1 ≤ level → now.next ≤ 256
      → f.many level (count - turn) p' now.next (rest now.reader.now)
      ≡ carry (λ t r. onto t (f.many level (count - (turn + 1)) (f.later p') (now.next + size t) r)) (f.one (level - 1) p' now.next (rest now.reader.now))
  nexts h up room =
      let e : count - turn ≡ suc (count - (turn + 1)) = omega arith in
      let v : suc (level - 1) ≡ level = omega arith in
      ap (λ k. f.many level k p' now.next (rest now.reader.now)) e
      ∙ subst (λ v. f.many v (suc (count - (turn + 1))) p' now.next (rest now.reader.now) ≡ carry (λ t r. onto t (f.many v (count - (turn + 1)) (f.later p') (now.next + size t) r)) (f.one (level - 1) p' now.next (rest now.reader.now)))
      v (f.one_more (level - 1) (count - (turn + 1)) p' now.next (rest now.reader.now) room)

  -- the next one is refused
  pub fails : turn < count → 1 ≤ level → now.next ≤ 256 → (x : Fault) → Err x ≡ f.one (level - 1) p' now.next (rest now.reader.now) → Err x ≡ f.many level count p before.next (rest before.reader.now)
  fails h up room x e =
      opened (Err x) (ap (carry (λ t r. onto t (f.many level (count - (turn + 1)) (f.later p') (now.next + size t) r))) e ∙ sym (nexts h up room))

  -- the next one is read
  pub again :
      turn < count → 1 ≤ level → now.next ≤ 256 → (now' : EntryReader E) → Enters l (λ _ (ts : Forest H). ts) (f.one (level - 1) p' now.next) now.next now (Ok (tt {0})) now'
      → Going l f before now' level count p (f.later p') (turn + 1)
  again h up room now' a =
      let t = a.fills.does.0 in
      let fill = a.fills.does.2 in
      let F : Forest H → Rest → Result (Forest H × Rest) Fault = λ t r. onto t (f.many level (count - (turn + 1)) (f.later p') (now.next + size t) r) in
      let left : Result (Forest H × Rest) Fault = f.many level (count - (turn + 1)) (f.later p') now'.next (rest now'.reader.now) in
      let at : F t (rest now'.reader.now) ≡ onto t left = ap (λ k. onto t (f.many level (count - (turn + 1)) (f.later p') k (rest now'.reader.now))) (sym fill.next) in
      record {
        done = beside g.done t;
        reader = a.reader ∙ g.reader;
        table = a.table ∙ g.table;
        same = a.fills.same ∙ g.same;
        left = onto_onto g.done t left ∙ opened (onto t left) (sym at ∙ ap (carry F) a.fills.does.1 ∙ sym (nexts h up room));
        filled =
            filled_beside l (file before.reader.now) before.table.now now.table.now now'.table.now before.next now.next now'.next g.done t before.numbered g.filled
            (subst (λ b. Filled l b now.table.now now'.table.now now.next now'.next t) g.same fill);
      }

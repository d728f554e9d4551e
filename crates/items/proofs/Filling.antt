-- A table as it is written: entry by entry, forest after forest.
use Rattle.std.proofs.Common.{◌≡◌, ℕ, ◌+◌, ◌-◌, ◌<◌, ◌≤◌, ◌≢◌, List, length, get_or, set, Ok, Err, Result, sym, refl, ap, ◌∙◌, subst, arith, get_or-set_other, get_or-set_same}
use Rattle.meaning.specs.Forest.{Forest, none, tree, size, beside}
use Rattle.meaning.specs.Items.{BatchFault as Fault, Rest, Read, carry, give}
use Rattle.fault.specs.declared.faults.BatchFault.{BatchFault}
use Rattle.fault.specs.Faults.{batch_fault_of}
use Rattle.items.specs.Reading.{file, rest}
use Rattle.items.specs.declared.entries.EntryReader.{EntryReader}
use Rattle.items.specs.Tables.{Layout, Stands, Filled, Enters}

module _ {H : Type 0} where
  pub beside_none : (f : Forest H) → beside f none ≡ f
  beside_none none = refl
  beside_none (tree h below after) = ap (λ g. tree h below g) (beside_none after)

  pub beside_assoc : (f g h : Forest H) → beside (beside f g) h ≡ beside f (beside g h)
  beside_assoc none g h = refl
  beside_assoc (tree x below after) g h = ap (λ t. tree x below t) (beside_assoc after g h)

  pub size-beside : (f g : Forest H) → size (beside f g) ≡ size f + size g
  size-beside none g = omega arith
  size-beside (tree x below after) g = omega (arith, size-beside after g)

  -- more trees after those that were read
  abbrev pub onto : Forest H → Result (Forest H × Rest) Fault → Result (Forest H × Rest) Fault
  onto done m = carry (λ fs. give (beside done fs)) m

  pub onto_none : (m : Result (Forest H × Rest) Fault) → onto none m ≡ m
  onto_none (Ok (fs, r)) = refl
  onto_none (Err e) = refl

  pub onto_onto : (f g : Forest H) (m : Result (Forest H × Rest) Fault) → onto (beside f g) m ≡ onto f (onto g m)
  onto_onto f g (Ok (fs, r)) = ap (λ x. Ok (x, r)) (beside_assoc f g fs)
  onto_onto f g (Err e) = refl

module _ {E H : Type 0} (l : Layout E H) where
  -- where the entries of a forest are as they were, it stands as it did
  pub stands-kept :
      (bytes : List ℕ) (old new : List E) (n : ℕ) (f : Forest H) → 1 ≤ n
      → ((k : ℕ) → n ≤ k + 1 → k + 1 < n + size f → get_or new k l.blank ≡ get_or old k l.blank) → Stands l bytes old n f → Stands l bytes new n f
  stands-kept bytes old new n none p kept s = tt
  stands-kept bytes old new n (tree x below after) p kept s =
      let here : get_or new (n - 1) l.blank ≡ get_or old (n - 1) l.blank = kept (n - 1) (omega arith) (omega arith) in (
        subst (λ e. l.fits bytes e) (sym here) s.0,
        ap (λ e. l.says bytes e) here ∙ s.1,
        ap (λ (e : E). l.end e) here ∙ s.2,
        stands-kept bytes old new (n + 1) below (omega arith) (λ k h l. kept k (omega arith) (omega arith)) s.3,
        stands-kept bytes old new (n + 1 + size below) after (omega arith) (λ k h l. kept k (omega arith) (omega arith)) s.4,
      )

  pub stands-beside :
      (bytes : List ℕ) (t : List E) (n m : ℕ) (f g : Forest H) → m ≡ n + size f → Stands l bytes t n f → Stands l bytes t m g → Stands l bytes t n (beside f g)
  stands-beside bytes t n m none g e s r = let z : m ≡ n = omega arith in subst (λ k. Stands l bytes t k g) z r
  stands-beside bytes t n m (tree x below after) g e s r =
      (s.0, s.1, s.2, s.3, stands-beside bytes t (n + 1 + size below) m after g (omega arith) s.4 r)

  -- nothing was written
  pub filled_none : (bytes : List ℕ) (t : List E) (n : ℕ) → Filled l bytes t t n n none
  filled_none bytes t n = record { next = omega arith; stands = tt; before = λ k h. refl; after = λ k h. refl }

  -- one forest after another
  pub filled_beside :
      (bytes : List ℕ) (old mid new : List E) (n m p : ℕ) (f g : Forest H) → 1 ≤ n → Filled l bytes old mid n m f → Filled l bytes mid new m p g
      → Filled l bytes old new n p (beside f g)
  filled_beside bytes old mid new n m p f g pos a b =
      let first = a.next in
      let second = b.next in
      record {
        next = omega (arith, size-beside f g);
        stands = stands-beside bytes new n m f g a.next (stands-kept bytes mid new n f pos (λ k h l. b.before k (omega arith)) a.stands) b.stands;
        before = λ k h. b.before k (omega arith) ∙ a.before k h;
        after = λ k h. b.after k h ∙ a.after k (omega arith);
      }

  -- a head over the forest below it, which was written first
  pub filled-tree :
      (bytes : List ℕ) (old mid : List E) (n m : ℕ) (e : E) (below : Forest H) → 1 ≤ n → n ≤ length mid → l.end e ≡ m → l.fits bytes e → Filled l bytes old mid (n + 1) m below
      → Filled l bytes old (set mid (n - 1) e) n m (tree (l.says bytes e) below none)
  filled-tree bytes old mid n m e below pos fits ends inside a =
      let past = a.next in
      let lt : n - 1 < length mid = omega arith in
      let here : get_or (set mid (n - 1) e) (n - 1) l.blank ≡ e = rw get_or-set_same in
      let other : (k : ℕ) → k ≢ n - 1 → get_or (set mid (n - 1) e) k l.blank ≡ get_or mid k l.blank = λ k ne. rw get_or-set_other in
      record {
        next = omega arith;
        stands = (
          subst (λ x. l.fits bytes x) (sym here) inside,
          ap (λ x. l.says bytes x) here,
          ap (λ (x : E). l.end x) here ∙ ends ∙ a.next,
          stands-kept bytes mid (set mid (n - 1) e) (n + 1) below (omega arith) (λ k h l. other k (omega arith)) a.stands,
          tt,
        );
        before = λ k h. other k (omega arith) ∙ a.before k (omega arith);
        after = λ k h. other k (omega arith) ∙ a.after k h;
      }

  -- a refusal, as the exit of a `?` gives it
  pub refuses :
      {X Y : Type 0} {value : X → Forest H → Y} {read : Read Y} {n : ℕ} {before after : EntryReader E} {res : Result X BatchFault} (x e : BatchFault)
      → after.reader.ghost_name ≡ before.reader.ghost_name → after.table.ghost_name ≡ before.table.ghost_name → file after.reader.now ≡ file before.reader.now → res ≡ Err x → x ≡ e
      → Err (batch_fault_of e) ≡ read (rest before.reader.now) → Enters l value read n before res after
  refuses {value = value} {read = read} {n = n} {before = before} {after = after} x e reader table same q w does =
      subst (λ r. Enters l value read n before r after) (sym (q ∙ ap Err w)) (record { reader = reader; table = table; fills = record { same = same; does = does } })

-- The items of a column: offsets, code, length, optional texts. Written and read back, read and written again.
use Rattle.std.proofs.Common.{◌≡◌, ℕ, zero, suc, ◌-◌, ◌*◌, ◌^◌, ◌<◌, ◌≤◌, Bool, true, false, cond, ◌&&◌, eqb, ltb, leb, List, [], ◌∷◌, ◌++◌, length, Some, None, Ok, Option, Result, sym, refl, ap, ◌∙◌, subst, inl, inr, append_assoc, arith}
use Rattle.std.proofs.lemmas.Bool.{cases_Bool, ltb-false, leb-true, leb-false, eqb-false, le-ltb, lt-leb, ne_eqb, and_parts, both_ways}
use Rattle.meaning.specs.Model.{Code, bits, words, variable, fixed_size_binary, structs, lists, large_lists, fixed_size_lists, maps, int32, int64, float32, float64, date32, time64, micros, nanos, utf8, large_utf8, binaries, large_binary}
use Rattle.meaning.specs.Items.{column, Rest, BatchFault, Read, refused, ◌then◌, give, exactly, limited, little}
use Rattle.meaning.specs.Columns.{Need, meets, Offsets, past, unless, length_of, offsets, values, detailed, code_of, maybe}
use Rattle.meaning.specs.Encode.{numeral as number_bytes, flag as flag_bytes, fixed_width, optional, column_code, offsets as offset_bytes}
use Rattle.meaning.specs.Keeps.{Bytes, Rising, Within, Optional}
use Rattle.meaning.proofs.Widths.{width_length, width_back, width_again}
use Rattle.meaning.proofs.Readers.{from, Reads, Came, Both, reads_then, reads-give, carried, parts, both, same_ok, refused_not, given, exactly_to, limited_to, byte_to, Item, item, exactly-from, limited-from, byte-from, item_then, item_same}
use Rattle.meaning.proofs.FieldsRead.{each_below}

-- offsets that were written are read back, each with the byte at which it stands
pub record OffsetsTo (w n k last : ℕ) (vs : List ℕ) (bs rest : List ℕ) (a : ℕ) : Type 0 where
  pub pairs : Offsets
  pub end : ℕ
  pub reads : offsets w n k last (from bs a) ≡ Ok (pairs, from rest end)
  pub same : values pairs ≡ vs

pub offsets_to : (w : ℕ) → 2 ^ (8 * w - 1) ≤ 256 ^ w → (n k last : ℕ) (vs bs rest : List ℕ) → length vs ≡ k → Rising (2 ^ (8 * w - 1)) last vs
    → bs ≡ offset_bytes w vs ++ rest
    → (a : ℕ) → OffsetsTo w n k last vs bs rest a
offsets_to w t n zero last [] bs rest c p h a = record { pairs = []; end = a; reads = λ i. Ok ([], from (h i) a); same = refl }
offsets_to w t n zero last (o ∷ vs) bs rest c p h a = absurd (omega arith)
offsets_to w t n (suc k) last [] bs rest c p h a = absurd (omega arith)
offsets_to w t n (suc k) last (o ∷ vs) bs rest c p h a =
    let mid = offset_bytes w vs ++ rest in
    let e = (exactly_to (column n) w (fixed_width w o) bs mid (width_length w o) (h ∙ append_assoc (fixed_width w o) (offset_bytes w vs) rest)).reads a in
    let l : o < 2 ^ (8 * w - 1) = p.1 in
    let g = offsets_to w t n k o vs mid rest (omega arith) p.2 refl e.0 in
    record {
      pairs = (o, a) ∷ g.pairs;
      end = g.end;
      reads = carried _ (exactly (column n) w (from bs a)) (fixed_width w o) (from mid e.0) e.1
          ∙ rw (width_back w o (omega arith)) (rw (lt-leb (2 ^ (8 * w - 1)) o l, le-ltb o last p.0)
          (carried (λ (os : Offsets). give ((o, a) ∷ os)) (offsets w n k o (from mid e.0)) g.pairs (from rest g.end) g.reads));
      same = ap (λ (u : List ℕ). o ∷ u) g.same;
    }

-- no offset is past the end
pub past-none : (os : Offsets) (k : ℕ) → Within (values os) k → past os k ≡ None
past-none [] k h = refl
past-none (o ∷ os) k h = rw (le-ltb k o.0 h.0) (past-none os k h.1)

pub none-past : (os : Offsets) (k : ℕ) → past os k ≡ None → Within (values os) k
none-past [] k h = tt
none-past (o ∷ os) k h =
    elim (cases_Bool (ltb k o.0)) [
      | inl s ↦ let z : Some o.1 ≡ None = rw s at h in let u : ◌≡◌ {A = ℕ} 0 1 = cc in absurd (omega arith)
      | inr s ↦ (ltb-false k o.0 s, none-past os k (rw s at h))
    ]

-- the length of a column
pub length_to : (n : ℕ) (need : Need) (os : Offsets) (owner len : ℕ) (bs rest : List ℕ) → len ≤ 65536 → Within (values os) len → meets need len ≡ true
    → bs ≡ number_bytes len ++ rest → Reads (length_of n need os owner) len bs rest
length_to n need os owner len bs rest l w m h =
    record {
      reads = λ a. let k = (limited_to (column n) 65536 len bs rest l (omega arith) h).reads a in
          (k.0, carried _ (limited (column n) 65536 (from bs a)) len (from rest k.0) k.1 ∙ rw (past-none os len w, m));
    }

-- a code with a width or a size
abbrev pub Detail : Code → Type 0
Detail bits = Unit {0}
Detail (words w) = Unit {0}
Detail (variable t) = Unit {0}
Detail (fixed_size_binary w) = (1 ≤ w) × (w ≤ 65536)
Detail structs = Unit {0}
Detail lists = Unit {0}
Detail large_lists = Unit {0}
Detail (fixed_size_lists s) = (1 ≤ s) × (s ≤ 65536)
Detail maps = Unit {0}

abbrev listed : ℕ → Bool
listed c = leb 1 c && (leb c 20 && cond (eqb c 6) false true)

abbrev more? : ℕ → Bool
more? c = cond (eqb c 13) true (eqb c 19)

short_to : (n c : ℕ) (bs rest : List ℕ) → listed c ≡ true → more? c ≡ false → bs ≡ c ∷ rest → Reads (code_of n) (detailed c 0) bs rest
short_to n c bs rest l m h = reads_then _ (byte_to (column n) listed c bs rest l h) (record { reads = λ a. (a, rw m) })

long_to : (n c d : ℕ) (bs rest : List ℕ) → listed c ≡ true → more? c ≡ true → 1 ≤ d → d ≤ 65536 → bs ≡ c ∷ (number_bytes d ++ rest)
    → Reads (code_of n) (detailed c d) bs rest
long_to n c d bs rest l m p q h =
    reads_then _ (byte_to (column n) listed c bs (number_bytes d ++ rest) l h)
    (record {
      reads = λ a. let k = (limited_to (column n) 65536 d (number_bytes d ++ rest) rest q (omega arith) refl).reads a in
          (k.0, rw m (carried _ (limited (column n) 65536 (from (number_bytes d ++ rest) a)) d (from rest k.0) k.1 ∙ rw (ne_eqb d 0 (λ z. omega arith))));
    })

pub code_to : (n : ℕ) (code : Code) (bs rest : List ℕ) → Detail code → bs ≡ column_code code ++ rest → Reads (code_of n) code bs rest
code_to n bits bs rest d h = short_to n 1 bs rest refl refl h
code_to n (words int32) bs rest d h = short_to n 2 bs rest refl refl h
code_to n (words int64) bs rest d h = short_to n 3 bs rest refl refl h
code_to n (words float32) bs rest d h = short_to n 4 bs rest refl refl h
code_to n (words float64) bs rest d h = short_to n 5 bs rest refl refl h
code_to n (words date32) bs rest d h = short_to n 7 bs rest refl refl h
code_to n (words time64) bs rest d h = short_to n 8 bs rest refl refl h
code_to n (words micros) bs rest d h = short_to n 9 bs rest refl refl h
code_to n (words nanos) bs rest d h = short_to n 10 bs rest refl refl h
code_to n (variable utf8) bs rest d h = short_to n 11 bs rest refl refl h
code_to n (variable large_utf8) bs rest d h = short_to n 12 bs rest refl refl h
code_to n (fixed_size_binary w) bs rest d h = long_to n 13 w bs rest refl refl d.0 d.1 h
code_to n (variable binaries) bs rest d h = short_to n 14 bs rest refl refl h
code_to n (variable large_binary) bs rest d h = short_to n 15 bs rest refl refl h
code_to n structs bs rest d h = short_to n 16 bs rest refl refl h
code_to n lists bs rest d h = short_to n 17 bs rest refl refl h
code_to n large_lists bs rest d h = short_to n 18 bs rest refl refl h
code_to n (fixed_size_lists s) bs rest d h = long_to n 19 s bs rest refl refl d.0 d.1 h
code_to n maps bs rest d h = short_to n 20 bs rest refl refl h

-- a flag, and what stands behind it if it is set
abbrev pub has : Option (List ℕ) → Bool
has None = false
has (Some x) = true

abbrev pub tail : (List ℕ → List ℕ) → Option (List ℕ) → List ℕ
tail f None = []
tail f (Some x) = f x

pub optional-parts : (f : List ℕ → List ℕ) (o : Option (List ℕ)) → optional f o ≡ flag_bytes (has o) ++ tail f o
optional-parts f None = refl
optional-parts f (Some x) = refl

pub maybe_to : (m : Read (List ℕ)) (f : List ℕ → List ℕ) (P : List ℕ → Type 0) → ((x bs rest : List ℕ) → P x → bs ≡ f x ++ rest → Reads m x bs rest)
    → (o : Option (List ℕ)) (bs rest : List ℕ) → Optional P o → bs ≡ tail f o ++ rest → Reads (maybe (has o) m) o bs rest
maybe_to m f P t None bs rest p h = rw h (reads-give refl)
maybe_to m f P t (Some x) bs rest p h = reads_then _ (t x bs rest p h) (reads-give refl)

-- The other way. Offsets that were read:
width_bytes_again : (w : ℕ) (xs : List ℕ) → length xs ≡ w → Bytes xs → xs ≡ fixed_width w (little xs)
width_bytes_again w xs e y = sym (width_again xs y).0 ∙ ap (λ (k : ℕ). fixed_width k (little xs)) e

pub record OffsetsRead (w k last : ℕ) (r : Rest) (os : Offsets) (s : Rest) : Type 0 where
  pub item : Item r (offset_bytes w (values os)) s
  pub many : length (values os) ≡ k
  pub rising : Rising (2 ^ (8 * w - 1)) last (values os)

move_offsets : {w k last : ℕ} {q : Rest} {t u : Offsets} {r s : Rest} → t ≡ u → r ≡ s → OffsetsRead w k last q t r → OffsetsRead w k last q u s
move_offsets {w} {k} {last} {q} {t} {u} {r} {s} e d h = subst (λ (x : Offsets × Rest). OffsetsRead w k last q x.0 x.1) (λ i. (e i, d i)) h

-- an offset, and those after it
next_offset : (w n k last : ℕ) (r : Rest) (xs : List ℕ) (mid : Rest) (os : Offsets) (s : Rest) → Item r xs mid → length xs ≡ w → Bytes xs → last ≤ little xs
    → little xs < 2 ^ (8 * w - 1)
    → (d : Both (offsets w n k (little xs)) (λ (os : Offsets). give ((little xs, r.at) ∷ os)) mid os s) → OffsetsRead w k (little xs) mid d.x d.mid
    → OffsetsRead w (suc k) last r os s
next_offset w n k last r xs mid os s i e y t u d g =
    let z = given d.two in
    move_offsets z.0 z.1 (record {
      item = item_then (item_same (width_bytes_again w xs e y) i) g.item;
      many = omega
          (arith, g.many);
      rising = (t, u, g.rising);
    })

pub offsets-from : (w n k last : ℕ) (r : Rest) (os : Offsets) (s : Rest) → Bytes r.bytes → Came (offsets w n k last) r os s → OffsetsRead w k last r os s
offsets-from w n zero last r os s y c = let z = given c in move_offsets z.0 z.1 (record { item = item r [] r y refl; many = refl; rising = tt })
offsets-from w n (suc k) last r os s y c =
    let b = both (exactly (column n) w) _ r os s (exactly (column n) w r) refl c.came in
    let e = exactly-from (column n) w y b.one in
    elim (cases_Bool (leb (2 ^ (8 * w - 1)) (little b.x))) [
      | inl t ↦ absurd (refused_not (rw t at b.two.came))
      | inr t ↦ elim (cases_Bool (ltb (little b.x) last)) [
        | inl u ↦ absurd (refused_not (rw (t, u) at b.two.came))
        | inr u ↦
            let d : Both (offsets w n k (little b.x)) (λ (os : Offsets). give ((little b.x, r.at) ∷ os)) b.mid os s = parts
            (record { came = rw (t, u) at b.two.came }) in
            next_offset w n k last r b.x b.mid os s e.0 e.1 e.2 (ltb-false (little b.x) last u) (leb-false (2 ^ (8 * w - 1)) (little b.x) t) d
            (offsets-from w n k (little b.x) b.mid d.x d.mid e.0.rest d.one)
      ]
    ]

-- what is behind `unless` was read
pub unless-past : {X : Type 0} (o : Option ℕ) (owner : ℕ) (k : Result (X × Rest) BatchFault) (x : X) (s : Rest) → unless o owner k ≡ Ok (x, s)
    → (o ≡ None) × (k ≡ Ok (x, s))
unless-past None owner k x s h = (refl, h)
unless-past (Some b) owner k x s h = absurd (refused_not h)

-- a length that was read
pub record LengthRead (need : Need) (os : Offsets) (r : Rest) (len : ℕ) (s : Rest) : Type 0 where
  pub item : Item r (number_bytes len) s
  pub most : len ≤ 65536
  pub meet : meets need len ≡ true
  pub within : Within (values os) len

pub length_from : (n : ℕ) (need : Need) (os : Offsets) (owner : ℕ) (r : Rest) (len : ℕ) (s : Rest) → Bytes r.bytes → Came (length_of n need os owner) r len s
    → LengthRead need os r len s
length_from n need os owner r len s y c =
    let b = both (limited (column n) 65536) (λ k r'. unless (past os k) owner (cond (meets need k) (Ok (k, r')) (refused 6 r.at (column n)))) r len s
    (limited (column n) 65536 r) refl c.came in
    let e = limited-from (column n) 65536 y b.one in
    let u = unless-past (past os b.x) owner _ len s b.two.came in
    elim (cases_Bool (meets need b.x)) [
      | inl m ↦
          let z : (b.x ≡ len) × (b.mid ≡ s) = same_ok (rw m at u.1) in
          subst (λ (x : ℕ × Rest). LengthRead need os r x.0 x.1) (λ i. (z.0 i, z.1 i))
          (record { item = e.0; most = e.1; meet = m; within = none-past os b.x u.0 })
      | inr m ↦ absurd (refused_not (rw m at u.1))
    ]

-- a code that was read
code-table : (c : ℕ) → listed c ≡ true → (d : ℕ) → (more? c ≡ true → (1 ≤ d) × (d ≤ 65536))
    → (c ∷ cond (more? c) (number_bytes d) [] ≡ column_code (detailed c d)) × Detail (detailed c d)
code-table c h =
    let t = and_parts (leb 1 c) (leb c 20 && cond (eqb c 6) false true) h in
    let l = leb-true c 20 (and_parts (leb c 20) (cond (eqb c 6) false true) t.1).0 in
    each_below (λ c. listed c ≡ true → (d : ℕ) → (more? c ≡ true → (1 ≤ d) × (d ≤ 65536)) → (c ∷ cond (more? c) (number_bytes d) [] ≡ column_code
    (detailed c d)) × Detail (detailed c d)) 21 (
      (
        (
          (
            (
              (
                (
                  (
                    (
                      (
                        (
                          (
                            (
                              (
                                (
                                  (
                                    (
                                      ((((tt, (λ z d f. absurd (both_ways false refl z))), (λ z d f. (refl, tt))), (λ z d f. (refl, tt))), (λ z d f. (refl, tt))),
                                      (λ z d f. (refl, tt)),
                                    ),
                                    (λ z d f. (refl, tt)),
                                  ),
                                  (λ z d f. absurd (both_ways false refl z)),
                                ),
                                (λ z d f. (refl, tt)),
                              ),
                              (λ z d f. (refl, tt)),
                            ),
                            (λ z d f. (refl, tt)),
                          ),
                          (λ z d f. (refl, tt)),
                        ),
                        (λ z d f. (refl, tt)),
                      ),
                      (λ z d f. (refl, tt)),
                    ),
                    (λ z d f. (refl, f refl)),
                  ),
                  (λ z d f. (refl, tt)),
                ),
                (λ z d f. (refl, tt)),
              ),
              (λ z d f. (refl, tt)),
            ),
            (λ z d f. (refl, tt)),
          ),
          (λ z d f. (refl, tt)),
        ),
        (λ z d f. (refl, f refl)),
      ),
      (λ z d f. (refl, tt)),
    ) c
    (omega arith) h

pub record CodeRead (r : Rest) (code : Code) (s : Rest) : Type 0 where
  pub item : Item r (column_code code) s
  pub detail : Detail code

pub code-from : (n : ℕ) (r : Rest) (code : Code) (s : Rest) → Bytes r.bytes → Came (code_of n) r code s → CodeRead r code s
code-from n r code s y c =
    let b = parts c in
    let e = byte-from (column n) listed y b.one in
    elim (cases_Bool (more? b.x)) [
      | inl m ↦
          let w : Came (limited (column n) 65536 then (λ d r'. cond (eqb d 0) (refused 7 b.mid.at (column n)) (Ok (detailed b.x d, r'))))
          b.mid code s = record { came = rw m at b.two.came } in
          let d = parts w in
          let f = limited-from (column n) 65536 e.0.rest d.one in
          elim (cases_Bool (eqb d.x 0)) [
            | inl t ↦ absurd (refused_not (rw t at d.two.came))
            | inr t ↦
                let z : (detailed b.x d.x ≡ code) × (d.mid ≡ s) = same_ok (rw t at d.two.came) in
                let q = code-table b.x e.1 d.x (λ _. (omega (arith, eqb-false d.x 0 t), f.1)) in
                subst (λ (x : Code × Rest). CodeRead r x.0 x.1) (λ i. (z.0 i, z.1 i))
                (record { item = item_same (rw m at q.0) (item_then e.0 f.0); detail = q.1 })
          ]
      | inr m ↦
          let z : (detailed b.x 0 ≡ code) × (b.mid ≡ s) = same_ok (rw m at b.two.came) in
          let q = code-table b.x e.1 0 (λ t. absurd (both_ways (more? b.x) m t)) in
          subst (λ (x : Code × Rest). CodeRead r x.0 x.1) (λ i. (z.0 i, z.1 i)) (record { item = item_same (rw m at q.0) e.0; detail = q.1 })
    ]

-- an optional item that was read
pub optional-from : (m : Read (List ℕ)) (f : List ℕ → List ℕ) (P : List ℕ → Type 0)
    → ((r : Rest) (x : List ℕ) (s : Rest) → Bytes r.bytes → Came m r x s → Item r (f x) s × P x)
    → (b : Bool) (q r : Rest) (o : Option (List ℕ)) (s : Rest) → Item q (flag_bytes b) r → Came (maybe b m) r o s → Item q (optional f o) s × Optional P o
optional-from m f P t true q r o s i c =
    let b = parts c in
    let z = given b.two in
    let e = t r b.x b.mid i.rest b.one in
    subst (λ (x : Option (List ℕ) × Rest). Item q (optional f x.0) x.1 × Optional P x.0) (λ j. (z.0 j, z.1 j)) (item_then i e.0, e.1)
optional-from m f P t false q r o s i c =
    let z = given c in
    subst (λ (x : Option (List ℕ) × Rest). Item q (optional f x.0) x.1 × Optional P x.0) (λ j. (z.0 j, z.1 j)) (i, tt)

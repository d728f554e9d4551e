-- Readers one after the other: what they read off bytes that were written, and what a reading says of the bytes.
use Rattle.std.proofs.Common.{◌≡◌, ℕ, zero, suc, ◌+◌, ◌-◌, ◌^◌, ◌<◌, ◌≤◌, Bool, true, false, cond, eqb, ltb, leb, List, [], ◌∷◌, ◌++◌, length, take, drop, Ok, Err, Result, sym, refl, ap, ◌∙◌, inl, inr, append_assoc, arith, length-append, take-append-drop, length-take, take_at, drop_at}
use Rattle.std.proofs.lemmas.Bool.{cases_Bool, ltb-false, leb-true, le-ltb, le-leb}
use Rattle.meaning.specs.Items.{Entry, Rest, BatchFault, Read, refused, carry, ◌then◌, give, skip, exactly, first, byte, flag, Number, value, cut, long, numeral, counted, number, limited, text}
use Rattle.meaning.specs.Encode.{numeral as number_bytes, text as text_bytes, flag as flag_bytes}
use Rattle.meaning.specs.Keeps.{Bytes, Short}
use Rattle.meaning.proofs.Numbers.{number_back, number_again}

abbrev pub from : List ℕ → ℕ → Rest
from bs a = record { bytes = bs; at = a }

-- off the bytes bs, wherever they stand, R reads x and leaves the bytes rest
pub record Reads {X : Type 0} (R : Read X) (x : X) (bs rest : List ℕ) : Type 0 where
  pub reads : (a : ℕ) → (b : ℕ) × (R (from bs a) ≡ Ok (x, from rest b))

-- R has read x between r and s
pub record Came {X : Type 0} (R : Read X) (r : Rest) (x : X) (s : Rest) : Type 0 where
  pub came : R r ≡ Ok (x, s)

pub carried : {X Y : Type 0} (f : X → Read Y) (o : Result (X × Rest) BatchFault) (x : X) (r : Rest) → o ≡ Ok (x, r) → carry f o ≡ f x r
carried f o x r e = ap (carry f) e

pub reads_then : {X Y : Type 0} {m : Read X} (f : X → Read Y) {x : X} {y : Y} {bs mid rest : List ℕ} → Reads m x bs mid → Reads (f x) y mid rest
    → Reads (m then f) y bs rest
reads_then {m = m} f {x = x} {bs = bs} {mid = mid} p q =
    record { reads = λ a. let k = p.reads a in let l = q.reads k.0 in (l.0, carried f (m (from bs a)) x (from mid k.0) k.1 ∙ l.1) }

pub reads-give : {X : Type 0} {x y : X} {bs : List ℕ} → x ≡ y → Reads (give x) y bs bs
reads-give {bs = bs} p = record { reads = λ a. (a, λ i. Ok (p i, from bs a)) }

-- what came through two readers
pub record Both {X Y : Type 0} (m : Read X) (f : X → Read Y) (r : Rest) (y : Y) (s : Rest) : Type 0 where
  pub x : X
  pub mid : Rest
  pub one : Came m r x mid
  pub two : Came (f x) mid y s

pub both : {X Y : Type 0} (m : Read X) (f : X → Read Y) (r : Rest) (y : Y) (s : Rest) (o : Result (X × Rest) BatchFault) → m r ≡ o → carry f o ≡ Ok (y, s)
    → Both m f r y s
both m f r y s (Ok p) e h = record { x = p.0; mid = p.1; one = record { came = e }; two = record { came = h } }
both m f r y s (Err d) e h = let z : ◌≡◌ {A = ℕ} 0 1 = cc in absurd (omega arith)

pub parts : {X Y : Type 0} {m : Read X} {f : X → Read Y} {r : Rest} {y : Y} {s : Rest} → Came (m then f) r y s → Both m f r y s
parts {m = m} {f = f} {r = r} {y = y} {s = s} c = both m f r y s (m r) refl c.came

-- a reading has one result
pub same_ok : {X : Type 0} {x y : X} {r s : Rest} → ◌≡◌ {A = Result (X × Rest) BatchFault} (Ok (x, r)) (Ok (y, s)) → (x ≡ y) × (r ≡ s)
same_ok {X} {x} {y} {r} {s} h =
    let e : ◌≡◌ {A = X × Rest} (x, r) (y, s) = cc in
    (ap (λ (p : X × Rest). p.0) e, ap (λ (p : X × Rest). p.1) e)

pub refused_not : {X : Type 0} {d : BatchFault} {y : X} {s : Rest} → ◌≡◌ {A = Result (X × Rest) BatchFault} (Err d) (Ok (y, s)) → ⊥
refused_not h = let z : ◌≡◌ {A = ℕ} 0 1 = cc in omega arith

-- what `give` has read
pub given : {X : Type 0} {x y : X} {r s : Rest} → Came (give x) r y s → (x ≡ y) × (r ≡ s)
given c = same_ok c.came

-- bytes, in parts
pub bytes_rest : (xs ys : List ℕ) → Bytes (xs ++ ys) → Bytes ys
bytes_rest [] ys k = k
bytes_rest (x ∷ xs) ys k = bytes_rest xs ys k.1

pub bytes_front : (xs ys : List ℕ) → Bytes (xs ++ ys) → Bytes xs
bytes_front [] ys k = tt
bytes_front (x ∷ xs) ys k = (k.0, bytes_front xs ys k.1)

-- so many bytes
pub exactly_to : (e : Entry) (n : ℕ) (xs bs rest : List ℕ) → length xs ≡ n → bs ≡ xs ++ rest → Reads (exactly e n) xs bs rest
exactly_to e n xs bs rest q h =
    let t : take n bs ≡ xs = ap (take n) h ∙ take_at xs rest n q in
    let d : drop n bs ≡ rest = ap (drop n) h ∙ drop_at xs rest n q in
    let l : n ≤ length bs = rw h (omega (arith, length-append xs rest)) in
    record { reads = λ a. (a + n, rw (le-ltb (length bs) n l) (λ i. Ok (t i, from (d i) (a + n)))) }

pub number_to : (e : Entry) (n : ℕ) (bs rest : List ℕ) → n < 2 ^ 32 → bs ≡ number_bytes n ++ rest → Reads (number e) n bs rest
number_to e n bs rest l h =
    let c = length (number_bytes n) in
    let t : numeral bs ≡ value n c = ap numeral h ∙ number_back n rest l in
    let d : drop c bs ≡ rest = ap (drop c) h ∙ drop_at (number_bytes n) rest c refl in
    record { reads = λ a. (a + c, ap (counted e (from bs a)) t ∙ (λ i. Ok (n, from (d i) (a + c)))) }

-- the two readers of numbers with a limit
pub limited_to : (e : Entry) (most n : ℕ) (bs rest : List ℕ) → n ≤ most → most < 2 ^ 32 → bs ≡ number_bytes n ++ rest → Reads (limited e most) n bs rest
limited_to e most n bs rest l m h =
    record {
      reads = λ a. let k = (number_to e n bs rest (omega arith) h).reads a in (
        k.0,
        carried _ (number e (from bs a)) n (from rest k.0) k.1 ∙ rw
            (le-leb n most l),
      );
    }

pub text_to : (e : Entry) (xs bs rest : List ℕ) → Short xs → bs ≡ text_bytes xs ++ rest → Reads (text e) xs bs rest
text_to e xs bs rest s h =
    record {
      reads = λ a. let k = (number_to e (length xs) bs (xs ++ rest) (omega arith) (h ∙ append_assoc (number_bytes (length xs)) xs rest)).reads a in (
        k.0 + length xs,
        carried _ (number e (from bs a)) (length xs) (from (xs ++ rest) k.0) k.1
            ∙ rw (
              le-ltb (length (xs ++ rest)) (length xs) (omega (arith, length-append xs rest)),
              le-leb (length xs) 255 s.0,
              take_at xs rest (length xs) refl,
              drop_at xs rest (length xs) refl,
            ),
      );
    }

pub byte_to : (e : Entry) (listed : ℕ → Bool) (b : ℕ) (bs rest : List ℕ) → listed b ≡ true → bs ≡ b ∷ rest → Reads (byte e listed) b bs rest
byte_to e listed b bs rest l h = reads_then _ (exactly_to e 1 (b ∷ []) bs rest refl h) (record { reads = λ a. (a, rw l) })

pub flag_to : (e : Entry) (b : Bool) (bs rest : List ℕ) → bs ≡ flag_bytes b ++ rest → Reads (flag e) b bs rest
flag_to e true bs rest h = reads_then _ (byte_to e (λ b. leb b 1) 1 bs rest refl h) (reads-give refl)
flag_to e false bs rest h = reads_then _ (byte_to e (λ b. leb b 1) 0 bs rest refl h) (reads-give refl)

-- and what they have read
pub record Item (r : Rest) (xs : List ℕ) (s : Rest) : Type 0 where
  pub bytes : r.bytes ≡ xs ++ s.bytes
  pub rest : Bytes s.bytes

pub item : (r : Rest) (xs : List ℕ) (s : Rest) → Bytes r.bytes → r.bytes ≡ xs ++ s.bytes → Item r xs s
item r xs s y h = record { bytes = h; rest = bytes_rest xs s.bytes (rw h at y) }

pub exactly-from : (e : Entry) (n : ℕ) {r : Rest} {xs : List ℕ} {s : Rest} → Bytes r.bytes → Came (exactly e n) r xs s → Item r xs s × (length xs ≡ n) × Bytes xs
exactly-from e n {r} {xs} {s} y c =
    elim (cases_Bool (ltb (length r.bytes) n)) [
      | inl t ↦ absurd (refused_not (rw t at c.came))
      | inr t ↦
          let h : (take n r.bytes ≡ xs) × (skip n r ≡ s) = same_ok (rw t at c.came) in
          let b : r.bytes ≡ xs ++ s.bytes = sym (take-append-drop n r.bytes) ∙ (λ i. h.0 i ++ (h.1 i).bytes) in (
            item r xs s y b,
            ap length (sym h.0) ∙ (length-take n r.bytes ∙ omega (arith, ltb-false (length r.bytes) n t)),
            bytes_front xs s.bytes
                (rw b at y),
          )
    ]

counted-from : (e : Entry) (r : Rest) (n : ℕ) (s : Rest) (o : Number) → Bytes r.bytes → numeral r.bytes ≡ o → counted e r o ≡ Ok (n, s)
    → Item r (number_bytes n) s × (n < 2 ^ 32)
counted-from e r n s (value v c) y t h =
    let p : (v ≡ n) × (skip c r ≡ s) = same_ok h in
    let k = number_again r.bytes n c y (t ∙ (λ i. value (p.0 i) c)) in
    let d : drop c r.bytes ≡ k.rest = ap (drop c) k.bytes ∙ drop_at (number_bytes n) k.rest c (sym k.used) in
    (item r (number_bytes n) s y (k.bytes ∙ ap (λ (u : List ℕ). number_bytes n ++ u) (sym d ∙ ap (λ (u : Rest). u.bytes) p.1)), k.fits)
counted-from e r n s cut y t h = absurd (refused_not h)
counted-from e r n s long y t h = absurd (refused_not h)

pub number-from : (e : Entry) {r : Rest} {n : ℕ} {s : Rest} → Bytes r.bytes → Came (number e) r n s → Item r (number_bytes n) s × (n < 2 ^ 32)
number-from e {r} {n} {s} y c = counted-from e r n s (numeral r.bytes) y refl c.came

pub limited-from : (e : Entry) (most : ℕ) {r : Rest} {n : ℕ} {s : Rest} → Bytes r.bytes → Came (limited e most) r n s → Item r (number_bytes n) s × (n ≤ most)
limited-from e most {r} {n} {s} y c = under (both (number e) (λ v r'. cond (leb v most) (Ok (v, r')) (refused 4 r.at e)) r n s (number e r) refl c.came)
  where
    under : Both (number e) (λ v r'. cond (leb v most) (Ok (v, r')) (refused 4 r.at e)) r n s → Item r (number_bytes n) s × (n ≤ most)
    under p =
        elim (cases_Bool (leb p.x most)) [
          | inl t ↦
              let h : (p.x ≡ n) × (p.mid ≡ s) = same_ok (rw t at p.two.came) in
              let k : Item r (number_bytes n) s × (n < 2 ^ 32) = number-from e y (record { came = p.one.came ∙ (λ i. Ok (h.0 i, h.1 i)) }) in
              (k.0, omega (arith, h.0, leb-true p.x most t))
          | inr t ↦ absurd (refused_not (rw t at p.two.came))
        ]

text_then : Entry → Rest → ℕ → Read (List ℕ)
text_then e r n r' = cond (ltb (length r'.bytes) n) (refused 1 r.at e) (cond (leb n 255) (Ok (take n r'.bytes, skip n r')) (refused 4 r.at e))

pub text-from : (e : Entry) {r : Rest} {xs : List ℕ} {s : Rest} → Bytes r.bytes → Came (text e) r xs s → Item r (text_bytes xs) s × Short xs
unfolding text_then
text-from e {r} {xs} {s} y c = under (both (number e) (text_then e r) r xs s (number e r) refl c.came)
  where
    under : Both (number e) (text_then e r) r xs s → Item r (text_bytes xs) s × Short xs
    under p =
        let k = number-from e y p.one in
        elim (cases_Bool (leb p.x 255)) [
          | inl t ↦
              elim (cases_Bool (ltb (length p.mid.bytes) p.x)) [
                | inl u ↦ absurd (refused_not (rw u at p.two.came))
                | inr u ↦
                    let q : Came (exactly e p.x) p.mid xs s = record { came = rw u (rw (u, t) at p.two.came) } in
                    let l = exactly-from e p.x k.0.rest q in
                    let b : r.bytes ≡ text_bytes xs ++ s.bytes =
                    k.0.bytes ∙ (λ i. number_bytes (sym l.1 i) ++ l.0.bytes i) ∙ sym (append_assoc (number_bytes (length xs)) xs s.bytes) in
                    (item r (text_bytes xs) s y b, (omega (arith, l.1, leb-true p.x 255 t), l.2))
              ]
          | inr t ↦
              elim (cases_Bool (ltb (length p.mid.bytes) p.x)) [
                | inl u ↦ absurd (refused_not (rw u at p.two.came))
                | inr u ↦ absurd (refused_not (rw (u, t) at p.two.came))
              ]
        ]

pub byte-from : (e : Entry) (listed : ℕ → Bool) {r : Rest} {b : ℕ} {s : Rest} → Bytes r.bytes → Came (byte e listed) r b s → Item r (b ∷ []) s × (listed b ≡ true)
byte-from e listed {r} {b} {s} y c = under (parts c)
  where
    one : (xs : List ℕ) → length xs ≡ 1 → xs ≡ first xs ∷ []
    one [] h = cc
    one (x ∷ []) h = refl
    one (x ∷ z ∷ zs) h = absurd (omega arith)

    under : Both (exactly e 1) (λ bs r. cond (listed (first bs)) (Ok (first bs, r)) (refused 3 (r.at - 1) e)) r b s → Item r (b ∷ []) s × (listed b ≡ true)
    under p =
        let k = exactly-from e 1 y p.one in
        elim (cases_Bool (listed (first p.x))) [
          | inl t ↦
              let h : (first p.x ≡ b) × (p.mid ≡ s) = same_ok (rw t at p.two.came) in
              (item r (b ∷ []) s y (k.0.bytes ∙ (λ i. one p.x k.1 i ++ (h.1 i).bytes) ∙ ap (λ (u : ℕ). u ∷ s.bytes) h.0), ap listed (sym h.0) ∙ t)
          | inr t ↦ absurd (refused_not (rw t at p.two.came))
        ]

pub flag-from : (e : Entry) {r : Rest} {b : Bool} {s : Rest} → Bytes r.bytes → Came (flag e) r b s → Item r (flag_bytes b) s
flag-from e {r} {b} {s} y c = under (parts c)
  where
    bit : (n : ℕ) → n ≤ 1 → n ∷ [] ≡ flag_bytes (eqb n 1)
    bit zero l = refl
    bit (suc zero) l = refl
    bit (suc (suc n)) l = absurd (omega arith)

    under : Both (byte e (λ b. leb b 1)) (λ b. give (eqb b 1)) r b s → Item r (flag_bytes b) s
    under p =
        let k = byte-from e (λ b. leb b 1) y p.one in
        let h = given p.two in
        item r (flag_bytes b) s y (k.0.bytes ∙ (λ i. bit p.x (leb-true p.x 1 k.1) i ++ (h.1 i).bytes) ∙ ap (λ (u : Bool). flag_bytes u ++ s.bytes) h.0)

-- items one after the other
pub item_then : {r : Rest} {xs : List ℕ} {m : Rest} {ys : List ℕ} {s : Rest} → Item r xs m → Item m ys s → Item r (xs ++ ys) s
item_then {xs = xs} {ys = ys} {s = s} p q =
    record { bytes = p.bytes ∙ ap (λ (u : List ℕ). xs ++ u) q.bytes ∙ sym (append_assoc xs ys s.bytes); rest = q.rest }

pub item_same : {r : Rest} {xs ys : List ℕ} {s : Rest} → xs ≡ ys → Item r xs s → Item r ys s
item_same {s = s} e p = record { bytes = p.bytes ∙ ap (λ (u : List ℕ). u ++ s.bytes) e; rest = p.rest }

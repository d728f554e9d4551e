-- The loop that reads offsets, against the definition `offsets`.
use Rattle.std.proofs.Common.{◌≡◌, ℕ, zero, suc, ◌+◌, ◌-◌, ◌*◌, ◌^◌, ◌<◌, ◌≤◌, Bool, true, false, cond, ltb, leb, List, [], ◌∷◌, ◌++◌, length, take, drop, Ok, Err, Result, sym, refl, ap, ◌∙◌, inl, inr, append_assoc, append-nil, mul-zero, mul-suc, arith}
use Rattle.std.proofs.lemmas.Bool.Decides.{leb_tells}
use Rattle.meaning.specs.Items.{Entry, column, BatchFault as Fault, Rest, Read, refused, carry, give, exactly, little}
use Rattle.meaning.specs.Columns.{Offsets, offsets}
use Rattle.items.specs.declared.reader.Reader.{Reader}
use Rattle.items.specs.Cuts.{offset_after, placed}
use Rattle.items.specs.Reading.{file, rest}
use Rattle.items.proofs.Taken.{from, exactly-cut, exactly_there}

-- more offsets after those that were read
abbrev pub upon : Offsets → Result (Offsets × Rest) Fault → Result (Offsets × Rest) Fault
upon done m = carry (λ os. give (done ++ os)) m

upon_none : (m : Result (Offsets × Rest) Fault) → upon [] m ≡ m
upon_none (Ok (os, r)) = refl
upon_none (Err e) = refl

upon_one : (done : Offsets) (o : ℕ × ℕ) (m : Result (Offsets × Rest) Fault) → upon (done ++ (o ∷ [])) m ≡ upon done (carry (λ os. give (o ∷ os)) m)
upon_one done o (Ok (os, r)) = ap (λ l. Ok (l, r)) (append_assoc done (o ∷ []) os)
upon_one done o (Err e) = refl

-- one offset more, at the end
placed_more : (w : ℕ) (bs : List ℕ) (at k : ℕ) → placed w bs at (suc k) ≡ placed w bs at k ++ ((little (take w (drop (at + w * k) bs)), at + w * k) ∷ [])
placed_more w bs at zero = let e : at ≡ at + w * 0 = omega (arith, mul-zero w) in ap (λ p. (little (take w (drop p bs)), p) ∷ []) e
placed_more w bs at (suc k) =
    let e : at + w + w * k ≡ at + w * suc k = omega (arith, mul-suc w k) in
    ap (λ os. (little (take w (drop at bs)), at) ∷ os)
    (placed_more w bs (at + w) k ∙ ap (λ p. placed w bs (at + w) k ++ ((little (take w (drop p bs)), p) ∷ [])) e)

-- the tests of an offset, and what comes after it
passed : (x : Fault) (G : ℕ → Read Offsets) (v : ℕ) (r : Rest) (a b : Bool) → cond a (Err x) (cond b (Err x) (G v r)) ≡ carry G (cond a (Err x) (cond b (Err x) (Ok (v, r))))
passed x G v r true b = refl
passed x G v r false true = refl
passed x G v r false false = refl

one_then : (w n k last at : ℕ) (m : Result (List ℕ × Rest) Fault)
    → carry (λ bs r. cond (leb (2 ^ (8 * w - 1)) (little bs)) (refused 5 at (column n))
    (cond (ltb (little bs) last) (refused 5 at (column n)) (carry (λ os. give ((little bs, at) ∷ os)) (offsets w n k (little bs) r)))) m
    ≡ carry (λ v r. carry (λ os. give ((v, at) ∷ os)) (offsets w n k v r))
    (carry (λ bs r. cond (leb (2 ^ (8 * w - 1)) (little bs)) (refused 5 at (column n)) (cond (ltb (little bs) last) (refused 5 at (column n)) (Ok (little bs, r)))) m)
one_then w n k last at (Ok (bs, r)) =
    passed (record { number = 5; byte = at; entry = column n }) (λ v r. carry (λ os. give ((v, at) ∷ os)) (offsets w n k v r)) (little bs) r (leb (2 ^ (8 * w - 1)) (little bs)) (ltb (little bs) last)
one_then w n k last at (Err e) = refl

-- an offset that was read is the one that stands there
held : (x : Fault) (v u : ℕ) (q r : Rest) (a b : Bool) → ◌≡◌ {A = Result (ℕ × Rest) Fault} (Ok (v, q)) (cond a (Err x) (cond b (Err x) (Ok (u, r)))) → ◌≡◌ {A = ℕ × Rest} (v, q) (u, r)
held x v u q r true b e = absurd (let z : ◌≡◌ {A = ℕ} 0 1 = cc in omega arith)
held x v u q r false true e = absurd (let z : ◌≡◌ {A = ℕ} 0 1 = cc in omega arith)
held x v u q r false false e = cc

read_there : (e : Entry) (w last : ℕ) (bs : List ℕ) (at v : ℕ) (q : Rest) → Ok (v, q) ≡ offset_after e w last (from bs at) → ◌≡◌ {A = ℕ × Rest} (v, q) (little (take w (drop at bs)), from bs (at + w))
read_there e w last bs at v q h =
    let K : List ℕ → Read ℕ = λ bs r. cond (leb (2 ^ (8 * w - 1)) (little bs)) (refused 5 at e) (cond (ltb (little bs) last) (refused 5 at e) (Ok (little bs, r))) in
    elim (leb_tells w (length bs - at)) [
      | inl t ↦
          held (record { number = 5; byte = at; entry = e }) v (little (take w (drop at bs))) q (from bs (at + w)) (leb (2 ^ (8 * w - 1)) (little (take w (drop at bs)))) (ltb (little (take w (drop at bs))) last)
          (h ∙ sym (ap (carry K) (exactly_there bs at w e t.1)))
      | inr f ↦ absurd (let bad = h ∙ sym (ap (carry K) (exactly-cut bs at w e f.1)) in let z : ◌≡◌ {A = ℕ} 0 1 = cc in omega arith)
    ]

-- What the loop keeps.
pub record Passing (before now : Reader) (w count n start last turn : ℕ) : Type 0 where
  pub same : file now ≡ file before
  pub begun : start ≡ before.at
  pub here : now.at ≡ start + w * turn
  pub left : upon (placed w (file before) start turn) (offsets w n (count - turn) last (rest now)) ≡ offsets w n count 0 (rest before)

pub starts : (r : Reader) (w count n : ℕ) → Passing r r w count n r.at 0 0
starts r w count n =
    let e : count - 0 ≡ count = omega arith in
    record {
      same = refl;
      begun = refl;
      here = omega (arith, mul-zero w);
      left = upon_none (offsets w n (count - 0) 0 (rest r)) ∙ ap (λ k. offsets w n k 0 (rest r)) e;
    }

module _ {before now : Reader} {w count n start last turn : ℕ} (p : Passing before now w count n start last turn) where
  opened : turn < count → offsets w n (count - turn) last (rest now)
      ≡ carry (λ v r. carry (λ os. give ((v, now.at) ∷ os)) (offsets w n (count - (turn + 1)) v r)) (offset_after (column n) w last (rest now))
  opened h =
      let e : count - turn ≡ suc (count - (turn + 1)) = omega arith in
      ap (λ k. offsets w n k last (rest now)) e ∙ one_then w n (count - (turn + 1)) last now.at (exactly (column n) w (rest now))

  pub ends : turn ≤ count → count ≤ turn → Ok (placed w (file before) start count, rest now) ≡ offsets w n count 0 (rest before)
  ends h k =
      let e : count - turn ≡ 0 = omega arith in
      let c : count ≡ turn = omega arith in
      let done : Offsets = placed w (file before) start turn in
      ap (λ k. Ok (placed w (file before) start k, rest now)) c ∙ ap (λ l. Ok (l, rest now)) (sym (append-nil done))
      ∙ sym (ap (λ k. upon done (offsets w n k last (rest now))) e) ∙ p.left

  -- they all stand in the file
  pub standing : turn ≤ count → count ≤ turn → now.at ≤ length (file now) → start + w * count ≤ length (file before)
  standing h k ok =
      let c : count ≡ turn = omega arith in
      omega (arith, p.here, ap (λ k. w * k) c, ap length p.same)

  -- they end where the reader stands
  pub ending : turn ≤ count → count ≤ turn → start + w * count ≡ now.at
  ending h k =
      let c : count ≡ turn = omega arith in
      omega (arith, p.here, ap (λ k. w * k) c)

  pub breaks : turn < count → (x : Fault) → Err x ≡ offset_after (column n) w last (rest now) → Err x ≡ offsets w n count 0 (rest before)
  breaks h x e =
      ap (upon (placed w (file before) start turn))
      (ap (carry (λ v r. carry (λ os. give ((v, now.at) ∷ os)) (offsets w n (count - (turn + 1)) v r))) e ∙ sym (opened h)) ∙ p.left

  pub goes : turn < count → (now' : Reader) (v : ℕ) → file now' ≡ file now → Ok (v, rest now') ≡ offset_after (column n) w last (rest now) → Passing before now' w count n start v (turn + 1)
  goes h now' v same e =
      let found = read_there (column n) w last (file now) now.at v (rest now') e in
      let is : v ≡ little (take w (drop now.at (file now))) = ap (λ x. x.0) found in
      let moved : now'.at ≡ now.at + w = ap (λ x. x.1.at) found in
      let more : turn + 1 ≡ suc turn = omega arith in
      let last_one : ◌≡◌ {A = ℕ × ℕ} (little (take w (drop (start + w * turn) (file before))), start + w * turn) (v, now.at) =
      ap (λ a. (little (take w (drop a (file before))), a)) (sym p.here) ∙ ap (λ b. (little (take w (drop now.at b)), now.at)) (sym p.same) ∙ ap (λ u. (u, now.at)) (sym is)
      in
      let list : placed w (file before) start (turn + 1) ≡ placed w (file before) start turn ++ ((v, now.at) ∷ []) =
      ap (λ k. placed w (file before) start k) more ∙ placed_more w (file before) start turn ∙ ap (λ x. placed w (file before) start turn ++ (x ∷ [])) last_one
      in
      let rests : Result (Offsets × Rest) Fault = offsets w n (count - (turn + 1)) v (rest now') in
      record {
        same = same ∙ p.same;
        begun = p.begun;
        here = moved ∙ omega (arith, mul-suc w turn, ap (λ k. w * k) more);
        left =
            ap (λ l. upon l rests) list ∙ upon_one (placed w (file before) start turn) (v, now.at) rests
            ∙ ap (upon (placed w (file before) start turn)) (ap (carry (λ v r. carry (λ os. give ((v, now.at) ∷ os)) (offsets w n (count - (turn + 1)) v r))) e ∙ sym (opened h)) ∙ p.left;
      }

-- Columns that were read are written as the bytes that were read, and keep the rules.
use Rattle.std.proofs.Common.{◌≡◌, ℕ, zero, suc, ◌+◌, ◌*◌, ◌/◌, ◌≤◌, true, ltb, List, [], ◌++◌, length, Option, sym, refl, ap, ◌∙◌, subst, inl, inr, append_assoc, append-nil, arith}
use Rattle.std.proofs.lemmas.Bool.{cases_Bool, ltb-false, eqb-true}
use Rattle.meaning.specs.Forest.{Forest, none, tree, size, count}
use Rattle.meaning.specs.Model.{Column, Code, bits, words, variable, fixed_size_binary, structs, lists, large_lists, fixed_size_lists, maps, utf8, large_utf8, binaries, large_binary}
use Rattle.meaning.specs.Items.{column, Rest, ◌then◌, give, exactly, number, text}
use Rattle.meaning.specs.Columns.{Need, free, exact, meets, Offsets, past, unless, offsets, values, Columns, Body, body, body_of, first_len, after, width_of, columned, siblings, columns}
use Rattle.meaning.specs.Columns.{parts as share}
use Rattle.meaning.specs.Encode.{numeral as number_bytes, text as text_bytes, optional, column_code, offsets as offset_bytes, body_bytes, column_bytes}
use Rattle.meaning.specs.Keeps.{levels, Bytes, Short, Within, Lengths, Cuts, Stored, Bodied, Validity, ColumnsKeep}
use Rattle.meaning.proofs.Readers.{Came, Both, parts, refused_not, given, Item, item, exactly-from, number-from, text-from, flag-from, item_then, item_same}
use Rattle.meaning.proofs.ColumnItems.{offsets-from, unless-past, length_from, Detail, code-from, optional-from, none-past}
use Rattle.meaning.proofs.ColumnsReadBack.{lengths-map, column_head}

pub record ColumnsRead (l k : ℕ) (need : Need) (os : Offsets) (n : ℕ) (r : Rest) (cs : Forest Column) (s : Rest) : Type 0 where
  pub item : Item r (column_bytes cs) s
  pub many : count cs ≡ k
  pub deep : levels cs ≤ l
  pub room : n + size cs ≤ 257
  pub keep : ColumnsKeep cs
  pub meet : Lengths (λ k. meets need k ≡ true) cs
  pub within : Lengths (Within (values os)) cs

abbrev pub KidsFrom : ℕ → Columns → Type 0
KidsFrom l kids =
    (k : ℕ) (need : Need) (os : Offsets) (owner n : ℕ) (r : Rest) (cs : Forest Column) (s : Rest) → n ≤ 257 → Bytes r.bytes
    → Came (kids k need os owner n) r cs s → ColumnsRead l k need os n r cs s

-- a body that was read; x makes a column of it
record BodyRead (l n : ℕ) (code : Code) (x : Body → Column) (r : Rest) (b : Body) (s : Rest) : Type 0 where
  item : Item r (body_bytes code (x b) (count b.below) ++ column_bytes b.below) s
  bodied : Bodied code (x b) b.below
  deep : levels b.below ≤ l
  room : n + 1 + size b.below ≤ 257
  keep : ColumnsKeep b.below

move_body : {l n : ℕ} {code : Code} {x : Body → Column} {q : Rest} {b c : Body} {r s : Rest} → b ≡ c → r ≡ s → BodyRead l n code x q b r → BodyRead l n code x q c s
move_body {l} {n} {code} {x} {q} {b} {c} {r} {s} e d h = subst (λ (y : Body × Rest). BodyRead l n code x q y.0 y.1) (λ i. (e i, d i)) h

-- a map's key and value columns, side by side
record Pair (l n : ℕ) (os : List ℕ) (ks vs : Forest Column) : Type 0 where
  bytes : column_bytes ks ++ column_bytes vs ≡ column_bytes (after ks vs)
  many : count (after ks vs) ≡ 2
  deep : levels (after ks vs) ≤ l
  room : n + size (after ks vs) ≤ 257
  keep : ColumnsKeep (after ks vs)
  within : Lengths (Within os) (after ks vs)
  alike : Lengths (λ k. k ≡ first_len (after ks vs)) (after ks vs)

pair : (l n : ℕ) (os : List ℕ) (ks vs : Forest Column) → count ks ≡ 1 → count vs ≡ 1 → levels ks ≤ l → levels vs ≤ l → n + size ks + size vs ≤ 257 → ColumnsKeep ks
    → ColumnsKeep vs
    → Lengths (Within os) ks → Lengths (Within os) vs → Lengths (λ k. meets (exact (first_len ks)) k ≡ true) vs → Pair l n os ks vs
pair l n os none vs c d e f z p q u v t = absurd (omega arith)
pair l n os (tree a as' (tree b bs' more)) vs c d e f z p q u v t = absurd (omega arith)
pair l n os (tree a as' none) none c d e f z p q u v t = absurd (omega arith)
pair l n os (tree a as' none) (tree b bs' (tree g gs more)) c d e f z p q u v t = absurd (omega arith)
pair l n os (tree a as' none) (tree b bs' none) c d e f z p q u v t =
    record {
      bytes = ap (λ (w : List ℕ). w ++ column_bytes (tree b bs' none)) (append-nil (column_head a as'));
      many = refl;
      deep = omega arith;
      room = omega arith;
      keep = (p.0, p.1, p.2, p.3, p.4, p.5, q);
      within = (u.0, v);
      alike = (refl, (eqb-true b.len a.len t.0, tt));
    }

module _ (l : ℕ) (kids : Columns) (ih : KidsFrom l kids) (n : ℕ) (m : n ≤ 256) (name : List ℕ) (id : Option (List ℕ)) (len : ℕ) (validity : Option (List ℕ)) where
  abbrev of : Code → Body → Column
  of code b = record { name = name; id_text = id; code = code; len = len; validity = validity; offsets = b.offsets; body = b.stored }

  -- a body of so many bytes
  stored-from : (code : Code) (k : ℕ) (r : Rest) (b : Body) (s : Rest) → Bytes r.bytes → ((c : Body) → body_bytes code (of code c) 0 ≡ c.stored)
      → ((c : Body) → Stored k (of code c) c.below → Bodied code (of code c) c.below) → Came (exactly (column n) k then (λ bs. give (body [] bs none))) r b s
      → BodyRead l n code (of code) r b s
  stored-from code k r b s y f g w =
      let p = parts w in
      let e = exactly-from (column n) k y p.one in
      let z = given p.two in
      move_body z.0 z.1 (record {
        item = item_same (sym (f (body [] p.x none)) ∙ sym (append-nil (body_bytes code (of code (body [] p.x none)) 0))) e.0;
        bodied = g (body [] p.x none) (e.1, e.2, refl, refl);
        deep = omega arith;
        room = omega arith;
        keep = tt;
      })

  -- bytes cut by offsets
  texts_from : (w : ℕ) (code : Code) (r : Rest) (b : Body) (s : Rest) → Bytes r.bytes
      → ((c : Body) → body_bytes code (of code c) 0 ≡ offset_bytes w c.offsets ++ text_bytes c.stored)
      → ((c : Body) → Cuts w (of code c) → Within c.offsets (length c.stored) → Bytes c.stored → c.below ≡ none → Bodied code (of code c) c.below)
      → Came (offsets w n (len + 1) 0 then (λ os. number (column n) then (λ k r. unless (past os k) n ((exactly (column n) k then (λ bs. give (body (values os) bs none))) r)))) r b s
      → BodyRead l n code (of code) r b s
  texts_from w code r b s y f g c =
      let p₁ = parts c in
      let o = offsets-from w n (len + 1) 0 r p₁.x p₁.mid y p₁.one in
      let p₂ = parts p₁.two in
      let k = number-from (column n) o.item.rest p₂.one in
      let u = unless-past (past p₁.x p₂.x) n _ b s p₂.two.came in
      let p₃ : Both (exactly (column n) p₂.x) (λ bs. give (body (values p₁.x) bs none)) p₂.mid b s = parts (record { came = u.1 }) in
      let e = exactly-from (column n) p₂.x k.0.rest p₃.one in
      let z = given p₃.two in
      let v : Body = body (values p₁.x) p₃.x none in
      move_body z.0 z.1 (record {
        item = item_same (append_assoc (offset_bytes w (values p₁.x)) (number_bytes p₂.x) p₃.x ∙ ap
            (λ (j : ℕ). offset_bytes w (values p₁.x) ++ (number_bytes j ++ p₃.x)) (sym e.1) ∙ sym (f v) ∙ sym (append-nil (body_bytes code (of code v) 0)))
            (item_then (item_then o.item k.0) e.0);
        bodied = g v (o.many, o.rising) (subst (λ (j : ℕ). Within (values p₁.x) j) (sym e.1) (none-past p₁.x p₂.x u.0)) e.2 refl;
        deep = omega arith;
        room = omega arith;
        keep = tt;
      })

  -- one list cut by offsets
  lists-from : (w : ℕ) (code : Code) (r : Rest) (b : Body) (s : Rest) → Bytes r.bytes
      → ((c : Body) (k : ℕ) → body_bytes code (of code c) k ≡ offset_bytes w c.offsets)
      → ((c : Body) → Cuts w (of code c) → c.stored ≡ [] → count c.below ≡ 1 → Lengths (Within c.offsets) c.below → Bodied code (of code c) c.below)
      → Came (offsets w n (len + 1) 0 then (λ os. kids 1 free os n (n + 1) then (λ cs. give (body (values os) [] cs)))) r b s → BodyRead l n code (of code) r b s
  lists-from w code r b s y f g c =
      let p₁ = parts c in
      let o = offsets-from w n (len + 1) 0 r p₁.x p₁.mid y p₁.one in
      let p₂ = parts p₁.two in
      let k = ih 1 free p₁.x n (n + 1) p₁.mid p₂.x p₂.mid (omega arith) o.item.rest p₂.one in
      let z = given p₂.two in
      let v : Body = body (values p₁.x) [] p₂.x in
      move_body z.0 z.1 (record {
        item = item_same (ap (λ (u : List ℕ). u ++ column_bytes p₂.x) (sym (f v (count p₂.x)))) (item_then o.item k.item);
        bodied = g v (o.many, o.rising) refl k.many k.within;
        deep = k.deep;
        room = k.room;
        keep = k.keep;
      })

  body-from : (code : Code) (r : Rest) (b : Body) (s : Rest) → Detail code → Bytes r.bytes → Came (body_of kids n len code) r b s
      → BodyRead l n code (of code) r b s
  body-from bits r b s d y w = stored-from bits ((len + 7) / 8) r b s y (λ c. refl) (λ c q. q) w
  body-from (words h) r b s d y w = stored-from (words h) (len * width_of h) r b s y (λ c. refl) (λ c q. q) w
  body-from (fixed_size_binary h) r b s d y w = stored-from (fixed_size_binary h) (len * h) r b s y (λ c. refl) (λ c q. (d.0, d.1, q)) w
  body-from (variable utf8) r b s d y w = texts_from 4 (variable utf8) r b s y (λ c. refl) (λ c p q t e. (p, q, t, e)) w
  body-from (variable large_utf8) r b s d y w = texts_from 8 (variable large_utf8) r b s y (λ c. refl) (λ c p q t e. (p, q, t, e)) w
  body-from (variable binaries) r b s d y w = texts_from 4 (variable binaries) r b s y (λ c. refl) (λ c p q t e. (p, q, t, e)) w
  body-from (variable large_binary) r b s d y w = texts_from 8 (variable large_binary) r b s y (λ c. refl) (λ c p q t e. (p, q, t, e)) w
  body-from structs r b s d y w =
      let p₁ = parts w in
      let k = number-from (column n) y p₁.one in
      let p₂ = parts p₁.two in
      let f = ih p₁.x (exact len) [] n (n + 1) p₁.mid p₂.x p₂.mid (omega arith) k.0.rest p₂.one in
      let z = given p₂.two in
      move_body z.0 z.1 (record {
        item = item_same (ap (λ (j : ℕ). number_bytes j ++ column_bytes p₂.x) (sym f.many)) (item_then k.0 f.item);
        bodied = (refl, refl, lengths-map (λ k. meets (exact len) k ≡ true) (λ k. k ≡ len) (λ k e. eqb-true k len e) p₂.x f.meet);
        deep = f.deep;
        room = f.room;
        keep = f.keep;
      })
  body-from lists r b s d y w = lists-from 4 lists r b s y (λ c k. refl) (λ c p q t e. (p, q, t, e)) w
  body-from large_lists r b s d y w = lists-from 8 large_lists r b s y (λ c k. refl) (λ c p q t e. (p, q, t, e)) w
  body-from (fixed_size_lists h) r b s d y w =
      let p = parts w in
      let f = ih 1 (share h len) [] n (n + 1) r p.x p.mid (omega arith) y p.one in
      let z = given p.two in
      move_body z.0 z.1 (record {
        item = f.item;
        bodied = (
          d.0,
          d.1,
          refl,
          refl,
          f.many,
          lengths-map (λ k. meets (share h len) k ≡ true) (λ k. k / h ≡ len) (λ k e. eqb-true (k / h) len e) p.x
              f.meet,
        );
        deep = f.deep;
        room = f.room;
        keep = f.keep;
      })
  body-from maps r b s d y w =
      let p₁ = parts w in
      let o = offsets-from 4 n (len + 1) 0 r p₁.x p₁.mid y p₁.one in
      let p₂ = parts p₁.two in
      let k = ih 1 free p₁.x n (n + 1) p₁.mid p₂.x p₂.mid (omega arith) o.item.rest p₂.one in
      let p₃ = parts p₂.two in
      let v = ih 1 (exact (first_len p₂.x)) p₁.x n (n + 1 + size p₂.x) p₂.mid p₃.x p₃.mid k.room k.item.rest p₃.one in
      let z = given p₃.two in
      let q = pair l (n + 1) (values p₁.x) p₂.x p₃.x k.many v.many k.deep v.deep v.room k.keep v.keep k.within v.within
      v.meet in
      move_body z.0 z.1 (record {
        item = item_same (append_assoc (offset_bytes 4 (values p₁.x)) (column_bytes p₂.x) (column_bytes p₃.x) ∙ ap
            (λ (u : List ℕ). offset_bytes 4 (values p₁.x) ++ u) q.bytes) (item_then (item_then o.item k.item) v.item);
        bodied = ((o.many, o.rising), refl, q.many, q.within, q.alike);
        deep = q.deep;
        room = q.room;
        keep = q.keep;
      })

-- one column
record ColumnRead (l : ℕ) (need : Need) (os : Offsets) (n : ℕ) (r : Rest) (x : Column × Forest Column) (s : Rest) : Type 0 where
  item : Item r (column_head x.0 x.1) s
  keep : ColumnsKeep (tree x.0 x.1 none)
  meet : meets need x.0.len ≡ true
  within : Within (values os) x.0.len
  deep : levels x.1 ≤ l
  room : n + 1 + size x.1 ≤ 257

move_column : {l : ℕ} {need : Need} {os : Offsets} {n : ℕ} {q : Rest} {t u : Column × Forest Column} {r s : Rest} → t ≡ u → r ≡ s → ColumnRead l need os n q t r
    → ColumnRead l need os n q u s
move_column {l} {need} {os} {n} {q} {t} {u} {r} {s} e d h = subst (λ (x : (Column × Forest Column) × Rest). ColumnRead l need os n q x.0 x.1)
    (λ i. (e i, d i)) h

-- the items of a column, one after the other
column_item : (r r₁ r₂ r₃ r₄ r₅ s : Rest) (x : Column) (below : Forest Column) → Item r (text_bytes x.name) r₁ → Item r₁ (optional text_bytes x.id_text) r₂
    → Item r₂ (column_code x.code) r₃ → Item r₃ (number_bytes x.len) r₄
    → Item r₄ (optional (λ bs. bs) x.validity) r₅ → Item r₅ (body_bytes x.code x (count below) ++ column_bytes below) s → Item r (column_head x below) s
column_item r r₁ r₂ r₃ r₄ r₅ s x below i₁ i₂ i₃ i₄ i₅ i₆ =
    item_same (sym (append_assoc (text_bytes x.name ++ optional text_bytes x.id_text ++ column_code x.code ++ number_bytes x.len ++ optional (λ bs. bs)
    x.validity) (body_bytes x.code x (count below)) (column_bytes below)))
    (item_then (item_then (item_then (item_then (item_then i₁ i₂) i₃) i₄) i₅) i₆)

columned-from : (l : ℕ) (kids : Columns) → KidsFrom l kids → (need : Need) (os : Offsets) (owner n : ℕ) (r : Rest) (x : Column × Forest Column) (s : Rest) → n ≤ 256
    → Bytes r.bytes
    → Came (columned kids need os owner n) r x s → ColumnRead l need os n r x s
columned-from l kids ih need os owner n r x s m y w =
    let p₁ = parts w in
    let k₁ = text-from (column n) y p₁.one in
    let p₂ = parts p₁.two in
    let k₂ = flag-from (column n) k₁.0.rest p₂.one in
    let p₃ = parts p₂.two in
    let k₃ = optional-from (text (column n)) text_bytes Short (λ r x s y c. text-from (column n) y c) p₂.x p₁.mid p₂.mid p₃.x p₃.mid k₂ p₃.one in
    let p₄ = parts p₃.two in
    let k₄ = code-from n p₃.mid p₄.x p₄.mid k₃.0.rest p₄.one in
    let p₅ = parts p₄.two in
    let k₅ = length_from n need os owner p₄.mid p₅.x p₅.mid k₄.item.rest p₅.one in
    let p₆ = parts p₅.two in
    let k₆ = flag-from (column n) k₅.item.rest p₆.one in
    let p₇ = parts p₆.two in
    let k₇ = optional-from (exactly (column n) ((p₅.x + 7) / 8)) (λ bs. bs) (Validity p₅.x)
    (λ r x s y c. let e = exactly-from (column n) ((p₅.x + 7) / 8) y c in (e.0, (e.1, e.2)))
    p₆.x p₅.mid p₆.mid p₇.x p₇.mid k₆ p₇.one in
    let p₈ = parts p₇.two in
    let k₈ = body-from l kids ih n m p₁.x p₃.x p₅.x p₇.x p₄.x p₇.mid p₈.x p₈.mid k₄.detail k₇.0.rest p₈.one in
    let z = given p₈.two in
    move_column z.0 z.1 (record {
      item = column_item r p₁.mid p₃.mid p₄.mid p₅.mid p₇.mid p₈.mid (of l kids ih n m p₁.x p₃.x p₅.x p₇.x p₄.x p₈.x)
          p₈.x.below
          k₁.0 k₃.0 k₄.item k₅.item k₇.0 k₈.item;
      keep = (k₁.1, k₃.1, k₅.most, k₇.1, k₈.bodied, k₈.keep, tt);
      meet = k₅.meet;
      within = k₅.within;
      deep = k₈.deep;
      room = k₈.room;
    })

move_columns : {l k : ℕ} {need : Need} {os : Offsets} {n : ℕ} {q : Rest} {t u : Forest Column} {r s : Rest} → t ≡ u → r ≡ s → ColumnsRead l k need os n q t r
    → ColumnsRead l k need os n q u s
move_columns {l} {k} {need} {os} {n} {q} {t} {u} {r} {s} e d h = subst (λ (x : Forest Column × Rest). ColumnsRead l k need os n q x.0 x.1) (λ i. (e i, d i)) h

none_from : (l : ℕ) (need : Need) (os : Offsets) (n : ℕ) (r : Rest) → n ≤ 257 → Bytes r.bytes → ColumnsRead l 0 need os n r none r
none_from l need os n r m y = record { item = item r [] r y refl; many = refl; deep = omega arith; room = omega arith; keep = tt; meet = tt; within = tt }

-- a column, and those after it
next-column : (l : ℕ) (kids : Columns) (k : ℕ) (need : Need) (os : Offsets) (owner n : ℕ) (r : Rest) (x : Column × Forest Column) (mid : Rest) (cs : Forest Column) (s : Rest) → ColumnRead l need os n r x mid
    → (d : Both (siblings kids k need os owner (n + 1 + size x.1)) (λ xs. give (tree x.0 x.1 xs)) mid cs s)
    → ColumnsRead (suc l) k need os (n + 1 + size x.1) mid d.x d.mid
    → ColumnsRead (suc l) (suc k) need os n r cs s
next-column l kids k need os owner n r x mid cs s f d t =
    let z = given d.two in
    let p = f.keep in
    move_columns z.0 z.1 (record {
      item = item_then f.item t.item;
      many = omega (arith, t.many);
      deep = omega (arith, f.deep, t.deep);
      room = omega (arith, t.room);
      keep = (p.0, p.1, p.2, p.3, p.4, p.5, t.keep);
      meet = (f.meet, t.meet);
      within = (f.within, t.within);
    })

-- columns side by side
siblings-from : (l : ℕ) (kids : Columns) → KidsFrom l kids → KidsFrom (suc l) (siblings kids)
siblings-from l kids ih zero need os owner n r cs s m y w = let z = given w in move_columns z.0 z.1 (none_from (suc l) need os n r m y)
siblings-from l kids ih (suc k) need os owner n r cs s m y w =
    elim (cases_Bool (ltb 256 n)) [
      | inl g ↦ absurd (refused_not (rw g at w.came))
      | inr g ↦
          let h = ltb-false 256 n g in
          let b : Both (columned kids need os owner n) (λ x. siblings kids k need os owner (n + 1 + size x.1) then
          (λ xs. give (tree x.0 x.1 xs))) r cs s = parts (record { came = rw g at w.came }) in
          let f = columned-from l kids ih need os owner n r b.x b.mid h y b.one in
          let d = parts {f = λ xs. give (tree b.x.0 b.x.1 xs)} b.two in
          next-column l kids k need os owner n r b.x b.mid cs s f d (siblings-from l kids ih k need os owner (n + 1 + size b.x.1) b.mid d.x d.mid
          f.room f.item.rest d.one)
    ]

-- the columns of a batch that were read
pub columns-from : (l : ℕ) → KidsFrom l (columns l)
columns-from zero zero need os owner n r cs s m y w = let z = given w in move_columns z.0 z.1 (none_from zero need os n r m y)
columns-from zero (suc k) need os owner n r cs s m y w = absurd (refused_not w.came)
columns-from (suc l) k need os owner n r cs s m y w = siblings-from l (λ k need os owner n. columns l k need os owner n)
    (columns-from l) k need os owner n r cs s m y w

-- The columns of a batch that keeps the rules are read back.
use Rattle.std.proofs.Common.{◌≡◌, ℕ, zero, suc, ◌+◌, ◌-◌, ◌*◌, ◌/◌, ◌^◌, ◌<◌, ◌≤◌, true, List, [], ◌++◌, length, sym, refl, ap, ◌∙◌, subst, append_assoc, append-nil, arith, length-append}
use Rattle.std.proofs.lemmas.Bool.{le-ltb, eq-eqb}
use Rattle.meaning.specs.Forest.{Forest, none, tree, size, count}
use Rattle.meaning.specs.Model.{Column, Code, bits, words, variable, fixed_size_binary, structs, lists, large_lists, fixed_size_lists, maps, utf8, large_utf8, binaries, large_binary}
use Rattle.meaning.specs.Items.{column, Read, ◌then◌, give, exactly, number, text}
use Rattle.meaning.specs.Columns.{Need, free, exact, parts, meets, Offsets, past, unless, offsets, values, Columns, body, body_of, width_of, columned, siblings, columns}
use Rattle.meaning.specs.Encode.{numeral as number_bytes, text as text_bytes, flag as flag_bytes, optional, column_code, offsets as offset_bytes, body_bytes, column_bytes}
use Rattle.meaning.specs.Keeps.{levels, Short, Rising, Within, Lengths, Cuts, Stored, Bodied, Validity, ColumnsKeep}
use Rattle.meaning.proofs.Readers.{from, Reads, reads_then, reads-give, carried, exactly_to, number_to, text_to, flag_to}
use Rattle.meaning.proofs.FieldsRead.{count-size}
use Rattle.meaning.proofs.ColumnItems.{offsets_to, past-none, length_to, Detail, code_to, has, tail, optional-parts, maybe_to}

-- facts about the lengths of columns side by side
pub lengths-map : (P Q : ℕ → Type 0) → ((k : ℕ) → P k → Q k) → (cs : Forest Column) → Lengths P cs → Lengths Q cs
lengths-map P Q f none h = tt
lengths-map P Q f (tree x below rest) h = (f x.len h.0, lengths-map P Q f rest h.1)

pub lengths_all : (P : ℕ → Type 0) → ((k : ℕ) → P k) → (cs : Forest Column) → Lengths P cs
lengths_all P f none = tt
lengths_all P f (tree x below rest) = (f x.len, lengths_all P f rest)

-- a column without the columns after it
abbrev pub column_head : Column → Forest Column → List ℕ
column_head x below =
    text_bytes x.name ++ optional text_bytes x.id_text ++ column_code x.code ++ number_bytes x.len ++ optional (λ bs. bs) x.validity
    ++ body_bytes x.code x (count below) ++ column_bytes below

-- the columns below are read back, as many as are asked for
abbrev KidsTo : ℕ → Columns → Type 0
KidsTo l kids =
    (cs : Forest Column) (k : ℕ) (need : Need) (os : Offsets) (owner n : ℕ) (bs rest : List ℕ) → levels cs ≤ l → n + size cs ≤ 257 → ColumnsKeep cs
    → Lengths (λ k. meets need k ≡ true) cs
    → Lengths (Within (values os)) cs → count cs ≡ k → length bs ≤ 1048576 → bs ≡ column_bytes cs ++ rest → Reads (kids k need os owner n) cs bs rest

pub shorter : (a b : List ℕ) → length (a ++ b) ≤ 1048576 → length b ≤ 1048576
shorter a b h = omega (arith, length-append a b)

front : (a b : List ℕ) → length (a ++ b) ≤ 1048576 → length a ≤ 1048576
front a b h = omega (arith, length-append a b)

-- a body of so many bytes
stored_to : (n k : ℕ) (x : Column) (below : Forest Column) (bs rest : List ℕ) → Stored k x below → bs ≡ x.body ++ (column_bytes below ++ rest)
    → Reads (exactly (column n) k then (λ bs. give (body [] bs none))) (body x.offsets x.body below) bs rest
stored_to n k x below bs rest p h =
    reads_then _ (exactly_to (column n) k x.body bs rest p.0 (h ∙ ap (λ (u : Forest Column). x.body ++ (column_bytes u ++ rest)) p.3))
    (reads-give (λ i. body (sym p.2 i) x.body (sym p.3 i)))

-- offsets, and what comes behind them
offsets_then : {Y : Type 0} (f : Offsets → Read Y) (w n k : ℕ) (vs : List ℕ) (y : Y) (bs mid rest : List ℕ) → 2 ^ (8 * w - 1) ≤ 256 ^ w → length vs ≡ k
    → Rising (2 ^ (8 * w - 1)) 0 vs → bs ≡ offset_bytes w vs ++ mid
    → ((os : Offsets) → values os ≡ vs → Reads (f os) y mid rest) → Reads (offsets w n k 0 then f) y bs rest
offsets_then f w n k vs y bs mid rest t c p h u =
    record {
      reads = λ a. let o = offsets_to w t n k 0 vs bs mid c p h a in let g = (u o.pairs o.same).reads o.end in
          (g.0, carried f (offsets w n k 0 (from bs a)) o.pairs (from mid o.end) o.reads ∙ g.1);
    }

-- bytes cut by offsets
texts_to : (w n : ℕ) (x : Column) (below : Forest Column) (bs rest : List ℕ) → 2 ^ (8 * w - 1) ≤ 256 ^ w → Cuts w x → Within x.offsets (length x.body)
    → below ≡ none → length bs ≤ 1048576
    → bs ≡ (offset_bytes w x.offsets ++ text_bytes x.body) ++ (column_bytes below ++ rest)
    → Reads (offsets w n (x.len + 1) 0 then (λ os. number (column n) then (λ k r. unless (past os k) n ((exactly (column n) k then (λ bs. give (body (values os) bs none))) r))))
    (body x.offsets x.body below) bs rest
texts_to w n x below bs rest t p q z m h =
    offsets_then _ w n (x.len + 1) x.offsets (body x.offsets x.body below) bs mid rest t p.0 p.1 g (λ os e.
    reads_then _ (number_to (column n) (length x.body) mid (x.body ++ rest) small refl)
    (record {
      reads = λ a. let k = (inner os e).reads a in
          (k.0, rw (past-none os (length x.body) (subst (λ (vs : List ℕ). Within vs (length x.body)) (sym e) q)) k.1);
    }))
  where
    mid : List ℕ
    mid = number_bytes (length x.body) ++ (x.body ++ rest)

    g : bs ≡ offset_bytes w x.offsets ++ mid
    g =
        h ∙ ap (λ (u : Forest Column). (offset_bytes w x.offsets ++ text_bytes x.body) ++ (column_bytes u ++ rest)) z
        ∙ append_assoc (offset_bytes w x.offsets) (text_bytes x.body) rest
        ∙ ap (λ (u : List ℕ). offset_bytes w x.offsets ++ u) (append_assoc (number_bytes (length x.body)) x.body rest)

    small : length x.body < 2 ^ 32
    small =
        let m₁ : length (offset_bytes w x.offsets ++ mid) ≤ 1048576 = subst (λ (u : List ℕ). length u ≤ 1048576) g m in
        let m₂ = shorter (offset_bytes w x.offsets) mid m₁ in
        let m₃ = shorter (number_bytes (length x.body)) (x.body ++ rest) m₂ in
        let m₄ = front x.body rest m₃ in
        omega (arith, m₄)

    inner : (os : Offsets) → values os ≡ x.offsets
        → Reads (exactly (column n) (length x.body) then (λ bs. give (body (values os) bs none))) (body x.offsets x.body below) (x.body ++ rest) rest
    inner os e = reads_then _ (exactly_to (column n) (length x.body) x.body (x.body ++ rest) rest refl refl)
        (reads-give (λ i. body (e i) x.body (sym z i)))

-- one list cut by offsets
lists_to : (l : ℕ) (kids : Columns) → KidsTo l kids → (w n : ℕ) (x : Column) (below : Forest Column) (bs rest : List ℕ) → 2 ^ (8 * w - 1) ≤ 256 ^ w
    → levels below ≤ l → n + 1 + size below ≤ 257 → ColumnsKeep below
    → Cuts w x → x.body ≡ [] → count below ≡ 1 → Lengths (Within x.offsets) below → length bs ≤ 1048576
    → bs ≡ offset_bytes w x.offsets ++ (column_bytes below ++ rest)
    → Reads (offsets w n (x.len + 1) 0 then (λ os. kids 1 free os n (n + 1) then (λ cs. give (body (values os) [] cs)))) (body x.offsets x.body below) bs rest
lists_to l kids ih w n x below bs rest t d z k p b c q m h =
    let mid = column_bytes below ++ rest in
    let m₁ : length mid ≤ 1048576 = shorter (offset_bytes w x.offsets) mid (subst (λ (u : List ℕ). length u ≤ 1048576) h m) in
    offsets_then _ w n (x.len + 1) x.offsets (body x.offsets x.body below) bs mid rest t p.0 p.1 h (λ os e.
    reads_then _ (ih below 1 free os n (n + 1) mid rest d z k (lengths_all (λ k. meets free k ≡ true) (λ k. refl) below)
    (subst (λ (vs : List ℕ). Lengths (Within vs) below) (sym e) q) c m₁ refl)
    (reads-give (λ i. body (e i) (sym b i) below)))

-- keys and values
pair-bytes : (a b rest : List ℕ) → (a ++ (b ++ [])) ++ rest ≡ (a ++ []) ++ ((b ++ []) ++ rest)
pair-bytes a b rest = simp (append_assoc, append-nil)

maps_to : (l : ℕ) (kids : Columns) → KidsTo l kids → (n : ℕ) (x : Column) (below : Forest Column) (bs rest : List ℕ) → levels below ≤ l → n + 1 + size below ≤ 257
    → ColumnsKeep below
    → Bodied maps x below → length bs ≤ 1048576 → bs ≡ offset_bytes 4 x.offsets ++ (column_bytes below ++ rest)
    → Reads (body_of kids n x.len maps) (body x.offsets x.body below) bs rest
maps_to l kids ih n x none bs rest d z k p m h = absurd (omega (arith, p.2))
maps_to l kids ih n x (tree a as' none) bs rest d z k p m h = absurd (omega (arith, p.2))
maps_to l kids ih n x (tree a as' (tree b bs' (tree c cs' more))) bs rest d z k p m h = absurd (omega (arith, p.2))
maps_to l kids ih n x (tree a as' (tree b bs' none)) bs rest d z k p m h =
    let ks = tree a as' none in
    let vs = tree b bs' none in
    let mid = column_bytes (tree a as' vs) ++ rest in
    let m₁ : length mid ≤ 1048576 = shorter (offset_bytes 4 x.offsets) mid (subst (λ (u : List ℕ). length u ≤ 1048576) h m) in
    let g : mid ≡ column_bytes ks ++ (column_bytes vs ++ rest) = pair-bytes (column_head a as') (column_head b bs') rest in
    let m₂ : length (column_bytes vs ++ rest) ≤ 1048576 = shorter (column_bytes ks) (column_bytes vs ++ rest) (subst (λ (u : List ℕ). length u ≤ 1048576) g m₁) in
    offsets_then _ 4 n (x.len + 1) x.offsets (body x.offsets x.body (tree a as' vs)) bs mid rest (omega arith) p.0.0 p.0.1 h (λ os e.
    let w : (o : ℕ) → Within x.offsets o → Within (values os) o = λ o u. subst (λ (vs : List ℕ). Within vs o) (sym e) u in
    reads_then _ (ih ks 1 free os n (n + 1) mid (column_bytes vs ++ rest) (omega arith) (omega arith) (k.0, k.1, k.2, k.3, k.4, k.5, tt) (refl, tt)
    (w a.len p.3.0, tt) refl m₁ g)
    (reads_then _ (ih vs 1 (exact a.len) os n (n + 1 + size ks) (column_bytes vs ++ rest) rest (omega arith) (omega arith) k.6
    (eq-eqb b.len a.len p.4.1.0, tt) (w b.len p.3.1.0, tt) refl m₂ refl)
    (reads-give (λ i. body (e i) (sym p.1 i) (tree a as' vs)))))

body_to : (l : ℕ) (kids : Columns) → KidsTo l kids → (n : ℕ) (x : Column) (code : Code) (below : Forest Column) (bs rest : List ℕ) → levels below ≤ l
    → n + 1 + size below ≤ 257 → ColumnsKeep below
    → Bodied code x below → length bs ≤ 1048576 → bs ≡ body_bytes code x (count below) ++ (column_bytes below ++ rest)
    → Reads (body_of kids n x.len code) (body x.offsets x.body below) bs rest
body_to l kids ih n x bits below bs rest d z k p m h = stored_to n ((x.len + 7) / 8) x below bs rest p h
body_to l kids ih n x (words w) below bs rest d z k p m h = stored_to n (x.len * width_of w) x below bs rest p h
body_to l kids ih n x (fixed_size_binary w) below bs rest d z k p m h = stored_to n (x.len * w) x below bs rest p.2 h
body_to l kids ih n x (variable utf8) below bs rest d z k p m h = texts_to 4 n x below bs rest (omega arith) p.0 p.1 p.3 m h
body_to l kids ih n x (variable large_utf8) below bs rest d z k p m h = texts_to 8 n x below bs rest (omega arith) p.0 p.1 p.3 m h
body_to l kids ih n x (variable binaries) below bs rest d z k p m h = texts_to 4 n x below bs rest (omega arith) p.0 p.1 p.3 m h
body_to l kids ih n x (variable large_binary) below bs rest d z k p m h = texts_to 8 n x below bs rest (omega arith) p.0 p.1 p.3 m h
body_to l kids ih n x structs below bs rest d z k p m h =
    let mid = column_bytes below ++ rest in
    let m₁ : length mid ≤ 1048576 = shorter (number_bytes (count below)) mid (subst (λ (u : List ℕ). length u ≤ 1048576) h m) in
    reads_then _ (number_to (column n) (count below) bs mid (omega (arith, count-size below)) h)
    (reads_then _ (ih below (count below) (exact x.len) [] n (n + 1) mid rest d z k (lengths-map (λ k. k ≡ x.len) (λ k. meets (exact x.len) k ≡ true)
    (λ k e. eq-eqb k x.len e) below p.2) (lengths_all (Within []) (λ k. tt) below) refl m₁ refl)
    (reads-give (λ i. body (sym p.0 i) (sym p.1 i) below)))
body_to l kids ih n x lists below bs rest d z k p m h = lists_to l kids ih 4 n x below bs rest (omega arith) d z k p.0 p.1 p.2 p.3 m h
body_to l kids ih n x large_lists below bs rest d z k p m h = lists_to l kids ih 8 n x below bs rest (omega arith) d z k p.0 p.1 p.2 p.3 m h
body_to l kids ih n x (fixed_size_lists s) below bs rest d z k p m h =
    reads_then _ (ih below 1 (parts s x.len) [] n (n + 1) bs rest d z k (lengths-map (λ k. k / s ≡ x.len) (λ k. meets (parts s x.len) k ≡ true)
    (λ k e. eq-eqb (k / s) x.len e) below p.5) (lengths_all (Within []) (λ k. tt) below) p.4 m h)
    (reads-give (λ i. body (sym p.2 i) (sym p.3 i) below))
body_to l kids ih n x maps below bs rest d z k p m h = maps_to l kids ih n x below bs rest d z k p m h

detail_of : (code : Code) (x : Column) (below : Forest Column) → Bodied code x below → Detail code
detail_of bits x below p = tt
detail_of (words w) x below p = tt
detail_of (variable t) x below p = tt
detail_of (fixed_size_binary w) x below p = (p.0, p.1)
detail_of structs x below p = tt
detail_of lists x below p = tt
detail_of large_lists x below p = tt
detail_of (fixed_size_lists s) x below p = (p.0, p.1)
detail_of maps x below p = tt

-- the parts of a column, bracketed as they are read
apart : (a b c d e f g h i rest : List ℕ)
    → (a ++ (b ++ c) ++ d ++ e ++ (f ++ g) ++ h ++ i) ++ rest ≡ a ++ (b ++ (c ++ (d ++ (e ++ (f ++ (g ++ (h ++ (i ++ rest))))))))
apart a b c d e f g h i rest = simp append_assoc

-- one column, with the columns below it
columned_to : (l : ℕ) (kids : Columns) → KidsTo l kids → (need : Need) (os : Offsets) (owner n : ℕ) (x : Column) (below : Forest Column) (bs rest : List ℕ)
    → levels below ≤ l → n + 1 + size below ≤ 257
    → ColumnsKeep (tree x below none) → meets need x.len ≡ true → Within (values os) x.len → length bs ≤ 1048576 → bs ≡ column_head x below ++ rest
    → Reads (columned kids need os owner n) (x, below) bs rest
columned_to l kids ih need os owner n x below bs rest d z p t w m h =
    reads_then _ (text_to (column n) x.name bs r₁ p.0 g)
    (reads_then _ (flag_to (column n) (has x.id_text) r₁ r₂ refl)
    (reads_then _ (maybe_to (text (column n)) text_bytes Short (λ xs bs rest s e. text_to (column n) xs bs rest s e) x.id_text r₂ r₃ p.1 refl)
    (reads_then _ (code_to n x.code r₃ r₄ (detail_of x.code x below p.4) refl)
    (reads_then _ (length_to n need os owner x.len r₄ r₅ p.2 w t refl)
    (reads_then _ (flag_to (column n) (has x.validity) r₅ r₆ refl)
    (reads_then _ (maybe_to (exactly (column n) ((x.len + 7) / 8)) (λ bs. bs) (Validity x.len)
    (λ xs bs rest s e. exactly_to (column n) ((x.len + 7) / 8) xs bs rest s.0 e) x.validity r₆ r₇ p.3 refl)
    (reads_then _ (body_to l kids ih n x x.code below r₇ rest d z p.5 p.4 m₇ refl)
    (reads-give refl))))))))
  where
    r₇ : List ℕ
    r₇ = body_bytes x.code x (count below) ++ (column_bytes below ++ rest)

    r₆ : List ℕ
    r₆ = tail (λ bs. bs) x.validity ++ r₇

    r₅ : List ℕ
    r₅ = flag_bytes (has x.validity) ++ r₆

    r₄ : List ℕ
    r₄ = number_bytes x.len ++ r₅

    r₃ : List ℕ
    r₃ = column_code x.code ++ r₄

    r₂ : List ℕ
    r₂ = tail text_bytes x.id_text ++ r₃

    r₁ : List ℕ
    r₁ = flag_bytes (has x.id_text) ++ r₂

    g : bs ≡ text_bytes x.name ++ r₁
    g =
        h ∙ (λ i. (text_bytes x.name ++ optional-parts text_bytes x.id_text i ++ column_code x.code ++ number_bytes x.len ++ optional-parts (λ bs. bs)
        x.validity i
        ++ body_bytes x.code x (count below) ++ column_bytes below) ++ rest)
        ∙ apart (text_bytes x.name) (flag_bytes (has x.id_text)) (tail text_bytes x.id_text) (column_code x.code) (number_bytes x.len)
        (flag_bytes (has x.validity)) (tail (λ bs. bs) x.validity)
        (body_bytes x.code x (count below)) (column_bytes below) rest

    m₇ : length r₇ ≤ 1048576
    m₇ =
        shorter (tail (λ bs. bs) x.validity) r₇ (shorter (flag_bytes (has x.validity)) r₆ (shorter (number_bytes x.len) r₅ (shorter (column_code x.code) r₄
        (shorter (tail text_bytes x.id_text) r₃ (shorter (flag_bytes (has x.id_text)) r₂
        (shorter (text_bytes x.name) r₁ (subst (λ (u : List ℕ). length u ≤ 1048576) g m)))))))

-- columns side by side
siblings_to : (l : ℕ) (kids : Columns) → KidsTo l kids → KidsTo (suc l) (siblings kids)
siblings_to l kids ih none zero need os owner n bs rest d z p t w c m h = rw h (reads-give refl)
siblings_to l kids ih none (suc k) need os owner n bs rest d z p t w c m h = absurd (omega arith)
siblings_to l kids ih (tree x below more) zero need os owner n bs rest d z p t w c m h = absurd (omega arith)
siblings_to l kids ih (tree x below more) (suc k) need os owner n bs rest d z p t w c m h =
    let mid = column_bytes more ++ rest in
    let g : bs ≡ column_head x below ++ mid = h ∙ append_assoc (column_head x below) (column_bytes more) rest in
    let m₁ : length mid ≤ 1048576 = shorter (column_head x below) mid (subst (λ (u : List ℕ). length u ≤ 1048576) g m) in
    let here : Reads (columned kids need os owner n) (x, below) bs mid =
    columned_to l kids ih need os owner n x below bs mid (omega arith) (omega arith) (p.0, p.1, p.2, p.3, p.4, p.5, tt) t.0 w.0 m g in
    let all : Reads (columned kids need os owner n then (λ x. siblings kids k need os owner (n + 1 + size x.1) then (λ xs. give (tree x.0 x.1 xs))))
    (tree x below more) bs rest =
    reads_then _ here (reads_then _ (siblings_to l kids ih more k need os owner (n + 1 + size below) mid rest (omega arith) (omega arith) p.6 t.1 w.1
    (omega arith) m₁ refl) (reads-give refl)) in
    record { reads = λ a. let q = all.reads a in (q.0, rw (le-ltb 256 n (omega arith)) q.1) }

-- the columns of a batch are read back
pub columns_to : (l : ℕ) → KidsTo l (columns l)
columns_to zero none zero need os owner n bs rest d z p t w c m h = rw h (reads-give refl)
columns_to zero none (suc k) need os owner n bs rest d z p t w c m h = absurd (omega arith)
columns_to zero (tree x below more) k need os owner n bs rest d z p t w c m h = absurd (omega arith)
columns_to (suc l) cs k need os owner n bs rest d z p t w c m h =
    siblings_to l (λ k need os owner n. columns l k need os owner n) (columns_to l) cs k need os owner n bs rest d z p t w c m h

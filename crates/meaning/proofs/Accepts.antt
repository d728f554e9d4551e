-- The law of files.
use Rattle.std.proofs.Common.{◌≡◌, ℕ, ◌≤◌, true, false, eqb, ltb, List, [], ◌∷◌, ◌++◌, length, Ok, Err, Result, sym, refl, ap, ◌∙◌, subst, inl, inr, append_assoc, append-nil, arith}
use Rattle.std.proofs.lemmas.Bool.{cases_Bool, ltb-false, le-ltb, eq-eqb, eqb-true}
use Rattle.meaning.specs.Forest.{Forest, count}
use Rattle.meaning.specs.Model.{Model, Field, Column}
use Rattle.meaning.specs.Items.{head, Rest, BatchFault}
use Rattle.meaning.specs.Columns.{exact, meets}
use Rattle.meaning.specs.File.{whole, ended, decode}
use Rattle.meaning.specs.Encode.{numeral as number_bytes, field_bytes, column_bytes, encode}
use Rattle.meaning.specs.Keeps.{Bytes, Within, Keeps}
use Rattle.meaning.proofs.Readers.{from, Reads, Came, reads_then, reads-give, parts, given, number_to, limited_to, byte_to, Item, number-from, limited-from, byte-from, item_then, item_same}
use Rattle.meaning.specs.Accepts.{AcceptsLaw}
use Rattle.meaning.proofs.FileBytes.{encode-bytes}
use Rattle.meaning.proofs.FieldsRead.{count-size, fields_to, fields-from}
use Rattle.meaning.proofs.ColumnsReadBack.{lengths-map, lengths_all, shorter, columns_to}
use Rattle.meaning.proofs.ColumnsWrittenAgain.{columns-from}

-- the parts of a file, bracketed as they are read
apart : (a b c d e : List ℕ) → (1 ∷ a) ++ b ++ c ++ d ++ e ≡ 1 ∷ (a ++ (b ++ (c ++ (d ++ (e ++ [])))))
apart a b c d e = simp (append_assoc, append-nil)

whole_to : (m : Model) → Keeps m → Reads whole m (encode m) []
whole_to m k =
    reads_then _ (byte_to head (λ b. eqb b 1) 1 (encode m) r₁ refl (apart (number_bytes m.rows) (number_bytes (count m.fields)) (field_bytes m.fields)
    (number_bytes (count m.columns)) (column_bytes m.columns)))
    (reads_then _ (limited_to head 65536 m.rows r₁ r₂ k.rows (omega arith) refl)
    (reads_then _ (number_to head (count m.fields) r₂ r₃ (omega (arith, count-size m.fields, k.few_fields)) refl)
    (reads_then _ (fields_to 16 m.fields (count m.fields) false 1 r₃ r₄ k.field_levels (omega (arith, k.few_fields)) k.fields refl tt refl)
    (reads_then _ (number_to head (count m.columns) r₄ r₅ (omega (arith, count-size m.columns, k.few_columns)) refl)
    (reads_then _ (columns_to 16 m.columns (count m.columns) (exact m.rows) [] 0 1 r₅ [] k.column_levels (omega (arith, k.few_columns)) k.columns
    (lengths-map (λ n. n ≡ m.rows) (λ n. meets (exact m.rows) n ≡ true) (λ n e. eq-eqb n m.rows e) m.columns k.lengths)
    (lengths_all (Within []) (λ n. tt) m.columns) refl small refl)
    (reads-give refl))))))
  where
    r₅ : List ℕ
    r₅ = column_bytes m.columns ++ []

    r₄ : List ℕ
    r₄ = number_bytes (count m.columns) ++ r₅

    r₃ : List ℕ
    r₃ = field_bytes m.fields ++ r₄

    r₂ : List ℕ
    r₂ = number_bytes (count m.fields) ++ r₃

    r₁ : List ℕ
    r₁ = number_bytes m.rows ++ r₂

    small : length r₅ ≤ 1048576
    small =
        let e : encode m ≡ 1 ∷ r₁ = apart (number_bytes m.rows) (number_bytes (count m.fields)) (field_bytes m.fields) (number_bytes (count m.columns))
        (column_bytes m.columns) in
        let l : length (1 ∷ r₁) ≤ 1048576 = subst (λ (u : List ℕ). length u ≤ 1048576) e k.small in
        shorter (number_bytes (count m.columns)) r₅ (shorter (field_bytes m.fields) r₄
        (shorter (number_bytes (count m.fields)) r₃ (shorter (number_bytes m.rows) r₂ (shorter (1 ∷ []) r₁ l))))

decode-reads : (bs : List ℕ) (m : Model) → length bs ≤ 1048576 → Reads whole m bs [] → decode bs ≡ Ok m
decode-reads bs m l p = rw (le-ltb 1048576 (length bs) l) (ap ended (p.reads 0).1)

-- the encoding of a batch that keeps the rules is accepted
pub decode-encode : (m : Model) → Keeps m → decode (encode m) ≡ Ok m
decode-encode m k = decode-reads (encode m) m k.small (whole_to m k)

-- The other way: what was accepted.
not_refused : {d : BatchFault} {m : Model} → ◌≡◌ {A = Result Model BatchFault} (Err d) (Ok m) → ⊥
not_refused h = let z : ◌≡◌ {A = ℕ} 0 1 = cc in omega arith

record Decoded (bs : List ℕ) (m : Model) : Type 0 where
  small : length bs ≤ 1048576
  end : Rest
  nothing : end.bytes ≡ []
  came : Came whole (from bs 0) m end

empty : (xs : List ℕ) → length xs ≡ 0 → xs ≡ []
empty [] h = refl
empty (x ∷ xs) h = absurd (omega arith)

ended-from : (bs : List ℕ) (m : Model) (o : Result (Model × Rest) BatchFault) → length bs ≤ 1048576 → whole (from bs 0) ≡ o → ended o ≡ Ok m → Decoded bs m
ended-from bs m (Ok p) l e h =
    elim (cases_Bool (eqb (length p.1.bytes) 0)) [
      | inl t ↦
          let q : ◌≡◌ {A = Result Model BatchFault} (Ok p.0) (Ok m) = rw t at h in
          let z : p.0 ≡ m = cc in
          record { small = l; end = p.1; nothing = empty p.1.bytes (eqb-true (length p.1.bytes) 0 t); came = record { came = e ∙ (λ i. Ok (z i, p.1)) } }
      | inr t ↦ absurd (not_refused (rw t at h))
    ]
ended-from bs m (Err d) l e h = absurd (not_refused h)

decoded : (bs : List ℕ) (m : Model) → decode bs ≡ Ok m → Decoded bs m
decoded bs m h =
    elim (cases_Bool (ltb 1048576 (length bs))) [
      | inl t ↦ absurd (not_refused (rw t at h))
      | inr t ↦ ended-from bs m (whole (from bs 0)) (ltb-false 1048576 (length bs) t) refl (rw t at h)
    ]

record WholeRead (r : Rest) (m : Model) (s : Rest) : Type 0 where
  item : Item r (encode m) s
  keeps : length (encode m) ≤ 1048576 → Keeps m

move_whole : {q : Rest} {m o : Model} {r s : Rest} → m ≡ o → r ≡ s → WholeRead q m r → WholeRead q o s
move_whole {q} e d h = subst (λ (x : Model × Rest). WholeRead q x.0 x.1) (λ i. (e i, d i)) h

-- the items of a file, one after the other
file_item : (r r₁ r₂ r₃ r₄ r₅ s : Rest) (b rows kf kc : ℕ) (fs : Forest Field) (cs : Forest Column) → b ≡ 1 → count fs ≡ kf → count cs ≡ kc → Item r (b ∷ []) r₁
    → Item r₁ (number_bytes rows) r₂ → Item r₂ (number_bytes kf) r₃
    → Item r₃ (field_bytes fs) r₄ → Item r₄ (number_bytes kc) r₅ → Item r₅ (column_bytes cs) s → Item r (encode (record { rows = rows; fields = fs; columns = cs })) s
file_item r r₁ r₂ r₃ r₄ r₅ s b rows kf kc fs cs e f g i₁ i₂ i₃ i₄ i₅ i₆ =
    item_same (λ i. (e i ∷ number_bytes rows) ++ number_bytes (sym f i) ++ field_bytes fs ++ number_bytes (sym g i) ++ column_bytes cs)
    (item_then (item_then (item_then (item_then (item_then i₁ i₂) i₃) i₄) i₅) i₆)

whole_from : (r : Rest) (m : Model) (s : Rest) → Bytes r.bytes → Came whole r m s → WholeRead r m s
whole_from r m s y w =
    let p₁ = parts w in
    let k₁ = byte-from head (λ b. eqb b 1) y p₁.one in
    let p₂ = parts p₁.two in
    let k₂ = limited-from head 65536 k₁.0.rest p₂.one in
    let p₃ = parts p₂.two in
    let k₃ = number-from head k₂.0.rest p₃.one in
    let p₄ = parts p₃.two in
    let k₄ = fields-from 16 p₃.x false 1 p₃.mid p₄.x p₄.mid (omega arith) k₃.0.rest p₄.one in
    let p₅ = parts p₄.two in
    let k₅ = number-from head k₄.item.rest p₅.one in
    let p₆ = parts p₅.two in
    let k₆ = columns-from 16 p₅.x (exact p₂.x) [] 0 1 p₅.mid p₆.x p₆.mid (omega arith) k₅.0.rest p₆.one in
    let z = given p₆.two in
    move_whole z.0 z.1 (record {
      item = file_item r p₁.mid p₂.mid p₃.mid p₄.mid p₅.mid p₆.mid p₁.x p₂.x p₃.x p₅.x p₄.x p₆.x (eqb-true p₁.x 1 k₁.1)
          k₄.many k₆.many
          k₁.0 k₂.0 k₃.0 k₄.item k₅.0 k₆.item;
      keeps = λ l. record {
        rows = k₂.1;
        few_fields = omega (arith, k₄.room);
        field_levels = k₄.deep;
        fields = k₄.keep;
        few_columns = omega (arith, k₆.room);
        column_levels = k₆.deep;
        columns = k₆.keep;
        lengths = lengths-map (λ n. meets (exact p₂.x) n ≡ true) (λ n. n ≡ p₂.x) (λ n e. eqb-true n p₂.x e) p₆.x k₆.meet;
        small = l;
      };
    })

-- an accepted file is the encoding of what it means, and that keeps the rules
pub encode-decode : (bs : List ℕ) (m : Model) → Bytes bs → decode bs ≡ Ok m → (encode m ≡ bs) × Keeps m
encode-decode bs m y h =
    let d = decoded bs m h in
    let w = whole_from (from bs 0) m d.end y d.came in
    let e : encode m ≡ bs = sym (w.item.bytes ∙ ap (λ (u : List ℕ). encode m ++ u) d.nothing ∙ append-nil (encode m)) in
    (e, w.keeps (subst (λ (u : List ℕ). length u ≤ 1048576) (sym e) d.small))

pub accepts_law : AcceptsLaw
accepts_law = record { file = encode-bytes; read = decode-encode; written = encode-decode }

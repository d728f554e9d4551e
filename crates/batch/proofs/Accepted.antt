use Rattle.columns.specs.Entries.{ColumnEntry}
use Rattle.schema.specs.Fields.{FieldEntry}
-- From what was loaded to the batch in hand, and the law of reading.
use Rattle.std.proofs.Common.{◌≡◌, ℕ, ◌<◌, ◌≤◌, Bool, true, false, cond, ◌||◌, ltb, List, length, get_or, is_ok, Ok, Err, vec_items, vec_len, Result, Vec, sym, refl, ap, ◌∙◌, subst, arith}
use Rattle.std.proofs.ByRecursion.{All-from_get_or}
use Rattle.std.proofs.lemmas.List.{with_items_is}
use Rattle.std.proofs.lemmas.Bool.{ltb-false}
use Rattle.std.specs.Vec.{with_items}
use Rattle.meaning.specs.Forest.{size}
use Rattle.meaning.specs.Model.{Model}
use Rattle.meaning.specs.Items as items
use Rattle.meaning.specs.Items.{head, refused}
use Rattle.meaning.specs.Encode.{encode}
use Rattle.meaning.specs.File.{decode}
use Rattle.meaning.specs.Keeps.{Bytes, Keeps}
use Rattle.meaning.proofs.Accepts.{accepts_law}
use Rattle.batch.specs.declared.load.Sizes.{Sizes}
use Rattle.batch.specs.Loaded.{Loaded, Standing, decoded, or_empty, read_in, short}

either : {X : Type 0} (s : Bool) (x : X) (y : Result X items.BatchFault) (e : items.BatchFault) → Ok x ≡ cond s (Err e) y → (s ≡ false) × (y ≡ Ok x)
either true x y e h = absurd (let z : ◌≡◌ {A = ℕ} 0 1 = cc in omega arith)
either false x y e h = (refl, sym h)

-- what is accepted is decoded
pub accepted_in : (nf nc : ℕ) (bytes : List ℕ) (m : Model) → Ok m ≡ read_in nf nc bytes → (short nf nc ≡ false) × (decode bytes ≡ Ok m)
accepted_in nf nc bytes m h = either (short nf nc) m (decode bytes) (record { number = 4; byte = 0; entry = head }) h

-- a file whose decoding is some batch decodes to `decoded`
pub decodes : (r : Result Model items.BatchFault) → is_ok r ≡ true → r ≡ Ok (or_empty r)
decodes (Ok m) h = refl
decodes (Err e) h = absurd (let z : ◌≡◌ {A = Bool} false true = h in let w : ◌≡◌ {A = ℕ} 0 1 = cc in omega arith)

-- what a Vec holds once a slice of it was written to
pub written : {X Z : Type 0} (v : Vec X Z) (ws old : List X) → length ws ≡ length old → length old ≡ vec_len v → vec_items (with_items v ws) ≡ ws
written v ws old kept len = with_items_is v ws (kept ∙ len)

module _ {nf nc : ℕ} {bytes : List ℕ} {sizes : Sizes} {fs : List FieldEntry} {cs : List ColumnEntry} (l : Loaded nf nc bytes (Ok sizes) fs cs) where
  pub meant : decode bytes ≡ Ok l.does.0
  meant = (accepted_in nf nc bytes l.does.0 l.does.1).1

  pub is_accepted : is_ok (decode bytes) ≡ true
  is_accepted = ap is_ok meant

  pub is_counted : (sizes.rows ≡ (decoded bytes).rows) × (sizes.fields ≡ size (decoded bytes).fields) × (sizes.columns ≡ size (decoded bytes).columns)
  is_counted = (
    l.does.2.rows ∙ ap (λ r. (or_empty r).rows) (sym meant),
    l.does.2.fields ∙ ap (λ r. size (or_empty r).fields) (sym meant),
    l.does.2.columns ∙ ap (λ r. size (or_empty r).columns) (sym meant),
  )

  pub is_standing : (fs' : List FieldEntry) (cs' : List ColumnEntry) → fs' ≡ fs → cs' ≡ cs → Standing bytes (decoded bytes) fs' cs'
  is_standing fs' cs' f c =
      subst (λ x. Standing bytes (decoded bytes) x cs') (sym f) (subst (λ x. Standing bytes (decoded bytes) fs x) (sym c) (subst (λ m. Standing bytes m fs cs) (ap or_empty (sym meant)) l.does.3))

  -- the file is the one that was handed over, whatever the tables' lengths are called
  pub is_read : (nf' nc' : ℕ) → nf' ≡ nf → nc' ≡ nc → Ok (decoded bytes) ≡ read_in nf' nc' bytes
  is_read nf' nc' f c = ap (λ r. Ok (or_empty r)) meant ∙ l.does.1 ∙ ap (λ k. read_in k nc bytes) (sym f) ∙ ap (λ k. read_in nf' k bytes) (sym c)

pub all_bytes : (bytes : List ℕ) → ((i : ℕ) → get_or bytes i 0 < 256) → Bytes bytes
all_bytes bytes h = All-from_get_or (λ b. b < 256) bytes 0 (λ i _. h i)

module _ (bytes : List ℕ) (b : Bytes bytes) where
  -- an accepted file is the encoding of the batch that it means, which keeps the rules, and of no other
  pub keeps_rules : is_ok (decode bytes) ≡ true → Keeps (decoded bytes) × (encode (decoded bytes) ≡ bytes) × ((m : Model) → Keeps m → encode m ≡ bytes → decoded bytes ≡ m)
  keeps_rules h =
      let w = accepts_law.written bytes (decoded bytes) b (decodes (decode bytes) h) in
      (w.1, w.0, λ m k e. ap (λ bs. decoded bs) (sym e) ∙ ap or_empty (accepts_law.read m k))

-- a refused file is the encoding of no batch that keeps the rules
pub none_kept : (nf nc : ℕ) (bytes : List ℕ) (x : items.BatchFault) → Err x ≡ read_in nf nc bytes → short nf nc ≡ false → (m : Model) → Keeps m → encode m ≡ bytes → ⊥
none_kept nf nc bytes x e s m k is =
    let d : decode bytes ≡ Ok m = ap decode (sym is) ∙ accepts_law.read m k in
    let bad : ◌≡◌ {A = Result Model items.BatchFault} (Err x) (Ok m) = e ∙ ap (λ t. cond t (refused 4 0 head) (decode bytes)) s ∙ d in
    let z : ◌≡◌ {A = ℕ} 0 1 = cc in
    omega arith

-- tables that are not too short have room for what the file holds
long_enough : (a b : Bool) → (a || b) ≡ false → (a ≡ false) × (b ≡ false)
long_enough false b h = (refl, h)
long_enough true b h = absurd (let w : ◌≡◌ {A = ℕ} 0 1 = cc in omega arith)

pub is_roomy : {nf nc : ℕ} {bytes : List ℕ} {sizes : Sizes} {fs : List FieldEntry} {cs : List ColumnEntry} → Bytes bytes → (l : Loaded nf nc bytes (Ok sizes) fs cs) → (nf' nc' : ℕ) → nf ≡ nf' → nc ≡ nc'
    → (sizes.fields ≤ nf') × (sizes.columns ≤ nc')
is_roomy {nf} {nc} {bytes} b l nf' nc' f c =
    let s = long_enough (ltb nf 256) (ltb nc 256) (accepted_in nf nc bytes l.does.0 l.does.1).0 in
    let k = (keeps_rules bytes b (is_accepted l)).0 in (
      omega (arith, (is_counted l).1, k.few_fields, ltb-false nf 256 s.0),
      omega (arith, (is_counted l).2, k.few_columns, ltb-false nc 256 s.1),
    )

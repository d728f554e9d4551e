-- A file's items one after the other, against the definition `decode`.
use Rattle.std.proofs.Common.{◌≡◌, ℕ, ◌<◌, ◌≤◌, true, false, ◌||◌, eqb, ltb, List, [], length, drop, Ok, Err, Result, sym, ap, ◌∙◌, subst, arith}
use Rattle.std.proofs.lemmas.List.{length-drop}
use Rattle.std.proofs.lemmas.Bool.Decides.{nat_tests}
use Rattle.meaning.specs.Forest.{Forest}
use Rattle.meaning.specs.Model as model
use Rattle.meaning.specs.Model.{Model}
use Rattle.meaning.specs.Items.{head, BatchFault as Fault, Rest, Read, refused, carry, give, byte, number, limited}
use Rattle.meaning.specs.Schema.{fields}
use Rattle.meaning.specs.Columns.{columns, exact}
use Rattle.meaning.specs.File.{whole, ended}
use Rattle.items.proofs.Taken.{if_true, if_false, listed-byte, then_then}
use Rattle.schema.specs.Fields.{FieldEntry, schema_in}
use Rattle.columns.specs.Entries.{ColumnEntry, columns_in}
use Rattle.fault.specs.declared.faults.BatchFault.{BatchFault}
use Rattle.fault.specs.Faults.{batch_fault_of}
use Rattle.batch.specs.declared.load.Sizes.{Sizes}
use Rattle.batch.specs.Loaded.{read_in, Loaded}

-- what is left of the file once the named parts are read
abbrev pub after_columns : ℕ → Forest model.Field → Forest model.Column → Read Model
after_columns rows fs cs = give (record { rows = rows; fields = fs; columns = cs })

abbrev pub after_fields : ℕ → Forest model.Field → Read Model
after_fields rows fs r = carry (λ k r. carry (after_columns rows fs) (columns 16 k (exact rows) [] 0 1 r)) (number head r)

abbrev pub after_rows : ℕ → Read Model
after_rows rows r = carry (λ k r. carry (after_fields rows) (fields 16 k false 1 r)) (number head r)

module _ (edition : ℕ) (r0 r1 : Rest) (e1 : Ok (edition, r1) ≡ byte head (λ _. true) r0) (one : edition ≡ 1) where
  pub rows-read : (m : Result (ℕ × Rest) Fault) → m ≡ limited head 65536 r1 → carry after_rows m ≡ whole r0
  rows-read m e =
      let t : eqb edition 1 ≡ true = ap (λ b. eqb b 1) one in
      ap (carry after_rows) e ∙ ap (carry (λ (_ : ℕ) r. carry after_rows (limited head 65536 r))) (listed-byte head (λ b. eqb b 1) edition r0 r1 e1 t)

  module _ (rows : ℕ) (r2 : Rest) (e2 : Ok (rows, r2) ≡ limited head 65536 r1) (nf : ℕ) (enough : 256 ≤ nf) where
    pub schema-read : (m : Result (Forest model.Field × Rest) Fault) → m ≡ schema_in nf r2 → carry (after_fields rows) m ≡ whole r0
    schema-read m e =
        let t : ltb nf 256 ≡ false = grind (arith, nat_tests) in
        ap (carry (after_fields rows)) (e ∙ if_false _ _ t) ∙ then_then (after_fields rows) (λ k. fields 16 k false 1) (number head r2) ∙ rows-read (Ok (rows, r2)) e2

    pub columns-read : (fs : Forest model.Field) (r3 : Rest) → Ok (fs, r3) ≡ schema_in nf r2 → (nc : ℕ) → 256 ≤ nc → (m : Result (Forest model.Column × Rest) Fault) → m ≡ columns_in nc rows r3
        → carry (after_columns rows fs) m ≡ whole r0
    columns-read fs r3 e3 nc many m e =
        let t : ltb nc 256 ≡ false = grind (arith, nat_tests) in
        ap (carry (after_columns rows fs)) (e ∙ if_false _ _ t) ∙ then_then (after_columns rows fs) (λ k. columns 16 k (exact rows) [] 0 1) (number head r3) ∙ schema-read (Ok (fs, r3)) e3

module _ (nf nc : ℕ) (bytes : List ℕ) (fields_fit : 256 ≤ nf) (columns-fit : 256 ≤ nc) (small : length bytes ≤ 1048576) where
  -- what the whole file gives is what is read
  pub whole_in : (r0 : Rest) → r0 ≡ record { bytes = bytes; at = 0 } → (m : Result (Model × Rest) Fault) → m ≡ whole r0 → ended m ≡ read_in nf nc bytes
  whole_in r0 start m e =
      let f : ltb nf 256 ≡ false = grind (arith, nat_tests) in
      let c : ltb nc 256 ≡ false = grind (arith, nat_tests) in
      let s : ltb 1048576 (length bytes) ≡ false = grind (arith, nat_tests) in
      let t : (ltb nf 256 || ltb nc 256) ≡ false = ap (λ b. b || ltb nc 256) f ∙ c in
      ap ended (e ∙ ap whole start) ∙ sym (if_false _ _ t ∙ if_false _ _ s)

-- the end of the file
pub at-end : (bytes : List ℕ) (at : ℕ) (m : Model) → length bytes ≤ at → Ok m ≡ ended (Ok (m, record { bytes = drop at bytes; at = at }))
at-end bytes at m h = let l = length-drop at bytes in let t : eqb (length (drop at bytes)) 0 ≡ true = grind (arith, nat_tests) in sym (if_true _ _ t)

pub not_at-end : (bytes : List ℕ) (at : ℕ) (m : Model) → at < length bytes → refused 8 at head ≡ ended (Ok (m, record { bytes = drop at bytes; at = at }))
not_at-end bytes at m h = let l = length-drop at bytes in let t : eqb (length (drop at bytes)) 0 ≡ false = grind (arith, nat_tests) in sym (if_false _ _ t)

-- a refusal, as the exit of a `?` gives it
pub refuses_in : {nf nc : ℕ} {bytes : List ℕ} {res : Result Sizes BatchFault} {fs : List FieldEntry} {cs : List ColumnEntry} (x e : BatchFault)
    → res ≡ Err x → x ≡ e → Err (batch_fault_of e) ≡ read_in nf nc bytes → Loaded nf nc bytes res fs cs
refuses_in {nf = nf} {nc = nc} {bytes = bytes} {fs = fs} {cs = cs} x e q w does = subst (λ r. Loaded nf nc bytes r fs cs) (sym (q ∙ ap Err w)) (record { does = does })

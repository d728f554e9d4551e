-- A map's key column and value column, against the definition `map_from`.
use Rattle.std.proofs.Common.{◌≡◌, ℕ, ◌+◌, ◌-◌, ◌≤◌, List, [], get_or, Ok, Err, Result, sym, refl, ap, ◌∙◌, subst}
use Rattle.meaning.specs.Forest.{Forest, size, beside}
use Rattle.meaning.specs.Model as model
use Rattle.meaning.specs.Items.{BatchFault as Fault, Rest, Read, carry, give}
use Rattle.meaning.specs.Columns as columns
use Rattle.meaning.specs.Columns.{Body, body, free, exact, values, first_len, after}
use Rattle.fault.specs.declared.faults.BatchFault.{BatchFault}
use Rattle.items.specs.declared.reader.Offsets.{Offsets as Offsets'}
use Rattle.items.specs.declared.reader.Reader.{Reader}
use Rattle.items.specs.Cuts.{offsets_of}
use Rattle.items.specs.Reading.{Reads, file, rest}
use Rattle.items.specs.Tables.{Filled, Fills}
use Rattle.items.proofs.Filling.{filled_beside}
use Rattle.items.proofs.Taken.{then_then}
use Rattle.columns.specs.declared.body.Body.{Body as Body'}
use Rattle.columns.specs.declared.length.Holder.{Holder}
use Rattle.columns.specs.declared.length.Need.TheVariants.{Free, Exact}
use Rattle.columns.specs.Bodies.{body_meant, children_from, map_from}
use Rattle.columns.specs.Entries.{ColumnEntry, blank, column_table}
use Rattle.columns.specs.Holders.{held_by}
use Rattle.columns.proofs.Siblings.{Single, single}

-- a call that reads one column reads one tree
pub one_read :
    (level : ℕ) (h : Holder) {key : ℕ} {before r : Reader} {old mid : List ColumnEntry} {end : Unit {0} → ℕ}
    (k : Fills column_table end (λ _ (cs : Forest model.Column). cs) (held_by (file before) level 1 h key) key before old (Ok tt) r mid) → Single key k.does.0
one_read level h {key = key} {before = before} {r = r} k = single (file before) level h key (rest before) (rest r) k.does.0 k.does.1

module _ (level len n : ℕ) {key : ℕ} {end : Unit {0} → ℕ} {before r1 r2 : Reader} {cut : Offsets'} {old mid : List ColumnEntry}
    (o : Reads (offsets_of (file before)) (columns.offsets 4 n (len + 1) 0) before (Ok cut) r1)
    (k : Fills column_table end (λ _ (cs : Forest model.Column). cs) (held_by (file r1) level 1 (record { need = Free; cut = cut; owner = n }) key) key r1 old (Ok tt) r2 mid) where
  abbrev keys : Forest model.Column
  keys = k.does.0

  abbrev value : ℕ
  value = end tt

  abbrev os : columns.Offsets
  os = offsets_of (file before) cut

  -- the key column's holder
  abbrev keyed_by : Holder
  keyed_by = record { need = Free; cut = cut; owner = n }

  -- the key column's length stands in the table
  paired : (get_or mid (key - 1) blank).len ≡ first_len keys
  paired =
      let one = one_read level keyed_by k in
      let s = (subst (λ t. Filled column_table (file r1) old mid key value t) one.is k.does.2).stands.1 in
      ap (λ (x : model.Column). x.len) s ∙ ap first_len (sym one.is)

  -- the value column's holder
  abbrev pub valued : Holder
  valued = record { need = Exact (get_or mid (key - 1) blank).len; cut = cut; owner = n }

  -- a body with the key column before the value column
  abbrev keyed : Body → Body
  keyed b = body b.offsets b.stored (after keys b.below)

  -- what is read after the key column
  abbrev after_key : Forest model.Column → Read Body
  after_key ks r = carry (λ vs. give (body (values os) [] (after ks vs))) (columns.columns level 1 (exact (first_len ks)) os n (key + size ks) r)

  value-from : (m : Result (Body × Rest) Fault) → m ≡ children_from (file r2) level 1 valued value (rest r2) → carry (λ b. give (keyed b)) m ≡ map_from (columns.columns level) n key len (rest before)
  value-from m e =
      ap (carry (λ b. give (keyed b)))
      (e ∙ ap (λ f. children_from f level 1 valued value (rest r2)) (k.same ∙ o.same)
      ∙ ap (λ l. carry (λ cs. give (body (values os) [] cs)) (columns.columns level 1 (exact l) os n value (rest r2))) paired
      ∙ ap (λ v. carry (λ cs. give (body (values os) [] cs)) (columns.columns level 1 (exact (first_len keys)) os n v (rest r2))) k.does.2.next)
      ∙ then_then (λ b. give (keyed b)) (λ cs. give (body (values os) [] cs)) (columns.columns level 1 (exact (first_len keys)) os n (key + size keys) (rest r2))
      ∙ ap (carry after_key) (k.does.1 ∙ ap (λ f. columns.columns level 1 free (offsets_of f cut) n key (rest r1)) o.same)
      ∙ ap (carry (λ os r. carry (λ ks r. carry (λ vs. give (body (values os) [] (after ks vs))) (columns.columns level 1 (exact (first_len ks)) os n (key + size ks) r)) (columns.columns level 1 free os n key r))) o.does

  -- the value column stands after the key column
  beside-after : (vs : Forest model.Column) → beside keys vs ≡ after keys vs
  beside-after vs = subst (λ t. beside t vs ≡ after t vs) (sym (one_read level keyed_by k).is) refl

  -- what the value column gives is what the map gives
  pub map-read :
      {end' : Body' → ℕ} {r3 : Reader} {new : List ColumnEntry} (r : Result Body' BatchFault) → 1 ≤ key
      → Fills column_table end' (λ b (cs : Forest model.Column). body_meant (file r2) b cs) (children_from (file r2) level 1 valued value) value r2 mid r r3 new
      → Fills column_table end' (λ b (cs : Forest model.Column). body_meant (file before) b cs) (map_from (columns.columns level) n key len) key before old r r3 new
  map-read {end' = end'} {r3 = r3} {new = new} (Ok b) pos v =
      let vs = v.does.0 in
      record {
        same = v.same ∙ k.same ∙ o.same;
        does = (
          beside keys vs,
          ap (λ cs. Ok (body_meant (file before) b cs, rest r3)) (beside-after vs)
              ∙ ap (λ f. Ok (keyed (body_meant f b vs), rest r3)) (sym (k.same ∙ o.same)) ∙ value-from _ v.does.1,
          filled_beside column_table (file before) old mid new key value (end' b) keys vs pos (subst (λ f. Filled column_table f old mid key value keys) o.same k.does.2)
              (subst (λ f. Filled column_table f mid new value (end' b) vs) (k.same ∙ o.same) v.does.2),
        );
      }
  map-read (Err x) pos v = record { same = v.same ∙ k.same ∙ o.same; does = value-from _ v.does }

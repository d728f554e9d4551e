-- The converter's hooks, at the values of the columns below, give the values of their own column.
use Rattle.std.proofs.Common.{◌≡◌, ℕ, ◌+◌, ◌-◌, ◌*◌, ◌<◌, Bool, true, false, cond, not, ◌&&◌, eqb, ltb, List, [], ◌∷◌, map as each, length, Some, Ok, sym, refl, ap, ◌∙◌, subst, ap₂, arith}
use Rattle.std.proofs.lemmas.Bool.{eq-eqb, ne_eqb, le-ltb, cond-true, not_from_true}
use Rattle.meaning.specs.Forest.{Forest, none, tree, size, count}
use Rattle.meaning.specs.Model.{Model, Column, Field, Shape, prim, struct, list, map, Primitive, boolean, int, long, float, double, date, time, timestamp, timestamptz, timestamp_ns, timestamptz_ns, string, uuid, fixed, binary, Code, bits, words, variable, fixed_size_binary, structs, lists, large_lists, fixed_size_lists, maps, at}
use Rattle.meaning.specs.Lists.{upto, any_of, sum, or_zero}
use Rattle.meaning.specs.Slots.{null, span, span_slots}
use Rattle.meaning.specs.Codes.{struct?, list?, map?}
use Rattle.meaning.specs.Access.{child_at, Pick, Own, fault}
use Rattle.meaning.specs.Literals.{null_literal, struct_literal, list_literal, map_literal, Values, primitive_literal, literal_by, literal_at, same_by, Value, is_null_literal, same_literal, put_before}
use Rattle.meaning.specs.Rows.{joined, kept, parts}
use Rattle.meaning.specs.Converts.{accepts, takes, field_hook, null_in_spans, own_hook, check_fields}
use Rattle.meaning.specs.Keeps.{Plain, Bytes}
use Rattle.meaning.proofs.Premises.{Cutting, Premises, Exactly, Formed}
use Rattle.meaning.specs.Walk.{Step, map_key, map_value, role, field_at, type_at, missing, close, finish, refuse_if}
use Rattle.meaning.specs.Converter.{slot, prim_of, struct_of, list_of, map_of, required_of, holder, past_end, elements, entries, pair_cells, uneven, taking, field_step, converter, null_in_span, list_rows, row_values, field_parts, kept_pairs, null_required}
use Rattle.meaning.proofs.SlotSums.{Cuts}
use Rattle.meaning.proofs.Spans.{list-cuts, map-cuts}
use Rattle.meaning.proofs.AcceptedSteps.{step, IsPartner, partner_column}
use Rattle.meaning.proofs.FieldPlaces.{held_child, found_child}
use Rattle.std.specs.List.{AllByRecursion}
use Rattle.std.proofs.ByRecursion.{All-weaker}
use Rattle.meaning.proofs.SlotLists.{all_upto, all_from, all_both, upto-at, length_slots, slot_at, pairs_in, pairs_same, any_equal, any_none, none_any, sum_equal, each_equal, joined_equal}
use Rattle.meaning.proofs.KeysBySlot.{alike_key}
use Rattle.meaning.proofs.StepAgreement.{Agrees, agrees_retest, agrees_test, agrees_pass, agrees_sought, agrees_as, agrees_taking, agrees_refuse_if}

-- a value is null exactly if its slot is
literal-null : (p : Primitive) (x : Column) (i : ℕ) → is_null_literal (primitive_literal p x i) ≡ false
literal-null boolean x i = refl
literal-null int x i = refl
literal-null long x i = refl
literal-null float x i = refl
literal-null double x i = refl
literal-null date x i = refl
literal-null time x i = refl
literal-null timestamp x i = refl
literal-null timestamptz x i = refl
literal-null timestamp_ns x i = refl
literal-null timestamptz_ns x i = refl
literal-null string x i = refl
literal-null uuid x i = refl
literal-null (fixed n) x i = refl
literal-null binary x i = refl

shape-null : (s : Shape) (x : Column) (i : ℕ) → is_null_literal (literal_by s x i) ≡ false
shape-null (prim p) x i = literal-null p x i
shape-null struct x i = refl
shape-null list x i = refl
shape-null map x i = refl

item_null : (s : Shape) (x : Column) (i : ℕ) → is_null_literal (literal_at s x i) ≡ null x i
item_null s x i = go (null x i)
  where
    go : (b : Bool) → is_null_literal (cond b null_literal (literal_by s x i)) ≡ b
    go true = refl
    go false = shape-null s x i

cond_same : {X : Type 0} (b : Bool) (x : X) → cond b x x ≡ x
cond_same true x = refl
cond_same false x = refl

-- parts that agree where the slot is not null
cond_parts : (b : Bool) (x y : Values) → (b ≡ false → x ≡ y) → cond b none x ≡ cond b none y
cond_parts true x y e = refl
cond_parts false x y e = e refl

-- a fixed-size list's rows are its length
rows_by : (k : Code) (x : Column) (l : ℕ) → Cutting k x l → list_rows k x.len l ≡ x.len
rows_by bits x l e = refl
rows_by (words w) x l e = refl
rows_by (variable t) x l e = refl
rows_by (fixed_size_binary w) x l e = refl
rows_by structs x l e = refl
rows_by lists x l e = refl
rows_by large_lists x l e = refl
rows_by (fixed_size_lists s) x l e = sym e
rows_by maps x l e = refl

-- spans that end within a result, and what they cut
module _ (x : Column) (l : ℕ) (k : Cuts x.len l (λ i. (span x i).0) (λ i. (span x i).1)) where
  pub none-past : past_end x x.len l ≡ false
  none-past = any_none (λ i. ltb l (span x i).1) (upto x.len) (all_upto _ x.len (λ i h. le-ltb l (span x i).1 (k.inside i h)))

  pub all_cut : (P : ℕ → Type 0) (i : ℕ) → i < x.len → ((j : ℕ) → j < l → P j) → AllByRecursion P (span_slots x i)
  all_cut P i h a = all_from P (span x i).0 ((span x i).1 - (span x i).0) (λ j t. a ((span x i).0 + j) (omega (arith, k.inside i h, k.ordered i h)))

module _ (m : Model) (pick : Pick) where
  -- slot j of column p, as a value of a type of this shape and fields under field n; and the values of the whole column
  abbrev pub value_of : Shape → Forest Field → ℕ → ℕ → ℕ → Value
  value_of s below n p j = (literal_at s (at m p) j, cond (null (at m p) j) none (parts m pick below s (n + 1) p j))

  abbrev pub column_of : Shape → Forest Field → ℕ → ℕ → List Value
  column_of s below n p = each (value_of s below n p) (upto (at m p).len)

  column_length : (s : Shape) (below : Forest Field) (n p : ℕ) → length (column_of s below n p) ≡ (at m p).len
  column_length s below n p = length_slots (value_of s below n p) (at m p).len

  column-slot : (s : Shape) (below : Forest Field) (n p j : ℕ) → j < (at m p).len → slot (column_of s below n p) j ≡ value_of s below n p j
  column-slot s below n p j h = slot_at (value_of s below n p) (at m p).len j (null_literal, none) h

  column-null : (s : Shape) (below : Forest Field) (n p j : ℕ) → j < (at m p).len → is_null_literal (slot (column_of s below n p) j).0 ≡ null (at m p) j
  column-null s below n p j h = ap (λ (v : Value). is_null_literal v.0) (column-slot s below n p j h) ∙ item_null s (at m p) j

  -- a primitive
  module _ (cells : ℕ) (k : Primitive) (n c taken : ℕ) where
    prim_agrees : type_at m n ≡ Some (prim k, none) → missing m c ≡ false → Agrees (close (converter m cells) (prim k) n c [] taken) (own_hook m cells (prim k) none n c taken) (column_of (prim k) none n c)
    prim_agrees e seen =
        agrees_sought m (prim_of (type_at m n)) k n c _ taken _ _ (ap prim_of e) seen
        (agrees_test (accepts k (at m c).code) (fault 14 c n) _ taken _ _
        (agrees_as _ (takes cells n c (at m c).len taken) _ _
        (each_equal _ (value_of (prim k) none n c) (upto (at m c).len) (all_upto _ (at m c).len (λ i h. ap (λ (v : Values). (literal_at (prim k) (at m c) i, v)) (sym (cond_same (null (at m c) i) none)))))
        (agrees_taking m cells n c (at m c).len taken _)))

-- a key's value has no parts, and keys that are not null are compared as their slots are
plain-parts : (m : Model) (pick : Pick) (s : Shape) (below : Forest Field) (n p j : ℕ) → Plain s → Exactly s below → (value_of m pick s below n p j).1 ≡ none
plain-parts m pick (prim k) none n p j h e = cond_same (null (at m p) j) none
plain-parts m pick (prim k) (tree f below rest) n p j h e = absurd e
plain-parts m pick struct below n p j h e = absurd h
plain-parts m pick list below n p j h e = absurd h
plain-parts m pick map below n p j h e = absurd h

alike_item : (s : Shape) → Plain s → (x : Column) → Bytes x.body → (i j : ℕ) → null x i ≡ false → null x j ≡ false → same_literal (literal_at s x i) (literal_at s x j) ≡ same_by s x i j
alike_item (prim p) h x b i j e f = ap₂ (λ (u v : Bool). same_literal (cond u null_literal (primitive_literal p x i)) (cond v null_literal (primitive_literal p x j))) e f ∙ alike_key x b i j p
alike_item struct h x b i j e f = absurd h
alike_item list h x b i j e f = absurd h
alike_item map h x b i j e f = absurd h

module _ (m : Model) (pick : Pick) (cells : ℕ) where
  -- the results of the fields below a type
  abbrev pub results : Forest Field → Shape → ℕ → ℕ → ℕ → List (List Value)
  results none s up n c = []
  results (tree f below rest) s up n c = column_of m pick f.shape below n (partner_column m pick s up c n) ∷ results rest s up (n + 1 + size below) c

  results_count : (fs : Forest Field) (s : Shape) (up n c : ℕ) → length (results fs s up n c) ≡ count fs
  results_count none s up n c = refl
  results_count (tree f below rest) s up n c = omega (arith, results_count rest s up (n + 1 + size below) c)

  -- the nulls of a result in the spans of slots that are not null are those of the column
  null-holds : (s : Shape) (below : Forest Field) (n c q : ℕ) → Cuts (at m c).len (at m q).len (λ i. (span (at m c) i).0) (λ i. (span (at m c) i).1)
      → null_in_span (at m c) (at m c).len (column_of m pick s below n q) ≡ null_in_spans m c q
  null-holds s below n c q k = any_equal _ _ (upto (at m c).len) (all_upto _ (at m c).len (λ i h.
      ap (λ (b : Bool). not (null (at m c) i) && b) (any_equal _ _ (span_slots (at m c) i) (all_cut (at m c) (at m q).len k _ i h (λ j t. column-null m pick s below n q j t)))))

  module _ (keeps : Premises m) (mine : Own m pick) where
    -- a struct's fields have its length, and side by side they are its parts
    mate_length : (c n : ℕ) → IsPartner m pick struct c n → (at m (or_zero (pick c n))).len ≡ (at m c).len
    mate_length c n k = keeps.level c (or_zero (pick c n)) k.0 (mine c n (or_zero (pick c n)) k.1)

    struct_even : (fs : Forest Field) (up n c taken t : ℕ) → check_fields m pick cells fs struct up n c taken ≡ Ok t → uneven (at m c).len (results fs struct up n c) ≡ false
    struct_even none up n c taken t e = refl
    struct_even (tree f below rest) up n c taken t e =
        let st = step m pick cells f below rest struct up n c taken t e in
        let l : length (column_of m pick f.shape below n (or_zero (pick c n))) ≡ (at m c).len = column_length m pick f.shape below n (or_zero (pick c n)) ∙ mate_length c n st.0 in
        cond-true (eqb (length (column_of m pick f.shape below n (or_zero (pick c n)))) (at m c).len) _ _ (eq-eqb _ (at m c).len l)
        ∙ struct_even rest up (n + 1 + size below) c st.1.t₃ t st.1.after

    struct_across : (fs : Forest Field) (up n c taken t : ℕ) → check_fields m pick cells fs struct up n c taken ≡ Ok t → (i : ℕ) → i < (at m c).len
        → field_parts (results fs struct up n c) i ≡ parts m pick fs struct n c i
    struct_across none up n c taken t e i h = refl
    struct_across (tree f below rest) up n c taken t e i h =
        let st = step m pick cells f below rest struct up n c taken t e in
        let l : (at m (or_zero (pick c n))).len ≡ (at m c).len = mate_length c n st.0 in
        ap₂ put_before (column-slot m pick f.shape below n (or_zero (pick c n)) i (omega arith)) (struct_across rest up (n + 1 + size below) c st.1.t₃ t st.1.after i h)

    struct_agrees : (fs : Forest Field) (n c taken t : ℕ) → type_at m n ≡ Some (struct, fs) → missing m c ≡ false → check_fields m pick cells fs struct n (n + 1) c taken ≡ Ok t
        → Agrees (close (converter m cells) struct n c (results fs struct n (n + 1) c) t) (own_hook m cells struct fs n c t) (column_of m pick struct fs n c)
    struct_agrees fs n c taken t e seen k =
        agrees_sought m (struct_of (type_at m n)) tt n c _ t _ _ (ap struct_of e) seen
        (agrees_pass (uneven (at m c).len rs) (fault 17 c n) _ t _ _ (struct_even fs n (n + 1) c taken t k)
        (subst (λ (l : ℕ). Agrees (refuse_if (eqb l 0 && not (struct? m c)) (fault 14 c n) (taking m cells n c ((at m c).len + l * (at m c).len) vs) t) (own_hook m cells struct fs n c t) (column_of m pick struct fs n c))
        (sym (results_count fs struct n (n + 1) c))
        (agrees_refuse_if (eqb (count fs) 0 && not (struct? m c)) (fault 14 c n) _ t _ _ (λ _.
        agrees_as _ (takes cells n c ((at m c).len + count fs * (at m c).len) t) vs (column_of m pick struct fs n c) same (agrees_taking m cells n c ((at m c).len + count fs * (at m c).len) t vs)))))
      where
        rs : List (List Value)
        rs = results fs struct n (n + 1) c

        vs : List Value
        vs = row_values (at m c) (at m c).len struct_literal (field_parts rs)

        same : vs ≡ column_of m pick struct fs n c
        same = each_equal _ (value_of m pick struct fs n c) (upto (at m c).len) (all_upto _ (at m c).len (λ i h.
            ap (λ (ps : Values). (literal_at struct (at m c) i, cond (null (at m c) i) none ps)) (struct_across fs n (n + 1) c taken t k i h)))

  -- a list, whose elements are what its spans cut out of the child's values
  module _ (keeps : Premises m) (g : Field) (under : Forest Field) (n c t : ℕ) (ty : type_at m n ≡ Some (list, tree g under none)) (seen : missing m c ≡ false) (kind : list? m c ≡ true) where
    abbrev child : ℕ
    child = child_at m c 0

    abbrev inside : List Value
    inside = column_of m pick g.shape under (n + 1) child

    list_spans : Cuts (at m c).len (at m child).len (λ i. (span (at m c) i).0) (λ i. (span (at m c) i).1)
    list_spans = list-cuts (at m c).code (at m c) (at m child).len kind (keeps.cutting c)

    list-parts : (i : ℕ) → i < (at m c).len → elements (at m c) inside i ≡ parts m pick (tree g under none) list (n + 1) c i
    list-parts i h = joined_equal _ _ (span_slots (at m c) i) (all_cut (at m c) (at m child).len list_spans _ i h (λ j b.
        ap (λ (v : Value). put_before v none) (column-slot m pick g.shape under (n + 1) child j b)))

    list-rows : row_values (at m c) (at m c).len list_literal (elements (at m c) inside) ≡ column_of m pick list (tree g under none) n c
    list-rows = each_equal _ (value_of m pick list (tree g under none) n c) (upto (at m c).len) (all_upto _ (at m c).len (λ i h.
        ap (λ (ps : Values). (literal_at list (at m c) i, cond (null (at m c) i) none ps)) (list-parts i h)))

    -- the step behind the column's kind, for a result of this length and so many rows
    abbrev list_body : ℕ → ℕ → Step ℕ (List Value)
    list_body l rows =
        refuse_if (past_end (at m c) rows l) (fault 20 c n)
        (refuse_if (g.required && null_in_span (at m c) rows inside) (fault 16 c n)
        (taking m cells n c rows (row_values (at m c) rows list_literal (elements (at m c) inside))))

    list-body : Agrees (list_body (at m child).len (at m c).len t) (own_hook m cells list (tree g under none) n c t) (column_of m pick list (tree g under none) n c)
    list-body =
        agrees_pass (past_end (at m c) (at m c).len (at m child).len) (fault 20 c n) _ t _ _ (none-past (at m c) (at m child).len list_spans)
        (agrees_retest (g.required && null_in_span (at m c) (at m c).len inside) (g.required && null_in_spans m c child) (fault 16 c n) _ t _ _
        (ap (λ (b : Bool). g.required && b) (null-holds g.shape under (n + 1) c child list_spans)) (λ _.
        agrees_as _ (takes cells n c (at m c).len t) _ _ list-rows (agrees_taking m cells n c (at m c).len t _)))

    list_agrees : Agrees (close (converter m cells) list n c (results (tree g under none) list n (n + 1) c) t) (own_hook m cells list (tree g under none) n c t) (column_of m pick list (tree g under none) n c)
    list_agrees =
        agrees_sought m (list_of (type_at m n)) g.required n c _ t _ _ (ap list_of ty) seen
        (agrees_pass (not (list? m c)) (fault 12 c n) _ t _ _ (not_from_true (list? m c) kind)
        (subst (λ (l : ℕ). Agrees (list_body l (list_rows (at m c).code (at m c).len l) t) (own_hook m cells list (tree g under none) n c t) (column_of m pick list (tree g under none) n c))
        (sym (column_length m pick g.shape under (n + 1) child))
        (subst (λ (rows : ℕ). Agrees (list_body (at m child).len rows t) (own_hook m cells list (tree g under none) n c t) (column_of m pick list (tree g under none) n c))
        (sym (rows_by (at m c).code (at m c) (at m child).len (keeps.cutting c)))
        list-body)))

  -- a map, whose pairs are kept by the keys' values
  module _ (keeps : Premises m) (f g : Field) (kb vb : Forest Field) (n c t : ℕ) (ty : type_at m n ≡ Some (map, tree f kb (tree g vb none))) (seen : missing m c ≡ false) (kind : map? m c ≡ true)
      (plain : Plain f.shape) (bare' : Exactly f.shape kb) where
    abbrev keyed : ℕ
    keyed = child_at m c 0

    abbrev valued : ℕ
    valued = child_at m c 1

    abbrev later : ℕ
    later = n + 1 + 1 + size kb

    abbrev keys : List Value
    keys = column_of m pick f.shape kb (n + 1) keyed

    abbrev vals : List Value
    vals = column_of m pick g.shape vb later valued

    abbrev fields : Forest Field
    fields = tree f kb (tree g vb none)

    abbrev same : ℕ → ℕ → Bool
    same = same_by f.shape (at m keyed)

    level : (at m valued).len ≡ (at m keyed).len
    level = keeps.paired c kind

    key_spans : Cuts (at m c).len (at m keyed).len (λ i. (span (at m c) i).0) (λ i. (span (at m c) i).1)
    key_spans = map-cuts (at m c).code (at m c) (at m keyed).len kind (keeps.cutting c)

    value_spans : Cuts (at m c).len (at m valued).len (λ i. (span (at m c) i).0) (λ i. (span (at m c) i).1)
    value_spans = subst (λ (l : ℕ). Cuts (at m c).len l (λ i. (span (at m c) i).0) (λ i. (span (at m c) i).1)) (sym level) key_spans

    -- a key slot within the result that is not null
    abbrev Live : ℕ → Type 0
    Live j = (j < (at m keyed).len) × (null (at m keyed) j ≡ false)

    module _ (whole : null_in_spans m c keyed ≡ false) where
      live_cut : (i : ℕ) → i < (at m c).len → null (at m c) i ≡ false → AllByRecursion Live (span_slots (at m c) i)
      live_cut i h e =
          let test : ℕ → Bool = λ i. not (null (at m c) i) && any_of (λ j. null (at m keyed) j) (span_slots (at m c) i) in
          let a : test i ≡ false = upto-at (λ i. test i ≡ false) (at m c).len (none_any test (upto (at m c).len) whole) i h in
          let b : any_of (λ j. null (at m keyed) j) (span_slots (at m c) i) ≡ false = sym (ap (λ (u : Bool). not u && any_of (λ j. null (at m keyed) j) (span_slots (at m c) i)) e) ∙ a in
          all_both (λ j. j < (at m keyed).len) (λ j. null (at m keyed) j ≡ false) (span_slots (at m c) i)
          (all_cut (at m c) (at m keyed).len key_spans (λ j. j < (at m keyed).len) i h (λ j q. q)) (none_any (λ j. null (at m keyed) j) (span_slots (at m c) i) b)

      alike_slots : (i j : ℕ) → Live i → Live j → same_literal (slot keys i).0 (slot keys j).0 ≡ same i j
      alike_slots i j a b =
          ap₂ (λ (u v : Value). same_literal u.0 v.0) (column-slot m pick f.shape kb (n + 1) keyed i a.0) (column-slot m pick f.shape kb (n + 1) keyed j b.0)
          ∙ alike_item f.shape plain (at m keyed) (keeps.bytes keyed) i j a.1 b.1

      pairs_slots : (i : ℕ) → i < (at m c).len → null (at m c) i ≡ false → kept_pairs (at m c) keys i ≡ kept same (span_slots (at m c) i)
      pairs_slots i h e = pairs_same Live (λ a b. same_literal (slot keys a).0 (slot keys b).0) same alike_slots (span_slots (at m c) i) (live_cut i h e)

      abbrev pair : ℕ × ℕ → Values
      pair kv = put_before (slot keys kv.0) (put_before (slot vals kv.1) none)

      abbrev shown : ℕ × ℕ → Values
      shown kv = tree (literal_at f.shape (at m keyed) kv.0) none (tree (literal_at g.shape (at m valued) kv.1) (cond (null (at m valued) kv.1) none (parts m pick vb g.shape (later + 1) valued kv.1)) none)

      pair-shown : (kv : ℕ × ℕ) → Live kv.0 × Live kv.1 → pair kv ≡ shown kv
      pair-shown kv l =
          ap₂ (λ (u v : Value). put_before u (put_before v none)) (column-slot m pick f.shape kb (n + 1) keyed kv.0 l.0.0) (column-slot m pick g.shape vb later valued kv.1 (omega (arith, level, l.1.0)))
          ∙ ap (λ (ps : Values). tree (literal_at f.shape (at m keyed) kv.0) ps (put_before (value_of m pick g.shape vb later valued kv.1) none)) (plain-parts m pick f.shape kb (n + 1) keyed kv.0 plain bare')

      map-parts : (i : ℕ) → i < (at m c).len → null (at m c) i ≡ false → entries (at m c) keys vals i ≡ parts m pick fields map (n + 1) c i
      map-parts i h e =
          ap (joined pair) (pairs_slots i h e)
          ∙ joined_equal pair shown (kept same (span_slots (at m c) i)) (All-weaker (λ kv. Live kv.0 × Live kv.1) (λ kv. pair kv ≡ shown kv) pair-shown (kept same (span_slots (at m c) i)) (pairs_in Live same (span_slots (at m c) i) (live_cut i h e)))

      map_rows : row_values (at m c) (at m c).len map_literal (entries (at m c) keys vals) ≡ column_of m pick map fields n c
      map_rows = each_equal _ (value_of m pick map fields n c) (upto (at m c).len) (all_upto _ (at m c).len (λ i h.
          ap (λ (ps : Values). (literal_at map (at m c) i, ps)) (cond_parts (null (at m c) i) _ _ (map-parts i h))))

      length_slot : (i : ℕ) (b : Bool) → (b ≡ false → kept_pairs (at m c) keys i ≡ kept same (span_slots (at m c) i)) → cond b 0 (length (kept_pairs (at m c) keys i)) ≡ cond b 0 (length (kept same (span_slots (at m c) i)))
      length_slot i true e = refl
      length_slot i false e = ap length (e refl)

      map_cells : pair_cells (at m c) keys ≡ 2 * sum (λ i. cond (null (at m c) i) 0 (length (kept same (span_slots (at m c) i)))) (upto (at m c).len)
      map_cells = ap (λ k. 2 * k) (sum_equal _ _ (upto (at m c).len) (all_upto _ (at m c).len (λ i h. length_slot i (null (at m c) i) (pairs_slots i h))))

      map-takes : Agrees (taking m cells n c ((at m c).len + pair_cells (at m c) keys) (row_values (at m c) (at m c).len map_literal (entries (at m c) keys vals)) t)
          (takes cells n c ((at m c).len + 2 * sum (λ i. cond (null (at m c) i) 0 (length (kept same (span_slots (at m c) i)))) (upto (at m c).len)) t) (column_of m pick map fields n c)
      map-takes =
          let vs : List Value = row_values (at m c) (at m c).len map_literal (entries (at m c) keys vals) in
          agrees_as _ (takes cells n c ((at m c).len + 2 * sum (λ i. cond (null (at m c) i) 0 (length (kept same (span_slots (at m c) i)))) (upto (at m c).len)) t) vs _ map_rows
          (subst (λ (k : ℕ). Agrees (taking m cells n c ((at m c).len + pair_cells (at m c) keys) vs t) (takes cells n c ((at m c).len + k) t) vs) map_cells
          (agrees_taking m cells n c ((at m c).len + pair_cells (at m c) keys) t vs))

    map-body : Agrees (close (converter m cells) map n c (keys ∷ (vals ∷ [])) t) (own_hook m cells map fields n c t) (column_of m pick map fields n c)
    map-body =
        agrees_sought m (map_of (type_at m n)) g.required n c _ t _ _ (ap map_of ty) seen
        (agrees_pass (not (map? m c)) (fault 13 c n) _ t _ _ (not_from_true (map? m c) kind)
        (agrees_pass (not (eqb (length keys) (length vals))) (fault 18 c n) _ t _ _ (not_from_true (eqb (length keys) (length vals)) (eq-eqb (length keys) (length vals)
        (column_length m pick f.shape kb (n + 1) keyed ∙ (sym level ∙ sym (column_length m pick g.shape vb later valued)))))
        (agrees_pass (past_end (at m c) (at m c).len (length keys)) (fault 20 c n) _ t _ _
        (ap (past_end (at m c) (at m c).len) (column_length m pick f.shape kb (n + 1) keyed) ∙ none-past (at m c) (at m keyed).len key_spans)
        (agrees_retest (null_in_span (at m c) (at m c).len keys) (null_in_spans m c keyed) (fault 19 c n) _ t _ _ (null-holds f.shape kb (n + 1) c keyed key_spans) (λ whole.
        agrees_retest (g.required && null_in_span (at m c) (at m c).len vals) (g.required && null_in_spans m c valued) (fault 16 c n) _ t _ _
        (ap (λ (b : Bool). g.required && b) (null-holds g.shape vb later c valued value_spans)) (λ _.
        map-takes whole))))))

    key_target : partner_column m pick map n c (n + 1) ≡ keyed
    key_target = ap (λ (b : Bool). child_at m c (cond b 0 1)) (eq-eqb (n + 1) (n + 1) refl)

    value_target : partner_column m pick map n c later ≡ valued
    value_target = ap (λ (b : Bool). child_at m c (cond b 0 1)) (ne_eqb later (n + 1) (λ h. omega arith))

    map_agrees : Agrees (close (converter m cells) map n c (results fields map n (n + 1) c) t) (own_hook m cells map fields n c t) (column_of m pick map fields n c)
    map_agrees =
        subst (λ (p : ℕ). Agrees (close (converter m cells) map n c (column_of m pick f.shape kb (n + 1) p ∷ (column_of m pick g.shape vb later (partner_column m pick map n c later) ∷ [])) t) (own_hook m cells map fields n c t) (column_of m pick map fields n c))
        (sym key_target)
        (subst (λ (q : ℕ). Agrees (close (converter m cells) map n c (keys ∷ (column_of m pick g.shape vb later q ∷ [])) t) (own_hook m cells map fields n c t) (column_of m pick map fields n c))
        (sym value_target) map-body)

  -- the hook of any type, on the results of the fields that it holds
  pub close_agrees : Premises m → Own m pick → (s : Shape) (below : Forest Field) (n c taken t : ℕ) → type_at m n ≡ Some (s, below) → missing m c ≡ false → Exactly s below → Formed below
      → check_fields m pick cells below s n (n + 1) c taken ≡ Ok t → Agrees (close (converter m cells) s n c (results below s n (n + 1) c) t) (own_hook m cells s below n c t) (column_of m pick s below n c)
  close_agrees keeps mine (prim k) none n c taken t ty seen ex fo e = prim_agrees m pick cells k n c t ty seen
  close_agrees keeps mine (prim k) (tree f below rest) n c taken t ty seen ex fo e = absurd ex
  close_agrees keeps mine struct below n c taken t ty seen ex fo e = struct_agrees keeps mine below n c taken t ty seen e
  close_agrees keeps mine list none n c taken t ty seen ex fo e = absurd ex
  close_agrees keeps mine list (tree g under none) n c taken t ty seen ex fo e = list_agrees keeps g under n c t ty seen (step m pick cells g under none list n (n + 1) c taken t e).0
  close_agrees keeps mine list (tree g under (tree h over rest)) n c taken t ty seen ex fo e = absurd ex
  close_agrees keeps mine map none n c taken t ty seen ex fo e = absurd ex
  close_agrees keeps mine map (tree f kb none) n c taken t ty seen ex fo e = absurd ex
  close_agrees keeps mine map (tree f kb (tree g vb none)) n c taken t ty seen ex fo e =
      map_agrees keeps f g kb vb n c t ty seen (step m pick cells f kb (tree g vb none) map n (n + 1) c taken t e).0 ex fo.0
  close_agrees keeps mine map (tree f kb (tree g vb (tree h over rest))) n c taken t ty seen ex fo e = absurd ex

  -- `field`: the nulls of a required field's result are those of its column, at the slots of the struct that holds it
  module _ (keeps : Premises m) (mine : Own m pick) (f : Field) (below : Forest Field) (c n : ℕ) (kind : IsPartner m pick struct c n) where
    abbrev mate : ℕ
    mate = or_zero (pick c n)

    abbrev mated : List Value
    mated = column_of m pick f.shape below n mate

    mate_len : (at m mate).len ≡ (at m c).len
    mate_len = mate_length keeps mine c n kind

    mate_holder : holder m mate ≡ c
    mate_holder = held_child m c mate (mine c n mate kind.1)

    -- the test, by the holder and the number of slots
    abbrev bare_by : ℕ → ℕ → Bool
    bare_by h l = any_of (λ i. not (struct? m h && null (at m h) i) && is_null_literal (slot mated i).0) (upto l)

    bare_slot : (i : ℕ) → i < (at m c).len → (not (struct? m c && null (at m c) i) && is_null_literal (slot mated i).0) ≡ (not (null (at m c) i) && null (at m mate) i)
    bare_slot i h = ap₂ (λ (u v : Bool). not (u && null (at m c) i) && v) kind.0 (column-null m pick f.shape below n mate i (omega (arith, mate_len)))

    bare_same : null_required m cells mate mated ≡ any_of (λ i. not (null (at m c) i) && null (at m mate) i) (upto (at m c).len)
    bare_same =
        ap₂ bare_by mate_holder (column_length m pick f.shape below n mate ∙ mate_len)
        ∙ any_equal _ _ (upto (at m c).len) (all_upto _ (at m c).len bare_slot)

    pub field_agrees : (t : ℕ) → field_at m n ≡ Some (f, below) → Agrees (field_step m cells n mate mated t) (field_hook m struct f n c mate t) mated
    field_agrees t e =
        agrees_sought m (required_of (field_at m n)) f.required n mate _ t _ _ (ap required_of e) (found_child m c mate (mine c n mate kind.1))
        (agrees_retest (f.required && null_required m cells mate mated) (f.required && any_of (λ i. not (null (at m c) i) && null (at m mate) i) (upto (at m c).len)) (fault 15 mate n) _ t _ _
        (ap (λ (b : Bool). f.required && b) bare_same) (λ _. refl))

  -- what follows a field's type: `field` for a struct's field, and nothing for an element, a key or a value
  pub finish_agrees : Premises m → Own m pick → (s : Shape) (f : Field) (below : Forest Field) (up n c t : ℕ) → IsPartner m pick s c n → field_at m n ≡ Some (f, below)
      → Agrees (finish (converter m cells) (role s up n) n (partner_column m pick s up c n) (column_of m pick f.shape below n (partner_column m pick s up c n)) t)
      (field_hook m s f n c (partner_column m pick s up c n) t) (column_of m pick f.shape below n (partner_column m pick s up c n))
  finish_agrees keeps mine (prim k) f below up n c t kind e = absurd kind
  finish_agrees keeps mine struct f below up n c t kind e = field_agrees keeps mine f below c n kind t e
  finish_agrees keeps mine list f below up n c t kind e = refl
  finish_agrees keeps mine map f below up n c t kind e = go (eqb n (up + 1))
    where
      go : (b : Bool) → finish (converter m cells) (cond b map_key map_value) n (partner_column m pick map up c n) (column_of m pick f.shape below n (partner_column m pick map up c n)) t ≡ (Ok (column_of m pick f.shape below n (partner_column m pick map up c n)), t)
      go true = refl
      go false = refl

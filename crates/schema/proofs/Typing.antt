-- A field and its type, against the definitions `fielded` and `typed`.
use Rattle.std.proofs.Common.{◌≡◌, ℕ, ◌+◌, ◌-◌, ◌≤◌, Bool, true, false, cond, ◌&&◌, ◌||◌, eqb, leb, List, length, set, ℤ, Ok, Err, Result, sym, refl, ap, ◌∙◌, subst}
use Rattle.meaning.specs.Forest.{Forest, none, tree}
use Rattle.meaning.specs.Model as model
use Rattle.meaning.specs.Items.{field, BatchFault as Fault, Rest, Read, refused, carry, give, exactly, byte, flag, text, little, signed}
use Rattle.meaning.specs.Schema.{fields, Fields, Type', Kind, kind_of, nested, type_by, typed}
use Rattle.std.specs.Result.{MatchResult, IsErrAnd}
use Rattle.schema.specs.declared.code.Form.{Form}
use Rattle.schema.specs.declared.code.UnknownType.{UnknownType}
use Rattle.items.specs.declared.reader.Reader.{Reader}
use Rattle.items.specs.declared.reader.Span.{Span}
use Rattle.schema.specs.declared.types.Kind.{Kind as Kind'}
use Rattle.schema.specs.Forms.{shape_of, formed, decimal?, Formed}
use Rattle.items.specs.Reading.{Inside, file, rest, part, id_from}
use Rattle.schema.specs.Fields.{FieldEntry, field_of, field_table, one_field}
use Rattle.items.specs.Tables.{Filled, Fills}
use Rattle.items.proofs.Filling.{filled-tree}
use Rattle.items.proofs.Taken.{if_false, listed-byte, then_then}

-- the head of a field, once its type is read
abbrev pub headed : ℤ → Bool → List ℕ → Result (Type' × Rest) Fault → Result (Forest model.Field × Rest) Fault
headed id required name t =
    carry (λ (f : model.Field × Forest model.Field). give (tree f.0 f.1 none))
    (carry (λ (t : Type'). give (record { id = id; required = required; name = name; shape = t.0 }, t.1)) t)

module _ (kids : Fields) (key : Bool) (n : ℕ) where
  abbrev after_name : ℤ → Bool → List ℕ → Read (model.Field × Forest model.Field)
  after_name id required name r = carry (λ t. give (record { id = id; required = required; name = name; shape = t.0 }, t.1)) (typed kids key n r)

  abbrev after_flag : ℤ → Bool → Read (model.Field × Forest model.Field)
  after_flag id required r = carry (λ name. after_name id required name) (text (field n) r)

  abbrev after_id : ℤ → Read (model.Field × Forest model.Field)
  after_id id r = carry (λ required. after_flag id required) (flag (field n) r)

  -- id, flag and name are read: what the type gives is what the field gives
  pub field-from :
      (id : ℤ) (required : Bool) (name : List ℕ) (r r1 r2 r3 : Rest) → Ok (id, r1) ≡ id_from (field n) r → Ok (required, r2) ≡ flag (field n) r1 → Ok (name, r3) ≡ text (field n) r2
      → headed id required name (typed kids key n r3) ≡ one_field kids key n r
  field-from id required name r r1 r2 r3 e1 e2 e3 =
      ap (carry (λ f. give (tree f.0 f.1 none)))
      (ap (carry (λ name. after_name id required name)) e3 ∙ ap (carry (λ required. after_flag id required)) e2 ∙ ap (carry after_id) e1 ∙ then_then after_id (λ bs. give (signed 4 (little bs))) (exactly (field n) 4 r))

  -- how the type goes on after a code that is listed
  abbrev goes_on : ℕ → Read Type'
  goes_on c r = cond (eqb c 6 || (key && nested (kind_of c))) (refused 7 (r.at - 1) (field n)) (type_by kids n (kind_of c) r)

  coded : (c : ℕ) (r r1 : Rest) → Ok (c, r1) ≡ byte (field n) (λ _. true) r → (leb 1 c && leb c 19) ≡ true → goes_on c r1 ≡ typed kids key n r
  coded c r r1 e l = ap (carry goes_on) (listed-byte (field n) (λ c. leb 1 c && leb c 19) c r r1 e l)

  never : (b : Bool) → (b && false) ≡ false
  never true = refl
  never false = refl

  -- a type that no key is forbidden
  pub simple : (c : ℕ) (k : Kind) (r r1 : Rest) → Ok (c, r1) ≡ byte (field n) (λ _. true) r → (leb 1 c && leb c 19) ≡ true → kind_of c ≡ k → eqb c 6 ≡ false → nested k ≡ false
      → type_by kids n k r1 ≡ typed kids key n r
  simple c k r r1 e l is six flat =
      let open_code : (eqb c 6 || (key && nested (kind_of c))) ≡ false =
      ap (λ b. b || (key && nested (kind_of c))) six ∙ ap (λ k. key && nested k) is ∙ ap (λ b. key && b) flat ∙ never key
      in
      ap (λ k. type_by kids n k r1) (sym is) ∙ sym (if_false (refused 7 (r1.at - 1) (field n)) (type_by kids n (kind_of c) r1) open_code) ∙ coded c r r1 e l

-- a form that is left where an error was turned into a fault
pub formed_after : {B : Type 0} (Q : UnknownType → B → Type 0) (c : ℕ) (r : Result Form UnknownType) (m : Result Form B) (form : Form)
    → Formed c r → MatchResult r (λ x. m ≡ Ok x) (λ e. IsErrAnd m (Q e)) → m ≡ Ok form → Formed c (Ok form)
formed_after Q c (Ok x) m form f k e = let same : x ≡ form = cc in subst (λ x. Formed c (Ok x)) same f
formed_after Q c (Err e) (Ok x) form f k p = absurd k
formed_after Q c (Err e) (Err x) form f k p = absurd cc

-- the same by the form that the code takes the code byte for
pub by_form :
    (kids : Fields) (key : Bool) (n c : ℕ) (form k : Form) (r r1 : Rest) → Formed c (Ok form) → form ≡ k → decimal? k ≡ false → nested (formed k) ≡ false
    → Ok (c, r1) ≡ byte (field n) (λ _. true) r → type_by kids n (formed k) r1 ≡ typed kids key n r
by_form kids key n c form k r r1 f is six flat e =
    simple kids key n c (formed k) r r1 e f.0 (f.1 ∙ ap (λ k. formed k) is) (f.2 ∙ ap (λ k. decimal? k) is ∙ six) flat

-- the whole field: its head is written over what its type holds
pub field-read :
    (level : ℕ) (key : Bool) (n : ℕ) (before r1 r2 r3 after : Reader) (id id' : ℤ) (required : Bool) (name : Span) (kind : Kind') (end : ℕ) (old mid : List FieldEntry) (below : Forest model.Field)
    → id' ≡ id → file r1 ≡ file before → file r2 ≡ file r1 → file r3 ≡ file r2 → file after ≡ file r3 → Ok (id, rest r1) ≡ id_from (field n) (rest before)
    → Ok (required, rest r2) ≡ flag (field n) (rest r1) → Ok (part (file r2) name, rest r3) ≡ text (field n) (rest r2) → Inside (file r2) name
    → Ok ((shape_of kind, below), rest after) ≡ typed (fields level) key n (rest r3) → Filled field_table (file r3) old mid (n + 1) end below → 1 ≤ n → n ≤ length mid
    → Fills field_table (λ _. end) (λ _ (fs : Forest model.Field). fs) (one_field (fields level) key n) n before old (Ok (tt {0})) after
    (set mid (n - 1) (record { id = id'; required = required; name = name; kind = kind; end = end }))
field-read level key n before r1 r2 r3 after id id' required name kind end old mid below z s1 s2 s3 s4 e1 e2 e3 inside e4 fill pos fits =
    let entry : FieldEntry = record { id = id'; required = required; name = name; kind = kind; end = end } in
    let head : field_of (file before) entry ≡ record { id = id; required = required; name = part (file r2) name; shape = shape_of kind } =
    ap (λ i. record { id = i; required = required; name = part (file before) name; shape = shape_of kind }) z
    ∙ ap (λ b. record { id = id; required = required; name = part b name; shape = shape_of kind }) (sym (s2 ∙ s1))
    in
    record {
      same = s4 ∙ s3 ∙ s2 ∙ s1;
      does = (
        tree (field_of (file before) entry) below none,
        ap (λ h. Ok (tree h below none, rest after)) head ∙ ap (headed id required (part (file r2) name)) e4
            ∙ field-from (fields level) key n id required (part (file r2) name) (rest before) (rest r1) (rest r2) (rest r3) e1 e2 e3,
        filled-tree field_table (file before) old mid n end entry below pos fits refl (subst (λ b. Inside b name) (s2 ∙ s1) inside) (subst (λ b. Filled field_table b old mid (n + 1) end below) (s3 ∙ s2 ∙ s1) fill),
      );
    }

-- The fields of a schema: written and read back, read and written again.
use Rattle.std.proofs.Common.{◌≡◌, ℕ, zero, suc, ◌+◌, ◌-◌, ◌^◌, ◌<◌, ◌≤◌, Bool, true, false, cond, ◌&&◌, ◌||◌, eqb, ltb, leb, List, [], ◌∷◌, ◌++◌, length, sym, refl, ap, ◌∙◌, subst, inl, inr, append_assoc, append-nil, arith}
use Rattle.std.proofs.lemmas.Bool.{cases_Bool, ltb-false, leb-true, le-ltb, eq-eqb, and_parts, both_ways, cases_lt}
use Rattle.meaning.specs.Forest.{Forest, none, tree, size, count}
use Rattle.meaning.specs.Model.{Field, Shape, prim, struct, list, map, Primitive, boolean, int, long, float, double, date, time, timestamp, timestamptz, timestamp_ns, timestamptz_ns, string, uuid, fixed, binary}
use Rattle.meaning.specs.Items.{field, Rest, refused, ◌then◌, give, byte, little, signed}
use Rattle.meaning.specs.Schema.{Kind, plain, sized, group, one, pair, decimal, kind_of, Fields, Type', nested, type_by, typed, fielded, siblings, fields}
use Rattle.meaning.specs.Encode.{numeral as number_bytes, text as text_bytes, flag as flag_bytes, fixed_width, unsigned, primitive_code, shape_code, field_bytes}
use Rattle.meaning.specs.Keeps.{levels, Bytes, Short, InRange, Sized, Plain, KeyFirst, Holds, FieldsKeep}
use Rattle.meaning.proofs.Widths.{width_back, width_again, id_back, id_below, id_again}
use Rattle.meaning.proofs.Readers.{Reads, Came, Both, reads_then, reads-give, parts, refused_not, given, exactly_to, number_to, limited_to, text_to, byte_to, flag_to, Item, item, exactly-from, number-from, limited-from, text-from, byte-from, flag-from, item_then, item_same}

-- fields side by side are no more than fields in all
pub count-size : {H : Type 0} (fs : Forest H) → count fs ≤ size fs
count-size none = omega arith
count-size (tree f below rest) = omega (arith, count-size rest)

-- a key's type is primitive
abbrev KeyPlain : Bool → Shape → Type 0
KeyPlain true s = Plain s
KeyPlain false s = Unit {0}

abbrev pub Keyed : Bool → Forest Field → Type 0
Keyed true fs = KeyFirst fs
Keyed false fs = Unit {0}

keyed_none : (key : Bool) → Keyed key none
keyed_none true = tt
keyed_none false = tt

and-false : (key : Bool) → (key && false) ≡ false
and-false true = refl
and-false false = refl

-- the fields below are read back, however many are asked for and whether the first is a key
abbrev KidsTo : Fields → ℕ → Forest Field → List ℕ → Type 0
KidsTo kids n below rest = (k : ℕ) (q : Bool) (mid : List ℕ) → count below ≡ k → Keyed q below → mid ≡ field_bytes below ++ rest → Reads
    (kids k q (n + 1)) below mid rest

-- a type's code, then what it asks for
code_to : (kids : Fields) (key : Bool) (n c : ℕ) (κ : Kind) (t : Type') (bs mid rest : List ℕ) → (leb 1 c && leb c 19) ≡ true → kind_of c ≡ κ
    → (eqb c 6 || (key && nested κ)) ≡ false
    → bs ≡ c ∷ mid → Reads (type_by kids n κ) t mid rest → Reads (typed kids key n) t bs rest
code_to kids key n c κ t bs mid rest l e g h p =
    reads_then _ (byte_to (field n) (λ c. leb 1 c && leb c 19) c bs mid l h) (record { reads = λ a. let k = p.reads a in (k.0, rw (e, g) k.1) })

plain_to : (kids : Fields) (key : Bool) (n c : ℕ) (p : Primitive) (below : Forest Field) (bs rest : List ℕ) → (leb 1 c && leb c 19) ≡ true → kind_of c ≡ plain p
    → eqb c 6 ≡ false
    → below ≡ none → bs ≡ c ∷ (field_bytes below ++ rest) → Reads (typed kids key n) (prim p, below) bs rest
plain_to kids key n c p below bs rest l e g z h =
    code_to kids key n c (plain p) (prim p, below) bs rest rest l e (rw g (and-false key)) (h ∙ ap (λ (u : Forest Field). c ∷ (field_bytes u ++ rest)) z)
    (reads-give (λ i. (prim p, sym z i)))

prim_to : (kids : Fields) (key : Bool) (n : ℕ) (p : Primitive) (below : Forest Field) (bs rest : List ℕ) → Sized p → below ≡ none
    → bs ≡ primitive_code p ++ (field_bytes below ++ rest) → Reads (typed kids key n) (prim p, below) bs rest
prim_to kids key n boolean below bs rest s z h = plain_to kids key n 1 boolean below bs rest refl refl refl z h
prim_to kids key n int below bs rest s z h = plain_to kids key n 2 int below bs rest refl refl refl z h
prim_to kids key n long below bs rest s z h = plain_to kids key n 3 long below bs rest refl refl refl z h
prim_to kids key n float below bs rest s z h = plain_to kids key n 4 float below bs rest refl refl refl z h
prim_to kids key n double below bs rest s z h = plain_to kids key n 5 double below bs rest refl refl refl z h
prim_to kids key n date below bs rest s z h = plain_to kids key n 7 date below bs rest refl refl refl z h
prim_to kids key n time below bs rest s z h = plain_to kids key n 8 time below bs rest refl refl refl z h
prim_to kids key n timestamp below bs rest s z h = plain_to kids key n 9 timestamp below bs rest refl refl refl z h
prim_to kids key n timestamptz below bs rest s z h = plain_to kids key n 10 timestamptz below bs rest refl refl refl z h
prim_to kids key n timestamp_ns below bs rest s z h = plain_to kids key n 11 timestamp_ns below bs rest refl refl refl z h
prim_to kids key n timestamptz_ns below bs rest s z h = plain_to kids key n 12 timestamptz_ns below bs rest refl refl refl z h
prim_to kids key n string below bs rest s z h = plain_to kids key n 13 string below bs rest refl refl refl z h
prim_to kids key n uuid below bs rest s z h = plain_to kids key n 14 uuid below bs rest refl refl refl z h
prim_to kids key n binary below bs rest s z h = plain_to kids key n 16 binary below bs rest refl refl refl z h
prim_to kids key n (fixed k) below bs rest s z h =
    code_to kids key n 15 sized (prim (fixed k), below) bs (number_bytes k ++ rest) rest refl refl (and-false key)
    (h ∙ ap (λ (u : Forest Field). (15 ∷ number_bytes k) ++ (field_bytes u ++ rest)) z)
    (reads_then _ (limited_to (field n) 65536 k (number_bytes k ++ rest) rest s (omega arith) refl) (reads-give (λ i. (prim (fixed k), sym z i))))

no_key : (key : Bool) (s : Shape) → (Plain s → ⊥) → KeyPlain key s → key ≡ false
no_key true s not k = absurd (not k)
no_key false s not k = refl

shape_to : (kids : Fields) (key : Bool) (n : ℕ) (s : Shape) (below : Forest Field) (bs rest : List ℕ) → Holds s below → KeyPlain key s → count below < 2 ^ 32
    → KidsTo kids n below rest
    → bs ≡ shape_code s (count below) ++ (field_bytes below ++ rest) → Reads (typed kids key n) (s, below) bs rest
shape_to kids key n (prim p) below bs rest d k l t h = prim_to kids key n p below bs rest d.0 d.1 h
shape_to kids key n struct below bs rest d k l t h =
    code_to kids key n 17 group (struct, below) bs (number_bytes (count below) ++ (field_bytes below ++ rest)) rest refl refl (rw (no_key key struct (λ z. z) k)) h
    (reads_then _ (number_to (field n) (count below) (number_bytes (count below) ++ (field_bytes below ++ rest)) (field_bytes below ++ rest) l refl)
    (reads_then _ (t (count below) false (field_bytes below ++ rest) refl tt refl) (reads-give refl)))
shape_to kids key n list below bs rest d k l t h =
    code_to kids key n 18 one (list, below) bs (field_bytes below ++ rest) rest refl refl (rw (no_key key list (λ z. z) k)) h
    (reads_then _ (t 1 false (field_bytes below ++ rest) d tt refl) (reads-give refl))
shape_to kids key n map below bs rest d k l t h =
    code_to kids key n 19 pair (map, below) bs (field_bytes below ++ rest) rest refl refl (rw (no_key key map (λ z. z) k)) h
    (reads_then _ (t 2 true (field_bytes below ++ rest) d.0 d.1 refl) (reads-give refl))

-- the parts of a field, bracketed as they are read
apart : (a b c d e rest : List ℕ) → (a ++ b ++ c ++ d ++ e) ++ rest ≡ a ++ (b ++ (c ++ (d ++ (e ++ rest))))
apart a b c d e rest = simp append_assoc

-- a field without the fields after it
abbrev head_bytes : Field → Forest Field → List ℕ
head_bytes f below = fixed_width 4 (unsigned f.id) ++ flag_bytes f.required ++ text_bytes f.name ++ shape_code f.shape (count below) ++ field_bytes below

fielded_to : (kids : Fields) (key : Bool) (n : ℕ) (f : Field) (below : Forest Field) (bs rest : List ℕ) → InRange f.id → Short f.name → Holds f.shape below
    → KeyPlain key f.shape
    → count below < 2 ^ 32 → KidsTo kids n below rest → bs ≡ head_bytes f below ++ rest → Reads (fielded kids key n) (f, below) bs rest
fielded_to kids key n f below bs rest i s d k l t h =
    reads_then _ (exactly_to (field n) 4 (fixed_width 4 (unsigned f.id)) bs r₁ refl
    (h ∙ apart (fixed_width 4 (unsigned f.id)) (flag_bytes f.required) (text_bytes f.name) (shape_code f.shape (count below)) (field_bytes below) rest))
    (reads_then _ (flag_to (field n) f.required r₁ r₂ refl)
    (reads_then _ (text_to (field n) f.name r₂ r₃ s refl)
    (reads_then _ (shape_to kids key n f.shape below r₃ rest d k l t refl)
    (reads-give (λ j. (record { id = same j; required = f.required; name = f.name; shape = f.shape }, below))))))
  where
    r₃ : List ℕ
    r₃ = shape_code f.shape (count below) ++ (field_bytes below ++ rest)

    r₂ : List ℕ
    r₂ = text_bytes f.name ++ r₃

    r₁ : List ℕ
    r₁ = flag_bytes f.required ++ r₂

    same : signed 4 (little (fixed_width 4 (unsigned f.id))) ≡ f.id
    same = ap (signed 4) (width_back 4 (unsigned f.id) (id_below f.id i)) ∙ id_back f.id i

-- no fields
none_to : (l k : ℕ) (key : Bool) (n : ℕ) (bs rest : List ℕ) → 0 ≡ k → bs ≡ rest → Reads (fields l k key n) none bs rest
none_to zero zero key n bs rest c h = rw h (reads-give refl)
none_to zero (suc k) key n bs rest c h = absurd (omega arith)
none_to (suc l) zero key n bs rest c h = rw h (reads-give refl)
none_to (suc l) (suc k) key n bs rest c h = absurd (omega arith)

key_first : (key : Bool) (f : Field) (below after : Forest Field) → Keyed key (tree f below after) → KeyPlain key f.shape
key_first true f below after q = q
key_first false f below after q = tt

-- a field, and those after it
more_to : (kids : Fields) (k : ℕ) (key : Bool) (n : ℕ) (f : Field) (below after : Forest Field) (bs rest : List ℕ) → n + size (tree f below after) ≤ 257
    → FieldsKeep (tree f below after) → Keyed key (tree f below after)
    → bs ≡ field_bytes (tree f below after) ++ rest → KidsTo kids n below (field_bytes after ++ rest)
    → Reads (siblings kids k false (n + 1 + size below)) after (field_bytes after ++ rest) rest
    → Reads (siblings kids (suc k) key n) (tree f below after) bs rest
more_to kids k key n f below after bs rest z p q h t u = record { reads = λ a. let t = all.reads a in (t.0, rw (le-ltb 256 n (omega arith)) t.1) }
  where
    here : Reads (fielded kids key n) (f, below) bs (field_bytes after ++ rest)
    here =
        fielded_to kids key n f below bs (field_bytes after ++ rest) p.0 p.1 p.2 (key_first key f below after q) (omega (arith, count-size below)) t
        (h ∙ append_assoc (head_bytes f below) (field_bytes after) rest)

    all : Reads (fielded kids key n then (λ f. siblings kids k false (n + 1 + size f.1) then (λ fs. give (tree f.0 f.1 fs)))) (tree f below after) bs rest
    all = reads_then _ here (reads_then _ u (reads-give refl))

-- the fields of a schema are read back
pub fields_to : (l : ℕ) (fs : Forest Field) (k : ℕ) (key : Bool) (n : ℕ) (bs rest : List ℕ) → levels fs ≤ l → n + size fs ≤ 257 → FieldsKeep fs → count fs ≡ k
    → Keyed key fs
    → bs ≡ field_bytes fs ++ rest → Reads (fields l k key n) fs bs rest
fields_to l none k key n bs rest d z p c q h = none_to l k key n bs rest c h
fields_to zero (tree f below after) k key n bs rest d z p c q h = absurd (omega arith)
fields_to (suc l) (tree f below after) zero key n bs rest d z p c q h = absurd (omega arith)
fields_to (suc l) (tree f below after) (suc k) key n bs rest d z p c q h =
    more_to (λ k key n. fields l k key n) k key n f below after bs rest z p q h
    (λ j g mid e y w. fields_to l below j g (n + 1) mid (field_bytes after ++ rest) (omega arith) (omega arith) p.3 e y w)
    (fields_to (suc l) after k false (n + 1 + size below) (field_bytes after ++ rest) rest (omega arith) (omega arith) p.4 (omega arith) tt refl)

-- The other way: what was read off some bytes is written as those bytes, and keeps the rules.
pub record FieldsRead (l k : ℕ) (key : Bool) (n : ℕ) (r : Rest) (fs : Forest Field) (s : Rest) : Type 0 where
  pub item : Item r (field_bytes fs) s
  pub many : count fs ≡ k
  pub deep : levels fs ≤ l
  pub room : n + size fs ≤ 257
  pub keep : FieldsKeep fs
  pub keyed : Keyed key fs

abbrev KidsFrom : ℕ → Fields → Type 0
KidsFrom l kids = (k : ℕ) (key : Bool) (n : ℕ) (r : Rest) (fs : Forest Field) (s : Rest) → n ≤ 257 → Bytes r.bytes → Came
    (kids k key n) r fs s → FieldsRead l k key n r fs s

record TypeRead (l : ℕ) (key : Bool) (n : ℕ) (r : Rest) (t : Type') (s : Rest) : Type 0 where
  item : Item r (shape_code t.0 (count t.1) ++ field_bytes t.1) s
  holds : Holds t.0 t.1
  plain_key : KeyPlain key t.0
  deep : levels t.1 ≤ l
  room : n + 1 + size t.1 ≤ 257
  keep : FieldsKeep t.1

-- the code of each kind; no kind is a Fixed of one length
abbrev kind_code : Kind → ℕ
kind_code (plain boolean) = 1
kind_code (plain int) = 2
kind_code (plain long) = 3
kind_code (plain float) = 4
kind_code (plain double) = 5
kind_code (plain date) = 7
kind_code (plain time) = 8
kind_code (plain timestamp) = 9
kind_code (plain timestamptz) = 10
kind_code (plain timestamp_ns) = 11
kind_code (plain timestamptz_ns) = 12
kind_code (plain string) = 13
kind_code (plain uuid) = 14
kind_code (plain (fixed k)) = 0
kind_code (plain binary) = 16
kind_code sized = 15
kind_code group = 17
kind_code one = 18
kind_code pair = 19
kind_code decimal = 6

-- what holds of each number below one, shown for each
abbrev pub Below : (ℕ → Type 0) → ℕ → Type 0
Below P zero = Unit {0}
Below P (suc n) = Below P n × P n

pub each_below : (P : ℕ → Type 0) (n : ℕ) → Below P n → (c : ℕ) → c < n → P c
each_below P zero b c l = absurd (omega arith)
each_below P (suc n) b c l = elim (cases_lt c n) [ inl s ↦ each_below P n b.0 c s | inr s ↦ let e : n ≡ c = omega arith in subst P e b.1 ]

kind-code : (c : ℕ) → (leb 1 c && leb c 19) ≡ true → kind_code (kind_of c) ≡ c
kind-code c h =
    let t = and_parts (leb 1 c) (leb c 19) h in
    let l = leb-true c 19 t.1 in
    let u = leb-true 1 c t.0 in
    each_below (λ c. 1 ≤ c → kind_code (kind_of c) ≡ c) 20 (
      (
        (
          (
            (
              (
                (
                  (
                    (
                      (
                        (
                          (
                            (
                              (
                                (
                                  (
                                    ((((tt, (λ z. absurd (omega arith))), (λ _. refl)), (λ _. refl)), (λ _. refl)),
                                    (λ _. refl),
                                  ),
                                  (λ _. refl),
                                ),
                                (λ _. refl),
                              ),
                              (λ _. refl),
                            ),
                            (λ _. refl),
                          ),
                          (λ _. refl),
                        ),
                        (λ _. refl),
                      ),
                      (λ _. refl),
                    ),
                    (λ _. refl),
                  ),
                  (λ _. refl),
                ),
                (λ _. refl),
              ),
              (λ _. refl),
            ),
            (λ _. refl),
          ),
          (λ _. refl),
        ),
        (λ _. refl),
      ),
      (λ _. refl),
    ) c (omega arith) u

plain_code : (p : Primitive) → 1 ≤ kind_code (plain p) → (kind_code (plain p) ∷ [] ≡ primitive_code p) × Sized p
plain_code boolean l = (refl, tt)
plain_code int l = (refl, tt)
plain_code long l = (refl, tt)
plain_code float l = (refl, tt)
plain_code double l = (refl, tt)
plain_code date l = (refl, tt)
plain_code time l = (refl, tt)
plain_code timestamp l = (refl, tt)
plain_code timestamptz l = (refl, tt)
plain_code timestamp_ns l = (refl, tt)
plain_code timestamptz_ns l = (refl, tt)
plain_code string l = (refl, tt)
plain_code uuid l = (refl, tt)
plain_code (fixed k) l = absurd (omega arith)
plain_code binary l = (refl, tt)

move_type : {l : ℕ} {key : Bool} {n : ℕ} {q : Rest} {t u : Type'} {r s : Rest} → t ≡ u → r ≡ s → TypeRead l key n q t r → TypeRead l key n q u s
move_type {l} {key} {n} {q} {t} {u} {r} {s} e d h = subst (λ (x : Type' × Rest). TypeRead l key n q x.0 x.1) (λ i. (e i, d i)) h

key_prim : (key : Bool) (p : Primitive) → KeyPlain key (prim p)
key_prim true p = tt
key_prim false p = tt

key_not : (b key : Bool) (s : Shape) → (b || (key && true)) ≡ false → KeyPlain key s
key_not true true s h = absurd (both_ways true h refl)
key_not true false s h = tt
key_not false true s h = absurd (both_ways true h refl)
key_not false false s h = tt

-- a type, by the kind of its code c
type_from : (l : ℕ) (kids : Fields) → KidsFrom l kids → (key : Bool) (n c : ℕ) (κ : Kind) (r : Rest) (t : Type') (s : Rest) → kind_code κ ≡ c → 1 ≤ c
    → (eqb c 6 || (key && nested κ)) ≡ false → n ≤ 256
    → Came (type_by kids n κ) r t s → (q : Rest) → Item q (c ∷ []) r → TypeRead l key n q t s
type_from l kids ih key n c (plain p) r t s e u g m w q i =
    let z = given w in
    let k = plain_code p (rw e u) in
    move_type z.0 z.1 (record {
      item = item_same (ap (λ (x : ℕ). x ∷ []) (sym e) ∙ k.0 ∙ sym (append-nil (primitive_code p))) i;
      holds = (k.1, refl);
      plain_key = key_prim key p;
      deep = omega arith;
      room = omega arith;
      keep = tt;
    })
type_from l kids ih key n c sized r t s e u g m w q i =
    let b = parts w in
    let k = limited-from (field n) 65536 i.rest b.one in
    let z = given b.two in
    move_type z.0 z.1 (record {
      item = item_same (ap (λ (x : ℕ). x ∷ number_bytes b.x) (sym e) ∙ sym (append-nil (15 ∷ number_bytes b.x))) (item_then i k.0);
      holds = (k.1, refl);
      plain_key = key_prim key (fixed b.x);
      deep = omega arith;
      room = omega arith;
      keep = tt;
    })
type_from l kids ih key n c group r t s e u g m w q i =
    let b = parts w in
    let k = number-from (field n) i.rest b.one in
    let d = parts b.two in
    let z = given d.two in
    let f = ih b.x false (n + 1) b.mid d.x d.mid (omega arith) k.0.rest d.one in
    move_type z.0 z.1 (record {
      item = item_same (λ j. (sym e j ∷ number_bytes (sym f.many j)) ++ field_bytes d.x) (item_then (item_then i k.0) f.item);
      holds = tt;
      plain_key = key_not (eqb c 6) key struct g;
      deep = f.deep;
      room = f.room;
      keep = f.keep;
    })
type_from l kids ih key n c one r t s e u g m w q i =
    let b = parts w in
    let z = given b.two in
    let f = ih 1 false (n + 1) r b.x b.mid (omega arith) i.rest b.one in
    move_type z.0 z.1 (record {
      item = item_same (λ j. sym e j ∷ field_bytes b.x) (item_then i f.item);
      holds = f.many;
      plain_key = key_not (eqb c 6) key list g;
      deep = f.deep;
      room = f.room;
      keep = f.keep;
    })
type_from l kids ih key n c pair r t s e u g m w q i =
    let b = parts w in
    let z = given b.two in
    let f = ih 2 true (n + 1) r b.x b.mid (omega arith) i.rest b.one in
    move_type z.0 z.1 (record {
      item = item_same (λ j. sym e j ∷ field_bytes b.x) (item_then i f.item);
      holds = (f.many, f.keyed);
      plain_key = key_not (eqb c 6) key map g;
      deep = f.deep;
      room = f.room;
      keep = f.keep;
    })
type_from l kids ih key n c decimal r t s e u g m w q i = let z : true ≡ false = rw (eq-eqb c 6 (sym e)) at g in absurd (both_ways true z refl)

typed-from : (l : ℕ) (kids : Fields) → KidsFrom l kids → (key : Bool) (n : ℕ) (q : Rest) (t : Type') (s : Rest) → n ≤ 256 → Bytes q.bytes
    → Came (typed kids key n) q t s → TypeRead l key n q t s
typed-from l kids ih key n q t s m y w = under (parts w)
  where
    under : Both (byte (field n) (λ c. leb 1 c && leb c 19)) (λ c r. cond (eqb c 6 || (key && nested (kind_of c))) (refused 7 (r.at - 1) (field n)) (type_by kids n (kind_of c) r)) q t s → TypeRead l key n q t s
    under b =
        let k = byte-from (field n) (λ c. leb 1 c && leb c 19) y b.one in
        elim (cases_Bool (eqb b.x 6 || (key && nested (kind_of b.x)))) [
          | inl g ↦ absurd (refused_not (rw g at b.two.came))
          | inr g ↦
              type_from l kids ih key n b.x (kind_of b.x) b.mid t s (kind-code b.x k.1)
              (leb-true 1 b.x (and_parts (leb 1 b.x) (leb b.x 19) k.1).0) g m
              (record { came = rw g at b.two.came }) q k.0
        ]

-- one field
record FieldRead (l : ℕ) (key : Bool) (n : ℕ) (r : Rest) (f : Field × Forest Field) (s : Rest) : Type 0 where
  item : Item r (head_bytes f.0 f.1) s
  id : InRange f.0.id
  name : Short f.0.name
  holds : Holds f.0.shape f.1
  plain_key : KeyPlain key f.0.shape
  deep : levels f.1 ≤ l
  room : n + 1 + size f.1 ≤ 257
  keep : FieldsKeep f.1

move_field : {l : ℕ} {key : Bool} {n : ℕ} {q : Rest} {t u : Field × Forest Field} {r s : Rest} → t ≡ u → r ≡ s → FieldRead l key n q t r → FieldRead l key n q u s
move_field {l} {key} {n} {q} {t} {u} {r} {s} e d h = subst (λ (x : (Field × Forest Field) × Rest). FieldRead l key n q x.0 x.1) (λ i. (e i, d i)) h

-- the four bytes of an id
id-bytes : (xs : List ℕ) → length xs ≡ 4 → Bytes xs → (xs ≡ fixed_width 4 (unsigned (signed 4 (little xs)))) × InRange (signed 4 (little xs))
id-bytes xs h y =
    let k = width_again xs y in
    let l : little xs < 256 ^ 4 = subst (λ (w : ℕ). little xs < 256 ^ w) h k.1 in
    let i = id_again (little xs) l in
    (sym k.0 ∙ (λ j. fixed_width (h j) (sym i.0 j)), i.1)

fielded-from : (l : ℕ) (kids : Fields) → KidsFrom l kids → (key : Bool) (n : ℕ) (q : Rest) (f : Field × Forest Field) (s : Rest) → n ≤ 256 → Bytes q.bytes
    → Came (fielded kids key n) q f s → FieldRead l key n q f s
fielded-from l kids ih key n q f s m y w =
    let b₁ = parts w in
    let k₁ = exactly-from (field n) 4 y b₁.one in
    let d = id-bytes b₁.x k₁.1 k₁.2 in
    let b₂ = parts b₁.two in
    let k₂ = flag-from (field n) k₁.0.rest b₂.one in
    let b₃ = parts b₂.two in
    let k₃ = text-from (field n) k₂.rest b₃.one in
    let b₄ = parts b₃.two in
    let k₄ = typed-from l kids ih key n b₃.mid b₄.x b₄.mid m k₃.0.rest b₄.one in
    let z = given b₄.two in
    move_field z.0 z.1 (record {
      item = item_same (sym (append_assoc (fixed_width 4 (unsigned (signed 4 (little b₁.x))) ++ flag_bytes b₂.x ++ text_bytes b₃.x)
          (shape_code b₄.x.0 (count b₄.x.1)) (field_bytes b₄.x.1)))
          (item_then (item_then (item_then (item_same d.0 k₁.0) k₂) k₃.0) k₄.item);
      id = d.1;
      name = k₃.1;
      holds = k₄.holds;
      plain_key = k₄.plain_key;
      deep = k₄.deep;
      room = k₄.room;
      keep = k₄.keep;
    })

move_fields : {l k : ℕ} {key : Bool} {n : ℕ} {q : Rest} {t u : Forest Field} {r s : Rest} → t ≡ u → r ≡ s → FieldsRead l k key n q t r → FieldsRead l k key n q u s
move_fields {l} {k} {key} {n} {q} {t} {u} {r} {s} e d h = subst (λ (x : Forest Field × Rest). FieldsRead l k key n q x.0 x.1) (λ i. (e i, d i)) h

none_from : (l : ℕ) (key : Bool) (n : ℕ) (r : Rest) → n ≤ 257 → Bytes r.bytes → FieldsRead l 0 key n r none r
none_from l key n r m y = record { item = item r [] r y refl; many = refl; deep = omega arith; room = omega arith; keep = tt; keyed = keyed_none key }

first_key : (key : Bool) (f : Field) (below after : Forest Field) → KeyPlain key f.shape → Keyed key (tree f below after)
first_key true f below after q = q
first_key false f below after q = tt

-- fields side by side
siblings-from : (l : ℕ) (kids : Fields) → KidsFrom l kids → KidsFrom (suc l) (siblings kids)
siblings-from l kids ih zero key n r fs s m y w = let z = given w in move_fields z.0 z.1 (none_from (suc l) key n r m y)
siblings-from l kids ih (suc k) key n r fs s m y w =
    elim (cases_Bool (ltb 256 n)) [
      | inl g ↦ absurd (refused_not (rw g at w.came))
      | inr g ↦
          let h = ltb-false 256 n g in
          let b : Both (fielded kids key n) (λ f. siblings kids k false (n + 1 + size f.1) then (λ fs. give (tree f.0 f.1 fs))) r fs s = parts
          (record { came = rw g at w.came }) in
          let f = fielded-from l kids ih key n r b.x b.mid h y b.one in
          let d = parts b.two in
          let z = given d.two in
          let t = siblings-from l kids ih k false (n + 1 + size b.x.1) b.mid d.x d.mid f.room f.item.rest d.one in
          move_fields z.0 z.1 (record {
            item = item_then f.item t.item;
            many = omega (arith, t.many);
            deep = omega (arith, f.deep, t.deep);
            room = omega (arith, t.room);
            keep = (f.id, f.name, f.holds, f.keep, t.keep);
            keyed = first_key key b.x.0 b.x.1 d.x f.plain_key;
          })
    ]

-- the fields of a schema that were read
pub fields-from : (l : ℕ) → KidsFrom l (fields l)
fields-from zero zero key n r fs s m y w = let z = given w in move_fields z.0 z.1 (none_from zero key n r m y)
fields-from zero (suc k) key n r fs s m y w = absurd (refused_not w.came)
fields-from (suc l) k key n r fs s m y w = siblings-from l (λ k key n. fields l k key n) (fields-from l) k key n r fs s m y w

-- The NaNs that reaches show are those of the values: by induction over the schema's fields.
use Rattle.std.proofs.Common.{◌≡◌, ℕ, ◌+◌, ◌-◌, Bool, true, false, cond, not, ◌&&◌, ◌||◌, List, [], ◌∷◌, ℤ, None, Ok, sym, refl, ap, ◌∙◌, subst, ap₂, add_assoc, arith}
use mathlib.Core.Bool.{and_assoc}
use Rattle.std.proofs.lemmas.Bool.{eq-eqb, ne_eqb}
use Rattle.meaning.specs.Forest.{Forest, none, tree, size}
use Rattle.meaning.specs.Model.{Model, Field, Shape, prim, struct, list, map, at}
use Rattle.meaning.specs.Lists.{upto, from, any_of, or_zero, sum}
use Rattle.meaning.specs.Slots.{null, nan, span, span_slots}
use Rattle.meaning.specs.Access.{child_at, Pick, Own, partner}
use Rattle.meaning.specs.Literals.{Literal, Values, literal_at, same_by}
use Rattle.meaning.specs.Rows.{kept, joined, parts}
use Rattle.meaning.specs.Converts.{check_fields}
use Rattle.meaning.specs.Equal.{same_integer}
use Rattle.meaning.specs.Nans.{nan_literal, sum_elements, sum_pairs, nans_in}
use Rattle.meaning.specs.Reaches.{reaches, shown_within}
use Rattle.meaning.specs.Keeps.{Plain}
use Rattle.meaning.proofs.Premises.{key_plain, Exactly, Formed, Premises}
use Rattle.meaning.proofs.KeyEquality.{same_equivalence}
use Rattle.meaning.proofs.SlotSums.{sum_to, any_to, any_upto, sum_cond, Cuts, hit, sum-cuts, sum_to_equal, sum_to_none, sum_to_add}
use Rattle.meaning.proofs.KeptPairs.{sum_kept}
use Rattle.meaning.proofs.Spans.{list-cuts, map-cuts}
use Rattle.meaning.proofs.AcceptedSteps.{Step, step, partner_column, literal-nan}
use Rattle.meaning.proofs.FoundReaches.{Good, good_at, good_none, good_then, good_under, good_one}

-- no parts, no NaNs; and a primitive has none in its parts
nans-none : (id : ℤ) (fs : Forest Field) (s : Shape) → nans_in id fs s none ≡ 0
nans-none id none s = refl
nans-none id (tree f below rest) (prim p) = refl
nans-none id (tree f below rest) struct = refl
nans-none id (tree f below rest) list = refl
nans-none id (tree f below none) map = refl
nans-none id (tree f below (tree g under' rest)) map = refl

nans-plain : (id : ℤ) (fs : Forest Field) (s : Shape) (vs : Values) → Plain s → nans_in id fs s vs ≡ 0
nans-plain id none s vs h = refl
nans-plain id (tree f below rest) (prim p) vs h = refl
nans-plain id (tree f below rest) struct vs h = absurd h
nans-plain id (tree f below rest) list vs h = absurd h
nans-plain id (tree f below rest) map vs h = absurd h

-- the elements of a list and the pairs of a map, one after another
each_joined : {X : Type 0} (F : Literal → Values → ℕ) (x : X → Literal) (ps : X → Values) (js : List X) → sum_elements F (joined (λ j. tree (x j) (ps j) none) js) ≡ sum (λ j. F (x j) (ps j)) js
each_joined F x ps [] = refl
each_joined F x ps (j ∷ js) = ap (λ k. F (x j) (ps j) + k) (each_joined F x ps js)

pairs_joined : {X : Type 0} (F G : Literal → Values → ℕ) (x y : X → Literal) (ps qs : X → Values) (js : List X)
    → sum_pairs F G (joined (λ j. tree (x j) (ps j) (tree (y j) (qs j) none)) js) ≡ sum (λ j. F (x j) (ps j) + G (y j) (qs j)) js
pairs_joined F G x y ps qs [] = refl
pairs_joined F G x y ps qs (j ∷ js) = omega (arith, pairs_joined F G x y ps qs js)

-- one slot of a field's column: shown (sh), null (u), a NaN (v), of the id (b), with parts X
slot-sum : (b u sh v : Bool) (X : Values) (F : Values → ℕ) → F none ≡ 0 → cond (sh && not u) (F X) 0 + cond b (cond (v && sh) 1 0) 0 ≡ cond sh (cond (b && v) 1 0 + F (cond u none X)) 0
slot-sum b u false v X F e = grind arith
slot-sum b true true v X F e = grind arith
slot-sum b false true v X F e = grind arith

-- sums over a list, term by term
total_ext : {X : Type 0} (f g : X → ℕ) → ((x : X) → f x ≡ g x) → (xs : List X) → sum f xs ≡ sum g xs
total_ext f g e [] = refl
total_ext f g e (x ∷ xs) = ap₂ ◌+◌ (e x) (total_ext f g e xs)

any_ext : (f g : ℕ → Bool) → ((i : ℕ) → f i ≡ g i) → (xs : List ℕ) → any_of f xs ≡ any_of g xs
any_ext f g e [] = refl
any_ext f g e (x ∷ xs) = ap₂ ◌||◌ (e x) (any_ext f g e xs)

cond_add : (b : Bool) (x y : ℕ) → cond b x 0 + cond b y 0 ≡ cond b (x + y) 0
cond_add true x y = refl
cond_add false x y = refl

cond_zero : (b : Bool) → ◌≡◌ {A = ℕ} (cond b 0 0) 0
cond_zero true = refl
cond_zero false = refl

module _ (m : Model) (pick : Pick) (id : ℤ) where
  -- the slots of a column that are shown and not null
  abbrev live : ℕ → (ℕ → Bool) → ℕ → Bool
  live c shown i = shown i && not (null (at m c) i)

  -- the NaNs in the parts of the slots of c that are shown and not null
  abbrev pub in_parts : Forest Field → Shape → ℕ → ℕ → (ℕ → Bool) → ℕ
  in_parts fs s n c shown = sum_to (at m c).len (λ i. cond (live c shown i) (nans_in id fs s (parts m pick fs s n c i)) 0)

  -- what is to be shown of the fields below a type
  abbrev pub Conserved : Forest Field → Shape → ℕ → ℕ → ℕ → (ℕ → Bool) → Type 0
  Conserved fs s up n c shown = Good m id (reaches m pick fs s up n c shown) (size fs) (in_parts fs s n c shown)

  -- the shown NaNs of field f's own reach, at column p
  abbrev own_nans : Field → ℕ → (ℕ → Bool) → ℕ
  own_nans f p shown = cond (same_integer id f.id) (sum_to (at m p).len (λ i. cond (nan (at m p) i && shown i) 1 0)) 0

  -- column p says what the values of field f say
  abbrev Faithful : Field → ℕ → Type 0
  Faithful f p = (i : ℕ) → nan (at m p) i ≡ nan_literal (literal_at f.shape (at m p) i)

  abbrev lo : ℕ → ℕ → ℕ
  lo c i = (span (at m c) i).0

  abbrev hi : ℕ → ℕ → ℕ
  hi c i = (span (at m c) i).1

  -- the slots of c cut those of p
  abbrev Cut : ℕ → ℕ → Type 0
  Cut c p = Cuts (at m c).len (at m p).len (lo c) (hi c)

  -- what slot j of column p counts for, as a value of field f
  abbrev worth : Field → Forest Field → ℕ → ℕ → ℕ → ℕ
  worth f below n p j =
      cond (same_integer id f.id && nan_literal (literal_at f.shape (at m p) j)) 1 0
      + nans_in id below f.shape (cond (null (at m p) j) none (parts m pick below f.shape (n + 1) p j))

  -- a field's column: its own reach and those below it
  module _ (f : Field) (below : Forest Field) (n p : ℕ) (shown : ℕ → Bool) (e : Faithful f p) where
    field-slot : (j : ℕ)
        → cond (live p shown j) (nans_in id below f.shape (parts m pick below f.shape (n + 1) p j)) 0 + cond (same_integer id f.id) (cond (nan (at m p) j && shown j) 1 0) 0
        ≡ cond (shown j) (worth f below n p j) 0
    field-slot j =
        let ps : Values = parts m pick below f.shape (n + 1) p j in
        ap (λ (v : Bool). cond (live p shown j) (nans_in id below f.shape ps) 0 + cond (same_integer id f.id) (cond (v && shown j) 1 0) 0) (e j)
        ∙ slot-sum (same_integer id f.id) (null (at m p) j) (shown j) (nan_literal (literal_at f.shape (at m p) j)) ps (nans_in id below f.shape) (nans-none id below f.shape)

    field-sum : in_parts below f.shape (n + 1) p shown + own_nans f p shown ≡ sum_to (at m p).len (λ j. cond (shown j) (worth f below n p j) 0)
    field-sum =
        ap (λ k. in_parts below f.shape (n + 1) p shown + k) (sym (sum_cond (same_integer id f.id) (at m p).len (λ i. cond (nan (at m p) i && shown i) 1 0)))
        ∙ (sum_to_add (at m p).len _ _ ∙ sum_to_equal (at m p).len _ _ (λ j h. field-slot j))

  -- a slot that is cut, as the counts say it and as a sum over the slots that cut
  module _ (c : ℕ) (shown : ℕ → Bool) (fits : ℕ → ℕ → ℕ → Bool) where
    within_any : (j : ℕ) → shown_within m c shown fits j ≡ any_to (at m c).len (λ i. hit (live c shown i) (lo c i) (hi c i) (fits (lo c i) (hi c i) j) j)
    within_any j = any_ext _ _ (λ i. sym (and_assoc (shown i) (not (null (at m c) i)) _)) (upto (at m c).len) ∙ any_upto _ (at m c).len

    within-sum : (p : ℕ) (f : ℕ → ℕ) → Cut c p
        → sum_to (at m p).len (λ j. cond (shown_within m c shown fits j) (f j) 0) ≡ sum_to (at m c).len (λ i. cond (live c shown i) (sum (λ j. cond (fits (lo c i) (hi c i) j) (f j) 0) (span_slots (at m c) i)) 0)
    within-sum p f k =
        sum_to_equal (at m p).len _ _ (λ j h. ap (λ (b : Bool). cond b (f j) 0) (within_any j))
        ∙ sum-cuts (at m c).len (at m p).len (lo c) (hi c) k (live c shown) fits f

  -- a struct, field by field, at the same slots
  module _ (f : Field) (below rest : Forest Field) (up n c : ℕ) (shown : ℕ → Bool) (e : Faithful f (or_zero (pick c n))) (l : (at m (or_zero (pick c n))).len ≡ (at m c).len) where
    abbrev next : ℕ
    next = n + 1 + size below

    abbrev mate : ℕ
    mate = or_zero (pick c n)

    struct-sum : in_parts below f.shape (n + 1) mate (live c shown) + (own_nans f mate (live c shown) + in_parts rest struct next c shown) ≡ in_parts (tree f below rest) struct n c shown
    struct-sum =
        let g : ℕ → ℕ = λ j. cond (live c shown j) (worth f below n mate j) 0 in
        sym (add_assoc _ _ _)
        ∙ (ap (λ k. k + in_parts rest struct next c shown) (field-sum f below n mate (live c shown) e ∙ ap (λ k. sum_to k g) l)
        ∙ (sum_to_add (at m c).len g _ ∙ sum_to_equal (at m c).len _ _ (λ i h. cond_add (live c shown i) _ _ ∙ ap (λ k. cond (live c shown i) k 0) (add_assoc _ _ _))))

    struct_good : partner m pick struct up c n ≡ Ok mate → Conserved below f.shape n (n + 1) mate (live c shown) → Conserved rest struct up next c shown → Conserved (tree f below rest) struct up n c shown
    struct_good met gb gr =
        good_under m id (partner m pick struct up c n) _ mate _ _ met
        (good_at m id _ _ _ _ _ (omega arith) struct-sum
        (good_then m id _ _ _ _ _ _ gb (good_then m id _ _ _ _ _ _ (good_one m id f n mate (live c shown)) gr)))

  -- a list, whose shown elements are those that its shown slots cut
  abbrev any? : ℕ → ℕ → ℕ → Bool
  any? a b j = true

  module _ (f : Field) (below rest : Forest Field) (up n c : ℕ) (shown : ℕ → Bool) (e : Faithful f (child_at m c 0)) (k : Cut c (child_at m c 0)) where
    abbrev child : ℕ
    child = child_at m c 0

    list-parts : (i : ℕ) → sum (worth f below n child) (span_slots (at m c) i) ≡ nans_in id (tree f below rest) list (parts m pick (tree f below rest) list n c i)
    list-parts i =
        sym (each_joined (λ x ps. cond (same_integer id f.id && nan_literal x) 1 0 + nans_in id below f.shape ps) (λ j. literal_at f.shape (at m child) j)
        (λ j. cond (null (at m child) j) none (parts m pick below f.shape (n + 1) child j)) (span_slots (at m c) i))

    list-sum : in_parts below f.shape (n + 1) child (shown_within m c shown any?) + own_nans f child (shown_within m c shown any?) ≡ in_parts (tree f below rest) list n c shown
    list-sum =
        field-sum f below n child (shown_within m c shown any?) e
        ∙ (within-sum c shown any? child (worth f below n child) k
        ∙ sum_to_equal (at m c).len _ _ (λ i h. ap (λ x. cond (live c shown i) x 0) (list-parts i)))

    list_good : partner m pick list up c n ≡ Ok child → Conserved below f.shape n (n + 1) child (shown_within m c shown any?) → Conserved (tree f below rest) list up n c shown
    list_good met gb =
        good_under m id (partner m pick list up c n) _ child _ _ met
        (good_at m id _ _ _ _ _ (omega arith) list-sum (good_then m id _ _ _ _ _ _ gb (good_one m id f n child (shown_within m c shown any?))))

  -- a map, whose shown keys are the first and whose shown values the last of their class in a span that a shown slot cuts
  abbrev first? : (ℕ → ℕ → Bool) → ℕ → ℕ → ℕ → Bool
  first? same a b j = not (any_of (same j) (from a (j - a)))

  abbrev last? : (ℕ → ℕ → Bool) → ℕ → ℕ → ℕ → Bool
  last? same a b j = not (any_of (same j) (from (j + 1) (b - (j + 1))))

  module _ (f g : Field) (below under' rest : Forest Field) (up n c : ℕ) (shown : ℕ → Bool) (plain : Plain f.shape) where
    abbrev keyed : ℕ
    keyed = child_at m c 0

    abbrev valued : ℕ
    valued = child_at m c 1

    abbrev later : ℕ
    later = n + 1 + size below

    abbrev alike : ℕ → ℕ → Bool
    alike = same_by f.shape (at m keyed)

    abbrev keys : ℕ → Bool
    keys = shown_within m c shown (first? alike)

    abbrev vals : ℕ → Bool
    vals = shown_within m c shown (last? alike)

    -- a key has no parts
    key_worth : (j : ℕ) → cond (same_integer id f.id && nan_literal (literal_at f.shape (at m keyed) j)) 1 0 + nans_in id below f.shape none ≡ worth f below n keyed j
    key_worth j =
        ap (λ k. cond (same_integer id f.id && nan_literal (literal_at f.shape (at m keyed) j)) 1 0 + k)
        (nans-none id below f.shape ∙ sym (nans-plain id below f.shape (cond (null (at m keyed) j) none (parts m pick below f.shape (n + 1) keyed j)) plain))

    -- the pairs of one slot
    map-parts : (i : ℕ)
        → nans_in id (tree f below (tree g under' rest)) map (parts m pick (tree f below (tree g under' rest)) map n c i)
        ≡ sum (λ (kv : ℕ × ℕ). worth f below n keyed kv.0 + worth g under' later valued kv.1) (kept alike (span_slots (at m c) i))
    map-parts i =
        pairs_joined (λ x ps. cond (same_integer id f.id && nan_literal x) 1 0 + nans_in id below f.shape ps) (λ x ps. cond (same_integer id g.id && nan_literal x) 1 0 + nans_in id under' g.shape ps)
        (λ (kv : ℕ × ℕ). literal_at f.shape (at m keyed) kv.0) (λ (kv : ℕ × ℕ). literal_at g.shape (at m valued) kv.1) (λ kv. none)
        (λ (kv : ℕ × ℕ). cond (null (at m valued) kv.1) none (parts m pick under' g.shape (later + 1) valued kv.1)) (kept alike (span_slots (at m c) i))
        ∙ total_ext _ _ (λ (kv : ℕ × ℕ). ap (λ k. k + worth g under' later valued kv.1) (key_worth kv.0)) (kept alike (span_slots (at m c) i))

    module _ (e : Faithful f keyed) (d : Faithful g valued) (k : Cut c keyed) (l : Cut c valued) where
      map-sum : in_parts below f.shape (n + 1) keyed keys + (own_nans f keyed keys + (in_parts under' g.shape (later + 1) valued vals + own_nans g valued vals)) ≡ in_parts (tree f below (tree g under' rest)) map n c shown
      map-sum =
          let a = field-sum f below n keyed keys e ∙ within-sum c shown (first? alike) keyed (worth f below n keyed) k in
          let b = field-sum g under' later valued vals d ∙ within-sum c shown (last? alike) valued (worth g under' later valued) l in
          sym (add_assoc _ _ _) ∙ (ap₂ ◌+◌ a b ∙ (sum_to_add (at m c).len _ _ ∙ sum_to_equal (at m c).len _ _ (λ i t.
          cond_add (live c shown i) _ _ ∙ ap (λ x. cond (live c shown i) x 0)
          (sym (map-parts i ∙ sum_kept alike (same_equivalence f.shape (at m keyed)) (worth f below n keyed) (worth g under' later valued) (lo c i) (hi c i) (k.ordered i t))))))

      map_good : partner m pick map up c n ≡ Ok keyed → partner m pick map up c later ≡ Ok valued
          → Conserved below f.shape n (n + 1) keyed keys → Conserved under' g.shape later (later + 1) valued vals → Conserved (tree f below (tree g under' rest)) map up n c shown
      map_good met met' gk gv =
          good_under m id (partner m pick map up c n) _ keyed _ _ met
          (good_at m id _ _ _ _ _ (omega arith) map-sum
          (good_then m id _ _ _ _ _ _ gk (good_then m id _ _ _ _ _ _ (good_one m id f n keyed keys)
          (good_under m id (partner m pick map up c later) _ valued _ _ met' (good_then m id _ _ _ _ _ _ gv (good_one m id g later valued vals))))))

-- the first field below a map's field has the next number
abbrev pub Start : Shape → ℕ → ℕ → Type 0
Start (prim p) up n = Unit {0}
Start struct up n = Unit {0}
Start list up n = Unit {0}
Start map up n = n ≡ up + 1

start : (s : Shape) (n : ℕ) → Start s n (n + 1)
start (prim p) n = tt
start struct n = tt
start list n = tt
start map n = refl

module _ (m : Model) (pick : Pick) (id : ℤ) (cells : ℕ) (keeps : Premises m) (mine : Own m pick) where
  key_column : (up c n : ℕ) → n ≡ up + 1 → partner_column m pick map up c n ≡ child_at m c 0
  key_column up c n e = ap (λ (b : Bool). child_at m c (cond b 0 1)) (eq-eqb n (up + 1) e)

  value-column : (up c n k : ℕ) → n ≡ up + 1 → partner_column m pick map up c (n + 1 + k) ≡ child_at m c 1
  value-column up c n k e = ap (λ (b : Bool). child_at m c (cond b 0 1)) (ne_eqb (n + 1 + k) (up + 1) (λ h. omega arith))

  -- what is below a type at column c: no refusal, at most as many reaches as fields, and the shown NaNs are those of the parts
  pub conserves : (fs : Forest Field) (s : Shape) (up n c : ℕ) (shown : ℕ → Bool) (taken t : ℕ) → Start s up n → Formed fs → Exactly s fs → check_fields m pick cells fs s up n c taken ≡ Ok t
      → Conserved m pick id fs s up n c shown
  conserves none s up n c shown taken t b sh ho e = good_at m id ([], None) 0 0 0 _ (omega arith) (sym (sum_to_none (at m c).len _ (λ i h. cond_zero (live m pick id c shown i)))) (good_none m id 0)
  conserves (tree f below rest) (prim k) up n c shown taken t b sh ho e = absurd (step m pick cells f below rest (prim k) up n c taken t e).0
  conserves (tree f below rest) struct up n c shown taken t b sh ho e =
      let st = step m pick cells f below rest struct up n c taken t e in
      let p : ℕ = or_zero (pick c n) in
      struct_good m pick id f below rest up n c shown
      (literal-nan m pick cells f.shape below n p taken st.1.t₁ st.1.t₂ sh.0 st.1.inner st.1.mine)
      (keeps.level c p st.0.0 (mine c n p st.0.1))
      st.1.met
      (conserves below f.shape n (n + 1) p (live m pick id c shown) taken st.1.t₁ (start f.shape n) sh.1 sh.0 st.1.inner)
      (conserves rest struct up (n + 1 + size below) c shown st.1.t₃ t tt sh.2 tt st.1.after)
  conserves (tree f below rest) list up n c shown taken t b sh ho e =
      let st = step m pick cells f below rest list up n c taken t e in
      let p : ℕ = child_at m c 0 in
      list_good m pick id f below rest up n c shown
      (literal-nan m pick cells f.shape below n p taken st.1.t₁ st.1.t₂ sh.0 st.1.inner st.1.mine)
      (list-cuts (at m c).code (at m c) (at m p).len st.0 (keeps.cutting c))
      st.1.met
      (conserves below f.shape n (n + 1) p (shown_within m c shown (any? m pick id)) taken st.1.t₁ (start f.shape n) sh.1 sh.0 st.1.inner)
  conserves (tree f below none) map up n c shown taken t b sh ho e = absurd ho
  conserves (tree f below (tree g under' rest)) map up n c shown taken t b sh ho e =
      let p : ℕ = child_at m c 0 in
      let q : ℕ = child_at m c 1 in
      let v : ℕ = n + 1 + size below in
      let same : ℕ → ℕ → Bool = same_by f.shape (at m p) in
      let st = step m pick cells f below (tree g under' rest) map up n c taken t e in
      let k : Step m pick cells f below (tree g under' rest) map up n c taken t p = subst (λ (x : ℕ). Step m pick cells f below (tree g under' rest) map up n c taken t x) (key_column up c n b) st.1 in
      let su = step m pick cells g under' rest map up v c k.t₃ t k.after in
      let w : Step m pick cells g under' rest map up v c k.t₃ t q = subst (λ (x : ℕ). Step m pick cells g under' rest map up v c k.t₃ t x) (value-column up c n (size below) b) su.1 in
      let cuts : Cut m pick id c p = map-cuts (at m c).code (at m c) (at m p).len st.0 (keeps.cutting c) in
      map_good m pick id f g below under' rest up n c shown (key_plain f g below under' rest ho)
      (literal-nan m pick cells f.shape below n p taken k.t₁ k.t₂ sh.0 k.inner k.mine)
      (literal-nan m pick cells g.shape under' v q k.t₃ w.t₁ w.t₂ sh.2.0 w.inner w.mine)
      cuts
      (subst (λ l. Cuts (at m c).len l (lo m pick id c) (hi m pick id c)) (sym (keeps.paired c st.0)) cuts)
      k.met
      w.met
      (conserves below f.shape n (n + 1) p (shown_within m c shown (first? m pick id same)) taken k.t₁ (start f.shape n) sh.1 sh.0 k.inner)
      (conserves under' g.shape v (v + 1) q (shown_within m c shown (last? m pick id same)) k.t₃ w.t₁ (start g.shape v) sh.2.1 sh.2.0 w.inner)

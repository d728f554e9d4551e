-- What an accepted conversion tells of each step.
use Rattle.std.proofs.Common.{◌≡◌, ℕ, ◌+◌, Bool, true, false, cond, not, ◌&&◌, ◌||◌, eqb, List, Some, None, Ok, Err, Option, Result, sym, refl, ap, ◌∙◌, subst, ⊎_elim, arith}
use mathlib.Core.Bool.{or-true}
use Rattle.std.proofs.lemmas.Bool.{and_parts, eqb-true, ne_eqb, not-false}
use Rattle.meaning.specs.Forest.{Forest, none, tree, size}
use Rattle.meaning.specs.Model.{Model, Column, Field, Shape, prim, struct, list, map, Primitive, boolean, int, long, float, double, date, time, timestamp, timestamptz, timestamp_ns, timestamptz_ns, string, uuid, fixed, binary, Code, at}
use Rattle.meaning.specs.Slots.{null, nan, nan_by}
use Rattle.meaning.specs.Codes.{code_number, code_detail, is_struct, is_list, is_map, struct?, list?, map?}
use Rattle.meaning.specs.Access.{child_at, Pick, Own, StepFault, fault, partner, or_refused}
use Rattle.meaning.specs.Lists.{or_zero}
use Rattle.meaning.specs.Literals.{null_literal, literal_by, literal_at}
use Rattle.meaning.specs.Walk.{missing}
use Rattle.meaning.specs.Converts.{has_number, detail_is, has_width, accepts, takes, field_hook, own_hook, check_fields, and_then}
use Rattle.meaning.specs.Nans.{nan_literal}
use Rattle.meaning.proofs.FieldPlaces.{found_child, found_kid}
use Rattle.meaning.proofs.Codes.{is-float, is_double, no_nan, nested_no_nan}
use Rattle.meaning.proofs.Premises.{Exactly}

-- a code by its number: no other than 4 and 5 holds a NaN
no_nan_is : (k : Code) (n : ℕ) (body : List ℕ) (i : ℕ) → (n ≡ 4 → ⊥) → (n ≡ 5 → ⊥) → has_number k n ≡ true → nan_by k body i ≡ false
no_nan_is k n body i a b e = no_nan k body i (let h = eqb-true (code_number k) n e in rw (h, ne_eqb n 4 a, ne_eqb n 5 b))

either_is : (k : Code) (n l : ℕ) (body : List ℕ) (i : ℕ) → (n ≡ 4 → ⊥) → (n ≡ 5 → ⊥) → (l ≡ 4 → ⊥) → (l ≡ 5 → ⊥) → (has_number k n || has_number k l) ≡ true → nan_by k body i ≡ false
either_is k n l body i a b c d e = ⊎_elim (no_nan_is k n body i a b) (no_nan_is k l body i c d) (grind arith)

width_is : (k : Code) (w : ℕ) (body : List ℕ) (i : ℕ) → has_width k w ≡ true → nan_by k body i ≡ false
width_is k w body i e = no_nan_is k 13 body i (λ h. omega arith) (λ h. omega arith) (and_parts (has_number k 13) (detail_is (code_detail k) w) e).0

-- a primitive's slots hold what the column says
prim-nan : (p : Primitive) (x : Column) (i : ℕ) → accepts p x.code ≡ true → nan_by x.code x.body i ≡ nan_literal (literal_by (prim p) x i)
prim-nan boolean x i e = no_nan_is x.code 1 x.body i (λ h. omega arith) (λ h. omega arith) e
prim-nan int x i e = no_nan_is x.code 2 x.body i (λ h. omega arith) (λ h. omega arith) e
prim-nan long x i e = no_nan_is x.code 3 x.body i (λ h. omega arith) (λ h. omega arith) e
prim-nan float x i e = ap (λ k. nan_by k x.body i) (is-float x.code (eqb-true (code_number x.code) 4 e))
prim-nan double x i e = ap (λ k. nan_by k x.body i) (is_double x.code (eqb-true (code_number x.code) 5 e))
prim-nan date x i e = no_nan_is x.code 7 x.body i (λ h. omega arith) (λ h. omega arith) e
prim-nan time x i e = no_nan_is x.code 8 x.body i (λ h. omega arith) (λ h. omega arith) e
prim-nan timestamp x i e = no_nan_is x.code 9 x.body i (λ h. omega arith) (λ h. omega arith) e
prim-nan timestamptz x i e = no_nan_is x.code 9 x.body i (λ h. omega arith) (λ h. omega arith) e
prim-nan timestamp_ns x i e = no_nan_is x.code 10 x.body i (λ h. omega arith) (λ h. omega arith) e
prim-nan timestamptz_ns x i e = no_nan_is x.code 10 x.body i (λ h. omega arith) (λ h. omega arith) e
prim-nan string x i e = either_is x.code 11 12 x.body i (λ h. omega arith) (λ h. omega arith) (λ h. omega arith) (λ h. omega arith) e
prim-nan uuid x i e = width_is x.code 16 x.body i e
prim-nan (fixed n) x i e = width_is x.code n x.body i e
prim-nan binary x i e = either_is x.code 14 15 x.body i (λ h. omega arith) (λ h. omega arith) (λ h. omega arith) (λ h. omega arith) e

-- a struct, list or map column holds none
struct-nan : (k : Code) (body : List ℕ) (i : ℕ) → is_struct k ≡ true → nan_by k body i ≡ false
struct-nan k body i e = nested_no_nan k body i (rw e)

list-nan : (k : Code) (body : List ℕ) (i : ℕ) → is_list k ≡ true → nan_by k body i ≡ false
list-nan k body i e = nested_no_nan k body i (rw e (or-true (is_struct k)))

map-nan : (k : Code) (body : List ℕ) (i : ℕ) → is_map k ≡ true → nan_by k body i ≡ false
map-nan k body i e = nested_no_nan k body i (rw (e, or-true (is_list k)) (or-true (is_struct k)))

-- a null slot holds none
null-nan : (u v : Bool) (s : Shape) (x : Column) (i : ℕ) → v ≡ nan_literal (literal_by s x i) → (not u && v) ≡ nan_literal (cond u null_literal (literal_by s x i))
null-nan true v s x i e = refl
null-nan false v s x i e = e

-- an answer that is taken passed its test
pub ok_test : (b : Bool) (r : Result ℕ StepFault) (e : StepFault) (t : ℕ) → cond b r (Err e) ≡ Ok t → (b ≡ true) × (r ≡ Ok t)
ok_test true r e t h = (refl, h)
ok_test false r e t h = (cc, cc)

pub ok_miss : (b : Bool) (r : Result ℕ StepFault) (e : StepFault) (t : ℕ) → cond b (Err e) r ≡ Ok t → b ≡ false
ok_miss true r e t h = cc
ok_miss false r e t h = refl

ok_is : (x y : ℕ) → ◌≡◌ {A = Result ℕ StepFault} (Ok x) (Ok y) → x ≡ y
ok_is x y e = cc

ok_some : (o : Option ℕ) (e : StepFault) (p : ℕ) → or_refused o e ≡ Ok p → o ≡ Some p
ok_some None e p h = cc
ok_some (Some k) e p h = cc

-- a result that is there came of a result that was there
pub and_then_ok : (r : Result ℕ StepFault) (k : ℕ → Result ℕ StepFault) (t : ℕ) → and_then r k ≡ Ok t → (x : ℕ) × (r ≡ Ok x) × (k x ≡ Ok t)
and_then_ok (Ok x) k t e = (x, refl, e)
and_then_ok (Err f) k t e = (0, cc, cc)

module _ (m : Model) (pick : Pick) where
  -- the partner of field n, held by a type of this shape
  abbrev pub partner_column : Shape → ℕ → ℕ → ℕ → ℕ
  partner_column (prim p) up c n = 0
  partner_column struct up c n = or_zero (pick c n)
  partner_column list up c n = child_at m c 0
  partner_column map up c n = child_at m c (cond (eqb n (up + 1)) 0 1)

  -- column c has a partner for field n
  abbrev pub IsPartner : Shape → ℕ → ℕ → Type 0
  IsPartner (prim p) c n = ⊥
  IsPartner struct c n = (struct? m c ≡ true) × (pick c n ≡ Some (or_zero (pick c n)))
  IsPartner list c n = list? m c ≡ true
  IsPartner map c n = map? m c ≡ true

  pub partner_of : (s : Shape) (up c n p : ℕ) → partner m pick s up c n ≡ Ok p → IsPartner s c n × (p ≡ partner_column s up c n)
  partner_of (prim k) up c n p e = absurd (let z : ◌≡◌ {A = ℕ} 0 1 = cc in omega arith)
  partner_of struct up c n p e =
      let h : (struct? m c ≡ true) × (or_refused (pick c n) (fault 11 c n) ≡ Ok p) = ok_test (struct? m c) (or_refused (pick c n) (fault 11 c n)) (fault 10 c n) p e in
      let k : pick c n ≡ Some p = ok_some (pick c n) (fault 11 c n) p h.1 in
      ((h.0, k ∙ ap (λ (o : Option ℕ). Some (or_zero o)) (sym k)), sym (ap or_zero k))
  partner_of list up c n p e =
      let h : (list? m c ≡ true) × (Ok (child_at m c 0) ≡ Ok p) = ok_test (list? m c) (Ok (child_at m c 0)) (fault 12 c up) p e in
      (h.0, sym (ok_is (child_at m c 0) p h.1))
  partner_of map up c n p e =
      let h : (map? m c ≡ true) × (Ok (partner_column map up c n) ≡ Ok p) = ok_test (map? m c) (Ok (partner_column map up c n)) (fault 13 c up) p e in
      (h.0, sym (ok_is (partner_column map up c n) p h.1))

  -- a field's partner is a column
  pub column-found : Own m pick → (s : Shape) (up n c : ℕ) → IsPartner s c n → missing m (partner_column s up c n) ≡ false
  column-found mine (prim k) up n c kind = absurd kind
  column-found mine struct up n c kind = found_child m c (or_zero (pick c n)) (mine c n (or_zero (pick c n)) kind.1)
  column-found mine list up n c kind = found_kid m c 0
  column-found mine map up n c kind = found_kid m c (cond (eqb n (up + 1)) 0 1)

-- the steps of a field that is accepted, at its partner
module _ (m : Model) (pick : Pick) (cells : ℕ) where
  pub record Step (f : Field) (below rest : Forest Field) (s : Shape) (up n c taken t p : ℕ) : Type 0 where
    pub met : partner m pick s up c n ≡ Ok p
    pub t₁ : ℕ
    pub inner : check_fields m pick cells below f.shape n (n + 1) p taken ≡ Ok t₁
    pub t₂ : ℕ
    pub mine : own_hook m cells f.shape below n p t₁ ≡ Ok t₂
    pub t₃ : ℕ
    pub after : check_fields m pick cells rest s up (n + 1 + size below) c t₃ ≡ Ok t

  pub step : (f : Field) (below rest : Forest Field) (s : Shape) (up n c taken t : ℕ) → check_fields m pick cells (tree f below rest) s up n c taken ≡ Ok t
      → IsPartner m pick s c n × Step f below rest s up n c taken t (partner_column m pick s up c n)
  step f below rest s up n c taken t e =
      let a = and_then_ok (partner m pick s up c n) _ t e in
      let b = and_then_ok (check_fields m pick cells below f.shape n (n + 1) a.0 taken) _ t a.2 in
      let d = and_then_ok (own_hook m cells f.shape below n a.0 b.0) _ t b.2 in
      let g = and_then_ok (field_hook m s f n c a.0 d.0) _ t d.2 in
      let k = partner_of m pick s up c n a.0 a.1 in
      (k.0, subst (λ (p : ℕ). Step f below rest s up n c taken t p) k.1 (record { met = a.1; t₁ = b.0; inner = b.1; t₂ = d.0; mine = d.1; t₃ = g.0; after = g.2 }))

  -- a NaN of the column is a NaN of the value
  kind-nan : (s : Shape) (below : Forest Field) (n p taken t₁ t₂ : ℕ) → Exactly s below → check_fields m pick cells below s n (n + 1) p taken ≡ Ok t₁ → own_hook m cells s below n p t₁ ≡ Ok t₂
      → (i : ℕ) → nan_by (at m p).code (at m p).body i ≡ nan_literal (literal_by s (at m p) i)
  kind-nan (prim k) below n p taken t₁ t₂ h c o i = prim-nan k (at m p) i (ok_test (accepts k (at m p).code) (takes cells n p (at m p).len t₁) (fault 14 p n) t₂ o).0
  kind-nan struct none n p taken t₁ t₂ h c o i = struct-nan (at m p).code (at m p).body i (not-false (struct? m p) (ok_miss (not (struct? m p)) _ (fault 14 p n) t₂ o))
  kind-nan struct (tree f below rest) n p taken t₁ t₂ h c o i = struct-nan (at m p).code (at m p).body i (step f below rest struct n (n + 1) p taken t₁ c).0.0
  kind-nan list none n p taken t₁ t₂ h c o i = absurd h
  kind-nan list (tree f below rest) n p taken t₁ t₂ h c o i = list-nan (at m p).code (at m p).body i (step f below rest list n (n + 1) p taken t₁ c).0
  kind-nan map none n p taken t₁ t₂ h c o i = absurd h
  kind-nan map (tree f below rest) n p taken t₁ t₂ h c o i = map-nan (at m p).code (at m p).body i (step f below rest map n (n + 1) p taken t₁ c).0

  pub literal-nan : (s : Shape) (below : Forest Field) (n p taken t₁ t₂ : ℕ) → Exactly s below → check_fields m pick cells below s n (n + 1) p taken ≡ Ok t₁ → own_hook m cells s below n p t₁ ≡ Ok t₂
      → (i : ℕ) → nan (at m p) i ≡ nan_literal (literal_at s (at m p) i)
  literal-nan s below n p taken t₁ t₂ h c o i = null-nan (null (at m p) i) (nan_by (at m p).code (at m p).body i) s (at m p) i (kind-nan s below n p taken t₁ t₂ h c o i)

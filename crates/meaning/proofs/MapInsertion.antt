-- Pairs put in one after another are the pairs that are kept.
use Rattle.std.proofs.Common.{◌≡◌, ℕ, Bool, true, false, cond, ◌||◌, List, [], ◌∷◌, ◌++◌, map as each, ℤ, sym, refl, ap, ◌∙◌, subst, ap₂, ⊎_elim, append_assoc, arith}
use Rattle.std.proofs.lemmas.Bool.{cases_Bool, or_cases, or_left, or_right, both_ways}
use Rattle.meaning.specs.Model.{Column}
use Rattle.meaning.specs.Slots.{span_slots}
use Rattle.meaning.specs.Lists.{any_of}
use Rattle.meaning.specs.Equal.{same_integer, same_bytes, same_boolean}
use Rattle.meaning.specs.Literals.{Literal, null_literal, boolean_literal, int_literal, long_literal, float_literal, double_literal, bytes_literal, struct_literal, list_literal, map_literal, same32, same64, Value, same_literal}
use Rattle.meaning.specs.Rows.{last_same, kept_from, kept}
use Rattle.meaning.specs.Converter.{slot, kept_pairs}
use Rattle.meaning.proofs.SlotLists.{any_push}
use Rattle.meaning.proofs.KeyEquality.{integers, bytes, booleans, floats32, floats64}
use Rattle.std.specs.List.{AllByRecursion}

-- a map's pairs, put in one after another: a key that is there takes the new value at its place, another goes to the end;
-- pairs are (key slot, value slot), as in `kept`
abbrev pub inserted : (ℕ → ℕ → Bool) → List (ℕ × ℕ) → ℕ → List (ℕ × ℕ)
inserted same [] j = (j, j) ∷ []
inserted same (kv ∷ kvs) j = cond (same kv.0 j) ((kv.0, j) ∷ kvs) (kv ∷ inserted same kvs j)

-- all slots of a list, one after another
abbrev pub inserted_all : (ℕ → ℕ → Bool) → List (ℕ × ℕ) → List ℕ → List (ℕ × ℕ)
inserted_all same kvs [] = kvs
inserted_all same kvs (j ∷ js) = inserted_all same (inserted same kvs j) js

-- a test that goes both ways and on
pub record PartialEquivalence {X : Type 0} (same : X → X → Bool) : Type 0 where
  pub flip : (a b : X) → same a b ≡ true → same b a ≡ true
  pub join : (a b c : X) → same a b ≡ true → same b c ≡ true → same a c ≡ true

module _ (same : ℕ → ℕ → Bool) (l : PartialEquivalence same) where
  same-swap : (a b : ℕ) → same a b ≡ same b a
  same-swap a b = ⊎_elim (λ t. t ∙ sym (l.flip a b t)) (λ f. ⊎_elim (λ t. absurd (both_ways (same a b) f (l.flip b a t))) (λ g. f ∙ sym g) (cases_Bool (same b a))) (cases_Bool (same a b))

  -- a key that is there
  abbrev hits : List (ℕ × ℕ) → ℕ → Bool
  hits [] i = false
  hits (kv ∷ kvs) i = same kv.0 i || hits kvs i

  hits_moved : (kvs : List (ℕ × ℕ)) (i j : ℕ) → same i j ≡ true → hits kvs j ≡ true → hits kvs i ≡ true
  hits_moved [] i j e h = h
  hits_moved (kv ∷ kvs) i j e h =
      ⊎_elim (λ t. or_left (same kv.0 i) (hits kvs i) (l.join kv.0 j i t (l.flip i j e))) (λ t. or_right (same kv.0 i) (hits kvs i) (hits_moved kvs i j e t)) (or_cases (same kv.0 j) (hits kvs j) h)

  -- no two keys are one key
  abbrev Apart : List (ℕ × ℕ) → Type 0
  Apart [] = Unit {0}
  Apart (kv ∷ kvs) = AllByRecursion (λ (lw : ℕ × ℕ). same kv.0 lw.0 ≡ false) kvs × Apart kvs

  all_inserted : (P : ℕ → Type 0) (kvs : List (ℕ × ℕ)) (j : ℕ) → AllByRecursion (λ (kv : ℕ × ℕ). P kv.0) kvs → P j → AllByRecursion (λ (kv : ℕ × ℕ). P kv.0) (inserted same kvs j)
  all_inserted P [] j a p = (p, tt)
  all_inserted P (kv ∷ kvs) j a p = go (same kv.0 j) (all_inserted P kvs j a.1 p)
    where
      go : (b : Bool) → AllByRecursion (λ (kv : ℕ × ℕ). P kv.0) (inserted same kvs j) → AllByRecursion (λ (kv : ℕ × ℕ). P kv.0) (cond b ((kv.0, j) ∷ kvs) (kv ∷ inserted same kvs j))
      go true r = (a.0, a.1)
      go false r = (a.0, r)

  apart_inserted : (kvs : List (ℕ × ℕ)) (j : ℕ) → Apart kvs → Apart (inserted same kvs j)
  apart_inserted [] j a = (tt, tt)
  apart_inserted (kv ∷ kvs) j a = go (same kv.0 j) refl (apart_inserted kvs j a.1)
    where
      go : (b : Bool) → same kv.0 j ≡ b → Apart (inserted same kvs j) → Apart (cond b ((kv.0, j) ∷ kvs) (kv ∷ inserted same kvs j))
      go true e r = a
      go false e r = (all_inserted (λ k. same kv.0 k ≡ false) kvs j a.0 e, r)

  -- the keys after one more
  hits_there : (kvs : List (ℕ × ℕ)) (j i : ℕ) → hits kvs j ≡ true → hits (inserted same kvs j) i ≡ hits kvs i
  hits_there [] j i h = absurd (both_ways false refl h)
  hits_there (kv ∷ kvs) j i h = go (same kv.0 j) h (hits_there kvs j i)
    where
      go : (b : Bool) → (b || hits kvs j) ≡ true → (hits kvs j ≡ true → hits (inserted same kvs j) i ≡ hits kvs i) → hits (cond b ((kv.0, j) ∷ kvs) (kv ∷ inserted same kvs j)) i ≡ (same kv.0 i || hits kvs i)
      go true e r = refl
      go false e r = ap (λ (b : Bool). same kv.0 i || b) (r e)

  hits_new : (kvs : List (ℕ × ℕ)) (j i : ℕ) → hits kvs j ≡ false → hits (inserted same kvs j) i ≡ (hits kvs i || same j i)
  hits_new [] j i h = grind arith
  hits_new (kv ∷ kvs) j i h = go (same kv.0 j) h (hits_new kvs j i)
    where
      go : (b : Bool) → (b || hits kvs j) ≡ false → (hits kvs j ≡ false → hits (inserted same kvs j) i ≡ (hits kvs i || same j i))
          → hits (cond b ((kv.0, j) ∷ kvs) (kv ∷ inserted same kvs j)) i ≡ ((same kv.0 i || hits kvs i) || same j i)
      go true e r = absurd (both_ways true e refl)
      go false e r = ap (λ (b : Bool). same kv.0 i || b) (r e) ∙ grind arith

  -- the slots seen so far have the keys that are there
  abbrev Seen : List ℕ → List (ℕ × ℕ) → Type 0
  Seen seen kvs = (i : ℕ) → any_of (same i) seen ≡ hits kvs i

  seen_there : (seen : List ℕ) (kvs : List (ℕ × ℕ)) (j : ℕ) → hits kvs j ≡ true → Seen seen kvs → Seen (seen ++ (j ∷ [])) (inserted same kvs j)
  seen_there seen kvs j h s i =
      any_push (same i) seen j ∙ (ap (λ (b : Bool). b || same i j) (s i) ∙ (⊎_elim (λ t. or_right (hits kvs i) (same i j) t ∙ sym (hits_moved kvs i j t h)) (λ f. ap (λ (b : Bool). hits kvs i || b) f ∙ grind arith) (cases_Bool (same i j)) ∙ sym (hits_there kvs j i h)))

  seen_new : (seen : List ℕ) (kvs : List (ℕ × ℕ)) (j : ℕ) → hits kvs j ≡ false → Seen seen kvs → Seen (seen ++ (j ∷ [])) (inserted same kvs j)
  seen_new seen kvs j h s i = any_push (same i) seen j ∙ (ap₂ ◌||◌ (s i) (same-swap i j) ∙ sym (hits_new kvs j i h))

  -- each key with the last value that the slots to come have for it
  abbrev ahead : List ℕ → ℕ × ℕ → ℕ × ℕ
  ahead js kv = (kv.0, last_same (same kv.0) kv.1 js)

  ahead_off : (j : ℕ) (js : List ℕ) (kvs : List (ℕ × ℕ)) → AllByRecursion (λ (kv : ℕ × ℕ). same kv.0 j ≡ false) kvs → each (ahead js) kvs ≡ each (ahead (j ∷ js)) kvs
  ahead_off j js [] a = refl
  ahead_off j js (kv ∷ kvs) a =
      ap₂ ◌∷◌ (ap (λ (b : Bool). (kv.0, cond b (last_same (same kv.0) j js) (last_same (same kv.0) kv.1 js))) (sym a.0)) (ahead_off j js kvs a.1)

  others_off : (k j : ℕ) (kvs : List (ℕ × ℕ)) → same k j ≡ true → AllByRecursion (λ (lw : ℕ × ℕ). same k lw.0 ≡ false) kvs → AllByRecursion (λ (kv : ℕ × ℕ). same kv.0 j ≡ false) kvs
  others_off k j [] e a = tt
  others_off k j (kv ∷ kvs) e a =
      (⊎_elim (λ t. absurd (both_ways (same k kv.0) a.0 (l.join k j kv.0 e (l.flip kv.0 j t)))) (λ f. f) (cases_Bool (same kv.0 j)), others_off k j kvs e a.1)

  ahead_there : (j : ℕ) (js : List ℕ) (kvs : List (ℕ × ℕ)) → Apart kvs → hits kvs j ≡ true → each (ahead js) (inserted same kvs j) ≡ each (ahead (j ∷ js)) kvs
  ahead_there j js [] a h = absurd (both_ways false refl h)
  ahead_there j js (kv ∷ kvs) a h = go (same kv.0 j) refl h (ahead_there j js kvs a.1)
    where
      go : (b : Bool) → same kv.0 j ≡ b → (b || hits kvs j) ≡ true → (hits kvs j ≡ true → each (ahead js) (inserted same kvs j) ≡ each (ahead (j ∷ js)) kvs)
          → each (ahead js) (cond b ((kv.0, j) ∷ kvs) (kv ∷ inserted same kvs j)) ≡ (kv.0, cond b (last_same (same kv.0) j js) (last_same (same kv.0) kv.1 js)) ∷ each (ahead (j ∷ js)) kvs
      go true e h r = ap (λ (xs : List (ℕ × ℕ)). (kv.0, last_same (same kv.0) j js) ∷ xs) (ahead_off j js kvs (others_off kv.0 j kvs e a.0))
      go false e h r = ap (λ (xs : List (ℕ × ℕ)). (kv.0, last_same (same kv.0) kv.1 js) ∷ xs) (r h)

  ahead_new : (j : ℕ) (js : List ℕ) (kvs : List (ℕ × ℕ)) → hits kvs j ≡ false → each (ahead js) (inserted same kvs j) ≡ each (ahead (j ∷ js)) kvs ++ ((j, last_same (same j) j js) ∷ [])
  ahead_new j js [] h = refl
  ahead_new j js (kv ∷ kvs) h = go (same kv.0 j) h (ahead_new j js kvs)
    where
      go : (b : Bool) → (b || hits kvs j) ≡ false → (hits kvs j ≡ false → each (ahead js) (inserted same kvs j) ≡ each (ahead (j ∷ js)) kvs ++ ((j, last_same (same j) j js) ∷ []))
          → each (ahead js) (cond b ((kv.0, j) ∷ kvs) (kv ∷ inserted same kvs j)) ≡ ((kv.0, cond b (last_same (same kv.0) j js) (last_same (same kv.0) kv.1 js)) ∷ each (ahead (j ∷ js)) kvs) ++ ((j, last_same (same j) j js) ∷ [])
      go true e r = absurd (both_ways true e refl)
      go false e r = ap (λ (xs : List (ℕ × ℕ)). (kv.0, last_same (same kv.0) kv.1 js) ∷ xs) (r e)

  ahead_none : (kvs : List (ℕ × ℕ)) → kvs ≡ each (ahead []) kvs ++ []
  ahead_none [] = refl
  ahead_none (kv ∷ kvs) = ap (λ (xs : List (ℕ × ℕ)). kv ∷ xs) (ahead_none kvs)

  -- what is put in is what was there, with its last values, and what is kept of the rest
  all_kept : (js : List ℕ) (kvs : List (ℕ × ℕ)) (seen : List ℕ) → Apart kvs → Seen seen kvs → inserted_all same kvs js ≡ each (ahead js) kvs ++ kept_from same seen js
  all_kept [] kvs seen a s = ahead_none kvs
  all_kept (j ∷ js) kvs seen a s = go (hits kvs j) refl (all_kept js (inserted same kvs j) (seen ++ (j ∷ [])) (apart_inserted kvs j a))
    where
      more : List (ℕ × ℕ)
      more = kept_from same (seen ++ (j ∷ [])) js

      go : (b : Bool) → hits kvs j ≡ b → (Seen (seen ++ (j ∷ [])) (inserted same kvs j) → inserted_all same (inserted same kvs j) js ≡ each (ahead js) (inserted same kvs j) ++ more)
          → inserted_all same (inserted same kvs j) js ≡ each (ahead (j ∷ js)) kvs ++ cond (any_of (same j) seen) more ((j, last_same (same j) j js) ∷ more)
      go true h r =
          r (seen_there seen kvs j h s)
          ∙ ap₂ (λ (xs : List (ℕ × ℕ)) (b : Bool). xs ++ cond b more ((j, last_same (same j) j js) ∷ more)) (ahead_there j js kvs a h) (sym (s j ∙ h))
      go false h r =
          r (seen_new seen kvs j h s)
          ∙ (ap (λ (xs : List (ℕ × ℕ)). xs ++ more) (ahead_new j js kvs h)
          ∙ (append_assoc (each (ahead (j ∷ js)) kvs) ((j, last_same (same j) j js) ∷ []) more
          ∙ ap (λ (b : Bool). each (ahead (j ∷ js)) kvs ++ cond b more ((j, last_same (same j) j js) ∷ more)) (sym (s j ∙ h))))

  pub inserted_kept : (is : List ℕ) → inserted_all same [] is ≡ kept same is
  inserted_kept is = all_kept is [] [] tt (λ i. refl)

-- a value that is one key with a primitive value is of its kind
boolean_like : (a : Bool) (y : Literal) → same_literal (boolean_literal a) y ≡ true → (b : Bool) × (y ≡ boolean_literal b) × (same_boolean a b ≡ true)
boolean_like a null_literal e = absurd (both_ways false refl e)
boolean_like a (boolean_literal b) e = (b, refl, e)
boolean_like a (int_literal b) e = absurd (both_ways false refl e)
boolean_like a (long_literal b) e = absurd (both_ways false refl e)
boolean_like a (float_literal b) e = absurd (both_ways false refl e)
boolean_like a (double_literal b) e = absurd (both_ways false refl e)
boolean_like a (bytes_literal b) e = absurd (both_ways false refl e)
boolean_like a struct_literal e = absurd (both_ways false refl e)
boolean_like a list_literal e = absurd (both_ways false refl e)
boolean_like a map_literal e = absurd (both_ways false refl e)

int_like : (a : ℤ) (y : Literal) → same_literal (int_literal a) y ≡ true → (b : ℤ) × (y ≡ int_literal b) × (same_integer a b ≡ true)
int_like a null_literal e = absurd (both_ways false refl e)
int_like a (boolean_literal b) e = absurd (both_ways false refl e)
int_like a (int_literal b) e = (b, refl, e)
int_like a (long_literal b) e = absurd (both_ways false refl e)
int_like a (float_literal b) e = absurd (both_ways false refl e)
int_like a (double_literal b) e = absurd (both_ways false refl e)
int_like a (bytes_literal b) e = absurd (both_ways false refl e)
int_like a struct_literal e = absurd (both_ways false refl e)
int_like a list_literal e = absurd (both_ways false refl e)
int_like a map_literal e = absurd (both_ways false refl e)

long_like : (a : ℤ) (y : Literal) → same_literal (long_literal a) y ≡ true → (b : ℤ) × (y ≡ long_literal b) × (same_integer a b ≡ true)
long_like a null_literal e = absurd (both_ways false refl e)
long_like a (boolean_literal b) e = absurd (both_ways false refl e)
long_like a (int_literal b) e = absurd (both_ways false refl e)
long_like a (long_literal b) e = (b, refl, e)
long_like a (float_literal b) e = absurd (both_ways false refl e)
long_like a (double_literal b) e = absurd (both_ways false refl e)
long_like a (bytes_literal b) e = absurd (both_ways false refl e)
long_like a struct_literal e = absurd (both_ways false refl e)
long_like a list_literal e = absurd (both_ways false refl e)
long_like a map_literal e = absurd (both_ways false refl e)

float_like : (a : ℕ) (y : Literal) → same_literal (float_literal a) y ≡ true → (b : ℕ) × (y ≡ float_literal b) × (same32 a b ≡ true)
float_like a null_literal e = absurd (both_ways false refl e)
float_like a (boolean_literal b) e = absurd (both_ways false refl e)
float_like a (int_literal b) e = absurd (both_ways false refl e)
float_like a (long_literal b) e = absurd (both_ways false refl e)
float_like a (float_literal b) e = (b, refl, e)
float_like a (double_literal b) e = absurd (both_ways false refl e)
float_like a (bytes_literal b) e = absurd (both_ways false refl e)
float_like a struct_literal e = absurd (both_ways false refl e)
float_like a list_literal e = absurd (both_ways false refl e)
float_like a map_literal e = absurd (both_ways false refl e)

double_like : (a : ℕ) (y : Literal) → same_literal (double_literal a) y ≡ true → (b : ℕ) × (y ≡ double_literal b) × (same64 a b ≡ true)
double_like a null_literal e = absurd (both_ways false refl e)
double_like a (boolean_literal b) e = absurd (both_ways false refl e)
double_like a (int_literal b) e = absurd (both_ways false refl e)
double_like a (long_literal b) e = absurd (both_ways false refl e)
double_like a (float_literal b) e = absurd (both_ways false refl e)
double_like a (double_literal b) e = (b, refl, e)
double_like a (bytes_literal b) e = absurd (both_ways false refl e)
double_like a struct_literal e = absurd (both_ways false refl e)
double_like a list_literal e = absurd (both_ways false refl e)
double_like a map_literal e = absurd (both_ways false refl e)

bytes_like : (a : List ℕ) (y : Literal) → same_literal (bytes_literal a) y ≡ true → (b : List ℕ) × (y ≡ bytes_literal b) × (same_bytes a b ≡ true)
bytes_like a null_literal e = absurd (both_ways false refl e)
bytes_like a (boolean_literal b) e = absurd (both_ways false refl e)
bytes_like a (int_literal b) e = absurd (both_ways false refl e)
bytes_like a (long_literal b) e = absurd (both_ways false refl e)
bytes_like a (float_literal b) e = absurd (both_ways false refl e)
bytes_like a (double_literal b) e = absurd (both_ways false refl e)
bytes_like a (bytes_literal b) e = (b, refl, e)
bytes_like a struct_literal e = absurd (both_ways false refl e)
bytes_like a list_literal e = absurd (both_ways false refl e)
bytes_like a map_literal e = absurd (both_ways false refl e)

literal_flip : (x y : Literal) → same_literal x y ≡ true → same_literal y x ≡ true
literal_flip (boolean_literal a) y e = let r = boolean_like a y e in subst (λ (z : Literal). same_literal z (boolean_literal a) ≡ true) (sym r.1) (booleans.flip a r.0 r.2)
literal_flip (int_literal a) y e = let r = int_like a y e in subst (λ (z : Literal). same_literal z (int_literal a) ≡ true) (sym r.1) (integers.flip a r.0 r.2)
literal_flip (long_literal a) y e = let r = long_like a y e in subst (λ (z : Literal). same_literal z (long_literal a) ≡ true) (sym r.1) (integers.flip a r.0 r.2)
literal_flip (float_literal a) y e = let r = float_like a y e in subst (λ (z : Literal). same_literal z (float_literal a) ≡ true) (sym r.1) (floats32.flip a r.0 r.2)
literal_flip (double_literal a) y e = let r = double_like a y e in subst (λ (z : Literal). same_literal z (double_literal a) ≡ true) (sym r.1) (floats64.flip a r.0 r.2)
literal_flip (bytes_literal a) y e = let r = bytes_like a y e in subst (λ (z : Literal). same_literal z (bytes_literal a) ≡ true) (sym r.1) (bytes.flip a r.0 r.2)
literal_flip null_literal y e = absurd (both_ways false refl e)
literal_flip struct_literal y e = absurd (both_ways false refl e)
literal_flip list_literal y e = absurd (both_ways false refl e)
literal_flip map_literal y e = absurd (both_ways false refl e)

literal_join : (x y z : Literal) → same_literal x y ≡ true → same_literal y z ≡ true → same_literal x z ≡ true
literal_join (boolean_literal a) y z e f =
    let r = boolean_like a y e in
    let q = boolean_like r.0 z (subst (λ (w : Literal). same_literal w z ≡ true) r.1 f) in
    subst (λ (w : Literal). same_literal (boolean_literal a) w ≡ true) (sym q.1) (booleans.join a r.0 q.0 r.2 q.2)
literal_join (int_literal a) y z e f =
    let r = int_like a y e in
    let q = int_like r.0 z (subst (λ (w : Literal). same_literal w z ≡ true) r.1 f) in
    subst (λ (w : Literal). same_literal (int_literal a) w ≡ true) (sym q.1) (integers.join a r.0 q.0 r.2 q.2)
literal_join (long_literal a) y z e f =
    let r = long_like a y e in
    let q = long_like r.0 z (subst (λ (w : Literal). same_literal w z ≡ true) r.1 f) in
    subst (λ (w : Literal). same_literal (long_literal a) w ≡ true) (sym q.1) (integers.join a r.0 q.0 r.2 q.2)
literal_join (float_literal a) y z e f =
    let r = float_like a y e in
    let q = float_like r.0 z (subst (λ (w : Literal). same_literal w z ≡ true) r.1 f) in
    subst (λ (w : Literal). same_literal (float_literal a) w ≡ true) (sym q.1) (floats32.join a r.0 q.0 r.2 q.2)
literal_join (double_literal a) y z e f =
    let r = double_like a y e in
    let q = double_like r.0 z (subst (λ (w : Literal). same_literal w z ≡ true) r.1 f) in
    subst (λ (w : Literal). same_literal (double_literal a) w ≡ true) (sym q.1) (floats64.join a r.0 q.0 r.2 q.2)
literal_join (bytes_literal a) y z e f =
    let r = bytes_like a y e in
    let q = bytes_like r.0 z (subst (λ (w : Literal). same_literal w z ≡ true) r.1 f) in
    subst (λ (w : Literal). same_literal (bytes_literal a) w ≡ true) (sym q.1) (bytes.join a r.0 q.0 r.2 q.2)
literal_join null_literal y z e f = absurd (both_ways false refl e)
literal_join struct_literal y z e f = absurd (both_ways false refl e)
literal_join list_literal y z e f = absurd (both_ways false refl e)
literal_join map_literal y z e f = absurd (both_ways false refl e)

-- the pairs of a map's slot, put in one after another by the keys' values
pub pairs_inserted : (x : Column) (ks : List Value) (i : ℕ) → kept_pairs x ks i ≡ inserted_all (λ a b. same_literal (slot ks a).0 (slot ks b).0) [] (span_slots x i)
pairs_inserted x ks i =
    sym (inserted_kept (λ a b. same_literal (slot ks a).0 (slot ks b).0) (record { flip = λ a b. literal_flip (slot ks a).0 (slot ks b).0; join = λ a b c. literal_join (slot ks a).0 (slot ks b).0 (slot ks c).0 }) (span_slots x i))

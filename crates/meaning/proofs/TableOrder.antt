-- Tables in ascending order of their ids: what an addition changes, and when two are equal.
use Rattle.std.proofs.Common.{◌≡◌, ℕ, suc, ◌+◌, ◌≤◌, true, false, cond, [], ◌∷◌, length, ℤ, Some, None, Option, sym, refl, ap, ◌∙◌, subst, ap₂, inl, inr, arith}
use lib.Signed.{lt_z}
use Rattle.std.proofs.lemmas.Bool.{cases_Bool}
use Rattle.meaning.specs.Equal.{same_integer}
use Rattle.meaning.specs.Table.{CountEntry, Table, saturated, added, count_of, has_id}
use lib.Signed.{lt_z}
use Rattle.meaning.proofs.IdOrder.{same_self, same_eq, less_apart, less_less, less_else}

-- every entry's id is above this one
abbrev pub Above : ℤ → Table → Type 0
Above id [] = Unit {0}
Above id (e ∷ es) = (lt_z id e.id ≡ true) × Above id es

abbrev pub Ascending : Table → Type 0
Ascending [] = Unit {0}
Ascending (e ∷ es) = Above e.id es × Ascending es

above_on : (a b : ℤ) (t : Table) → lt_z a b ≡ true → Above b t → Above a t
above_on a b [] h k = tt
above_on a b (e ∷ es) h k = (less_less a b e.id h k.0, above_on a b es h k.1)

-- an id below all others has no entry
above_none : (id : ℤ) (t : Table) → Above id t → count_of t id ≡ None
above_none id [] k = refl
above_none id (e ∷ es) k = rw (less_apart id e.id k.0) (above_none id es k.1)

-- an addition keeps the order
above_added : (a : ℤ) (t : Table) (id : ℤ) (n : ℕ) → lt_z a id ≡ true → Above a t → Above a (added t id n)
above_added a [] id n h k = (h, tt)
above_added a (e ∷ es) id n h k =
    elim (cases_Bool (same_integer id e.id)) [
      | inl s ↦ rw s (h, k.1)
      | inr s ↦ elim (cases_Bool (lt_z id e.id)) [
        | inl b ↦ rw (s, b) (h, k)
        | inr b ↦ rw (s, b) (k.0, above_added a es id n h k.1)
      ]
    ]

pub ascending_added : (t : Table) (id : ℤ) (n : ℕ) → Ascending t → Ascending (added t id n)
ascending_added [] id n k = (tt, tt)
ascending_added (e ∷ es) id n k =
    elim (cases_Bool (same_integer id e.id)) [
      | inl s ↦ rw s (subst (λ (x : ℤ). Above x es) (sym (same_eq id e.id s)) k.0, k.1)
      | inr s ↦ elim (cases_Bool (lt_z id e.id)) [
        | inl b ↦ rw (s, b) ((b, above_on id e.id es b k.0), k)
        | inr b ↦ rw (s, b) (above_added e.id es id n (less_else id e.id s b) k.0, ascending_added es id n k.1)
      ]
    ]

-- what one addition makes of the count under its id
abbrev pub plus : Option ℕ → ℕ → Option ℕ
plus None n = Some (saturated n)
plus (Some c) n = Some (saturated (c + n))

-- and it changes no other count
pub counted-added : (t : Table) (id : ℤ) (n : ℕ) (q : ℤ) → Ascending t → count_of (added t id n) q ≡ cond (same_integer q id) (plus (count_of t q) n) (count_of t q)
counted-added [] id n q k = refl
counted-added (e ∷ es) id n q k =
    elim (cases_Bool (same_integer id e.id)) [
      | inl s ↦ rw (s, ← (same_eq id e.id s)) (elim (cases_Bool (same_integer q id)) [ inl c ↦ rw c | inr c ↦ rw c ])
      | inr s ↦ elim (cases_Bool (lt_z id e.id)) [
        | inl b ↦ rw (s, b) (elim (cases_Bool (same_integer q id)) [ inl c ↦ rw (c, same_eq q id c, less_apart id e.id b, above_none id es (above_on id e.id es b k.0)) | inr c ↦ rw c ])
        | inr b ↦ rw (s, b, counted-added es id n q k.1) (elim (cases_Bool (same_integer q id)) [ inl c ↦ rw (c, same_eq q id c, s) | inr c ↦ rw c ])
      ]
    ]

-- an entry is its id and its count
entry : (e f : CountEntry) → e.id ≡ f.id → e.count ≡ f.count → e ≡ f
entry e f p q = λ i. record { id = p i; count = q i }

-- the head of a table has the lowest id of all
first_counted : (e : CountEntry) (es : Table) → count_of (e ∷ es) e.id ≡ Some e.count
first_counted e es = rw (same_self e.id)

rest-counted : (e : CountEntry) (es : Table) (q : ℤ) → Ascending (e ∷ es) → count_of es q ≡ cond (same_integer q e.id) None (count_of (e ∷ es) q)
rest-counted e es q k = elim (cases_Bool (same_integer q e.id)) [ inl s ↦ rw (s, same_eq q e.id s, above_none e.id es k.0) | inr s ↦ rw s ]

-- of two tables that count alike, no head is below the other's
heads : (e f : CountEntry) (es fs : Table) → Ascending (f ∷ fs) → ((q : ℤ) → count_of (e ∷ es) q ≡ count_of (f ∷ fs) q) → lt_z e.id f.id ≡ true → ⊥
heads e f es fs k alike b =
    let z : None ≡ Some e.count = sym (above_none e.id (f ∷ fs) (b, above_on e.id f.id fs b k.0)) ∙ (sym (alike e.id) ∙ first_counted e es) in
    let w : ◌≡◌ {A = ℕ} 0 1 = cc in omega arith

-- and where the heads have one id, the rests count alike
rests : (e f : CountEntry) (es fs : Table) → Ascending (e ∷ es) → Ascending (f ∷ fs) → e.id ≡ f.id → ((q : ℤ) → count_of (e ∷ es) q ≡ count_of (f ∷ fs) q) → (q : ℤ) → count_of es q ≡ count_of fs q
rests e f es fs j k p alike q =
    rest-counted e es q j
    ∙ (ap (λ (x : ℤ). cond (same_integer q x) None (count_of (e ∷ es) q)) p
    ∙ (ap (λ (o : Option ℕ). cond (same_integer q f.id) None o) (alike q)
    ∙ sym (rest-counted f fs q k)))

-- tables that count alike are equal, entry by entry
pub alike_equal : (t u : Table) → Ascending t → Ascending u → ((q : ℤ) → count_of t q ≡ count_of u q) → t ≡ u
alike_equal [] [] j k alike = refl
alike_equal [] (f ∷ fs) j k alike = let z : None ≡ Some f.count = alike f.id ∙ first_counted f fs in cc
alike_equal (e ∷ es) [] j k alike = let z : None ≡ Some e.count = sym (alike e.id) ∙ first_counted e es in cc
alike_equal (e ∷ es) (f ∷ fs) j k alike =
    elim (cases_Bool (same_integer e.id f.id)) [
      | inl s ↦
          let p : e.id ≡ f.id = same_eq e.id f.id s in
          let c : Some e.count ≡ Some f.count = sym (first_counted e es) ∙ (alike e.id ∙ (ap (count_of (f ∷ fs)) p ∙ first_counted f fs)) in
          let n : e.count ≡ f.count = cc in
          ap₂ (λ (x : CountEntry) (xs : Table). x ∷ xs) (entry e f p n) (alike_equal es fs j.1 k.1 (rests e f es fs j k p alike))
      | inr s ↦ elim (cases_Bool (lt_z e.id f.id)) [
        | inl b ↦ absurd (heads e f es fs k alike b)
        | inr b ↦ absurd (heads f e fs es j (λ q. sym (alike q)) (less_else e.id f.id s b))
      ]
    ]

-- an addition makes no table shorter, and a new id makes it longer
pub length_added : (t : Table) (id : ℤ) (n : ℕ) → length t ≤ length (added t id n)
length_added [] id n = omega arith
length_added (e ∷ es) id n =
    elim (cases_Bool (same_integer id e.id)) [
      | inl s ↦ rw s (omega arith)
      | inr s ↦ elim (cases_Bool (lt_z id e.id)) [
        | inl b ↦ rw (s, b) (omega arith)
        | inr b ↦ rw (s, b) (omega (arith, length_added es id n))
      ]
    ]

pub length_new : (t : Table) (id : ℤ) (n : ℕ) → has_id t id ≡ false → length (added t id n) ≡ length t + 1
length_new [] id n h = refl
length_new (e ∷ es) id n h =
    elim (cases_Bool (same_integer id e.id)) [
      | inl s ↦ let z : true ≡ false = rw s at h in cc
      | inr s ↦ elim (cases_Bool (lt_z id e.id)) [
        | inl b ↦ rw (s, b) (omega arith)
        | inr b ↦ rw (s, b) (let ih = length_new es id n (rw s at h) in omega arith)
      ]
    ]

-- the table without an id's entry
abbrev pub without : Table → ℤ → Table
without [] id = []
without (e ∷ es) id = cond (same_integer id e.id) es (e ∷ without es id)

above_without : (a : ℤ) (t : Table) (id : ℤ) → Above a t → Above a (without t id)
above_without a [] id k = tt
above_without a (e ∷ es) id k = elim (cases_Bool (same_integer id e.id)) [ inl s ↦ rw s k.1 | inr s ↦ rw s (k.0, above_without a es id k.1) ]

pub ascending_without : (t : Table) (id : ℤ) → Ascending t → Ascending (without t id)
ascending_without [] id k = tt
ascending_without (e ∷ es) id k =
    elim (cases_Bool (same_integer id e.id)) [ inl s ↦ rw s k.1 | inr s ↦ rw s (above_without e.id es id k.0, ascending_without es id k.1) ]

pub length_without : (t : Table) (id : ℤ) → length t ≤ suc (length (without t id))
length_without [] id = omega arith
length_without (e ∷ es) id = elim (cases_Bool (same_integer id e.id)) [ inl s ↦ rw s (omega arith) | inr s ↦ rw s (omega (arith, length_without es id)) ]

pub counted_without : (t : Table) (id q : ℤ) → Ascending t → count_of (without t id) q ≡ cond (same_integer q id) None (count_of t q)
counted_without [] id q k = elim (cases_Bool (same_integer q id)) [ inl c ↦ rw c | inr c ↦ rw c ]
counted_without (e ∷ es) id q k =
    elim (cases_Bool (same_integer id e.id)) [
      | inl s ↦ rw s (rw (same_eq id e.id s) (rest-counted e es q k))
      | inr s ↦ rw (s, counted_without es id q k.1) (elim (cases_Bool (same_integer q id)) [ inl c ↦ rw (c, same_eq q id c, s) | inr c ↦ rw c ])
    ]

-- to find an entry
pub has_counted : (t : Table) (q : ℤ) (c : ℕ) → count_of t q ≡ Some c → has_id t q ≡ true
has_counted [] q c h = cc
has_counted (e ∷ es) q c h = elim (cases_Bool (same_integer q e.id)) [ inl s ↦ rw s | inr s ↦ rw s (has_counted es q c (rw s at h)) ]

pub has_without : (t : Table) (id q : ℤ) → same_integer q id ≡ false → has_id (without t id) q ≡ has_id t q
has_without [] id q h = refl
has_without (e ∷ es) id q h =
    elim (cases_Bool (same_integer id e.id)) [
      | inl s ↦ rw s (let z : same_integer q e.id ≡ false = rw (same_eq id e.id s) at h in rw z)
      | inr s ↦ rw (s, has_without es id q h)
    ]

pub length_had : (t : Table) (id : ℤ) → has_id t id ≡ true → length t ≡ suc (length (without t id))
length_had [] id h = cc
length_had (e ∷ es) id h = elim (cases_Bool (same_integer id e.id)) [ inl s ↦ rw s | inr s ↦ rw s (ap suc (length_had es id (rw s at h))) ]

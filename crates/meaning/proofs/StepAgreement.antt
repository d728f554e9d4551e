-- A step that agrees with a defined answer: the values and the cells it says, or the refusal it says.
use Rattle.std.proofs.Common.{◌≡◌, ℕ, ◌+◌, Bool, true, false, cond, not, leb, List, ◌∷◌, Some, Ok, Err, Option, Result, sym, refl, ap, subst, arith}
use Rattle.meaning.specs.Model.{Model}
use Rattle.meaning.specs.Access.{StepFault, fault}
use Rattle.meaning.specs.Converts.{takes, and_then}
use Rattle.meaning.specs.Walk.{Step, ret, missing, bind_result, refuse_if, or_refuse}
use Rattle.meaning.specs.Literals.{Value}
use Rattle.meaning.specs.Converter.{sought, taking}

abbrev pub Agrees : {X : Type 0} → Result X StepFault × ℕ → Result ℕ StepFault → X → Type 0
Agrees x (Ok t) v = x ≡ (Ok v, t)
Agrees x (Err e) v = x.0 ≡ Err e

-- a test that refuses, and one that cannot
pub agrees_refuse_if : {X : Type 0} (b : Bool) (e : StepFault) (k : Step ℕ X) (s : ℕ) (r : Result ℕ StepFault) (v : X) → (b ≡ false → Agrees (k s) r v) → Agrees (refuse_if b e k s) (cond b (Err e) r) v
agrees_refuse_if true e k s r v h = refl
agrees_refuse_if false e k s r v h = h refl

pub agrees_retest : {X : Type 0} (b d : Bool) (e : StepFault) (k : Step ℕ X) (s : ℕ) (r : Result ℕ StepFault) (v : X) → b ≡ d → (d ≡ false → Agrees (k s) r v) → Agrees (refuse_if b e k s) (cond d (Err e) r) v
agrees_retest b d e k s r v h a = subst (λ (x : Bool). Agrees (refuse_if x e k s) (cond d (Err e) r) v) (sym h) (agrees_refuse_if d e k s r v a)

pub agrees_test : {X : Type 0} (b : Bool) (e : StepFault) (k : Step ℕ X) (s : ℕ) (r : Result ℕ StepFault) (v : X) → Agrees (k s) r v → Agrees (refuse_if (not b) e k s) (cond b r (Err e)) v
agrees_test true e k s r v h = h
agrees_test false e k s r v h = refl

pub agrees_pass : {X : Type 0} (b : Bool) (e : StepFault) (k : Step ℕ X) (s : ℕ) (r : Result ℕ StepFault) (v : X) → b ≡ false → Agrees (k s) r v → Agrees (refuse_if b e k s) r v
agrees_pass b e k s r v h a = subst (λ (c : Bool). Agrees (refuse_if c e k s) r v) (sym h) a

pub agrees_or_refuse : {X Y : Type 0} (o : Option X) (x : X) (e : StepFault) (k : X → Step ℕ Y) (s : ℕ) (r : Result ℕ StepFault) (v : Y) → o ≡ Some x → Agrees (k x s) r v → Agrees (or_refuse o e k s) r v
agrees_or_refuse o x e k s r v h a = subst (λ p. Agrees (or_refuse p e k s) r v) (sym h) a

pub agrees_sought : {X Y : Type 0} (m : Model) (o : Option X) (x : X) (n c : ℕ) (k : X → Step ℕ Y) (s : ℕ) (r : Result ℕ StepFault) (v : Y) → o ≡ Some x → missing m c ≡ false → Agrees (k x s) r v
    → Agrees (sought m o n c k s) r v
agrees_sought m o x n c k s r v h i a = agrees_or_refuse o x (fault 9 c n) (λ x. refuse_if (missing m c) (fault 9 c n) (k x)) s r v h (agrees_pass (missing m c) (fault 9 c n) (k x) s r v i a)

-- the same values under another name
pub agrees_as : {X : Type 0} (x : Result X StepFault × ℕ) (r : Result ℕ StepFault) (v w : X) → v ≡ w → Agrees x r v → Agrees x r w
agrees_as x r v w e a = subst (λ u. Agrees x r u) e a

-- cells that fit or do not
pub agrees_taking : (m : Model) (cells n c more taken : ℕ) (v : List Value) → Agrees (taking m cells n c more v taken) (takes cells n c more taken) v
agrees_taking m cells n c more taken v = go (leb (taken + more) cells)
  where
    go : (b : Bool) → Agrees (cond b (Ok v, taken + more) (Err (fault 21 c n), taken)) (cond b (Ok (taken + more)) (Err (fault 21 c n))) v
    go true = refl
    go false = refl

-- one step after another
refused_then : {X Y : Type 0} (x : Result X StepFault × ℕ) (k : X → Step ℕ Y) (e : StepFault) → x.0 ≡ Err e → (bind_result k x).0 ≡ Err e
refused_then (Ok a, s) k e h = absurd (let z : ◌≡◌ {A = ℕ} 0 1 = cc in omega arith)
refused_then (Err f, s) k e h = cc

pub agrees_then : {X Y : Type 0} (x : Result X StepFault × ℕ) (r : Result ℕ StepFault) (v : X) (k : X → Step ℕ Y) (f : ℕ → Result ℕ StepFault) (w : Y)
    → Agrees x r v → ((t : ℕ) → r ≡ Ok t → Agrees (k v t) (f t) w) → Agrees (bind_result k x) (and_then r f) w
agrees_then x (Ok t) v k f w a h = subst (λ y. Agrees (bind_result k y) (f t) w) (sym a) (h t refl)
agrees_then x (Err e) v k f w a h = refused_then x k e a

pub and_then-and_then : (r : Result ℕ StepFault) (f g : ℕ → Result ℕ StepFault) → and_then (and_then r f) g ≡ and_then r (λ t. and_then (f t) g)
and_then-and_then (Ok t) f g = refl
and_then-and_then (Err e) f g = refl

-- a value in front of others
pub agrees_push : {X : Type 0} (x : Result (List X) StepFault × ℕ) (r : Result ℕ StepFault) (v : X) (vs : List X) → Agrees x r vs → Agrees (bind_result (λ ts. ret (v ∷ ts)) x) r (v ∷ vs)
agrees_push x (Ok t) v vs a = ap (λ y. bind_result (λ ts. ret (v ∷ ts)) y) a
agrees_push x (Err e) v vs a = refused_then x (λ ts. ret (v ∷ ts)) e a

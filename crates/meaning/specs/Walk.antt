-- The walk over a schema with a batch beside it, for any visitor: the order of questions and hooks is that of iceberg's spec/schema/visitor.rs.
use Rattle.std.specs.Prelude.{ℕ, zero, suc, ◌+◌, Bool, true, false, cond, List, [], ◌∷◌, Some, None, Ok, Err, Option, Result, ◌==◌}
use Rattle.meaning.specs.Forest.{Forest, none, tree, size, find}
use Rattle.meaning.specs.Model.{Model, Field, Column, Shape, prim, struct, list, map, column}
use Rattle.meaning.specs.Access.{Pick, StepFault, fault, partner}

-- a step: an answer or a refusal, and the visitor's state after it
abbrev pub Step : Type 0 → Type 0 → Type 0
Step S X = S → Result X StepFault × S

-- an answer that changes no state
abbrev pub ret : {S X : Type 0} → X → Step S X
ret x s = (Ok x, s)

-- a refusal that changes no state
abbrev pub refuse : {S X : Type 0} → StepFault → Step S X
refuse e s = (Err e, s)

-- what goes on with an outcome; a refusal ends it
abbrev pub bind_result : {S X Y : Type 0} → (X → Step S Y) → Result X StepFault × S → Result Y StepFault × S
bind_result f (Ok x, s) = f x s
bind_result f (Err e, s) = (Err e, s)

-- one step after another, up to the first refusal
abbrev pub bind : {S X Y : Type 0} → Step S X → (X → Step S Y) → Step S Y
bind m f s = bind_result f (m s)

-- the step on what was found; a refusal where nothing was
abbrev pub or_refuse : {X Y S : Type 0} → Option X → StepFault → (X → Step S Y) → Step S Y
or_refuse None e k = refuse e
or_refuse (Some x) e k = k x

-- a refusal where a test holds, and else the step
abbrev pub refuse_if : {Y S : Type 0} → Bool → StepFault → Step S Y → Step S Y
refuse_if true e k = refuse e
refuse_if false e k = k

-- what a field is to the type that holds it
pub data Role : Type 0 where
  struct_field : Role
  list_element : Role
  map_key : Role
  map_value : Role

-- a visitor, by what its hooks do. Each is given the number of a field and of its partner column; T is a visitor's result for a column, S its state.
-- `before` and `after` stand for the eight hooks before and after a struct field, a list element, a map key and a map value, the others for `field`, `primitive`, `struct`, `list` and `map`
pub record Hooks (S T : Type 0) : Type 0 where
  pub before : Role → ℕ → ℕ → Step S (Unit {0})
  pub after : Role → ℕ → ℕ → Step S (Unit {0})
  pub on_field : ℕ → ℕ → T → Step S T
  pub on_primitive : ℕ → ℕ → Step S T
  pub on_struct : ℕ → ℕ → List T → Step S T
  pub on_list : ℕ → ℕ → T → Step S T
  pub on_map : ℕ → ℕ → T → T → Step S T

-- what field n is to the type of field up, which has this shape
abbrev pub role : Shape → ℕ → ℕ → Role
role (prim p) up n = struct_field
role struct up n = struct_field
role list up n = list_element
role map up n = cond (n == up + 1) map_key map_value

-- field n, and the fields below it
abbrev pub field_at : Model → ℕ → Option (Field × Forest Field)
field_at m n = find n 1 m.fields

-- a field's type: its shape, and the fields that it holds
abbrev pub type_of : Option (Field × Forest Field) → Option (Shape × Forest Field)
type_of None = None
type_of (Some (f, below)) = Some (f.shape, below)

-- the type of field n, field 0 being the schema's struct
abbrev pub type_at : Model → ℕ → Option (Shape × Forest Field)
type_at m zero = Some (struct, m.fields)
type_at m (suc n) = type_of (field_at m (suc n))

-- nothing was found
abbrev pub absent_column : Option (Column × Forest Column) → Bool
absent_column None = true
absent_column (Some x) = false

-- the number c names no column
abbrev pub missing : Model → ℕ → Bool
missing m c = absent_column (column m c)

module _ {S T : Type 0} (h : Hooks S T) where
  -- a type's own hook, on the results of the fields that it holds; a list holds one and a map two
  abbrev pub close : Shape → ℕ → ℕ → List T → Step S T
  close (prim p) n c ts = h.on_primitive n c
  close struct n c ts = h.on_struct n c ts
  close list n c [] = refuse (fault 9 c n)
  close list n c (t ∷ []) = h.on_list n c t
  close list n c (t ∷ (u ∷ ts)) = refuse (fault 9 c n)
  close map n c [] = refuse (fault 9 c n)
  close map n c (t ∷ []) = refuse (fault 9 c n)
  close map n c (t ∷ (u ∷ [])) = h.on_map n c t u
  close map n c (t ∷ (u ∷ (v ∷ ts))) = refuse (fault 9 c n)

  -- what follows a field's type: the after hook and, for a struct's field, `field`
  abbrev pub finish : Role → ℕ → ℕ → T → Step S T
  finish struct_field n p t = bind (h.after struct_field n p) (λ _. h.on_field n p t)
  finish list_element n p t = bind (h.after list_element n p) (λ _. ret t)
  finish map_key n p t = bind (h.after map_key n p) (λ _. ret t)
  finish map_value n p t = bind (h.after map_value n p) (λ _. ret t)

module _ {S T : Type 0} (m : Model) (pick : Pick) (h : Hooks S T) where
  -- the fields of a type of this shape, whose field is up, at column c, from field n on:
  -- the question, the before hook, the field's type with its own hook, the after hook, then the next field
  abbrev pub walk : Forest Field → Shape → ℕ → ℕ → ℕ → Step S (List T)
  walk none s up n c = ret []
  walk (tree f below rest) s up n c =
      bind (λ st. (partner m pick s up c n, st))
      (λ p. bind (h.before (role s up n) n p)
      (λ _. bind (bind (walk below f.shape n (n + 1) p) (close h f.shape n p))
      (λ t. bind (finish h (role s up n) n p t)
      (λ t'. bind (walk rest s up (n + 1 + size below) c)
      (λ ts. ret (t' ∷ ts))))))

  -- the type of field n, which has this shape and holds these fields, at column c
  abbrev pub visit_type : Shape → Forest Field → ℕ → ℕ → Step S T
  visit_type s below n c = bind (walk below s n (n + 1) c) (close h s n c)

  -- the schema's struct at column c
  abbrev pub visit_struct : ℕ → Step S T
  visit_struct c = visit_type struct m.fields 0 c

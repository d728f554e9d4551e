-- The types of the definitions are sets, so an equation at one of them follows from the batch's invariant.
use mathlib.Core.Bool.{Bool-set}
use mathlib.Core.HLevel.{collapsible→set, Σ_set}
use Rattle.std.proofs.Common.{◌≡◌, ℕ, List, [], ◌∷◌, Some, None, Option, sym, refl, ap, ◌∙◌}
use mathlib.Core.List.{is_set}
use native.Mathlib.Nat.{ℕ_set}
use lib.IntN.{ℤ_set}
use Rattle.meaning.specs.Model.{Field, Column, Primitive-set, Shape-set, Field-set, Word-set, Variable-set, Code-set, Column-set}

-- what can be put into a set and taken out again is one
retract_set : {A B : Type 0} (f : A → B) (g : B → A) → ((x : A) → g (f x) ≡ x) → IsSet B → IsSet A
retract_set f g back s =
    collapsible→set (λ x y p. sym (back x) ∙ ap g (ap f p) ∙ back y) (λ x y p q. ap (λ e. sym (back x) ∙ ap g e ∙ back y) (s (f x) (f y) (ap f p) (ap f q)))

listed : {A : Type 0} → Option A → List A
listed None = []
listed (Some x) = x ∷ []

unlisted : {A : Type 0} → List A → Option A
unlisted [] = None
unlisted (x ∷ xs) = Some x

back_again : {A : Type 0} (o : Option A) → unlisted (listed o) ≡ o
unfolding listed unlisted
back_again None = refl
back_again (Some x) = refl

pub option_set : {A : Type 0} → IsSet A → IsSet (Option A)
option_set s = retract_set listed unlisted back_again (is_set s)

bytes_set : IsSet (List ℕ)
bytes_set = is_set ℕ_set

pub field_set : IsSet Field
field_set = Field-set ℤ_set Bool-set bytes_set (Shape-set (Primitive-set ℕ_set))

pub column_set : IsSet Column
column_set = Column-set bytes_set (option_set bytes_set) (Code-set Word-set Variable-set ℕ_set) ℕ_set

pub numbered_set : {A : Type 0} → IsSet A → IsSet (Option (A × ℕ))
numbered_set s = option_set (Σ_set s (λ _. ℕ_set))

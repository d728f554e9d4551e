-- Two visitors in relation: what it is for their hooks, and the outcomes of their steps, to be related.
use Rattle.std.proofs.Common.{◌≡◌, ℕ, List, [], ◌∷◌, Ok, Err, Result}
use Rattle.meaning.specs.Access.{StepFault}
use Rattle.meaning.specs.Walk.{Role, Hooks}

-- a relation of two visitors: which states belong together (`States`), and which after a refusal (`Refused`); which states may follow a state (`Extends`); which results belong together in a state (`Results`)
pub record Relation (S S' T T' : Type 0) : Type 1 where
  pub States : S → S' → Type 0
  pub Refused : S → S' → Type 0
  pub Extends : S → S → Type 0
  pub Results : S → T → T' → Type 0
  pub extends_self : (s : S) → Extends s s
  pub extends_on : (s t u : S) → Extends s t → Extends t u → Extends s u
  pub results_kept : (s t : S) (x : T) (x' : T') → Extends s t → Results s x x' → Results t x x'
  pub refused_of : (s : S) (s' : S') → States s s' → Refused s s'

module _ {S S' T T' : Type 0} (k : Relation S S' T T') where
  -- two outcomes of a step from s: both answer, and the answers are related, or both refuse alike
  abbrev pub Outcomes : {X X' : Type 0} → (S → X → X' → Type 0) → S → Result X StepFault × S → Result X' StepFault × S' → Type 0
  Outcomes V s (Ok x, t) (Ok x', t') = k.Extends s t × k.States t t' × V t x x'
  Outcomes V s (Ok x, t) (Err e', t') = ⊥
  Outcomes V s (Err e, t) (Ok x', t') = ⊥
  Outcomes V s (Err e, t) (Err e', t') = (e ≡ e') × k.Refused t t'

  -- lists of results, one by one
  abbrev pub ResultLists : S → List T → List T' → Type 0
  ResultLists s [] [] = Unit {0}
  ResultLists s [] (x' ∷ xs') = ⊥
  ResultLists s (x ∷ xs) [] = ⊥
  ResultLists s (x ∷ xs) (x' ∷ xs') = k.Results s x x' × ResultLists s xs xs'

  -- answers that say nothing
  abbrev pub AnyUnits : S → Unit {0} → Unit {0} → Type 0
  AnyUnits s x x' = Unit {0}

  -- visitors whose hooks are related
  pub record RelatedHooks (h : Hooks S T) (h' : Hooks S' T') : Type 0 where
    pub before : (r : Role) (n c : ℕ) (s : S) (s' : S') → k.States s s' → Outcomes AnyUnits s (h.before r n c s) (h'.before r n c s')
    pub after : (r : Role) (n c : ℕ) (s : S) (s' : S') → k.States s s' → Outcomes AnyUnits s (h.after r n c s) (h'.after r n c s')
    pub on_field : (n c : ℕ) (x : T) (x' : T') (s : S) (s' : S') → k.States s s' → k.Results s x x' → Outcomes k.Results s (h.on_field n c x s) (h'.on_field n c x' s')
    pub on_primitive : (n c : ℕ) (s : S) (s' : S') → k.States s s' → Outcomes k.Results s (h.on_primitive n c s) (h'.on_primitive n c s')
    pub on_struct : (n c : ℕ) (xs : List T) (xs' : List T') (s : S) (s' : S') → k.States s s' → ResultLists s xs xs' → Outcomes k.Results s (h.on_struct n c xs s) (h'.on_struct n c xs' s')
    pub on_list : (n c : ℕ) (x : T) (x' : T') (s : S) (s' : S') → k.States s s' → k.Results s x x' → Outcomes k.Results s (h.on_list n c x s) (h'.on_list n c x' s')
    pub on_map : (n c : ℕ) (x y : T) (x' y' : T') (s : S) (s' : S') → k.States s s' → k.Results s x x' → k.Results s y y' → Outcomes k.Results s (h.on_map n c x y s) (h'.on_map n c x' y' s')

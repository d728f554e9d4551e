-- A visitor that is related to the converter on lists of values converts as defined.
use Rattle.std.proofs.Common.{◌≡◌, ℕ, List, Ok, Err, Result, ap, ◌∙◌, subst, arith}
use Rattle.meaning.specs.Model.{Model}
use Rattle.meaning.specs.Access.{Pick, Own, StepFault}
use Rattle.meaning.specs.Rows.{rows}
use Rattle.meaning.specs.Converts.{converts}
use Rattle.meaning.specs.Keeps.{Keeps}
use Rattle.meaning.specs.Walk.{Hooks, visit_struct}
use Rattle.meaning.specs.Literals.{Value, listed}
use Rattle.meaning.specs.Converter.{converter, conversion}
use Rattle.meaning.proofs.RelatedVisitors.{Relation, Outcomes, RelatedHooks}
use Rattle.meaning.proofs.ConvertedLaw.{converted_law}
use Rattle.meaning.proofs.RelatedWalks.{both_struct}

module _ {S T : Type 0} (k : Relation S ℕ T (List Value)) where
  both_refused : {X X' : Type 0} (V : S → X → X' → Type 0) (s : S) (o : Result X StepFault × S) (o' : Result X' StepFault × ℕ) (f : StepFault) → Outcomes k V s o o' → o'.0 ≡ Err f → o.0 ≡ Err f
  both_refused V s (Ok x, t) (Ok x', t') f b e = absurd (let z : ◌≡◌ {A = ℕ} 0 1 = cc in omega arith)
  both_refused V s (Ok x, t) (Err g, t') f b e = absurd b
  both_refused V s (Err g, t) (Ok x', t') f b e = absurd b
  both_refused V s (Err g, t) (Err g', t') f b e = let d = b.0 in let e' : g' ≡ f = cc in ap Err (d ∙ e')

  module _ (m : Model) (keeps : Keeps m) (pick : Pick) (mine : Own m pick) (cells : ℕ) (h : Hooks S T) (a : RelatedHooks k h (converter m cells)) (s : S) (r : k.States s 0) where
    -- accepted: a result that stands for the rows, in a state that is related to the cells taken
    pub carried : (t : ℕ) → converts m pick cells ≡ Ok t → Outcomes k k.Results s (visit_struct m pick h 0 s) (Ok (listed (rows m pick)), t)
    carried t e = subst (λ (o : Result (List Value) StepFault × ℕ). Outcomes k k.Results s (visit_struct m pick h 0 s) o) ((converted_law m keeps pick mine cells).accepted t e) (both_struct k h (converter m cells) a m pick 0 s 0 r)

    pub carried_refusal : (f : StepFault) → converts m pick cells ≡ Err f → (visit_struct m pick h 0 s).0 ≡ Err f
    carried_refusal f e =
        both_refused k.Results s (visit_struct m pick h 0 s) (conversion m pick cells) f (both_struct k h (converter m cells) a m pick 0 s 0 r) ((converted_law m keeps pick mine cells).refused f e)

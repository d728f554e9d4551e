-- The walk of the converter gives the rows, takes the cells and refuses as defined.
use Rattle.std.proofs.Common.{◌≡◌, ℕ, ◌+◌, Bool, cond, ltb, List, [], ◌∷◌, map as each, Ok, Err, Result, sym, refl, ap, ◌∙◌, subst, arith}
use mathlib.Core.Bool.{and-false}
use Rattle.meaning.specs.Forest.{Forest, none, tree, size}
use Rattle.meaning.specs.Model.{Model, Field, Shape, struct}
use Rattle.meaning.specs.Lists.{upto}
use Rattle.meaning.specs.Access.{Pick, Own, StepFault, partner}
use Rattle.meaning.specs.Literals.{null_literal, struct_literal, Value, listed}
use Rattle.meaning.specs.Rows.{joined, parts, row, rows}
use Rattle.meaning.specs.Converts.{field_hook, converts, own_hook, check_fields, and_then}
use Rattle.meaning.proofs.KeepsPremises.{keeps_premises}
use Rattle.meaning.proofs.Premises.{Premises, Formed}
use Rattle.meaning.specs.Walk.{Step, ret, bind, role, close, finish, walk, bind_result, visit_struct}
use Rattle.meaning.specs.Converter.{converter, conversion, Converted, ConvertedLaw}
use Rattle.meaning.proofs.AcceptedSteps.{column-found, IsPartner, partner_column, partner_of}
use Rattle.meaning.proofs.FieldPlaces.{Placed, placed_all, placed_here, placed_type, placed_below, placed-rest}
use Rattle.meaning.proofs.SlotLists.{all_upto, each_equal}
use Rattle.meaning.proofs.StepAgreement.{Agrees, agrees_then, agrees_push, and_then-and_then}
use Rattle.meaning.proofs.ConverterSteps.{value_of, column_of, results, close_agrees, finish_agrees}

module _ (m : Model) (pick : Pick) (cells : ℕ) (keeps : Premises m) (mine : Own m pick) where
  abbrev conv : Forest Field → Shape → ℕ → ℕ → ℕ → Step ℕ (List (List Value))
  conv = walk m pick (converter m cells)

  -- what the walk below a type has to give
  abbrev Walks : Forest Field → Shape → ℕ → ℕ → ℕ → Type 0
  Walks fs s up n c = (taken : ℕ) → Agrees (conv fs s up n c taken) (check_fields m pick cells fs s up n c taken) (results m pick cells fs s up n c)

  -- one field, at column p: the walk's side and the definition's side
  module _ (f : Field) (below rest : Forest Field) (s : Shape) (up n c : ℕ) where
    abbrev next : ℕ
    next = n + 1 + size below

    abbrev following : List Value → Step ℕ (List (List Value))
    following v = bind (conv rest s up next c) (λ ts. ret (v ∷ ts))

    abbrev walked : ℕ → Step ℕ (List (List Value))
    walked p = bind (bind (conv below f.shape n (n + 1) p) (close (converter m cells) f.shape n p)) (λ v. bind (finish (converter m cells) (role s up n) n p v) following)

    abbrev checked : ℕ → ℕ → Result ℕ StepFault
    checked p taken =
        and_then (check_fields m pick cells below f.shape n (n + 1) p taken) (λ t. and_then (own_hook m cells f.shape below n p t)
        (λ t. and_then (field_hook m s f n c p t) (λ t. check_fields m pick cells rest s up next c t)))

    module _ (pl : Placed m (tree f below rest) n) (fo : Formed (tree f below rest)) (kind : IsPartner m pick s c n) (wb : (p : ℕ) → Walks below f.shape n (n + 1) p) (wr : Walks rest s up next c) where
      abbrev here : ℕ
      here = partner_column m pick s up c n

      abbrev mine' : List Value
      mine' = column_of m pick f.shape below n here

      -- the field's type
      type_agrees : (taken : ℕ) → Agrees (bind (conv below f.shape n (n + 1) here) (close (converter m cells) f.shape n here) taken)
          (and_then (check_fields m pick cells below f.shape n (n + 1) here taken) (own_hook m cells f.shape below n here)) mine'
      type_agrees taken =
          agrees_then (conv below f.shape n (n + 1) here taken) (check_fields m pick cells below f.shape n (n + 1) here taken) (results m pick cells below f.shape n (n + 1) here)
          (close (converter m cells) f.shape n here) (own_hook m cells f.shape below n here) mine' (wb here taken)
          (λ t e. close_agrees m pick cells keeps mine f.shape below n here taken t (placed_type m f below rest n pl) (column-found m pick mine s up n c kind) fo.0 fo.1 e)

      -- its `field`, and the fields after it
      tail_agrees : (t : ℕ) → Agrees (bind (finish (converter m cells) (role s up n) n here mine') following t)
          (and_then (field_hook m s f n c here t) (λ t. check_fields m pick cells rest s up next c t)) (mine' ∷ results m pick cells rest s up next c)
      tail_agrees t =
          agrees_then (finish (converter m cells) (role s up n) n here mine' t) (field_hook m s f n c here t) mine'
          following (λ t. check_fields m pick cells rest s up next c t) (mine' ∷ results m pick cells rest s up next c)
          (finish_agrees m pick cells keeps mine s f below up n c t kind (placed_here m f below rest n pl))
          (λ u e. agrees_push (conv rest s up next c u) (check_fields m pick cells rest s up next c u) mine' (results m pick cells rest s up next c) (wr u))

      tree_agrees : (taken : ℕ) → Agrees (walked here taken) (checked here taken) (mine' ∷ results m pick cells rest s up next c)
      tree_agrees taken =
          subst (λ (r : Result ℕ StepFault). Agrees (walked here taken) r (mine' ∷ results m pick cells rest s up next c))
          (and_then-and_then (check_fields m pick cells below f.shape n (n + 1) here taken) (own_hook m cells f.shape below n here)
          (λ t. and_then (field_hook m s f n c here t) (λ t. check_fields m pick cells rest s up next c t)))
          (agrees_then (bind (conv below f.shape n (n + 1) here) (close (converter m cells) f.shape n here) taken)
          (and_then (check_fields m pick cells below f.shape n (n + 1) here taken) (own_hook m cells f.shape below n here)) mine'
          (λ v. bind (finish (converter m cells) (role s up n) n here v) following) (λ t. and_then (field_hook m s f n c here t) (λ t. check_fields m pick cells rest s up next c t))
          (mine' ∷ results m pick cells rest s up next c) (type_agrees taken) (λ t e. tail_agrees t))

  -- the walk below a type gives its fields' results, or the refusal
  walk_agrees : (fs : Forest Field) (s : Shape) (up n c : ℕ) → Placed m fs n → Formed fs → Walks fs s up n c
  walk_agrees none s up n c pl fo = λ taken. refl
  walk_agrees (tree f below rest) s up n c pl fo = λ taken. go taken (partner m pick s up c n) refl
      (λ p. walk_agrees below f.shape n (n + 1) p (placed_below m f below rest n pl) fo.1)
      (walk_agrees rest s up (n + 1 + size below) c (placed-rest m f below rest n pl) fo.2)
    where
      go : (taken : ℕ) (r : Result ℕ StepFault) → partner m pick s up c n ≡ r → ((p : ℕ) → Walks below f.shape n (n + 1) p) → Walks rest s up (n + 1 + size below) c
          → Agrees (bind_result (λ p. walked f below rest s up n c p) (r, taken)) (and_then r (λ p. checked f below rest s up n c p taken)) (results m pick cells (tree f below rest) s up n c)
      go taken (Err e) h wb wr = refl
      go taken (Ok p) h wb wr =
          let k = partner_of m pick s up c n p h in
          subst (λ (q : ℕ). Agrees (walked f below rest s up n c q taken) (checked f below rest s up n c q taken) (results m pick cells (tree f below rest) s up n c))
          (sym k.1) (tree_agrees f below rest s up n c pl fo k.0 wb wr taken)

  -- the schema's struct at column 0
  struct_walks : Agrees (visit_struct m pick (converter m cells) 0 0) (converts m pick cells) (column_of m pick struct m.fields 0 0)
  struct_walks =
      agrees_then (conv m.fields struct 0 1 0 0) (check_fields m pick cells m.fields struct 0 1 0 0) (results m pick cells m.fields struct 0 1 0)
      (close (converter m cells) struct 0 0) (own_hook m cells struct m.fields 0 0) (column_of m pick struct m.fields 0 0)
      (walk_agrees m.fields struct 0 1 0 (placed_all m) keeps.formed 0)
      (λ t e. close_agrees m pick cells keeps mine struct m.fields 0 0 0 t refl refl tt keeps.formed e)

-- the rows, as a list, are the values of column 0
module _ (m : Model) (pick : Pick) where
  rows-listed : (xs : List ℕ) → listed (joined (row m pick) xs) ≡ each (λ i. (struct_literal, parts m pick m.fields struct 1 0 i)) xs
  rows-listed [] = refl
  rows-listed (x ∷ xs) = ap (λ vs. (struct_literal, parts m pick m.fields struct 1 0 x) ∷ vs) (rows-listed xs)

  row-value : (i : ℕ) → value_of m pick struct m.fields 0 0 i ≡ (struct_literal, parts m pick m.fields struct 1 0 i)
  row-value i = ap (λ (b : Bool). (cond b null_literal struct_literal, cond b none (parts m pick m.fields struct 1 0 i))) (and-false (ltb i m.rows))

  rows-column : column_of m pick struct m.fields 0 0 ≡ listed (rows m pick)
  rows-column = each_equal _ _ (upto m.rows) (all_upto _ m.rows (λ i h. row-value i)) ∙ sym (rows-listed (upto m.rows))

-- an answer that agrees is accepted and refused as the definition is
ok_agrees : {X : Type 0} (x : Result X StepFault × ℕ) (r : Result ℕ StepFault) (v : X) → Agrees x r v → (t : ℕ) → r ≡ Ok t → x ≡ (Ok v, t)
ok_agrees x (Ok u) v a t e = let d : u ≡ t = cc in subst (λ (k : ℕ). x ≡ (Ok v, k)) d a
ok_agrees x (Err f) v a t e = absurd (let z : ◌≡◌ {A = ℕ} 0 1 = cc in omega arith)

err_agrees : {X : Type 0} (x : Result X StepFault × ℕ) (r : Result ℕ StepFault) (v : X) → Agrees x r v → (f : StepFault) → r ≡ Err f → x.0 ≡ Err f
err_agrees x (Ok u) v a f e = absurd (let z : ◌≡◌ {A = ℕ} 0 1 = cc in omega arith)
err_agrees x (Err g) v a f e = cc

agrees_err : {X : Type 0} (x : Result X StepFault × ℕ) (r : Result ℕ StepFault) (v : X) → Agrees x r v → (f : StepFault) → x.0 ≡ Err f → r ≡ Err f
agrees_err {X} x (Ok u) v a f e = absurd (let d : ◌≡◌ {A = Result X StepFault} (Ok v) (Err f) = sym (ap (λ y. y.0) a) ∙ e in let z : ◌≡◌ {A = ℕ} 0 1 = cc in omega arith)
agrees_err {X} x (Err g) v a f e = let d : ◌≡◌ {A = Result X StepFault} (Err g) (Err f) = sym a ∙ e in cc

pub converted : (m : Model) → Premises m → (pick : Pick) → Own m pick → (cells : ℕ) → Converted m pick cells
converted m keeps pick mine cells = record {
  accepted = ok_agrees (conversion m pick cells) (converts m pick cells) (listed (rows m pick)) whole;
  refused = err_agrees (conversion m pick cells) (converts m pick cells) (listed (rows m pick)) whole;
  exactly = agrees_err (conversion m pick cells) (converts m pick cells) (listed (rows m pick)) whole;
}
  where
    whole : Agrees (conversion m pick cells) (converts m pick cells) (listed (rows m pick))
    whole = subst (λ (v : List Value). Agrees (conversion m pick cells) (converts m pick cells) v) (rows-column m pick) (struct_walks m pick cells keeps mine)

pub converted_law : ConvertedLaw
converted_law m k pick mine cells = converted m (keeps_premises m k) pick mine cells

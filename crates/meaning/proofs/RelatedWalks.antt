-- Visitors whose hooks are related have related walks.
use Rattle.std.proofs.Common.{ℕ, ◌+◌, List, [], ◌∷◌, Ok, Err, Result, refl}
use Rattle.meaning.specs.Forest.{Forest, none, tree, size}
use Rattle.meaning.specs.Model.{Model, Field, Shape, prim, struct, list, map}
use Rattle.meaning.specs.Access.{Pick, StepFault, partner}
use Rattle.meaning.specs.Walk.{Step, ret, bind, Role, struct_field, list_element, map_key, map_value, role, Hooks, close, finish, walk, bind_result, visit_type, visit_struct}
use Rattle.meaning.proofs.RelatedVisitors.{Relation, Outcomes, ResultLists, AnyUnits, RelatedHooks}

module _ {S S' T T' : Type 0} (k : Relation S S' T T') where
  -- from an earlier state, and one step after another
  both_from : {X X' : Type 0} (V : S → X → X' → Type 0) (s t : S) (o : Result X StepFault × S) (o' : Result X' StepFault × S') → k.Extends s t → Outcomes k V t o o' → Outcomes k V s o o'
  both_from V s t (Ok x, u) (Ok x', u') e b = (k.extends_on s t u e b.0, b.1, b.2)
  both_from V s t (Ok x, u) (Err f, u') e b = b
  both_from V s t (Err f, u) (Ok x', u') e b = b
  both_from V s t (Err f, u) (Err g, u') e b = b

  both_then : {X X' Y Y' : Type 0} (V : S → X → X' → Type 0) (W : S → Y → Y' → Type 0) (s : S) (o : Result X StepFault × S) (o' : Result X' StepFault × S') (f : X → Step S Y) (f' : X' → Step S' Y')
      → Outcomes k V s o o' → ((t : S) (t' : S') (x : X) (x' : X') → k.Extends s t → k.States t t' → V t x x' → Outcomes k W t (f x t) (f' x' t')) → Outcomes k W s (bind_result f o) (bind_result f' o')
  both_then V W s (Ok x, t) (Ok x', t') f f' b h = both_from W s t (f x t) (f' x' t') b.0 (h t t' x x' b.0 b.1 b.2)
  both_then V W s (Ok x, t) (Err g, t') f f' b h = absurd b
  both_then V W s (Err e, t) (Ok x', t') f f' b h = absurd b
  both_then V W s (Err e, t) (Err g, t') f f' b h = b

  vals_keep : (s t : S) (xs : List T) (xs' : List T') → k.Extends s t → ResultLists k s xs xs' → ResultLists k t xs xs'
  vals_keep s t [] [] e v = tt
  vals_keep s t [] (x' ∷ xs') e v = v
  vals_keep s t (x ∷ xs) [] e v = v
  vals_keep s t (x ∷ xs) (x' ∷ xs') e v = (k.results_kept s t x x' e v.0, vals_keep s t xs xs' e v.1)

  module _ (h : Hooks S T) (h' : Hooks S' T') (a : RelatedHooks k h h') where
    -- a type's own hook, and what follows a field's type
    both_close : (sh : Shape) (n c : ℕ) (xs : List T) (xs' : List T') (s : S) (s' : S') → k.States s s' → ResultLists k s xs xs' → Outcomes k k.Results s (close h sh n c xs s) (close h' sh n c xs' s')
    both_close (prim p) n c xs xs' s s' r v = a.on_primitive n c s s' r
    both_close struct n c xs xs' s s' r v = a.on_struct n c xs xs' s s' r v
    both_close list n c [] [] s s' r v = (refl, k.refused_of s s' r)
    both_close list n c [] (x' ∷ xs') s s' r v = absurd v
    both_close list n c (x ∷ xs) [] s s' r v = absurd v
    both_close list n c (x ∷ []) (x' ∷ []) s s' r v = a.on_list n c x x' s s' r v.0
    both_close list n c (x ∷ []) (x' ∷ (y' ∷ ys')) s s' r v = absurd v.1
    both_close list n c (x ∷ (y ∷ ys)) (x' ∷ []) s s' r v = absurd v.1
    both_close list n c (x ∷ (y ∷ ys)) (x' ∷ (y' ∷ ys')) s s' r v = (refl, k.refused_of s s' r)
    both_close map n c [] [] s s' r v = (refl, k.refused_of s s' r)
    both_close map n c [] (x' ∷ xs') s s' r v = absurd v
    both_close map n c (x ∷ xs) [] s s' r v = absurd v
    both_close map n c (x ∷ []) (x' ∷ []) s s' r v = (refl, k.refused_of s s' r)
    both_close map n c (x ∷ []) (x' ∷ (y' ∷ ys')) s s' r v = absurd v.1
    both_close map n c (x ∷ (y ∷ ys)) (x' ∷ []) s s' r v = absurd v.1
    both_close map n c (x ∷ (y ∷ [])) (x' ∷ (y' ∷ [])) s s' r v = a.on_map n c x y x' y' s s' r v.0 v.1.0
    both_close map n c (x ∷ (y ∷ [])) (x' ∷ (y' ∷ (z' ∷ zs'))) s s' r v = absurd v.1.1
    both_close map n c (x ∷ (y ∷ (z ∷ zs))) (x' ∷ (y' ∷ [])) s s' r v = absurd v.1.1
    both_close map n c (x ∷ (y ∷ (z ∷ zs))) (x' ∷ (y' ∷ (z' ∷ zs'))) s s' r v = (refl, k.refused_of s s' r)

    both_after : (ro : Role) (n p : ℕ) (x : T) (x' : T') (s : S) (s' : S') → k.States s s' → k.Results s x x' → Outcomes k k.Results s (bind (h.after ro n p) (λ _. ret x) s) (bind (h'.after ro n p) (λ _. ret x') s')
    both_after ro n p x x' s s' r v =
        both_then (AnyUnits k) k.Results s (h.after ro n p s) (h'.after ro n p s') (λ _. ret x) (λ _. ret x') (a.after ro n p s s' r) (λ t t' _ _ e q _. (k.extends_self t, q, k.results_kept s t x x' e v))

    both_finish : (ro : Role) (n p : ℕ) (x : T) (x' : T') (s : S) (s' : S') → k.States s s' → k.Results s x x' → Outcomes k k.Results s (finish h ro n p x s) (finish h' ro n p x' s')
    both_finish struct_field n p x x' s s' r v =
        both_then (AnyUnits k) k.Results s (h.after struct_field n p s) (h'.after struct_field n p s') (λ _. h.on_field n p x) (λ _. h'.on_field n p x') (a.after struct_field n p s s' r)
        (λ t t' _ _ e q _. a.on_field n p x x' t t' q (k.results_kept s t x x' e v))
    both_finish list_element n p x x' s s' r v = both_after list_element n p x x' s s' r v
    both_finish map_key n p x x' s s' r v = both_after map_key n p x x' s s' r v
    both_finish map_value n p x x' s s' r v = both_after map_value n p x x' s s' r v

    module _ (m : Model) (pick : Pick) where
      both_walk : (fs : Forest Field) (sh : Shape) (up n c : ℕ) (s : S) (s' : S') → k.States s s' → Outcomes k (ResultLists k) s (walk m pick h fs sh up n c s) (walk m pick h' fs sh up n c s')
      both_walk none sh up n c s s' r = (k.extends_self s, r, tt)
      both_walk (tree f below rest) sh up n c s s' r = go (partner m pick sh up c n)
          (λ p t t' q. both_walk below f.shape n (n + 1) p t t' q) (λ t t' q. both_walk rest sh up (n + 1 + size below) c t t' q)
        where
          go : (o : Result ℕ StepFault)
              → ((p : ℕ) (t : S) (t' : S') → k.States t t' → Outcomes k (ResultLists k) t (walk m pick h below f.shape n (n + 1) p t) (walk m pick h' below f.shape n (n + 1) p t'))
              → ((t : S) (t' : S') → k.States t t' → Outcomes k (ResultLists k) t (walk m pick h rest sh up (n + 1 + size below) c t) (walk m pick h' rest sh up (n + 1 + size below) c t'))
              → Outcomes k (ResultLists k) s
              (bind_result (λ p. bind (h.before (role sh up n) n p) (λ _. bind (bind (walk m pick h below f.shape n (n + 1) p) (close h f.shape n p)) (λ x. bind (finish h (role sh up n) n p x) (λ y. bind (walk m pick h rest sh up (n + 1 + size below) c) (λ ys. ret (y ∷ ys)))))) (o, s))
              (bind_result (λ p. bind (h'.before (role sh up n) n p) (λ _. bind (bind (walk m pick h' below f.shape n (n + 1) p) (close h' f.shape n p)) (λ x. bind (finish h' (role sh up n) n p x) (λ y. bind (walk m pick h' rest sh up (n + 1 + size below) c) (λ ys. ret (y ∷ ys)))))) (o, s'))
          go (Err e) wb wr = (refl, k.refused_of s s' r)
          go (Ok p) wb wr =
              both_then (AnyUnits k) (ResultLists k) s (h.before (role sh up n) n p s) (h'.before (role sh up n) n p s') _ _ (a.before (role sh up n) n p s s' r) (λ t t' _ _ e q _.
              both_then k.Results (ResultLists k) t (bind (walk m pick h below f.shape n (n + 1) p) (close h f.shape n p) t) (bind (walk m pick h' below f.shape n (n + 1) p) (close h' f.shape n p) t') _ _
              (both_then (ResultLists k) k.Results t (walk m pick h below f.shape n (n + 1) p t) (walk m pick h' below f.shape n (n + 1) p t') _ _ (wb p t t' q) (λ u u' xs xs' _ w v. both_close f.shape n p xs xs' u u' w v))
              (λ u u' x x' _ w v.
              both_then k.Results (ResultLists k) u (finish h (role sh up n) n p x u) (finish h' (role sh up n) n p x' u') _ _ (both_finish (role sh up n) n p x x' u u' w v) (λ z z' y y' _ b d.
              both_then (ResultLists k) (ResultLists k) z (walk m pick h rest sh up (n + 1 + size below) c z) (walk m pick h' rest sh up (n + 1 + size below) c z') _ _ (wr z z' b) (λ i i' ys ys' g j l.
              (k.extends_self i, j, (k.results_kept z i y y' g d, l))))))

      -- the type of a field, and the schema's struct
      pub both_visits : (sh : Shape) (below : Forest Field) (n c : ℕ) (s : S) (s' : S') → k.States s s' → Outcomes k k.Results s (visit_type m pick h sh below n c s) (visit_type m pick h' sh below n c s')
      both_visits sh below n c s s' r =
          both_then (ResultLists k) k.Results s (walk m pick h below sh n (n + 1) c s) (walk m pick h' below sh n (n + 1) c s') (close h sh n c) (close h' sh n c) (both_walk below sh n (n + 1) c s s' r)
          (λ t t' xs xs' _ q v. both_close sh n c xs xs' t t' q v)

      pub both_struct : (c : ℕ) (s : S) (s' : S') → k.States s s' → Outcomes k k.Results s (visit_struct m pick h c s) (visit_struct m pick h' c s')
      both_struct c s s' r = both_visits struct m.fields 0 c s s' r

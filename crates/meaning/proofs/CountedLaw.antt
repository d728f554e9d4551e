-- The walk of the counter is the sum over what is reached.
use Rattle.std.proofs.Common.{◌≡◌, ℕ, ◌+◌, ◌-◌, Bool, true, false, cond, not, ◌&&◌, ltb, List, [], ◌∷◌, ◌++◌, Some, None, Ok, Err, Option, Result, sym, refl, ap, ◌∙◌}
use Rattle.meaning.specs.Forest.{Forest, none, tree, size}
use Rattle.meaning.specs.Model.{Model, Field, Shape, prim, struct, list, map, at}
use Rattle.meaning.specs.Lists.{from, any_of}
use Rattle.meaning.specs.Slots.{null}
use Rattle.meaning.specs.Access.{Pick, Own, StepFault, fault, partner}
use Rattle.meaning.specs.Literals.{same_by}
use Rattle.meaning.specs.Codes.{float?}
use Rattle.meaning.specs.Nans.{nans}
use Rattle.meaning.specs.Reaches.{Reach, Found, reaches, reached, followed_by, at_partner, one_reach, shown_within}
use Rattle.meaning.specs.Table.{has_room, Table, added, Answer, add_reaches}
use Rattle.meaning.specs.Walk.{Step, ret, bind, Role, struct_field, list_element, map_key, map_value, role, field_at, missing, close, finish, walk, bind_result, refuse_if}
use Rattle.meaning.proofs.Premises.{Exactly, Formed}
use Rattle.meaning.specs.Counter.{counter, CountedLaw, count_reach, count_reach_by, compute_walk}
use Rattle.meaning.proofs.AcceptedSteps.{column-found, partner_of}
use Rattle.meaning.proofs.KeepsPremises.{keeps-formed}
use Rattle.meaning.proofs.FieldPlaces.{Placed, placed_all, placed_here, placed_below, placed-rest}

abbrev Outcome : Type 0
Outcome = Answer × Table

-- the counter's results say nothing: one for each field
abbrev units : Forest Field → List (Unit {0})
units none = []
units (tree f below rest) = tt ∷ units rest

module _ (m : Model) where
  -- what is found, added from a table on
  abbrev adds : Found → Step Table (Unit {0})
  adds F t = add_reaches m t F.0 F.1

  -- one after another, at a partner, and a single reach
  adds_list : (rs : List Reach) (G : Found) (t : Table) → adds (rs ++ G.0, G.1) t ≡ bind_result (λ _. adds G) (adds (rs, None) t)
  adds_list [] G t = refl
  adds_list (r ∷ rs) G t = go (float? m r.column) (has_room t r.id) (adds_list rs G t) (adds_list rs G (added t r.id (nans m r.column)))
    where
      go : (a b : Bool) → adds (rs ++ G.0, G.1) t ≡ bind_result (λ _. adds G) (adds (rs, None) t)
          → adds (rs ++ G.0, G.1) (added t r.id (nans m r.column)) ≡ bind_result (λ _. adds G) (adds (rs, None) (added t r.id (nans m r.column)))
          → cond a (cond b (adds (rs ++ G.0, G.1) (added t r.id (nans m r.column))) (Err (fault 22 r.column r.field), t)) (adds (rs ++ G.0, G.1) t)
          ≡ bind_result (λ _. adds G) (cond a (cond b (adds (rs, None) (added t r.id (nans m r.column))) (Err (fault 22 r.column r.field), t)) (adds (rs, None) t))
      go true true x y = y
      go true false x y = refl
      go false b x y = x

  adds_stop : (rs : List Reach) (e : StepFault) (G : Found) (t : Table) → adds (rs, Some e) t ≡ bind_result (λ _. adds G) (adds (rs, Some e) t)
  adds_stop [] e G t = refl
  adds_stop (r ∷ rs) e G t = go (float? m r.column) (has_room t r.id) (adds_stop rs e G t) (adds_stop rs e G (added t r.id (nans m r.column)))
    where
      go : (a b : Bool) → adds (rs, Some e) t ≡ bind_result (λ _. adds G) (adds (rs, Some e) t)
          → adds (rs, Some e) (added t r.id (nans m r.column)) ≡ bind_result (λ _. adds G) (adds (rs, Some e) (added t r.id (nans m r.column)))
          → cond a (cond b (adds (rs, Some e) (added t r.id (nans m r.column))) (Err (fault 22 r.column r.field), t)) (adds (rs, Some e) t)
          ≡ bind_result (λ _. adds G) (cond a (cond b (adds (rs, Some e) (added t r.id (nans m r.column))) (Err (fault 22 r.column r.field), t)) (adds (rs, Some e) t))
      go true true x y = y
      go true false x y = refl
      go false b x y = x

  adds_pair : (rs : List Reach) (o : Option StepFault) (G : Found) (t : Table) → adds (followed_by (rs, o) G) t ≡ bind_result (λ _. adds G) (adds (rs, o) t)
  adds_pair rs None G t = adds_list rs G t
  adds_pair rs (Some e) G t = adds_stop rs e G t

  adds_then : (F G : Found) (t : Table) → adds (followed_by F G) t ≡ bind_result (λ _. adds G) (adds F t)
  adds_then F G t = adds_pair F.0 F.1 G t

-- a step whose answer says nothing
carry_unit : (x : Outcome) → bind_result (λ _. ret tt) x ≡ x
carry_unit (Ok u, t) = refl
carry_unit (Err e, t) = refl

module _ (m : Model) (pick : Pick) where
  -- the counter's own hooks do nothing
  close_nothing : (s : Shape) (below : Forest Field) (n p : ℕ) (t : Table) → Exactly s below → close (counter m) s n p (units below) t ≡ (Ok tt, t)
  close_nothing (prim k) below n p t e = refl
  close_nothing struct below n p t e = refl
  close_nothing list none n p t e = absurd e
  close_nothing list (tree f below none) n p t e = refl
  close_nothing list (tree f below (tree g under' rest)) n p t e = absurd e
  close_nothing map none n p t e = absurd e
  close_nothing map (tree f below none) n p t e = absurd e
  close_nothing map (tree f below (tree g under' none)) n p t e = refl
  close_nothing map (tree f below (tree g under' (tree h over rest))) n p t e = absurd e

  -- an after hook reaches the field's column
  after-reach : (f : Field) (below : Forest Field) (n p : ℕ) (t : Table) → field_at m n ≡ Some (f, below) → missing m p ≡ false → bind_result (λ _. ret tt) (count_reach_by m (field_at m n) n p t) ≡ count_reach m f.id n p t
  after-reach f below n p t e seen =
      ap (λ (o : Option (Field × Forest Field)). bind_result (λ _. ret tt) (count_reach_by m o n p t)) e
      ∙ (ap (λ (b : Bool). bind_result (λ _. ret tt) (refuse_if b (fault 9 p n) (count_reach m f.id n p) t)) seen ∙ carry_unit (count_reach m f.id n p t))

  finish-reach : (r : Role) (f : Field) (below : Forest Field) (n p : ℕ) (t : Table) → field_at m n ≡ Some (f, below) → missing m p ≡ false → finish (counter m) r n p tt t ≡ count_reach m f.id n p t
  finish-reach struct_field f below n p t e seen = after-reach f below n p t e seen
  finish-reach list_element f below n p t e seen = after-reach f below n p t e seen
  finish-reach map_key f below n p t e seen = after-reach f below n p t e seen
  finish-reach map_value f below n p t e seen = after-reach f below n p t e seen

  -- a walk that adds what X adds, and answers nothing for each field
  abbrev Adding : Forest Field → Shape → ℕ → ℕ → ℕ → Step Table (Unit {0}) → Type 0
  Adding fs s up n c X = (t : Table) → walk m pick (counter m) fs s up n c t ≡ bind_result (λ _. ret (units fs)) (X t)

  -- one field: what is below it, its own reach, and what follows
  module _ (f : Field) (below rest : Forest Field) (s : Shape) (up n c p : ℕ) (found : field_at m n ≡ Some (f, below)) (seen : missing m p ≡ false) (exact : Exactly f.shape below) (X Z : Step Table (Unit {0}))
      (wx : Adding below f.shape n (n + 1) p X) (wz : Adding rest s up (n + 1 + size below) c Z) where
    abbrev next : Unit {0} → Step Table (List (Unit {0}))
    next t' = bind (walk m pick (counter m) rest s up (n + 1 + size below) c) (λ ts. ret (t' ∷ ts))

    abbrev then' : Unit {0} → Step Table (List (Unit {0}))
    then' t' = bind (finish (counter m) (role s up n) n p t') next

    push : (x : Outcome) → bind_result (λ ts. ret (tt ∷ ts)) (bind_result (λ _. ret (units rest)) x) ≡ bind_result (λ _. ret (tt ∷ units rest)) x
    push (Ok u, t) = refl
    push (Err e, t) = refl

    after-own : (x : Outcome) → bind_result next x ≡ bind_result (λ _. ret (tt ∷ units rest)) (bind_result (λ _. Z) x)
    after-own (Ok u, t) = ap (λ (w : Result (List (Unit {0})) StepFault × Table). bind_result (λ ts. ret (tt ∷ ts)) w) (wz t) ∙ push (Z t)
    after-own (Err e, t) = refl

    after-below : (x : Outcome) → bind_result then' (bind_result (close (counter m) f.shape n p) (bind_result (λ _. ret (units below)) x)) ≡ bind_result (λ _. ret (tt ∷ units rest)) (bind_result (λ _. bind (count_reach m f.id n p) (λ _. Z)) x)
    after-below (Ok u, t) =
        ap (λ (w : Outcome). bind_result then' w) (close_nothing f.shape below n p t exact)
        ∙ (ap (λ (w : Outcome). bind_result next w) (finish-reach (role s up n) f below n p t found seen) ∙ after-own (count_reach m f.id n p t))
    after-below (Err e, t) = refl

    tree_adds : partner m pick s up c n ≡ Ok p → (t : Table)
        → walk m pick (counter m) (tree f below rest) s up n c t ≡ bind_result (λ _. ret (tt ∷ units rest)) (bind_result (λ _. bind (count_reach m f.id n p) (λ _. Z)) (X t))
    tree_adds met t =
        ap (λ (r : Result ℕ StepFault). bind_result (λ q. bind (bind (walk m pick (counter m) below f.shape n (n + 1) q) (close (counter m) f.shape n q)) (λ t. bind (finish (counter m) (role s up n) n q t) next)) (r, t)) met
        ∙ (ap (λ (w : Result (List (Unit {0})) StepFault × Table). bind_result then' (bind_result (close (counter m) f.shape n p) w)) (wx t) ∙ after-below (X t))

  tree_stops : (f : Field) (below rest : Forest Field) (s : Shape) (up n c : ℕ) (e : StepFault) (t : Table) → partner m pick s up c n ≡ Err e → walk m pick (counter m) (tree f below rest) s up n c t ≡ (Err e, t)
  tree_stops f below rest s up n c e t h =
      ap (λ (r : Result ℕ StepFault). bind_result (λ q. bind (bind (walk m pick (counter m) below f.shape n (n + 1) q) (close (counter m) f.shape n q))
      (λ t. bind (finish (counter m) (role s up n) n q t) (λ t'. bind (walk m pick (counter m) rest s up (n + 1 + size below) c) (λ ts. ret (t' ∷ ts))))) (r, t)) h

-- steps that agree everywhere, after any outcome
carry_ext : (A B : Step Table (Unit {0})) → ((t : Table) → A t ≡ B t) → (x : Outcome) → bind_result (λ _. A) x ≡ bind_result (λ _. B) x
carry_ext A B e (Ok u, t) = e t
carry_ext A B e (Err f, t) = refl

module _ (m : Model) (pick : Pick) (mine : Own m pick) where
  -- a partner is a column
  partner-found : (s : Shape) (up c n p : ℕ) → partner m pick s up c n ≡ Ok p → missing m p ≡ false
  partner-found s up c n p e = let k = partner_of m pick s up c n p e in ap (missing m) k.1 ∙ column-found m pick mine s up n c k.0

  -- what a field finds, one part after another
  field_then : (F G : Found) (f : Field) (n p : ℕ) (sh : ℕ → Bool) (t : Table)
      → adds m (followed_by F (followed_by (one_reach f n p sh) G)) t ≡ bind_result (λ _. bind (count_reach m f.id n p) (λ _. adds m G)) (adds m F t)
  field_then F G f n p sh t =
      adds_then m F (followed_by (one_reach f n p sh) G) t
      ∙ carry_ext (adds m (followed_by (one_reach f n p sh) G)) (bind (count_reach m f.id n p) (λ _. adds m G)) (λ u. adds_then m (one_reach f n p sh) G u) (adds m F t)

  field_last : (F : Found) (f : Field) (n p : ℕ) (sh : ℕ → Bool) (t : Table)
      → adds m (followed_by F (one_reach f n p sh)) t ≡ bind_result (λ _. bind (count_reach m f.id n p) (λ _. adds m ([], None))) (adds m F t)
  field_last F f n p sh t =
      adds_then m F (one_reach f n p sh) t
      ∙ carry_ext (adds m (one_reach f n p sh)) (bind (count_reach m f.id n p) (λ _. adds m ([], None))) (λ u. sym (carry_unit (count_reach m f.id n p u))) (adds m F t)

  -- one field at its partner, whether it is met or not, with what follows it
  module _ (f : Field) (below rest : Forest Field) (s : Shape) (up n c : ℕ) (pl : Placed m (tree f below rest) n) (exact : Exactly f.shape below) (F G : ℕ → Found) (sh : ℕ → ℕ → Bool)
      (wf : (p : ℕ) → Adding m pick below f.shape n (n + 1) p (adds m (F p))) (wg : (p : ℕ) → Adding m pick rest s up (n + 1 + size below) c (adds m (G p))) where
    field_adds : Adding m pick (tree f below rest) s up n c (adds m (at_partner (partner m pick s up c n) (λ p. followed_by (F p) (followed_by (one_reach f n p (sh p)) (G p)))))
    field_adds t = go (partner m pick s up c n) refl
      where
        go : (r : Result ℕ StepFault) → partner m pick s up c n ≡ r
            → walk m pick (counter m) (tree f below rest) s up n c t ≡ bind_result (λ _. ret (tt ∷ units rest)) (adds m (at_partner r (λ p. followed_by (F p) (followed_by (one_reach f n p (sh p)) (G p)))) t)
        go (Err e) h = tree_stops m pick f below rest s up n c e t h
        go (Ok p) h =
            tree_adds m pick f below rest s up n c p (placed_here m f below rest n pl) (partner-found s up c n p h) exact (adds m (F p)) (adds m (G p)) (wf p) (wg p) h t
            ∙ ap (λ (x : Outcome). bind_result (λ _. ret (tt ∷ units rest)) x) (sym (field_then (F p) (G p) f n p (sh p) t))

  module _ (f : Field) (below : Forest Field) (s : Shape) (up n c : ℕ) (pl : Placed m (tree f below none) n) (exact : Exactly f.shape below) (F : ℕ → Found) (sh : ℕ → ℕ → Bool)
      (wf : (p : ℕ) → Adding m pick below f.shape n (n + 1) p (adds m (F p))) where
    last_adds : Adding m pick (tree f below none) s up n c (adds m (at_partner (partner m pick s up c n) (λ p. followed_by (F p) (one_reach f n p (sh p)))))
    last_adds t = go (partner m pick s up c n) refl
      where
        go : (r : Result ℕ StepFault) → partner m pick s up c n ≡ r
            → walk m pick (counter m) (tree f below none) s up n c t ≡ bind_result (λ _. ret (tt ∷ [])) (adds m (at_partner r (λ p. followed_by (F p) (one_reach f n p (sh p)))) t)
        go (Err e) h = tree_stops m pick f below none s up n c e t h
        go (Ok p) h =
            tree_adds m pick f below none s up n c p (placed_here m f below none n pl) (partner-found s up c n p h) exact (adds m (F p)) (adds m ([], None)) (wf p) (λ u. refl) h t
            ∙ ap (λ (x : Outcome). bind_result (λ _. ret (tt ∷ [])) x) (sym (field_last (F p) f n p (sh p) t))

  -- the walk below a type adds what is reached below it
  walk_adds : (fs : Forest Field) (s : Shape) (up n c : ℕ) (shown : ℕ → Bool) → Placed m fs n → Formed fs → Exactly s fs → Adding m pick fs s up n c (adds m (reaches m pick fs s up n c shown))
  walk_adds none s up n c shown pl fo ex = λ t. refl
  walk_adds (tree f below rest) (prim k) up n c shown pl fo ex = absurd ex
  walk_adds (tree f below rest) struct up n c shown pl fo ex =
      let sh : ℕ → Bool = λ i. shown i && not (null (at m c) i) in
      field_adds f below rest struct up n c pl fo.0 (λ p. reaches m pick below f.shape n (n + 1) p sh) (λ p. reaches m pick rest struct up (n + 1 + size below) c shown) (λ p. sh)
      (λ p. walk_adds below f.shape n (n + 1) p sh (placed_below m f below rest n pl) fo.1 fo.0)
      (λ p. walk_adds rest struct up (n + 1 + size below) c shown (placed-rest m f below rest n pl) fo.2 tt)
  walk_adds (tree f below none) list up n c shown pl fo ex =
      let sh : ℕ → Bool = shown_within m c shown (λ a b j. true) in
      last_adds f below list up n c pl fo.0 (λ p. reaches m pick below f.shape n (n + 1) p sh) (λ p. sh)
      (λ p. walk_adds below f.shape n (n + 1) p sh (placed_below m f below none n pl) fo.1 fo.0)
  walk_adds (tree f below (tree g under' rest)) list up n c shown pl fo ex = absurd ex
  walk_adds (tree f below none) map up n c shown pl fo ex = absurd ex
  walk_adds (tree f below (tree g under' none)) map up n c shown pl fo ex =
      let v : ℕ = n + 1 + size below in
      let pr : Placed m (tree g under' none) v = placed-rest m f below (tree g under' none) n pl in
      let keys : ℕ → ℕ → Bool = λ p. shown_within m c shown (λ a b j. not (any_of (same_by f.shape (at m p) j) (from a (j - a)))) in
      let vals : ℕ → ℕ → Bool = λ p. shown_within m c shown (λ a b j. not (any_of (same_by f.shape (at m p) j) (from (j + 1) (b - (j + 1))))) in
      field_adds f below (tree g under' none) map up n c pl fo.0 (λ p. reaches m pick below f.shape n (n + 1) p (keys p))
      (λ p. at_partner (partner m pick map up c v) (λ q. followed_by (reaches m pick under' g.shape v (v + 1) q (vals p)) (one_reach g v q (vals p)))) keys
      (λ p. walk_adds below f.shape n (n + 1) p (keys p) (placed_below m f below (tree g under' none) n pl) fo.1 fo.0)
      (λ p. last_adds g under' map up v c pr fo.2.0 (λ q. reaches m pick under' g.shape v (v + 1) q (vals p)) (λ q. vals p)
      (λ q. walk_adds under' g.shape v (v + 1) q (vals p) (placed_below m g under' none v pr) fo.2.1 fo.2.0))
  walk_adds (tree f below (tree g under' (tree h over rest))) map up n c shown pl fo ex = absurd ex

  -- the walk of the schema's struct at column 0, from any table: the answer and the table are those of adding what is reached
  drop_units : (us : List (Unit {0})) (x : Outcome) → bind_result (close (counter m) struct 0 0) (bind_result (λ _. ret us) x) ≡ x
  drop_units us (Ok u, t) = refl
  drop_units us (Err e, t) = refl

  pub counts-reached : Formed m.fields → (t : Table) → compute_walk m pick t ≡ add_reaches m t (reached m pick).0 (reached m pick).1
  counts-reached fo t =
      ap (λ (w : Result (List (Unit {0})) StepFault × Table). bind_result (close (counter m) struct 0 0) w) (walk_adds m.fields struct 0 1 0 (λ i. ltb i m.rows) (placed_all m) fo tt t)
      ∙ drop_units (units m.fields) (adds m (reached m pick) t)

pub counted_law : CountedLaw
counted_law m k pick mine t = counts-reached m pick mine (keeps-formed m k) t

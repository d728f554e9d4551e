-- What a hex string is read as, two digits at a time.
use Rattle.std.proofs.Common.{◌≡◌, ℕ, ◌+◌, ◌*◌, ◌≤◌, List, [], ◌∷◌, ◌++◌, length, slice_index, None, Result, Ok, Err, IfOk, Vec, vec_len, vec_capacity, Global, refl, sym, ap, ◌∙◌, subst, arith, append_assoc, append-nil}
use Rattle.std.specs.Fn.{Called}
use Rattle.std.specs.List.{FoldsTo}
use Rattle.std.specs.Iterator.{Yields, TryCollects}
use Rattle.std.specs.Iterator.Adapters.{map_source, map_callee, map_steps}
use Rattle.std.specs.Slice.Iter.{chunks_rest, chunks_steps}
use Rattle.std.specs.declared.iter.Map.{Map}
use Rattle.std.specs.declared.slice.Chunks.{Chunks}
use denote.Param.Members.{Mut}
use denote.Ref.{Bor}
use Rattle.readcases.specs.Hex.{IsDigit, IsHex}

-- two digits are the text of one byte
pub IsHex-pair : (pair : List ℕ) (h l : ℕ) → length pair ≡ 2 → IsDigit (slice_index pair 0) h → IsDigit (slice_index pair 1) l → IsHex pair ((16 * h + l) ∷ [])
IsHex-pair [] h l e p q = absurd (omega (arith, e))
IsHex-pair (x ∷ []) h l e p q = absurd (omega (arith, e))
IsHex-pair (x ∷ y ∷ []) h l e p q = ((h, l, p, q, refl), tt)
IsHex-pair (x ∷ y ∷ z ∷ t) h l e p q = absurd (omega (arith, e))

IsHex-none : (text : List ℕ) → length text ≡ 0 → IsHex text []
IsHex-none [] e = tt
IsHex-none (x ∷ t) e = absurd (omega (arith, e))

-- a pair of digits goes before the others
IsHex-more : (pair text bytes : List ℕ) (b : ℕ) → IsHex pair (b ∷ []) → IsHex text bytes → IsHex (pair ++ text) (b ∷ bytes)
IsHex-more [] text bytes b p q = absurd p
IsHex-more (x ∷ []) text bytes b p q = absurd p
IsHex-more (x ∷ y ∷ []) text bytes b p q = (p.0, q)
IsHex-more (x ∷ y ∷ z ∷ []) text bytes b p q = absurd p.1
IsHex-more (x ∷ y ∷ z ∷ w ∷ t) text bytes b p q = absurd p.1

-- a vector is collected from no item, and takes the items at its end
abbrev Collects : List ℕ → Vec ℕ Global → Type 0
Collects xs v = (v.items ≡ xs) × (vec_len v ≡ length xs)

abbrev Extends : Vec ℕ Global → List ℕ → Vec ℕ Global → Type 0
Extends v xs w = (w.items ≡ v.items ++ xs) × (vec_len w ≡ vec_len v + length xs) × (vec_capacity v ≤ vec_capacity w)

module _ {F E : Type 0} (g : Mut F (Bor (List ℕ) × Unit {0}) (Result ℕ E))
    (each : (f h : F) (x : Bor (List ℕ)) (b : ℕ) → Called g f (x, tt) (Ok b) h → IsHex x.now (b ∷ [])) where
  read : (s t u : Map (Chunks ℕ) F) (xs : List (Result ℕ E)) (v w : Vec ℕ Global) → Yields (map_steps chunks_steps g) s xs t → map_steps chunks_steps g t None u
      → FoldsTo (λ p x q. (y : ℕ) × (Ok y ≡ x) × Extends p (y ∷ []) q) v xs w
      → (bytes : List ℕ) × (w.items ≡ v.items ++ bytes) × IsHex (chunks_rest (map_source s)) bytes
  read s t u [] v w p q r = ([], ap (λ l. l.items) (sym r) ∙ sym (append-nil v.items), subst (λ k. IsHex (chunks_rest (map_source k)) []) (sym p) (IsHex-none _ q.0.1.0))
  read s t u (x ∷ xs) v w p q r =
      let more = read p.0 t u xs r.0 w p.2 q r.2 in
      let pair = p.1.0 in
      let y = r.1.0 in
      let called = each (map_callee s) (map_callee p.0) pair y (subst (λ k. Called g (map_callee s) (pair, tt) k (map_callee p.0)) (sym r.1.1) p.1.2) in (
        y ∷ more.0,
        more.1 ∙ ap (λ l. l ++ more.0) r.1.2.0 ∙ append_assoc v.items (y ∷ []) more.0,
        subst (λ l. IsHex l (y ∷ more.0)) (sym p.1.1.1.0) (IsHex-more pair.now _ more.0 y called more.2),
      )

  -- what was read of each pair, in turn, is what the text has
  pub IsHex-collected : (s : Map (Chunks ℕ) F) (r : Result (Vec ℕ Global) E) → IfOk r (TryCollects (map_steps chunks_steps g) (λ x y. y ≡ x) Collects Extends s)
      → IfOk r (λ v. IsHex (chunks_rest (map_source s)) v.items)
  IsHex-collected s (Err _) h = tt
  IsHex-collected s (Ok v) h =
      let bytes = read s h.2.1.0 h.2.0 h.0 h.1 v h.2.1.1 h.2.1.2 h.4 in
      subst (IsHex (chunks_rest (map_source s))) (sym (bytes.1 ∙ ap (λ l. l ++ bytes.0) h.3.0)) bytes.2

-- a text has two digits for each byte
pub length-IsHex : (text bytes : List ℕ) → IsHex text bytes → 2 * length bytes ≡ length text
length-IsHex [] [] h = refl
length-IsHex [] (b ∷ bs) h = absurd h
length-IsHex (x ∷ []) bytes h = absurd h
length-IsHex (x ∷ y ∷ t) [] h = absurd h
length-IsHex (x ∷ y ∷ t) (b ∷ bs) h = omega (arith, length-IsHex t bs h.1)

-- What a walk has found: no refusal, few reaches, and how many NaNs of an id they show.
use Rattle.std.proofs.Common.{◌≡◌, ℕ, ◌+◌, ◌≤◌, Bool, cond, ◌&&◌, List, [], ◌∷◌, ◌++◌, length, ℤ, Some, None, Ok, Option, Result, sym, refl, ◌∙◌, subst, arith, length-append}
use Rattle.meaning.specs.Model.{Model, Field, at}
use Rattle.meaning.specs.Slots.{nan}
use Rattle.meaning.specs.Access.{StepFault}
use Rattle.meaning.specs.Lists.{sum}
use Rattle.meaning.specs.Equal.{same_integer}
use Rattle.meaning.specs.Reaches.{Reach, Found, followed_by, at_partner, one_reach}
use Rattle.meaning.proofs.SlotSums.{sum_to}

module _ (m : Model) (id : ℤ) where
  -- the NaNs of a reach at shown slots, and of reaches under the id
  abbrev pub shown_nans : Reach → ℕ
  shown_nans r = sum_to (at m r.column).len (λ i. cond (nan (at m r.column) i && r.shown i) 1 0)

  abbrev pub shown_in : List Reach → ℕ
  shown_in rs = sum (λ r. cond (same_integer id r.id) (shown_nans r) 0) rs

  pub record Good (F : Found) (k s : ℕ) : Type 0 where
    pub whole : F.1 ≡ None
    pub few : length F.0 ≤ k
    pub shows : shown_in F.0 ≡ s

  pub good_at : (F : Found) (k s k' s' : ℕ) → k ≤ k' → s ≡ s' → Good F k s → Good F k' s'
  good_at F k s k' s' h e g = record { whole = g.whole; few = omega arith; shows = g.shows ∙ e }

  pub good_none : (k : ℕ) → Good ([], None) k 0
  good_none k = record { whole = refl; few = omega arith; shows = refl }

  shown_append : (rs qs : List Reach) → shown_in (rs ++ qs) ≡ shown_in rs + shown_in qs
  shown_append [] qs = omega arith
  shown_append (r ∷ rs) qs = omega (arith, shown_append rs qs)

  then_step : (rs : List Reach) (o : Option StepFault) (G : Found) (k s l t : ℕ) → o ≡ None → length rs ≤ k → shown_in rs ≡ s → Good G l t → Good (followed_by (rs, o) G) (k + l) (s + t)
  then_step rs None G k s l t e h i g =
      record { whole = g.whole; few = omega (arith, length-append rs G.0); shows = shown_append rs G.0 ∙ omega arith }
  then_step rs (Some f) G k s l t e h i g = absurd (let z : ◌≡◌ {A = ℕ} 0 1 = cc in omega arith)

  -- one walk after another
  pub good_then : (F G : Found) (k s l t : ℕ) → Good F k s → Good G l t → Good (followed_by F G) (k + l) (s + t)
  good_then F G k s l t f g = then_step F.0 F.1 G k s l t f.whole f.few f.shows g

  -- a walk at a partner that was met
  pub good_under : (r : Result ℕ StepFault) (k : ℕ → Found) (p l t : ℕ) → r ≡ Ok p → Good (k p) l t → Good (at_partner r k) l t
  good_under r k p l t e g = subst (λ (q : Result ℕ StepFault). Good (at_partner q k) l t) (sym e) g

  -- a single reach
  pub good_one : (f : Field) (n p : ℕ) (shown : ℕ → Bool)
      → Good (one_reach f n p shown) 1 (cond (same_integer id f.id) (sum_to (at m p).len (λ i. cond (nan (at m p) i && shown i) 1 0)) 0)
  good_one f n p shown = record { whole = refl; few = omega arith; shows = omega arith }

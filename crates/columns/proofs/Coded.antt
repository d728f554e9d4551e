-- A column's code with its width or size, against the definition `code_of`.
use Rattle.std.proofs.Common.{◌≡◌, ℕ, true, false, Bool, cond, eqb, ◌⊎◌, Ok, Err, Result, sym, refl, ap, ◌∙◌, subst, inl, inr}
use Rattle.std.specs.Result.{MatchResult, IsOkAnd}
use Rattle.meaning.specs.Model as model
use Rattle.meaning.specs.Items.{column, BatchFault as Fault, Rest, Read, refused, carry, give, byte, limited}
use Rattle.meaning.specs.Columns.{code_of, detailed}
use Rattle.fault.specs.declared.faults.BatchFault.{BatchFault}
use Rattle.items.specs.declared.reader.Reader.{Reader}
use Rattle.items.specs.Reading.{Reads, rest}
use Rattle.columns.specs.declared.code.Code.{Code}
use Rattle.columns.specs.Codes.{code_meant, listed, size_from}
use Rattle.items.proofs.Taken.{if_true, listed-byte}

-- a width or a size, and the code with it
tested : (b : Bool) (x : Fault) (c d : ℕ) (r : Rest)
    → carry (λ d. give (detailed c d)) (cond b (Err x) (Ok (d, r))) ≡ cond b (Err x) (Ok (detailed c d, r))
tested true x c d r = refl
tested false x c d r = refl

sized : (n c at : ℕ) (m : Result (ℕ × Rest) Fault)
    → carry (λ d. give (detailed c d)) (carry (λ d r. cond (eqb d 0) (refused 7 at (column n)) (Ok (d, r))) m)
    ≡ carry (λ d r. cond (eqb d 0) (refused 7 at (column n)) (Ok (detailed c d, r))) m
sized n c at (Ok (d, r)) = tested (eqb d 0) (record { number = 7; byte = at; entry = column n }) c d r
sized n c at (Err e) = refl

module _ (n : ℕ) where
  abbrev goes_on : ℕ → Read model.Code
  goes_on c r =
      cond (cond (eqb c 13) true (eqb c 19))
      (carry (λ d r'. cond (eqb d 0) (refused 7 r.at (column n)) (Ok (detailed c d, r'))) (limited (column n) 65536 r))
      (Ok (detailed c 0, r))

  -- a code that goes on with a width or a size
  pub sized-code : (c : ℕ) (r r1 : Rest) → Ok (c, r1) ≡ byte (column n) (λ _. true) r → (c ≡ 13) ⊎ (c ≡ 19)
      → carry (λ d. give (detailed c d)) (size_from (column n) r1) ≡ code_of n r
  sized-code c r r1 e which =
      let l : listed c ≡ true = elim which [ inl h ↦ ap listed h | inr h ↦ ap listed h ] in
      let s : cond (eqb c 13) true (eqb c 19) ≡ true = elim which [ inl h ↦ ap (λ c. cond (eqb c 13) true (eqb c 19)) h | inr h ↦ ap (λ c. cond (eqb c 13) true (eqb c 19)) h ] in
      sized n c r1.at (limited (column n) 65536 r1) ∙ sym (if_true _ (Ok (detailed c 0, r1)) s)
      ∙ ap (carry goes_on) (listed-byte (column n) listed c r r1 e l)

-- the same for the readers of the code
pub code-read :
    (n : ℕ) {c : ℕ} (make : ℕ → Code) {before mid after : Reader} (size : Result ℕ BatchFault) (code : Result Code BatchFault) → (c ≡ 13) ⊎ (c ≡ 19) → ((d : ℕ) → code_meant (make d) ≡ detailed c d)
    → Reads (λ (b : ℕ). b) (byte (column n) (λ _. true)) before (Ok c) mid → Reads (λ (d : ℕ). d) (size_from (column n)) mid size after
    → MatchResult size (λ d. IsOkAnd code (λ x. x ≡ make d)) (λ e. code ≡ Err e) → Reads code_meant (code_of n) before code after
code-read n {c = c} make {before = before} {mid = mid} {after = after} (Ok d) (Ok x) which is b s m =
    record {
      same = s.same ∙ b.same;
      does = ap (λ x. Ok (x, rest after)) (ap code_meant m ∙ is d) ∙ ap (carry (λ d. give (detailed c d))) s.does ∙ sized-code n c (rest before) (rest mid) b.does which;
    }
code-read n make (Ok d) (Err e) which is b s m = absurd m
code-read n {c = c} make {before = before} {mid = mid} {after = after} (Err e) code which is b s m =
    subst (λ x. Reads code_meant (code_of n) before x after) (sym m)
    (record { same = s.same ∙ b.same; does = ap (carry (λ d. give (detailed c d))) s.does ∙ sized-code n c (rest before) (rest mid) b.does which })

use Rattle.std.proofs.Common.{◌≡◌, ℕ, ◌+◌, true, Result, Ok, Err, is_err, sym, ap, ◌∙◌, subst, arith, rules}
use Rattle.items.specs.Reading.{file, said}
use Rattle.items.specs.Widths.{wide}
use Rattle.items.proofs.Placing.{Passing, breaks, goes}
use Rattle.items.proofs.reader.Reader.offsets.Goals.{then-is_err, else-is_err}
use Rattle.items.proofs.reader.Reader.offsets.Goals as goal

fails : {A E : Type 0} (r : Result A E) (v : A) → r ≡ Ok v → true ≡ is_err r → ⊥
fails (Ok x) v p e = absurd cc
fails (Err x) v p e = absurd cc

pub returns-in_err-last : goal.returns-in_err-last
returns-in_err-last c =
    let b = c.offset-read.ensures in
    let d = breaks c.loop.invariant (omega arith) _ (ap (λ r. said (λ (v : ℕ). v) r c.offset-read.new.self) (sym c.in_err-last.was) ∙ b.does) in
    let f : file c.if-is_err.self ≡ file c.offset-read.new.self = elim c.if-is_err.branch [ then-is_err w ↦ ap file w.self-is | else-is_err w ↦ ap file w.self-is ] in
    record {
      takes = record { reads = record { same = f ∙ b.same ∙ c.loop.invariant.same; does = search rules }; stays = search rules };
      stand = search rules;
      ends = search rules;
    }

pub loop-preserved : goal.loop-preserved
loop-preserved c =
    let d = c.offset-read.ensures in
    let does = ap (λ r. said (λ (v : ℕ). v) r c.offset-read.new.self) (sym c.in_ok-last.was) ∙ d.does in
    elim c.if-is_err.branch [
      | then-is_err w ↦ absurd (fails c.offset-read.result c.in_ok-last.last c.in_ok-last.was w.if-is_err.ensures.value)
      | else-is_err w ↦ subst (λ s. Passing c.args.self.now s (wide c.args.width) c.args.count c.args.n c.args.self.now.at c.in_ok-last.last (c.loop.counter + 1)) (sym w.self-is) (goes c.loop.invariant (omega arith) c.offset-read.new.self c.in_ok-last.last d.same does)
    ]

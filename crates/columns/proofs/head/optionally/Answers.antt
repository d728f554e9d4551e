use Rattle.std.proofs.Common.{Err, sym, refl, ap, ◌∙◌, subst, inr, rules}
use Rattle.std.proofs.lemmas.Result.{err_from_is_err_and}
use Rattle.std.specs.Fn.{FnOnceReturnsAtMut}
use Rattle.fault.specs.Faults.{entry_of}
use Rattle.columns.specs.Heads.{Follows}
use Rattle.columns.proofs.head.optionally.Goals as goal

pub returns-in_err-read : goal.returns-in_err-read
returns-in_err-read g c =
    let p = err_from_is_err_and c.from_residual-in_err-read.result c.from_residual-in_err-read.ensures.1 in
    subst (λ r. Follows (FnOnceReturnsAtMut g.F.FnOnce c.args.read) (entry_of c.args.entry) c.args.reader.now r c.read.new.arg2) (sym (p.1 ∙ ap Err p.2))
    (inr (c.flag.new.self, search rules, record { shown = _; shows = refl; left = _; met = c.in_err-read.ensures; leaves = refl }))

pub returns : goal.returns
returns g c = (c.flag.new.self, search rules, record { shown = _; shows = refl; left = _; met = c.in_ok-read.ensures; leaves = refl })

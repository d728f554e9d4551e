-- 1 is added for each slot whose bit is not set.
use Rattle.std.proofs.Common.{◌∙◌, ◌-◌, ◌^◌, ℕ, cond, not, arith, rules, tests}
use Rattle.std.specs.List.{range_with_len}
use Rattle.std.proofs.lemmas.Iterator.{YieldsList-from_map, YieldsList-from_range}
use Rattle.std.proofs.lemmas.Iterator.Consumers.{sum_by_from_yields_List, fits_by_from_yields_list}
use Rattle.meaning.specs.Slots.{bit}
use Rattle.info.proofs.Tallies.{sum_passing, unset_bound}
use Rattle.info.proofs.nulls.unset_in_slots.Goals as goal

pub sum-requires-clause-fits : goal.sum-requires-clause-fits
sum-requires-clause-fits c =
    let bs = c.args.bits.now in
    let n = c.args.end - c.args.first in
    let one = λ (i : ℕ). cond (not (bit bs i)) 1 0 in
    let same = sum_passing (λ i. not (bit bs i)) c.args.first n in
    let most = unset_bound bs c.args.first n in
    fits_by_from_yields_list one (range_with_len c.args.first n) _ (2 ^ 64)
    (YieldsList-from_map _ one (YieldsList-from_range c.args.first c.args.end n (cc) (omega arith)) c.map.ensures.closure (λ y r q k. search (rules, tests)))
    (omega (arith, c.ranges, same, most))

pub returns : goal.returns
returns c =
    let bs = c.args.bits.now in
    let n = c.args.end - c.args.first in
    let one = λ (i : ℕ). cond (not (bit bs i)) 1 0 in
    sum_by_from_yields_List one (range_with_len c.args.first n) _ _ c.sum.ensures.ran
    (YieldsList-from_map _ one (YieldsList-from_range c.args.first c.args.end n (cc) (omega arith)) c.map.ensures.closure (λ y r q k. search (rules, tests)))
    ∙ sum_passing (λ i. not (bit bs i)) c.args.first n

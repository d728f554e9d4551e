-- Eight for each byte at most.
use Rattle.std.proofs.Common.{◌^◌, arith, rules}
use Rattle.std.proofs.lemmas.Iterator.{YieldsList-from_map, YieldsList-from_slice}
use Rattle.std.proofs.lemmas.Iterator.Consumers.{fits_by_from_yields_list}
use Rattle.info.specs.Lines.{unset_in}
use Rattle.info.proofs.Tallies.{unset_bytes_bound}
use Rattle.info.proofs.nulls.unset_in_bytes.Goals as goal

pub sum-requires-clause-fits : goal.sum-requires-clause-fits
sum-requires-clause-fits c =
    let bs = c.args.bytes.now in
    let most = unset_bytes_bound bs in
    fits_by_from_yields_list unset_in bs _ (2 ^ 64)
    (YieldsList-from_map _ unset_in (YieldsList-from_slice bs (search rules)) c.map.ensures.closure (λ y r q k. search rules))
    (omega (arith, c.requires, most))

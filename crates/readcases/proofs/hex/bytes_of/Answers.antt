use Rattle.std.proofs.Common.{rules, ◌≡◌, ◌*◌, ap, subst, ◌∙◌, length, vec_len, IfOk}
use Rattle.std.proofs.lemmas.Result.{IfOk-weaker}
use Rattle.std.specs.Slice.Iter.{chunks_rest}
use Rattle.readcases.specs.Hex.{IsHex}
use Rattle.readcases.proofs.Pairs.{IsHex-collected, length-IsHex}
use Rattle.readcases.proofs.hex.bytes_of.Goals as goal

pub returns : goal.returns
returns c =
    let rest = ap chunks_rest c.map.ensures.source ∙ c.chunks.ensures.rest ∙ c.as_bytes.ensures.value in
    let read = IsHex-collected _ (λ _ _ _ _ k. search rules) c.map.result _ c.try_collect.ensures.ran in
    let bytes : IfOk c.try_collect.result (λ v. IsHex c.args.hex.now v.items) = subst (λ t. IfOk c.try_collect.result (λ v. IsHex t v.items)) rest read in
    record {
      bytes = bytes;
      twice =
          IfOk-weaker c.try_collect.result (λ v. IsHex c.args.hex.now v.items) (λ v. 2 * vec_len v ≡ length c.args.hex.now)
          (λ v h. ap (λ n. 2 * n) v.ok.0 ∙ length-IsHex c.args.hex.now v.items h) bytes;
    }

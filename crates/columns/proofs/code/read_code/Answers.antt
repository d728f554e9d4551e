use Rattle.std.proofs.Common.{◌≡◌, sym, ap, inl, inr, rules}
use Rattle.meaning.specs.Columns.{detailed}
use Rattle.columns.specs.declared.code.Code.TheVariants.{FixedSizeBinary, FixedSizeList}
use Rattle.columns.proofs.Coded.{code-read}
use Rattle.columns.proofs.code.read_code.Goals as goal

pub returns-in-FixedSizeBinary : goal.returns-in-FixedSizeBinary
returns-in-FixedSizeBinary c =
    let is : c.in_ok-code.code ≡ 13 = search rules in
    code-read c.args.n (λ d. FixedSizeBinary d) c.read_size.result c.map.result (inl is) (λ d. ap (λ k. detailed k d) (sym is)) c.in_ok-code.ensures.reads c.read_size.ensures c.map.ensures.cases

pub returns-in-FixedSizeList : goal.returns-in-FixedSizeList
returns-in-FixedSizeList c =
    let is : c.in_ok-code.code ≡ 19 = search rules in
    code-read c.args.n (λ d. FixedSizeList d) c.read_size-in-FixedSizeList.result c.map-in-FixedSizeList.result (inr is) (λ d. ap (λ k. detailed k d) (sym is)) c.in_ok-code.ensures.reads
    c.read_size-in-FixedSizeList.ensures c.map-in-FixedSizeList.ensures.cases

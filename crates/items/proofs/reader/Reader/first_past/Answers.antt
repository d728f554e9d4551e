use Rattle.std.proofs.Common.{rules, sym, ap, subst, ◌≡◌, ◌+◌, ◌*◌, ◌/◌, ◌∙◌, ◌≤◌, ◌<◌, length, Some, arith}
use Rattle.std.proofs.Math.Nat.{mul-div_cancel_left}
use Rattle.std.specs.List.{slice_range}
use Rattle.std.specs.Option.{IsSomeAnd}
use Rattle.meaning.specs.Items.{little}
use Rattle.items.specs.Widths.{wide}
use Rattle.items.proofs.Seeking.{some, tested, past_none, past_first, weaker, there, Chunked, seen}
use Rattle.items.proofs.reader.Reader.first_past.Goals as goal

pub returns-in_err-past : goal.returns-in_err-past
returns-in_err-past c =
    let h = c.in_err-past.ensures.runs in
    let g = c.in_ok-get.ensures.lookup.0 in
    let bs = c.args.self.now.bytes.now in
    let o = c.args.offsets in
    let w = wide o.width in
    let end = c.in_ok-end.end in
    let size = ap (λ s. s.size) h.1 ∙ c.chunks_exact.ensures.size ∙ c.bytes-size.ensures in
    let rest = ap (λ s. s.rest.now) h.1 ∙ c.chunks_exact.ensures.rest ∙ g.2 in
    let all = c.chunks_exact.ensures.runs h.0 h.0.seen (omega (arith, size, some o.width)) in
    let chunks : Chunked (slice_range bs o.start end) w h.0.at = subst (λ p. Chunked p w h.0.at) rest (subst (λ n. Chunked h.0.from.rest.now n h.0.at) size all.2) in
    let gave = h.2.1 (λ a r f' k. search rules) in
    let long : length (slice_range bs o.start end) + o.start ≡ end = subst (λ p. length p + o.start ≡ end) g.2 g.3 in
    let whole : end ≡ w * o.count + o.start = c.in_ok-end.ensures.1 ∙ ap (λ n. n + o.start) (c.in_ok-checked_mul.ensures.1 ∙ ap (λ n. n * o.count) c.bytes-size.ensures) in
    let many : h.0.len ≡ o.count = all.1 h.2.0 ∙ ap (λ p. length p / h.0.from.size) rest ∙ ap (λ n. length (slice_range bs o.start end) / n) size ∙ ap (λ n. n / w) (omega arith) ∙ mul-div_cancel_left o.count (some o.width) in
    c.from_residual-in_err-past.ensures
    ∙ sym (past_none bs w c.args.limit o.count o.start (λ k l. seen (λ v. v ≤ c.args.limit) bs w o.start end k h.0.at chunks long
    (weaker _ (λ x. little x.now ≤ c.args.limit) (there (h.0.at k) _ _ (h.0.reads k c.in_ok-get.field-0 (omega arith)) (gave k)) (λ x q. search rules))))
    ∙ sym (tested bs (o.start + w * o.count) _ _ (omega arith))

pub returns : goal.returns
returns c =
    let h = c.in_ok-past.ensures.runs in
    let g = c.in_ok-get.ensures.lookup.0 in
    let bs = c.args.self.now.bytes.now in
    let o = c.args.offsets in
    let w = wide o.width in
    let end = c.in_ok-end.end in
    let size = ap (λ s. s.size) h.1 ∙ c.chunks_exact.ensures.size ∙ c.bytes-size.ensures in
    let rest = ap (λ s. s.rest.now) h.1 ∙ c.chunks_exact.ensures.rest ∙ g.2 in
    let all = c.chunks_exact.ensures.runs h.0 h.0.seen (omega (arith, size, some o.width)) in
    let chunks : Chunked (slice_range bs o.start end) w h.0.at = subst (λ p. Chunked p w h.0.at) rest (subst (λ n. Chunked h.0.from.rest.now n h.0.at) size all.2) in
    let gave = h.2.1 (λ a r f' k. search rules) in
    let long : length (slice_range bs o.start end) + o.start ≡ end = subst (λ p. length p + o.start ≡ end) g.2 g.3 in
    let high : IsSomeAnd (h.0.at c.in_ok-past.past) (λ x. c.args.limit < little x.now) = weaker _ (λ x. c.args.limit < little x.now) gave.0 (λ x q. search rules) in
    let whole : end ≡ w * o.count + o.start = c.in_ok-end.ensures.1 ∙ ap (λ n. n + o.start) (c.in_ok-checked_mul.ensures.1 ∙ ap (λ n. n * o.count) c.bytes-size.ensures) in
    let many : length c.chunks_exact.result.rest.now / c.chunks_exact.result.size ≡ o.count =
    ap (λ p. length p / c.chunks_exact.result.size) (c.chunks_exact.ensures.rest ∙ g.2) ∙ ap (λ n. length (slice_range bs o.start end) / n) (c.chunks_exact.ensures.size ∙ c.bytes-size.ensures)
    ∙ ap (λ n. n / w) (omega arith) ∙ mul-div_cancel_left o.count (some o.width)
    in
    ap (λ n. Some (o.start + n * c.in_ok-past.past)) c.bytes-size.ensures
    ∙ sym (past_first bs w c.args.limit o.count c.in_ok-past.past o.start (omega (arith, many, c.in_ok-past.ensures.bound))
    (λ k l. seen (λ v. v ≤ c.args.limit) bs w o.start end k h.0.at chunks long (weaker _ (λ x. little x.now ≤ c.args.limit) (gave.1 k l) (λ x q. search rules)))
    (seen (λ v. c.args.limit < v) bs w o.start end c.in_ok-past.past h.0.at chunks long high))
    ∙ sym (tested bs (o.start + w * o.count) _ _ (omega arith))

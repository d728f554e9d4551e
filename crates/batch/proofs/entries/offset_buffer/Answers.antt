use Rattle.batch.proofs.Buffers.{seen, whole}
use Rattle.batch.proofs.entries.offset_buffer.Goals as goal

pub returns : goal.returns
returns c =
    let o = c.args.offsets in
    record {
      shows = seen o.width c.args.bytes.now o.start o.count c.bytes.result c.part.result.now c.bytes.ensures c.requires c.part.ensures;
      whole = whole o.width c.args.bytes.now o.start o.count c.bytes.result c.part.result.now c.bytes.ensures c.requires c.part.ensures;
    }

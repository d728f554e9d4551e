use Rattle.std.proofs.Common.{refl, ◌∙◌, to_z-of_z, w32}
use Rattle.fault.specs.Faults.{entry_of}
use Rattle.items.proofs.Ids.{id-there}
use Rattle.items.proofs.reader.Reader.id.Goals as goal

pub returns : goal.returns
returns c =
    record {
      reads = record {
        same = refl;
        does = id-there c.args.self.now.bytes.now c.in-Some.bytes.now c.args.self.now.at (entry_of c.args.entry) _ c.in-Some.ensures.cases
            (to_z-of_z {w = w32} {z = c.from_le_bytes.result} (record { sfits = c.from_le_bytes.type_inv }) ∙ c.from_le_bytes.ensures);
      };
      stays = tt;
    }

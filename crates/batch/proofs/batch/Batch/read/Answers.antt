use Rattle.std.proofs.Common.{ℕ, length, sym, refl, ap, ◌∙◌, arith}
use Rattle.batch.specs.Loaded.{read_in}
use Rattle.batch.proofs.Accepted.{is_accepted, is_counted, is_roomy, is_standing, is_read, written, all_bytes, keeps_rules, none_kept}
use Rattle.batch.proofs.batch.Batch.read.Goals as goal

pub invariant_of-result : goal.invariant_of-result
invariant_of-result c =
    let l = c.in-Ok.ensures in
    let fs = written c.args.tables.fields c.load.new.fields c.as_mut_slice.result.now c.load.auto.fields c.as_mut_slice.ensures.len in
    let cs = written c.args.tables.columns c.load.new.columns c.as_mut_slice-2.result.now c.load.auto.columns c.as_mut_slice-2.ensures.len in
    let b = all_bytes c.args.bytes.now (λ i. omega (arith, c.type_inv.bytes i)) in
    record {
      accepted = is_accepted l;
      keeps = ∣ (keeps_rules c.args.bytes.now b (is_accepted l)).0 ∣₁;
      counted = is_counted l;
      room = is_roomy b l _ _ c.as_mut_slice.ensures.len c.as_mut_slice-2.ensures.len;
      standing = ∣ is_standing l _ _ fs cs ∣₁;
    }

pub returns-in-Ok : goal.returns-in-Ok
returns-in-Ok c =
    let l = c.in-Ok.ensures in
    record {
      decodes = is_read l _ _ (sym c.as_mut_slice.ensures.len) (sym c.as_mut_slice-2.ensures.len);
      same = (refl, refl, refl);
      emptied = tt;
      lawful = keeps_rules c.args.bytes.now (all_bytes c.args.bytes.now (λ i. omega (arith, c.type_inv.bytes i))) (is_accepted l);
    }

pub returns-in-Err : goal.returns-in-Err
returns-in-Err c =
    let e = c.in-Err.ensures.does
    ∙ ap (λ (k : ℕ). read_in k (length c.as_mut_slice-2.result.now) c.args.bytes.now) c.as_mut_slice.ensures.len
    ∙ ap (λ (k : ℕ). read_in c.args.tables.fields.len k c.args.bytes.now) c.as_mut_slice-2.ensures.len
    in
    record {
      decodes = e;
      same = tt;
      emptied = c.clear.ensures;
      lawful = none_kept c.args.tables.fields.len c.args.tables.columns.len c.args.bytes.now _ e;
    }

use Rattle.std.proofs.Common.{◌≡◌, length, Err, refl, ap, ◌∙◌, subst, arith}
use Rattle.std.proofs.lemmas.Result.{err_from_is_err_and}
use Rattle.meaning.specs.Model.{Model}
use Rattle.items.specs.Reading.{file, rest}
use Rattle.items.specs.Tables.{Stands}
use Rattle.schema.specs.Fields.{field_table}
use Rattle.columns.specs.Entries.{column_table}
use Rattle.batch.proofs.Whole.{rows-read, schema-read, columns-read, whole_in, at-end, not_at-end, refuses_in}
use Rattle.batch.proofs.load.load.Goals as goal

pub returns-in_err-rows : goal.returns-in_err-rows
returns-in_err-rows c =
    let p = err_from_is_err_and c.from_residual-in_err-rows.result c.from_residual-in_err-rows.ensures.1 in
    let b = c.in_ok-byte.ensures.reads in
    refuses_in p.0 c.in_err-rows.field-0.0 p.1 p.2
    (whole_in (length c.args.fields.now) (length c.args.columns.now) c.args.bytes.now (omega arith) (omega arith) (omega arith) (rest c.new-reader.result) c.new-reader.ensures.0 _
    (rows-read c.in_ok-byte.field-0 (rest c.new-reader.result) (rest c.byte.new.self) b.does (omega arith) _ c.in_err-rows.ensures.reads.does))

pub returns-in_err-fields_end : goal.returns-in_err-fields_end
returns-in_err-fields_end c =
    let p = err_from_is_err_and c.from_residual-in_err-fields_end.result c.from_residual-in_err-fields_end.ensures.1 in
    let b = c.in_ok-byte.ensures.reads in
    let r = c.in_ok-rows.ensures.reads in
    refuses_in p.0 c.in_err-fields_end.field-0.0 p.1 p.2
    (whole_in (length c.args.fields.now) (length c.args.columns.now) c.args.bytes.now (omega arith) (omega arith) (omega arith) (rest c.new-reader.result) c.new-reader.ensures.0 _
    (schema-read c.in_ok-byte.field-0 (rest c.new-reader.result) (rest c.byte.new.self) b.does (omega arith) c.in_ok-rows.field-0 (rest c.limited.new.self) r.does
    (length c.args.fields.now) (omega arith) _ c.in_err-fields_end.ensures.fills.does))

pub returns-in_err-columns_end : goal.returns-in_err-columns_end
returns-in_err-columns_end c =
    let p = err_from_is_err_and c.from_residual-in_err-columns_end.result c.from_residual-in_err-columns_end.ensures.1 in
    let b = c.in_ok-byte.ensures.reads in
    let r = c.in_ok-rows.ensures.reads in
    let s = c.in_ok-fields_end.ensures.fills in
    refuses_in p.0 c.in_err-columns_end.field-0.0 p.1 p.2
    (whole_in (length c.args.fields.now) (length c.args.columns.now) c.args.bytes.now (omega arith) (omega arith) (omega arith) (rest c.new-reader.result) c.new-reader.ensures.0 _
    (columns-read c.in_ok-byte.field-0 (rest c.new-reader.result) (rest c.byte.new.self) b.does (omega arith) c.in_ok-rows.field-0 (rest c.limited.new.self) r.does
    (length c.args.fields.now) (omega arith) s.does.0 (rest c.read_schema.new.reader) s.does.1 (length c.args.columns.now) (omega arith) _ c.in_err-columns_end.ensures.fills.does))

pub returns-then-reader-bytes : goal.returns-then-reader-bytes
returns-then-reader-bytes c =
    let b = c.in_ok-byte.ensures.reads in
    let r = c.in_ok-rows.ensures.reads in
    let s = c.in_ok-fields_end.ensures.fills in
    let k = c.in_ok-columns_end.ensures.fills in
    let after = c.read_batch_columns.new.reader in
    let m : Model = record { rows = c.in_ok-rows.field-0; fields = s.does.0; columns = k.does.0 } in
    let same : file after ≡ c.args.bytes.now = k.same ∙ s.same ∙ r.same ∙ b.same ∙ c.new-reader.ensures.1 in
    record {
      does = ap Err c.new-then-reader-bytes.ensures ∙ not_at-end (file after) after.at m (omega (arith, ap length same))
          ∙ whole_in (length c.args.fields.now) (length c.args.columns.now) c.args.bytes.now (omega arith) (omega arith) (omega arith) (rest c.new-reader.result) c.new-reader.ensures.0 _
          (columns-read c.in_ok-byte.field-0 (rest c.new-reader.result) (rest c.byte.new.self) b.does (omega arith) c.in_ok-rows.field-0 (rest c.limited.new.self) r.does
          (length c.args.fields.now) (omega arith) s.does.0 (rest c.read_schema.new.reader) s.does.1 (length c.args.columns.now) (omega arith) _ k.does.1);
    }

pub returns : goal.returns
returns c =
    let b = c.in_ok-byte.ensures.reads in
    let r = c.in_ok-rows.ensures.reads in
    let s = c.in_ok-fields_end.ensures.fills in
    let k = c.in_ok-columns_end.ensures.fills in
    let after = c.read_batch_columns.new.reader in
    let m : Model = record { rows = c.in_ok-rows.field-0; fields = s.does.0; columns = k.does.0 } in
    let opened : file c.limited.new.self ≡ c.args.bytes.now = r.same ∙ b.same ∙ c.new-reader.ensures.1 in
    let same : file after ≡ c.args.bytes.now = k.same ∙ s.same ∙ opened in
    record {
      does = (
        m,
        at-end (file after) after.at m (omega (arith, ap length same))
            ∙ whole_in (length c.args.fields.now) (length c.args.columns.now) c.args.bytes.now (omega arith) (omega arith) (omega arith) (rest c.new-reader.result) c.new-reader.ensures.0 _
            (columns-read c.in_ok-byte.field-0 (rest c.new-reader.result) (rest c.byte.new.self) b.does (omega arith) c.in_ok-rows.field-0 (rest c.limited.new.self) r.does
            (length c.args.fields.now) (omega arith) s.does.0 (rest c.read_schema.new.reader) s.does.1 (length c.args.columns.now) (omega arith) _ k.does.1),
        record { rows = refl; fields = omega (arith, s.does.2.next); columns = omega (arith, k.does.2.next) },
        record {
          schema = subst (λ f. Stands field_table f c.read_schema.new.table 1 s.does.0) opened s.does.2.stands;
          batch = subst (λ f. Stands column_table f c.read_batch_columns.new.table 1 k.does.0) (s.same ∙ opened) k.does.2.stands;
        },
      );
    }

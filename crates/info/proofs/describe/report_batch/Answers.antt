-- All fields and all columns are listed.
use Rattle.std.proofs.Common.{arith}
use Rattle.batch.specs.Batches.{model}
use Rattle.info.proofs.Adding.{all_asked}
use Rattle.info.proofs.Reporting.{batch-text}
use Rattle.info.proofs.describe.report_batch.Goals as goal

pub put_lines-requires-clause-whole : goal.put_lines-requires-clause-whole
put_lines-requires-clause-whole c = all_asked (model c.args.batch.now).fields c.field_count-fields_end.result c.field_count-fields_end.ensures

pub put_lines-requires-2-clause-whole : goal.put_lines-requires-2-clause-whole
put_lines-requires-2-clause-whole c = all_asked (model c.args.batch.now).columns c.column_count-columns_end.result c.column_count-columns_end.ensures

pub returns : goal.returns
returns c =
    batch-text (model c.args.batch.now) c.rows-rows.result c.field_count-fields_end.result c.column_count-columns_end.result _ _ _ c.rows-rows.ensures (omega arith)
    c.field_count-fields_end.ensures c.column_count-columns_end.ensures c.in_ok-out.ensures.ok c.in_ok-put_lines.ensures c.in_ok-put_lines-2.ensures

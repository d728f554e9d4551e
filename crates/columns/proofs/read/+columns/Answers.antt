use Rattle.std.proofs.Common.{◌-◌, Ok, Err, ap, ◌∙◌, subst, inl, inr, arith, rules}
use Rattle.std.proofs.lemmas.Result.{err_from_is_err_and}
use Rattle.meaning.specs.Forest.{Forest}
use Rattle.meaning.specs.Model as model
use Rattle.items.specs.Reading.{rest}
use Rattle.items.specs.Tables.{Enters}
use Rattle.items.proofs.Filling.{refuses}
use Rattle.items.proofs.Siblings.{finish, stuck, fails, again}
use Rattle.columns.specs.Entries.{column_table}
use Rattle.columns.specs.Heads.{column_from}
use Rattle.columns.proofs.Heading.{column-read}
use Rattle.columns.specs.declared.length.Need.TheVariants.{Free}
use Rattle.columns.proofs.Mapping.{map-read, one_read}
use Rattle.columns.proofs.read.+columns.Goals.{read_columns-then-level-eq0-via-then-level-eq0, read_columns-then-level-eq0-via-else-level-eq0+then-to-gt256}
use Rattle.columns.proofs.read.+columns.Goals as goal

pub read_column-returns : goal.read_column-returns
read_column-returns t c =
    let h = c.in_ok-head.ensures in
    let b = c.in_ok-body.ensures in
    record { reader = b.fills.reader; table = b.fills.table; fills = column-read c.args.level c.args.holder h.reads h.inside b.fills.fills b.inside (omega arith) (omega arith) }

pub read_columns-returns-then-level-eq0 : goal.read_columns-returns-then-level-eq0
read_columns-returns-then-level-eq0 t c =
    let g = c.loop.invariant in
    record {
      reader = g.reader;
      table = g.table;
      fills = record {
        same = g.same;
        does = ap Err c.new.ensures ∙ stuck g (omega arith) (elim c.then-level-eq0.branch [ read_columns-then-level-eq0-via-then-level-eq0 w ↦ inl w.if-level-eq0.true | read_columns-then-level-eq0-via-else-level-eq0+then-to-gt256 w ↦ inr w.if-to-gt256.true ]);
      };
    }

pub read_columns-returns-in_err-read_column : goal.read_columns-returns-in_err-read_column
read_columns-returns-in_err-read_column t c =
    let p = err_from_is_err_and c.from_residual.result c.from_residual.ensures.1 in
    let b = c.in_err-read_column.ensures in
    let g = c.loop.invariant in
    refuses column_table p.0 c.in_err-read_column.field-0.0 (b.reader ∙ g.reader) (b.table ∙ g.table) (b.fills.same ∙ g.same) p.1 p.2
    (fails g (omega arith) (omega arith) (omega arith) _
    (b.fills.does ∙ ap (λ f. column_from f (c.args.level - 1) c.args.holder c.loop.to.next (rest c.loop.to.reader.now)) g.same))

pub read_columns-loop-preserved : goal.read_columns-loop-preserved
read_columns-loop-preserved t c =
    let g = c.loop.invariant in
    again g (omega arith) (omega arith) (omega arith) c.read_column.new.to
    (subst (λ f. Enters column_table (λ _ (cs : Forest model.Column). cs) (column_from f (c.args.level - 1) c.args.holder c.loop.to.next) c.loop.to.next c.loop.to (Ok (tt {0})) c.read_column.new.to) g.same
    c.in_ok-read_column.ensures)

pub read_columns-returns : goal.read_columns-returns
read_columns-returns t c = finish c.loop.invariant (omega arith)

pub read_map-offset_bounds-to-key : goal.read_map-offset_bounds-to-key
read_map-offset_bounds-to-key t c = let one = one_read c.args.level (record { need = Free; cut = c.in_ok-offsets.offsets; owner = c.args.n }) c.in_ok-read_columns.ensures.fills in omega (arith, one.room)

pub read_map-bounds-to-key : goal.read_map-bounds-to-key
read_map-bounds-to-key t c = let one = one_read c.args.level (record { need = Free; cut = c.in_ok-offsets.offsets; owner = c.args.n }) c.in_ok-read_columns.ensures.fills in omega (arith, one.room)

pub read_map-returns : goal.read_map-returns
read_map-returns t c =
    let k = c.in_ok-read_columns.ensures in
    let b = c.read_children.ensures.fills in
    record {
      fills = record {
        reader = b.reader ∙ k.reader;
        table = b.table ∙ k.table;
        fills = map-read c.args.level c.args.len.count c.args.n c.in_ok-offsets.ensures.takes.reads k.fills c.read_children.result (omega arith) b.fills;
      };
      inside = search rules;
    }

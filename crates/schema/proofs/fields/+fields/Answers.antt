use Rattle.std.proofs.Common.{◌≡◌, ◌+◌, Err, refl, ap, ◌∙◌, inl, inr, arith, w32, to_z, of_z, rules}
use Rattle.std.proofs.lemmas.Result.{err_from_is_err_and}
use Rattle.schema.specs.declared.code.Form.TheVariants.{Plain, Sized}
use Rattle.meaning.specs.Forest.{none}
use Rattle.meaning.specs.Items.{carry, give}
use Rattle.meaning.specs.Model.{prim, fixed}
use Rattle.meaning.specs.Schema.{fields, held_by}
use Rattle.items.specs.Reading.{file, rest}
use Rattle.items.proofs.Filling.{filled_none, refuses}
use Rattle.schema.proofs.Typing.{field-read, by_form, formed_after}
use Rattle.schema.specs.Fields.{field_table}
use Rattle.items.proofs.Siblings.{finish, stuck, fails, again}
use Rattle.schema.proofs.fields.+fields.Goals as goal
use Rattle.schema.proofs.fields.+fields.Goals.{read_fields-then-level-eq0-via-then-level-eq0, read_fields-then-level-eq0-via-else-level-eq0+then-to-gt256}

pub read_field-returns : goal.read_field-returns
read_field-returns t c =
    let z : to_z w32 (of_z w32 c.in_ok-id.id) ≡ c.in_ok-id.id = search rules in
    let i = c.in_ok-id.ensures.reads in
    let f = c.in_ok-required.ensures.reads in
    let n = c.in_ok-name.ensures.reads in
    let b = c.in_ok-kind.ensures in
    let d = b.fills in
    record {
      reader = b.reader;
      table = b.table;
      fills = field-read c.args.level c.args.key c.args.to.now.next c.args.to.now.reader.now c.id.new.self c.flag.new.self c.text.new.self c.read_kind.new.to.reader.now
          c.in_ok-id.id (to_z w32 (of_z w32 c.in_ok-id.id)) c.in_ok-required.required c.in_ok-name.name c.in_ok-kind.kind c.read_kind.new.to.next
          c.args.to.now.table.now c.read_kind.new.to.table.now d.does.0 z i.same f.same n.same d.same i.does f.does n.does c.in_ok-name.ensures.inside d.does.1 d.does.2
          c.args.to.now.numbered (search rules);
    }

pub read_fields-returns-then-level-eq0 : goal.read_fields-returns-then-level-eq0
read_fields-returns-then-level-eq0 t c =
    record {
      reader = c.loop.invariant.reader;
      table = c.loop.invariant.table;
      fills = record {
        same = c.loop.invariant.same;
        does = ap Err c.new.ensures ∙ stuck c.loop.invariant (omega arith) (elim c.then-level-eq0.branch [ read_fields-then-level-eq0-via-then-level-eq0 w ↦ inl w.if-level-eq0.true | read_fields-then-level-eq0-via-else-level-eq0+then-to-gt256 w ↦ inr w.if-to-gt256.true ]);
      };
    }

pub read_fields-returns-in_err-read_field : goal.read_fields-returns-in_err-read_field
read_fields-returns-in_err-read_field t c =
    let p = err_from_is_err_and c.from_residual.result c.from_residual.ensures.1 in
    let b = c.in_err-read_field.ensures in
    let g = c.loop.invariant in
    refuses field_table p.0 c.in_err-read_field.field-0.0 (b.reader ∙ g.reader) (b.table ∙ g.table) (b.fills.same ∙ g.same) p.1 p.2
    (fails g (omega arith) (omega arith) (omega arith) _ b.fills.does)

pub read_fields-loop-preserved : goal.read_fields-loop-preserved
read_fields-loop-preserved t c = again c.loop.invariant (omega arith) (omega arith) (omega arith) c.read_field.new.to c.in_ok-read_field.ensures

pub read_fields-returns : goal.read_fields-returns
read_fields-returns t c = finish c.loop.invariant (omega arith)

pub read_kind-returns-in-Plain : goal.read_kind-returns-in-Plain
read_kind-returns-in-Plain t c =
    let k = c.in_ok-code.ensures.reads in
    let f = formed_after _ _ _ _ c.in_ok-form.form c.try_from.ensures c.map_err.ensures.cases c.in_ok-form.was in
    record {
      reader = refl;
      table = refl;
      fills = record {
        same = k.same;
        does = (
          none,
          by_form (fields c.args.level) c.args.key c.args.to.now.next c.in_ok-code.code c.in_ok-form.form (Plain c.in-Plain.p) (rest c.args.to.now.reader.now) (rest c.byte.new.self) f c.in-Plain.is
              refl refl k.does,
          filled_none field_table (file c.args.to.now.reader.now) c.args.to.now.table.now (c.args.to.now.next + 1),
        );
      };
    }

pub read_kind-returns-in_ok-len-in-Sized : goal.read_kind-returns-in_ok-len-in-Sized
read_kind-returns-in_ok-len-in-Sized t c =
    let k = c.in_ok-code.ensures.reads in
    let d = c.in_ok-len-in-Sized.ensures.reads in
    let f = formed_after _ _ _ _ c.in_ok-form.form c.try_from.ensures c.map_err.ensures.cases c.in_ok-form.was in
    record {
      reader = refl;
      table = refl;
      fills = record {
        same = d.same ∙ k.same;
        does = (
          none,
          ap (carry (λ k. give (held_by (prim (fixed k)) none))) d.does
              ∙ by_form (fields c.args.level) c.args.key c.args.to.now.next c.in_ok-code.code c.in_ok-form.form Sized (rest c.args.to.now.reader.now) (rest c.byte.new.self)
              f c.in-Sized.is refl refl k.does,
          filled_none field_table (file c.args.to.now.reader.now) c.args.to.now.table.now (c.args.to.now.next + 1),
        );
      };
    }

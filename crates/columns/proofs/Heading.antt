-- A column as its head and its body, against the definition `columned`.
use Rattle.std.proofs.Common.{ℕ, ◌+◌, ◌-◌, ◌≤◌, List, length, set, Ok, sym, refl, ap, ◌∙◌, subst}
use Rattle.meaning.specs.Forest.{Forest, none, tree}
use Rattle.meaning.specs.Model as model
use Rattle.meaning.specs.Items.{carry, give}
use Rattle.meaning.specs.Columns.{body_of, columns}
use Rattle.items.specs.declared.reader.Reader.{Reader}
use Rattle.items.specs.Cuts.{Fits}
use Rattle.items.specs.Reading.{Inside, Reads, file, rest}
use Rattle.items.specs.Tables.{Filled, Fills}
use Rattle.items.proofs.Filling.{filled-tree}
use Rattle.columns.specs.declared.body.Body.{Body as Body'}
use Rattle.columns.specs.declared.head.Head.{Head}
use Rattle.columns.specs.declared.length.Holder.{Holder}
use Rattle.columns.specs.Bodies.{BodyInside, body_meant}
use Rattle.columns.specs.Codes.{code_meant}
use Rattle.columns.specs.Entries.{ColumnEntry, Fitting, column_of, column_table}
use Rattle.columns.specs.Heads.{HeadInside, column_by, column_from, head_meant, headed}

-- the whole column: its head is written over the columns that it holds
pub column-read :
    (level : ℕ) (h : Holder) {n : ℕ} {end : Body' → ℕ} {before r1 after : Reader} {head : Head} {body : Body'} {old mid : List ColumnEntry}
    → Reads (head_meant (file before)) (headed (file before) h n) before (Ok head) r1 → HeadInside (file before) head
    → Fills column_table end (λ b (cs : Forest model.Column). body_meant (file r1) b cs) (body_of (columns level) n head.len.count (code_meant head.code)) (n + 1) r1 old (Ok body) after mid
    → BodyInside (file r1) body → 1 ≤ n → n ≤ length mid
    → Fills column_table (λ (_ : Unit {0}). end body) (λ _ (cs : Forest model.Column). cs) (column_from (file before) level h n) n before old (Ok tt) after
    (set mid (n - 1)
    (record { name = head.name; id_text = head.id_text; code = head.code; len = head.len.count; validity = head.validity; offsets = body.offsets; body = body.stored; end = end body }))
column-read level h {n = n} {end = end} {before = before} {after = after} {head = head} {body = body} {old = old} {mid = mid} reads inside fills stored pos fits =
    let below = fills.does.0 in
    let entry : ColumnEntry =
    record { name = head.name; id_text = head.id_text; code = head.code; len = head.len.count; validity = head.validity; offsets = body.offsets; body = body.stored; end = end body }
    in
    let fitting : Fitting (file before) entry = record {
      name = inside.name;
      id = inside.id_text;
      validity = inside.validity;
      offsets = subst (λ f. Fits f body.offsets) reads.same stored.offsets;
      body = subst (λ f. Inside f body.stored) reads.same stored.stored;
    }
    in
    record {
      same = fills.same ∙ reads.same;
      does = (
        tree (column_of (file before) entry) below none,
        ap (λ f. Ok (tree (column_by (head_meant (file before) head) (body_meant f body below)) below none, rest after)) (sym reads.same)
            ∙ ap (carry (λ b. give (tree (column_by (head_meant (file before) head) b) b.below none))) fills.does.1
            ∙ ap (carry (λ x r. carry (λ b. give (tree (column_by x b) b.below none)) (body_of (columns level) n x.len x.code r))) reads.does,
        filled-tree column_table (file before) old mid n (end body) entry below pos fits refl fitting (subst (λ f. Filled column_table f old mid (n + 1) (end body) below) reads.same fills.does.2),
      );
    }

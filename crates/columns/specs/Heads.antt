-- A column as its head and its body.
use Rattle.std.specs.Prelude.{ℕ, ◌+◌, ◌/◌, Bool, true, false, ◌⊎◌, List, Some, None, Option, Ok, Err, Result}
use Rattle.std.specs.Option.{option_map}
use Rattle.meaning.specs.Forest.{Forest, none, tree}
use Rattle.meaning.specs.Model as model
use Rattle.meaning.specs.Items.{Entry, column, Read, ◌then◌, give, exactly, flag, text}
use Rattle.meaning.specs.Columns as columns
use Rattle.meaning.specs.Columns.{maybe}
use Rattle.fault.specs.declared.faults.BatchFault.{BatchFault}
use Rattle.items.specs.declared.reader.Reader.{Reader}
use Rattle.items.specs.declared.reader.Span.{Span}
use Rattle.items.specs.Cuts.{offsets_of}
use Rattle.items.specs.Reading.{Inside, Reads, part}
use Rattle.columns.specs.declared.head.Head.{Head}
use Rattle.columns.specs.declared.length.Holder.{Holder}
use Rattle.columns.specs.Codes.{code_meant}
use Rattle.columns.specs.Entries.{MaybeInside}
use Rattle.columns.specs.Holders.{need_of}

-- a flag, and what follows it if it is 1
abbrev pub optionally : {X : Type 0} → Entry → Read X → Read (Option X)
optionally e m = flag e then (λ has. maybe has m)

-- a call reads a flag
abbrev pub Flags : Entry → Reader → Result Bool BatchFault → Reader → Type 0
Flags e before result after = Reads (λ (b : Bool). b) (flag e) before result after

-- a flag, and what one call reads if it is 1
abbrev pub Follows : (Reader → Result Span BatchFault → Reader → Type 0) → Entry → Reader → Result (Option Span) BatchFault → Reader → Type 0
Follows Calls e before (Ok None) after = Flags e before (Ok false) after
Follows Calls e before (Ok (Some s)) after = (mid : Reader) × Flags e before (Ok true) mid × Calls mid (Ok s) after
Follows Calls e before (Err x) after = Flags e before (Err x) after ⊎ ((mid : Reader) × Flags e before (Ok true) mid × Calls mid (Err x) after)

-- what stands before a column's body
pub record Heading : Type 0 where
  pub name : List ℕ
  pub id_text : Option (List ℕ)
  pub code : model.Code
  pub len : ℕ
  pub validity : Option (List ℕ)

-- the head that the code's head says
abbrev pub head_meant : List ℕ → Head → Heading
head_meant bytes h = record {
  name = part bytes h.name;
  id_text = option_map (part bytes) h.id_text;
  code = code_meant h.code;
  len = h.len.count;
  validity = option_map (part bytes) h.validity;
}

-- the parts that a head names lie in the file
pub record HeadInside (bytes : List ℕ) (h : Head) : Type 0 where
  pub name : Inside bytes h.name
  pub id_text : MaybeInside bytes h.id_text
  pub validity : MaybeInside bytes h.validity

-- the head of column n of a holder whose offsets stand in the file: name, id text, code, length and validity bits
abbrev pub headed : List ℕ → Holder → ℕ → Read Heading
headed bytes h n =
    text (column n)
    then (λ name. optionally (column n) (text (column n))
    then (λ id. columns.code_of n
    then (λ code. columns.length_of n (need_of h.need) (offsets_of bytes h.cut) h.owner
    then (λ len. optionally (column n) (exactly (column n) ((len + 7) / 8))
    then (λ validity. give (record { name = name; id_text = id; code = code; len = len; validity = validity }))))))

-- a column by its head and its body
abbrev pub column_by : Heading → columns.Body → model.Column
column_by h b = record { name = h.name; id_text = h.id_text; code = h.code; len = h.len; validity = h.validity; offsets = b.offsets; body = b.stored }

-- the same column as a tree of its own, with so many levels left below it
abbrev pub column_from : List ℕ → ℕ → Holder → ℕ → Read (Forest model.Column)
column_from bytes level h n =
    headed bytes h n
    then (λ x. columns.body_of (columns.columns level) n x.len x.code
    then (λ b. give (tree (column_by x b) b.below none)))

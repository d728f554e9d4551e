-- The entries of a batch in hand, as its views show them.
use mathlib.Core.HLevel.{Unit-prop}
use Rattle.std.proofs.Common.{◌≡◌, ℕ, ◌-◌, ◌<◌, ◌≤◌, ◌⊎◌, List, ℤ, slice_get, Some, None, Option, sym, ap, ◌∙◌, subst, inl, inr, arith}
use mathlib.Core.Logic.{∥∥₁_elim}
use native.Mathlib.Bridge.{le_prop}
use Rattle.std.specs.Option.{option_map}
use Rattle.std.proofs.lemmas.Option.{get_or_from_slice_get}
use Rattle.meaning.specs.Forest.{Forest, find, size}
use Rattle.meaning.specs.Model.{Model}
use Rattle.meaning.specs.Columns.{values}
use Rattle.items.specs.declared.reader.Span.{Span}
use Rattle.items.specs.Cuts.{Fits, offsets_of}
use Rattle.items.specs.Reading.{Inside, part}
use Rattle.items.specs.Tables.{Layout, entry}
use Rattle.items.proofs.Finding.{Found, found, not_found}
use Rattle.schema.specs.Fields.{FieldEntry, field_table}
use Rattle.schema.specs.Forms.{shape_of}
use Rattle.columns.specs.Codes.{code_meant}
use Rattle.columns.specs.Entries.{ColumnEntry, MaybeInside, Fitting, column_table}
use Rattle.batch.specs.Loaded.{Standing}
use Rattle.batch.specs.Views.{numbered}
use Rattle.batch.proofs.Sets.{field_set, column_set, numbered_set}

-- a number that names nothing
pub nothing_there : {H : Type 0} (n : ℕ) (f : Forest H) → (n ≡ 0) ⊎ (size f < n) → None ≡ numbered n (find n 1 f)
nothing_there n f h = sym (ap (numbered n) (not_found n 1 f (elim h [ inl e ↦ inl (omega arith) | inr p ↦ inr (omega arith) ])))

maybe_prop : (bytes : List ℕ) (o : Option Span) → IsProp (MaybeInside bytes o)
maybe_prop bytes None = Unit-prop
maybe_prop bytes (Some s) = le_prop

-- what an entry says, with the number after it, is what its number names
said_at : {E H : Type 0} (l : Layout E H) (bytes : List ℕ) (table : List E) (n : ℕ) (f : Forest H) (e : E) → e ≡ entry l table n → Found l bytes table n (find n 1 f)
    → Some (l.says bytes e, l.end e) ≡ numbered n (find n 1 f)
said_at l bytes table n f e is here =
    ap (λ x. Some (l.says bytes x, l.end x)) is ∙ ap (λ h. Some (h, l.end (entry l table n))) here.says ∙ ap (λ k. Some (here.head, k)) here.ends
    ∙ sym (ap (numbered n) here.is)

-- what a look-up in the table gave is what stands under the number
pub entry_is : {E H : Type 0} (l : Layout E H) (table items : List E) (n : ℕ) (e : E) → table ≡ items → slice_get table (n - 1) ≡ Some e → e ≡ entry l items n
entry_is l table items n e v g = sym (get_or_from_slice_get items (n - 1) e l.blank (ap (λ t. slice_get t (n - 1)) (sym v) ∙ g))

module _ {bytes : List ℕ} {m : Model} {fs : List FieldEntry} {cs : List ColumnEntry} (standing : ∥ Standing bytes m fs cs ∥₁) (n : ℕ) (first : 1 ≤ n) where
  module _ (last : n ≤ size m.fields) (e : FieldEntry) (is : e ≡ entry field_table fs n) where
    field_at : Standing bytes m fs cs → Found field_table bytes fs n (find n 1 m.fields)
    field_at s = found field_table bytes fs n 1 m.fields s.schema first (omega arith)

    pub name-inside : Inside bytes e.name
    name-inside = ∥∥₁_elim standing le_prop (λ s. subst (λ x. Inside bytes x.name) (sym is) (field_at s).fits)

    pub field_is : (id : ℤ) (name : List ℕ) → id ≡ e.id → name ≡ part bytes e.name
        → Some (record { id = id; required = e.required; name = name; shape = shape_of e.kind }, e.end) ≡ numbered n (find n 1 m.fields)
    field_is id name i s =
        ap (λ x. Some (record { id = x; required = e.required; name = name; shape = shape_of e.kind }, e.end)) i
        ∙ ap (λ x. Some (record { id = e.id; required = e.required; name = x; shape = shape_of e.kind }, e.end)) s
        ∙ ∥∥₁_elim standing (numbered_set field_set _ _) (λ s. said_at field_table bytes fs n m.fields e is (field_at s))

  module _ (last : n ≤ size m.columns) (e : ColumnEntry) (is : e ≡ entry column_table cs n) where
    column-at : Standing bytes m fs cs → Found column_table bytes cs n (find n 1 m.columns)
    column-at s = found column_table bytes cs n 1 m.columns s.batch first (omega arith)

    name_inside : Inside bytes e.name
    name_inside = ∥∥₁_elim standing le_prop (λ s. subst (λ x. Inside bytes x.name) (sym is) (column-at s).fits.name)

    id-inside : MaybeInside bytes e.id_text
    id-inside = ∥∥₁_elim standing (maybe_prop bytes e.id_text) (λ s. subst (λ x. MaybeInside bytes x.id_text) (sym is) (column-at s).fits.id)

    validity-inside : MaybeInside bytes e.validity
    validity-inside = ∥∥₁_elim standing (maybe_prop bytes e.validity) (λ s. subst (λ x. MaybeInside bytes x.validity) (sym is) (column-at s).fits.validity)

    offsets-inside : Fits bytes e.offsets
    offsets-inside = ∥∥₁_elim standing le_prop (λ s. subst (λ x. Fits bytes x.offsets) (sym is) (column-at s).fits.offsets)

    body-inside : Inside bytes e.body
    body-inside = ∥∥₁_elim standing le_prop (λ s. subst (λ x. Inside bytes x.body) (sym is) (column-at s).fits.body)

    pub fitting : Fitting bytes e
    fitting = record { name = name_inside; id = id-inside; validity = validity-inside; offsets = offsets-inside; body = body-inside }

    pub column_is : (name : List ℕ) (id validity : Option (List ℕ)) (offsets body : List ℕ) → name ≡ part bytes e.name → id ≡ option_map (part bytes) e.id_text → validity ≡ option_map (part bytes) e.validity
        → offsets ≡ values (offsets_of bytes e.offsets) → body ≡ part bytes e.body
        → Some (record { name = name; id_text = id; code = code_meant e.code; len = e.len; validity = validity; offsets = offsets; body = body }, e.end) ≡ numbered n (find n 1 m.columns)
    column_is name id validity offsets body p q r s t =
        (λ i. Some (record { name = p i; id_text = q i; code = code_meant e.code; len = e.len; validity = r i; offsets = s i; body = t i }, e.end))
        ∙ ∥∥₁_elim standing (numbered_set column_set _ _) (λ s. said_at column_table bytes cs n m.columns e is (column-at s))

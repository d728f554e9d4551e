-- What the code's holder of columns says in the words of the definitions.
use Rattle.std.specs.Prelude.{ℕ, List}
use Rattle.meaning.specs.Forest.{Forest}
use Rattle.meaning.specs.Model as model
use Rattle.meaning.specs.Items.{Read}
use Rattle.meaning.specs.Columns as columns
use Rattle.items.specs.Cuts.{offsets_of}
use Rattle.columns.specs.declared.length.Holder.{Holder}
use Rattle.columns.specs.declared.length.Need.{Need}
use Rattle.columns.specs.declared.length.Need.TheVariants.{Free, Exact, Parts}

-- any length, exactly one, or one that fills so many parts
abbrev pub need_of : Need → columns.Need
need_of Free = columns.free
need_of (Exact k) = columns.exact k
need_of (Parts s k) = columns.parts s k

-- so many columns of a holder whose offsets stand in the file, with so many levels left, from a number on
abbrev pub held_by : List ℕ → ℕ → ℕ → Holder → ℕ → Read (Forest model.Column)
held_by bytes level count h n = columns.columns level count (need_of h.need) (offsets_of bytes h.cut) h.owner n

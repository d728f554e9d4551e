-- Offsets, as they are read one by one and as they stand in the file.
use Rattle.std.specs.Prelude.{◌≡◌, ℕ, zero, suc, ◌+◌, ◌-◌, ◌*◌, ◌^◌, ◌≤◌, cond, List, [], ◌∷◌, length, take, drop, Ok, nat_le, nat_lt}
use Rattle.meaning.specs.Items.{Entry, Read, refused, carry, exactly, little}
use Rattle.meaning.specs.Columns.{Offsets}
use Rattle.items.specs.Widths.{wide}
use Rattle.items.specs.declared.width.Width.{Width}
use Rattle.items.specs.declared.reader.Offsets.{Offsets as Offsets'}

-- one offset of w bytes, not negative and not below the one before it
abbrev pub offset_after : Entry → ℕ → ℕ → Read ℕ
offset_after e w last r =
    carry (λ bs r'. cond (nat_le (2 ^ (8 * w - 1)) (little bs)) (refused 5 r.at e) (cond (nat_lt (little bs) last) (refused 5 r.at e) (Ok (little bs, r')))) (exactly e w r)

-- k offsets of w bytes that stand in the file from a byte on, each with its byte
abbrev pub placed : ℕ → List ℕ → ℕ → ℕ → Offsets
placed w bytes at zero = []
placed w bytes at (suc k) = (little (take w (drop at bytes)), at) ∷ placed w bytes (at + w) k

-- the offsets that the code names, as they stand in a file
abbrev pub offsets_of : List ℕ → Offsets' → Offsets
offsets_of bytes o = placed (wide o.width) bytes o.start o.count

-- offsets lie in the file
abbrev pub Fits : List ℕ → Offsets' → Type 0
Fits bytes o = o.start + wide o.width * o.count ≤ length bytes

-- offsets of this width and number, all of them in the file
pub record Standing (bytes : List ℕ) (width : Width) (count : ℕ) (o : Offsets') : Type 0 where
  pub sized : o.width ≡ width
  pub many : o.count ≡ count
  pub fits : Fits bytes o

-- The bytes of an offset.
use Rattle.std.specs.Prelude.{ℕ}
use Rattle.items.specs.declared.width.Width.{Width}
use Rattle.items.specs.declared.width.Width.TheVariants.{Four, Eight}

-- how many there are
abbrev pub wide : Width → ℕ
wide Four = 4
wide Eight = 8

-- Trees side by side, by their numbers.
use Rattle.std.specs.Prelude.{ℕ, ◌+◌, cond, List, Option, ◌==◌, nat_le, nat_lt}
use Rattle.std.specs.Option.{option_map}
use Rattle.meaning.specs.Forest.{Forest, none, tree, size}

module _ {H : Type 0} where
  -- the trees side by side from number k on, the first of the forest being n
  abbrev pub siblings_from : ℕ → ℕ → Forest H → Forest H
  siblings_from k n none = none
  siblings_from k n (tree h kids rest) =
      cond (k == n) (tree h kids rest) (cond (nat_lt k (n + 1 + size kids)) (siblings_from k (n + 1) kids) (siblings_from k (n + 1 + size kids) rest))

  -- those from `first` on, of which `end` is the number after the last; none where they are equal
  abbrev pub between : Forest H → ℕ → ℕ → Forest H
  between f first end = cond (nat_le end first) none (siblings_from first 1 f)

-- what is written of an entry, and the number after its subtree
abbrev pub written : {X : Type 0} → (X → Option (List ℕ)) → Option (X × ℕ) → Option (Option (List ℕ) × ℕ)
written text o = option_map (λ x. (text x.0, x.1)) o

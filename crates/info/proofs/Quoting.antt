-- Bytes between quotes, as they are written.
use Rattle.std.proofs.Common.{◌≡◌, ℕ, ◌/◌, ◌%◌, ◌<◌, Bool, false, cond, ◌∷◌, [], ◌++◌, codes, sym, ap, ◌∙◌, arith}
use lib.Utf8.{encode}
use Rattle.std.specs.Char.{digit_char}
use Rattle.std.proofs.lemmas.Str.{encode_ascii}
use Rattle.std.proofs.lemmas.Bool.Decides.{nat_tests}
use Rattle.meaning.specs.Text.{hex}
use Rattle.info.specs.Lines.{printable, quoted_byte}

digit-small : (d : ℕ) → d < 16 → digit_char d < 128
digit-small d small = grind (arith, nat_tests)

digit-text : (d n : ℕ) → n ≡ digit_char d → d < 16 → encode n ≡ digit_char d ∷ []
digit-text d n e small = ap encode e ∙ encode_ascii (digit_char d) (digit-small d small)

pub escaped_byte : (b h l : ℕ) → b < 256 → printable b ≡ false → h ≡ digit_char (b / 16) → l ≡ digit_char (b % 16) → codes "\\x" ++ (encode h ++ encode l) ≡ quoted_byte b
escaped_byte b h l small e p q =
    let high : b / 16 % 16 ≡ b / 16 = omega arith in
    (λ i. codes "\\x" ++ (digit-text (b / 16) h p (omega arith) i ++ digit-text (b % 16) l q (omega arith) i))
    ∙ ap (λ (d : ℕ). codes "\\x" ++ (digit_char d ∷ digit_char (b % 16) ∷ [])) (sym high)
    ∙ ap (λ (t : Bool). cond t (b ∷ []) (codes "\\x" ++ hex 2 b)) (sym e)

-- A text without `$` has no padding.
use Rattle.std.proofs.Common.{◌≡◌, ◌≢◌, ℕ, suc, ◌<◌, List, [], ◌∷◌, length, get_or, None, refl, ap, arith}
use Rattle.std.proofs.lemmas.Bool.{eq-eqb, ne_eqb}
use Rattle.memchr.specs.Find.{Nowhere, Passes, is_byte}
use Rattle.ti_printing.specs.declared.padding.Line.{Line}
use Rattle.ti_printing.specs.Padding.{padded_parts, padding_of_parts}
use Rattle.ti_printing.specs.inside.Padding.{with_pad_bytes, padding_of}
use Rattle.ti_printing.specs.inside.Padding.{padding_at, parts_after, parts_of}

-- no byte is a `$`
abbrev IsPlain : List ℕ → Type 0
IsPlain text = (k : ℕ) → k < length text → get_or text k 0 ≢ 36

padding_at-plain : (byte : ℕ) (text : List ℕ) → byte ≢ 36 → padding_at (byte ∷ text) ≡ None
unfolding padding_at
padding_at-plain byte text other = rw (ne_eqb byte 36 other) refl

tail_plain : (byte : ℕ) (text : List ℕ) → IsPlain (byte ∷ text) → IsPlain text
tail_plain byte text plain k low = plain (suc k) (omega arith)

written : (lines : ℕ) (line : Line) (text : List ℕ) → IsPlain text → padded_parts lines line (parts_after 0 text) ≡ text
written lines line [] plain = refl
written lines line (byte ∷ text) plain =
    rw (padding_at-plain byte text (plain 0 (omega arith))) (ap (λ (t : List ℕ). byte ∷ t) (written lines line text (tail_plain byte text plain)))

none : (lines : ℕ) (line : Line) (text : List ℕ) → IsPlain text → padding_of_parts lines line (parts_after 0 text) ≡ 0
none lines line [] plain = refl
none lines line (byte ∷ text) plain =
    rw (padding_at-plain byte text (plain 0 (omega arith))) (none lines line text (tail_plain byte text plain))

plain_of : (text : List ℕ) → Nowhere (Passes (is_byte 36) text) 0 (length text) → IsPlain text
plain_of text nowhere k low is = nowhere k (omega arith) low (eq-eqb _ _ is)

pub padded-plain : (text : List ℕ) (lines : ℕ) (line : Line) → Nowhere (Passes (is_byte 36) text) 0 (length text) → with_pad_bytes text lines line ≡ text
unfolding with_pad_bytes parts_of
padded-plain text lines line nowhere = written lines line text (plain_of text nowhere)

pub padding_of-plain : (text : List ℕ) (lines : ℕ) (line : Line) → Nowhere (Passes (is_byte 36) text) 0 (length text) → padding_of text lines line ≡ 0
unfolding padding_of parts_of
padding_of-plain text lines line nowhere = none lines line text (plain_of text nowhere)

-- A padded text, as the call that pads it answers.
use Rattle.std.proofs.Common.{◌≡◌, ℕ, true, false, List, Some, None, refl, ap, cond, ltb}
use Rattle.std.proofs.lemmas.Bool.{lt-ltb, ltb-true}
use Rattle.ti_printing.specs.declared.padding.Line.{Line}
use Rattle.ti_printing.specs.Padding.{AsksForTooMuch, IsPadded}
use Rattle.ti_printing.specs.inside.Padding.{padding_of, with_pad_bytes}
use Rattle.ti_printing.proofs.Cuts.{padded_computed, too_much_computed}
use Rattle.tools_tput.specs.inside.Results.{padded_text}

pub padded_text-some : (line : Line) (text bytes : List ℕ) → IsPadded text 1 line bytes → (AsksForTooMuch text 1 line → ⊥) → Some bytes ≡ padded_text line text
padded_text-some line text bytes padded few =
    elim (ltb 65536 (padding_of text 1 line)) as (λ b. ltb 65536 (padding_of text 1 line) ≡ b → Some bytes ≡ cond b None (Some (with_pad_bytes text 1 line))) [
      | true ↦ λ e. absurd (few ((too_much_computed text 1 line).1 (ltb-true _ _ e)))
      | false ↦ λ e. ap Some (padded_computed text 1 line bytes padded)
    ] refl

pub padded_text-none : (line : Line) (text : List ℕ) → AsksForTooMuch text 1 line → None ≡ padded_text line text
padded_text-none line text asks = rw (lt-ltb _ _ ((too_much_computed text 1 line).0 asks)) refl

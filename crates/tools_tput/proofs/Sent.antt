-- What is sent for a string.
use Rattle.std.proofs.Common.{◌≡◌, ℕ, ◌<◌, true, false, List, [], ◌∷◌, length, Option, Some, None, refl, arith}
use Rattle.std.specs.Prelude.{is_some, ℤ}
use Rattle.std.specs.Global.{Vec}
use Rattle.ti_param.specs.Expansion.{Expands, Overflows}
use Rattle.ti_formats.specs.Formats.{IsStuck}
use Rattle.ti_printing.specs.declared.padding.Line.{Line}
use Rattle.tools_tput.specs.Parameters.{parameters}
use Rattle.tools_tput.specs.Results.{AnswersString, Reply, Sends, bad_reply, by_expansion, by_fault, by_overflow}
use Rattle.tools_tput.specs.inside.Replies.{made_bytes}
use Rattle.tools_tput.specs.inside.Results.{sent_reply}

module _ (line : Line) (cap : List ℕ) (statics : List ℤ) (text : List ℕ) where
  -- with words
  pub of_expansion : (words : List (List ℕ)) (output : List ℕ) (after : List ℤ) (answer : Reply) → 0 < length words
      → Expands text (parameters cap words) statics output after
      → Sends line output statics after answer → AnswersString line cap words statics text answer
  of_expansion [] output after answer some expands sends = absurd (omega arith)
  of_expansion (word ∷ words) output after answer some expands sends = by_expansion expands sends

  pub of_fault : (words : List (List ℕ)) (place : ℕ) → 0 < length words → IsStuck text place → AnswersString line cap words statics text (bad_reply statics)
  of_fault [] place some stuck = absurd (omega arith)
  of_fault (word ∷ words) place some stuck = by_fault stuck

  pub of_overflow : (words : List (List ℕ)) (place : ℕ) → 0 < length words → Overflows text (parameters cap words) statics place
      → AnswersString line cap words statics text (bad_reply statics)
  of_overflow [] place some full = absurd (omega arith)
  of_overflow (word ∷ words) place some full = by_overflow full

-- the variables are those after it exactly if it was made
pub settled_some : (made : Option (Vec ℕ)) (before after now : List ℤ) → is_some made ≡ true → now ≡ after
    → sent_reply (made_bytes made) before after ≡ sent_reply (made_bytes made) now now
settled_some (Some bytes) before after now is same = rw same refl
settled_some None before after now is same = absurd (cc is)

pub settled_none : (made : Option (Vec ℕ)) (before after now : List ℤ) → is_some made ≡ false → now ≡ before
    → sent_reply (made_bytes made) before after ≡ sent_reply (made_bytes made) now now
settled_none None before after now is same = rw same refl
settled_none (Some bytes) before after now is same = absurd (cc is)

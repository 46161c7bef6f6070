-- The parts of what `init` and `reset` write.
use Rattle.std.proofs.Common.{◌≡◌, ◌⊎◌, ℕ, zero, suc, ◌+◌, ◌<◌, inl, inr, List, [], ◌∷◌, ◌++◌, length, map, get_or, take, sym, subst, arith, append_assoc}
use Rattle.std.proofs.lemmas.List.{append-nil, map-append, take_more}
use Rattle.std.specs.Prelude.{IfOk, Option, Some, None, Result, Ok, Err, ℤ}
use Rattle.std.specs.Global.{Vec}
use Rattle.ti_printing.specs.declared.padding.Line.{Line}
use Rattle.everyday_starting.specs.Starting as starting
use Rattle.everyday_starting.specs.Starting.{AreWritten, IsRefused, IsWritten, OneIsRefused, WritesAll, by_numbers}
use Rattle.everyday_starting.specs.Starting.{first, later, next, no_part, of_format, of_text, overflow}
use Rattle.everyday_starting.specs.Starting.{parameters_of, part_of, plain, stuck, too_much, too_much_of_it}
use Rattle.everyday_starting.specs.inside.Starting.{WritesPart}
use Rattle.everyday_starting.specs.Padding.{Pads}
use Rattle.ti_formats.specs.Formats.{IsStuck}
use Rattle.ti_param.specs.Expansion.{Expands, Overflows}
use Rattle.ti_param.specs.Meaning.{no_variables}
use Rattle.everyday_starting.specs.declared.written.Part.{Part}

module _ (line : Line) where
  -- a string
  pub text_written : {E : Type 0} (text : List ℕ) (r : Result (Option (Vec ℕ)) E) → IfOk r (Pads line text) → IfOk r (WritesPart line (plain text))
  text_written text (Ok (Some bytes)) is = of_text is
  text_written text (Ok None) is = too_much is
  text_written text (Err e) is = is

  -- a format
  pub format_written : {E : Type 0} (format : List ℕ) (a b : ℕ) (output : List ℕ) (r : Result (Option (Vec ℕ)) E)
      → ((after : List ℤ) × Expands format (parameters_of a b) no_variables output after) → IfOk r (Pads line output)
      → IfOk r (WritesPart line (by_numbers format a b))
  format_written format a b output (Ok (Some bytes)) expands is = of_format expands.1 is
  format_written format a b output (Ok None) expands is = too_much_of_it expands.1 is
  format_written format a b output (Err e) expands is = is

  pub fault_refused : (format : List ℕ) (a b : ℕ)
      → ((place : ℕ) × IsStuck format place) ⊎ ((place : ℕ) × Overflows format (parameters_of a b) no_variables place)
      → IsRefused line (by_numbers format a b)
  fault_refused format a b (inl at) = stuck at.1
  fault_refused format a b (inr at) = overflow at.1

  -- one part more
  pub written_then : (parts : List starting.Part) (part : starting.Part) (bytes front : List ℕ) → AreWritten line parts bytes → IsWritten line part front
      → AreWritten line (parts ++ part ∷ []) (bytes ++ front)
  written_then _ part _ front no_part is = subst (AreWritten line (part ∷ [])) (append-nil front) (next is no_part)
  written_then _ part _ front (next {part = head} {parts = parts} {front = f} {bytes = bytes} one others) is =
      subst (AreWritten line (head ∷ (parts ++ part ∷ []))) (sym (append_assoc f bytes front)) (next one (written_then parts part bytes front others is))

  pub written_more : (parts : List Part) (i : ℕ) (d : Part) (bytes front : List ℕ) → i < length parts
      → AreWritten line (map part_of (take i parts)) bytes → IsWritten line (part_of (get_or parts i d)) front
      → AreWritten line (map part_of (take (i + 1) parts)) (bytes ++ front)
  written_more parts i d bytes front lt before is =
      rw (take_more parts i d lt, map-append part_of (take i parts) (get_or parts i d ∷ []))
      (written_then (map part_of (take i parts)) (part_of (get_or parts i d)) bytes front before is)

  -- a part that is refused
  pub refused_at : (parts : List Part) (i : ℕ) (d : Part) → i < length parts → IsRefused line (part_of (get_or parts i d))
      → OneIsRefused line (map part_of parts)
  refused_at [] i d lt is = absurd (omega arith)
  refused_at (x ∷ parts) zero d lt is = first is
  refused_at (x ∷ parts) (suc i) d lt is = later (refused_at parts i d (omega arith) is)

-- what was written of parts, by another name of the line and of the parts
pub written_there : (a b : Line) (these those : List starting.Part) (found : Option (Vec ℕ)) → a ≡ b → these ≡ those → WritesAll a these found
    → WritesAll b those found
written_there a b these those found lines parts is =
    subst (λ (line : Line). WritesAll line those found) lines (subst (λ (all : List starting.Part). WritesAll a all found) parts is)

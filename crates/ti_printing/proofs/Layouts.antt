-- The parts of a field, one after the other, are what is printed.
use Rattle.ti_printing.specs.declared.printf.Conversion.{Conversion}
use Rattle.ti_printing.specs.declared.printf.Conversion.TheVariants.{Decimal, Octal, LowerHex, UpperHex, Text}
use Rattle.ti_printing.specs.declared.printf.Directive.{Directive}
use Rattle.std.proofs.Common.{◌≢◌, ℤ, ◌≡◌, ℕ, ◌+◌, ◌-◌, List, [], ◌++◌, length, replicate, refl, sym, ap, ◌∙◌, arith}
use Rattle.std.proofs.lemmas.List.{append_assoc, append-nil, length-append, length-replicate, replicate-append-replicate}
use Rattle.ti_printing.specs.inside.Printf.{parts_text}
use Rattle.ti_printing.specs.Printf.{printed_by, printed_number, at_least}

-- zeros for the width and zeros for the precision
pub parts_text-zeros : (width zeros : ℕ) (front shown : List ℕ) →
    parts_text 0 front (width - (length front + zeros + length shown) + zeros) shown 0 ≡ front ++ at_least (width - length front) (replicate zeros 48 ++ shown)
parts_text-zeros width zeros front shown =
    let count : width - (length front + zeros + length shown) ≡ width - length front - length (replicate zeros 48 ++ shown) =
    simp (length-append, length-replicate) (omega arith) in
    let short = width - (length front + zeros + length shown) in
    ap (λ zs. front ++ (zs ++ (shown ++ []))) (sym (replicate-append-replicate short zeros 48)) ∙
    ap (λ n. front ++ ((replicate n 48 ++ replicate zeros 48) ++ (shown ++ []))) count ∙
    simp (append-nil, append_assoc)

-- each conversion but `s` prints a number
pub printed_by-number : (conversion : Conversion) (directive : Directive) (number : ℤ) (text : List ℕ) → conversion ≢ Text
    → printed_by conversion directive number text ≡ printed_number directive number
printed_by-number Text directive number text other = absurd (other refl)
printed_by-number Decimal directive number text other = refl
printed_by-number Octal directive number text other = refl
printed_by-number LowerHex directive number text other = refl
printed_by-number UpperHex directive number text other = refl

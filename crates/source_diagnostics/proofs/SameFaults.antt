-- Faults that are sought alike.
use Rattle.std.proofs.Common.{◌≡◌, ◌<◌, ◌≤◌, ◌+◌, ℕ, true, List, [], ◌∷◌, ◌++◌, Option, get_or, length, take, refl, sym, ap, ap₂, ◌∙◌}
use Rattle.std.specs.Prelude.{if◌then◌else◌}
use Rattle.std.specs.Str.{bytes_eq}
use Rattle.std.proofs.lemmas.List.{map-append, take_all, take_more}
use Rattle.std.proofs.lemmas.Slice.Eq.{bytes_eq-Decides}
use Rattle.user_compiling.specs.Faults.{ExtendedSourceFault, fault_seen, line_of}
use Rattle.user_compiling.specs.declared.fault.ExtendedFault.{ExtendedFault}
use Rattle.ti_source.specs.Code.{label_of}
use Rattle.ti_source.specs.declared.code.Code.{Code}
use Rattle.ti_source.specs.declared.code.Code.TheVariants as code
use Rattle.source_spans.specs.Faulty.{Sought}
use Rattle.source_diagnostics.specs.Marking.{code_of as sought_code, detail_of, sought_of}
use Rattle.source_diagnostics.specs.inside.Kept.{sought_in}

-- ---- a label is that of one code

-- the code of a label, if it has one
abbrev code_of : List ℕ → Code
code_of label =
    if bytes_eq label (label_of code.BadHeader) then code.BadHeader
    else if bytes_eq label (label_of code.NamesTooLong) then code.NamesTooLong
    else if bytes_eq label (label_of code.BadNumber) then code.BadNumber
    else if bytes_eq label (label_of code.NumberTooLarge) then code.NumberTooLarge
    else if bytes_eq label (label_of code.BadString) then code.BadString
    else if bytes_eq label (label_of code.MissingUse) then code.MissingUse
    else if bytes_eq label (label_of code.Circular) then code.Circular
    else if bytes_eq label (label_of code.Unresolved) then code.Unresolved
    else if bytes_eq label (label_of code.TooLarge) then code.TooLarge
    else if bytes_eq label (label_of code.UnknownCapability) then code.UnknownCapability
    else if bytes_eq label (label_of code.WrongKind) then code.WrongKind
    else if bytes_eq label (label_of code.UnknownEscape) then code.UnknownEscape
    else code.DuplicateName

code_again : (c : Code) → code_of (label_of c) ≡ c
code_again code.BadHeader = refl
code_again code.NamesTooLong = refl
code_again code.BadNumber = refl
code_again code.NumberTooLarge = refl
code_again code.BadString = refl
code_again code.MissingUse = refl
code_again code.Circular = refl
code_again code.Unresolved = refl
code_again code.TooLarge = refl
code_again code.UnknownCapability = refl
code_again code.WrongKind = refl
code_again code.UnknownEscape = refl
code_again code.DuplicateName = refl

same_code : (one other : Code) → bytes_eq (label_of one) (label_of other) ≡ true → one ≡ other
same_code one other same =
    sym (code_again one) ∙ ap code_of ((bytes_eq-Decides (label_of one) (label_of other)).0 same) ∙ code_again other

-- ---- faults

pub same_sought : (one other : ExtendedSourceFault) → line_of one ≡ line_of other → bytes_eq (label_of (sought_code one)) (label_of (sought_code other)) ≡ true
    → detail_of one ≡ detail_of other → sought_of one ≡ sought_of other
same_sought one other line label detail =
    ap₂ (λ (l : ℕ) (c : Code). record { line = l; code = c; detail = detail_of one }) line (same_code (sought_code one) (sought_code other) label)
    ∙ ap (λ (d : Option (List ℕ)). record { line = line_of other; code = sought_code other; detail = d }) detail

abbrev sought : ExtendedFault → Sought
sought fault = sought_of (fault_seen fault)

one_more : (faults : List ExtendedFault) (at : ℕ) (fault : ExtendedFault) → at < length faults → fault ≡ get_or faults at fault
    → sought_in (take (at + 1) faults) ≡ sought_in (take at faults) ++ sought fault ∷ []
one_more faults at fault within is =
    ap sought_in (take_more faults at fault within) ∙ map-append sought (take at faults) (get_or faults at fault ∷ [])
    ∙ ap (λ (f : ExtendedFault). sought_in (take at faults) ++ sought f ∷ []) (sym is)

pub same_more : (some others : List ExtendedFault) (at : ℕ) (one other : ExtendedFault) → at < length some → at < length others → one ≡ get_or some at one
    → other ≡ get_or others at other → sought_in (take at some) ≡ sought_in (take at others) → sought one ≡ sought other
    → sought_in (take (at + 1) some) ≡ sought_in (take (at + 1) others)
same_more some others at one other within there is as_is before same =
    one_more some at one within is ∙ ap₂ (λ (ss : List Sought) (s : Sought). ss ++ s ∷ []) before same ∙ sym (one_more others at other there as_is)

pub all_same : (some others : List ExtendedFault) (at : ℕ) → length some ≤ at → length others ≤ at → sought_in (take at some) ≡ sought_in (take at others)
    → sought_in some ≡ sought_in others
all_same some others at past beyond same = ap sought_in (sym (take_all at some past)) ∙ same ∙ ap sought_in (take_all at others beyond)

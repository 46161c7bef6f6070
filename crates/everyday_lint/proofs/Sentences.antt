-- What a fault says beside its title.
use Rattle.std.proofs.Common.{◌≡◌, ◌∙◌, ℕ, ◌++◌, List, Option, None, Some, ap, append_assoc, codes, refl}
use Rattle.std.proofs.lemmas.Slice.Eq.{bytes_eq-Decides}
use Rattle.std.proofs.Math.Seq.{take-append_seam, drop-append_seam}
use Rattle.ti_source.specs.Code.{code_name}
use Rattle.ti_source.specs.declared.code.Code.{Code}
use Rattle.ti_source.specs.declared.code.Code.TheVariants as code
use Rattle.base_meaning.specs.Report.{detail_text}
use Rattle.source_document.specs.Diagnostics.{fault_message, sentence_by}
use Rattle.source_diagnostics.specs.declared.capabilities.Capabilities.{Capabilities}
use Rattle.source_diagnostics.specs.declared.capabilities.Capabilities.TheVariants.{Profile, UserDefined}
use Rattle.everyday_lint.specs.Words.{SentencesAreOfFaults, skipped, subject_text}

-- a part that is there is skipped
skipped_there : (part rest : List ℕ) → skipped part (part ++ rest) ≡ rest
skipped_there part rest =
    rw (take-append_seam part rest, (bytes_eq-Decides part part).1 refl) (drop-append_seam part rest)

-- a sentence begins with a letter
no_space : (m : Capabilities) (c : Code) → skipped (codes " ") (sentence_by m c) ≡ sentence_by m c
no_space Profile code.BadHeader = refl
no_space Profile code.NamesTooLong = refl
no_space Profile code.BadNumber = refl
no_space Profile code.NumberTooLarge = refl
no_space Profile code.BadString = refl
no_space Profile code.MissingUse = refl
no_space Profile code.Circular = refl
no_space Profile code.Unresolved = refl
no_space Profile code.TooLarge = refl
no_space Profile code.UnknownCapability = refl
no_space Profile code.WrongKind = refl
no_space Profile code.UnknownEscape = refl
no_space Profile code.DuplicateName = refl
no_space UserDefined code.BadHeader = refl
no_space UserDefined code.NamesTooLong = refl
no_space UserDefined code.BadNumber = refl
no_space UserDefined code.NumberTooLarge = refl
no_space UserDefined code.BadString = refl
no_space UserDefined code.MissingUse = refl
no_space UserDefined code.Circular = refl
no_space UserDefined code.Unresolved = refl
no_space UserDefined code.TooLarge = refl
no_space UserDefined code.UnknownCapability = refl
no_space UserDefined code.WrongKind = refl
no_space UserDefined code.UnknownEscape = refl
no_space UserDefined code.DuplicateName = refl

after_name : (m : Capabilities) (c : Code) (detail : Option (List ℕ))
    → skipped (codes " ") (skipped (codes ": ") (detail_text detail ++ codes ": " ++ sentence_by m c)) ≡ subject_text detail ++ sentence_by m c
after_name m c None = no_space m c
after_name m c (Some subject) = refl

pub sentences_are_of_faults : SentencesAreOfFaults
sentences_are_of_faults m c detail =
    let name = code_name c in
    let rest = detail_text detail ++ codes ": " ++ sentence_by m c in
    let parts : fault_message m c detail ≡ name ++ rest =
    ap (λ text. text ++ sentence_by m c) (append_assoc name (detail_text detail) (codes ": "))
    ∙ append_assoc name (detail_text detail ++ codes ": ") (sentence_by m c) in
    ap (λ text. skipped (codes " ") (skipped (codes ": ") text)) (ap (skipped name) parts ∙ skipped_there name rest) ∙ after_name m c detail

use Rattle.std.proofs.Common.{◌≡◌, Some, true, false, ap, sym, ◌∙◌}
use Rattle.std.proofs.lemmas.Option.{same_Some}
use Rattle.std.proofs.lemmas.Slice.Eq.{bytes_eq-Decides}
use Rattle.source_document.proofs.TextLists.{read_at}
use Rattle.source_document.proofs.cut.is_same.Goals as goal

pub returns-clause-same : goal.returns-clause-same
returns-clause-same c is =
    let same = (bytes_eq-Decides _ _).0 (sym c.eq.ensures ∙ is) in
    read_at _ _ _ c.requires.held ∙ ap (λ text. Some text) same ∙ sym (read_at _ _ _ c.requires.there)

pub returns-clause-apart : goal.returns-clause-apart
returns-clause-apart c is same =
    let equal = same_Some _ _ (sym (read_at _ _ _ c.requires.held) ∙ same ∙ read_at _ _ _ c.requires.there) in
    let yes = (bytes_eq-Decides _ _).1 equal in
    let both : true ≡ false = sym yes ∙ (sym c.eq.ensures ∙ is) in
    absurd (cc)

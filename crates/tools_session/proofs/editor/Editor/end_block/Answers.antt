use Rattle.std.proofs.Common.{◌≡◌, ℕ, List, ap, sym, ◌∙◌, refl}
use Rattle.base_meaning.specs.Edits.{change_of, insertion, replacement}
use Rattle.tools_session.specs.declared.requests.Opened.{Opened}
use Rattle.tools_session.specs.inside.Requests.{opened_change}
use Rattle.tools_session.proofs.Leading.{CarriesOut-of_front, HasState-closed, ActsOn-edits}
use Rattle.tools_session.proofs.editor.Editor.end_block.Goals as goal
use Rattle.tools_session.proofs.editor.Editor.end_block.Goals.{in-Insert, in-Replace}

pub returns : goal.returns
returns g c = λ s held.
    let items : List ℕ = c.args.self.now.block.bytes in
    let same : change_of c.match-opened.edit ≡ opened_change c.args.opened items = elim c.match-opened.branch [
      | in-Insert w ↦ ap change_of w.edit-is ∙ ap (insertion w.in-Insert.at) c.as_slice-text.ensures.bytes
          ∙ ap (λ (o : Opened). opened_change o items) (sym w.in-Insert.is)
      | in-Replace w ↦ ap change_of w.edit-is ∙ ap (replacement w.in-Replace.at) c.as_slice-text.ensures.bytes
          ∙ ap (λ (o : Opened). opened_change o items) (sym w.in-Replace.is)
    ] in
    let whole : change_of c.match-opened.edit ≡ opened_change c.args.opened _ = same ∙ ap (opened_change c.args.opened) held.block in
    ActsOn-edits _ s _ _ _ c.carry_out.result _ _ refl held.source
    (CarriesOut-of_front c.args.opened _ _ _ _ _ _ _ c.carry_out.result held.room whole c.carry_out.ensures)
    (HasState-closed c.args.self.now _ s held refl refl)

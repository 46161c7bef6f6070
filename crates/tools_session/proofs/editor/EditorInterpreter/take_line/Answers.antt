use Rattle.std.proofs.Common.{Option, None, ap, inl, refl, rules, ◌∙◌, ◌≡◌}
use Rattle.tools_session.proofs.Leading.{HasState-added, ActsOn-on, ActsOn-same, meaning_in-at_end, meaning_in-in_block, meaning_in-meaning_outside}
use Rattle.tools_session.specs.declared.requests.Opened.{Opened}
use Rattle.tools_session.specs.inside.Requests.{mode_of}
use Rattle.tools_session.proofs.editor.EditorInterpreter.take_line.Goals as goal

pub returns-in_default : goal.returns-in_default
returns-in_default g c = λ s held.
    let none : c.args.self.now.opened ≡ None = search rules in
    let between = held.mode ∙ ap (λ (o : Option Opened). mode_of o held.text) none in
    inl (ActsOn-same _ _ s _ _ _ c.take_request.result (meaning_in-meaning_outside s.mode c.args.line.now between) (c.take_request.ensures s between held))

pub returns-then-eq : goal.returns-then-eq
returns-then-eq g c = λ s held. inl (
    ActsOn-same _ _ s _ _ _ c.end_block.result (meaning_in-at_end s.mode _ c.in-Some.opened held.text c.args.line.now held.mode c.in-Some.is
    (search rules)) (c.end_block.ensures s held))

pub returns : goal.returns
returns g c = λ s held. inl (
    ActsOn-on _ s _ _ _ (meaning_in-in_block s.mode _ c.in-Some.opened held.text c.args.line.now held.mode c.in-Some.is (search rules))
    (HasState-added c.args.self.now _ s c.in-Some.opened c.args.line.now held refl refl c.in-Some.is refl (search rules) (search rules)))

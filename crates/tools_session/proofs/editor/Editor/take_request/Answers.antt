use Rattle.std.proofs.Common.{refl, sym}
use Rattle.tools_session.proofs.Leading.{HasState-opened, HasState-outside, ActsOn-asks, ActsOn-edits, ActsOn-on, ActsOn-prints, ActsOn-rebuilds}
use Rattle.tools_session.proofs.Leading.{ActsOn-reports}
use Rattle.tools_session.proofs.editor.Editor.take_request.Goals as goal

pub returns-in-Open : goal.returns-in-Open
returns-in-Open g c = λ s outside held.
    ActsOn-on _ s _ _ _ (sym c.in-Open.ensures) (HasState-opened c.args.self.now _ s c.in-Open.opened held refl c.clear.ensures.bytes
    c.clear.ensures.limit refl)

pub returns-in-Remove : goal.returns-in-Remove
returns-in-Remove g c = λ s outside held.
    ActsOn-edits _ s _ _ _ c.carry_out.result _ _ (sym c.in-Remove.ensures) held.source c.carry_out.ensures
    (HasState-outside c.args.self.now _ s outside held refl refl)

pub returns-in-Print : goal.returns-in-Print
returns-in-Print g c = λ s outside held.
    ActsOn-prints _ s _ _ _ c.print.result _ _ (sym c.in-Print.ensures) held.source refl c.print.ensures
    (HasState-outside c.args.self.now _ s outside held refl refl)

pub returns-in-Report : goal.returns-in-Report
returns-in-Report g c = λ s outside held.
    ActsOn-reports _ s _ _ _ c.report.result _ (sym c.in-Report.ensures) held.source refl c.report.ensures
    (HasState-outside c.args.self.now _ s outside held refl refl)

pub returns-in-Unknown : goal.returns-in-Unknown
returns-in-Unknown g c = λ s outside held.
    ActsOn-asks _ s _ _ _ c.write_out.result _ _ (sym c.in-Unknown.ensures) (held.source, refl)
    (HasState-outside c.args.self.now _ s outside held refl refl) c.write_out.ensures

pub returns-in-Relocate : goal.returns-in-Relocate
returns-in-Relocate g c = λ s outside held.
    ActsOn-edits _ s _ _ _ c.carry_out-in-Relocate.result _ _ (sym c.in-Relocate.ensures) held.source c.carry_out-in-Relocate.ensures
    (HasState-outside c.args.self.now _ s outside held refl refl)

pub returns-in-Rebuilt : goal.returns-in-Rebuilt
returns-in-Rebuilt g c = λ s outside held.
    ActsOn-rebuilds _ s _ _ _ c.write_positions.result _ (sym c.in-Rebuilt.ensures) held.source refl (rw c.deref.ensures.value at c.write_positions.ensures)
    (HasState-outside c.args.self.now _ s outside held refl refl)

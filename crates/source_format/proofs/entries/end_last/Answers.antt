use Rattle.std.proofs.Common.{refl, sym, ap, ◌∙◌}
use Rattle.ti_text.specs.Texts.{is_empty}
use Rattle.source_format.specs.inside.Steps.{entry_seen}
use Rattle.source_format.proofs.Stepping.{end_dropped, end_pushed}
use Rattle.source_format.proofs.entries.end_last.Goals as goal

pub returns-then-is_empty : goal.returns-then-is_empty
returns-then-is_empty c =
    end_dropped entry_seen c.args.entries.now.items c.pop.new.self.items c.in-Some.last c.in-Some.ensures.items
    (ap is_empty (sym c.deref.ensures.value) ∙ sym c.is_empty.ensures ∙ c.if-is_empty.true)

pub returns : goal.returns
returns c =
    end_pushed entry_seen c.args.entries.now.items c.pop.new.self.items c.push.new.self.items c.in-Some.last _ c.in-Some.ensures.items
    c.in_ok-push.ensures.items (ap is_empty (sym c.deref.ensures.value) ∙ sym c.is_empty.ensures ∙ c.if-is_empty.false) refl

use Rattle.std.proofs.Common.{◌≡◌, ◌++◌, None, drop, map}
use Rattle.std.specs.Option.{option_copied}
use Rattle.ti_layout.specs.View.{view_contents}
use Rattle.everyday_termcap.specs.Items.{text_items, lines}
use Rattle.everyday_termcap.proofs.items.push_texts.Given as goal

-- what was written, and the lines of the codes that are left
abbrev pub invariant-loop-code : goal.invariant-loop-code
invariant-loop-code l =
    l.out.items ++ lines l.form l.line (text_items (view_contents l.view) l.kept (option_copied l.plain) (map (λ code. code.now) (drop l.code-index l.codes)))
    ≡ l.initial.out.items ++ lines l.form None (text_items (view_contents l.view) l.kept (option_copied l.plain) (map (λ code. code.now) l.codes))

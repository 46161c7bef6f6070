use Rattle.std.proofs.Common.{◌≡◌, ◌++◌, None, drop, map}
use Rattle.ti_layout.specs.View.{view_contents}
use Rattle.everyday_termcap.specs.Items.{flag_items, lines}
use Rattle.everyday_termcap.proofs.items.push_flags.Given as goal

-- what was written, and the lines of the codes that are left
abbrev pub invariant-loop-code : goal.invariant-loop-code
invariant-loop-code l =
    l.out.items ++ lines l.form l.line (flag_items (view_contents l.view) (map (λ code. code.now) (drop l.code-index l.codes)))
    ≡ l.initial.out.items ++ lines l.form None (flag_items (view_contents l.view) (map (λ code. code.now) l.codes))

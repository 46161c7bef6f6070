use Rattle.std.proofs.Common.{◌≡◌, ◌∙◌, ℕ, List, ◌+◌, ◌-◌, ap, arith, min}
use Rattle.ti_text.specs.Lines.{line_count}
use Rattle.source_settings.specs.Comments.{allowed_on}
use Rattle.source_settings.proofs.Lines.{on-last}
use Rattle.source_settings.proofs.walking.allowances_of.Goals as goal

pub returns : goal.returns
returns c line =
    let whole = c.all.view_is ∙ c.in_ok-all.ensures in
    let same : c.all.inside.text.now ≡ c.args.text.now = ap (λ (w : List ℕ × ℕ). w.0) whole in
    let counted : c.all.inside.number ≡ line_count c.args.text.now + 1 = ap (λ (w : List ℕ × ℕ). w.1) whole in
    let last : min line (c.all.inside.number - 1) ≡ min line (line_count c.args.text.now) = omega (arith, counted) in
    c.all.invariant.allowed line ∙ ap (λ (text : List ℕ). allowed_on text (min line (c.all.inside.number - 1))) same
    ∙ ap (allowed_on c.args.text.now) last ∙ on-last c.args.text.now line

use Rattle.std.proofs.Common.{◌≡◌, ◌∙◌, ◌+◌, ◌-◌, ℕ, List, ap, arith, drop, sym}
use Rattle.std.proofs.lemmas.List.{take_rest}
use Rattle.source_places.specs.Position.{line_start}
use Rattle.everyday_lint.proofs.Walking.{start-later}
use Rattle.everyday_lint.proofs.lines.start_from.Goals as goal

pub returns-then-from-number-clause-start : goal.returns-then-from-number-clause-start
returns-then-from-number-clause-start c =
    let text = c.args.text.now in
    let more = c.args.number - c.args.from in
    let later : c.args.from + more ≡ c.args.number = omega arith in
    let rest : c.start_of.result ≡ line_start (drop c.args.start text) more =
    c.start_of.ensures.start ∙ ap (λ (t : List ℕ). line_start t more) (take_rest text c.args.start) in
    ap (λ (n : ℕ). c.args.start + n) rest ∙ ap (λ (n : ℕ). n + line_start (drop n text) more) c.requires.known
    ∙ sym (start-later text c.args.from more) ∙ ap (line_start text) later

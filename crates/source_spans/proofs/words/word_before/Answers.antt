use Rattle.std.proofs.Common.{◌≡◌, ℕ, ap, take, ◌∙◌}
use Rattle.std.proofs.lemmas.List.{take_min}
use Rattle.std.proofs.lemmas.Result.{IfOk-weaker}
use Rattle.source_spans.specs.Words as spec
use Rattle.source_spans.proofs.words.word_before.Goals as goal

pub returns : goal.returns
returns c =
    let block = c.args.block.now in
    let offset = c.args.offset in
    IfOk-weaker c.word_at_end.result (λ word. word ≡ spec.word_at_end (take c.min.result block)) (λ word. word ≡ spec.word_before block offset)
    (λ word e. e ∙ ap spec.word_at_end (ap (λ (n : ℕ). take n block) c.min.ensures ∙ take_min offset block)) c.word_at_end.ensures

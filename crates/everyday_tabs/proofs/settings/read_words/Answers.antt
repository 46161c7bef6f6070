use Rattle.std.proofs.Common.{◌≡◌, ◌∙◌, ap, string_bytes, sym, rules}
use Rattle.std.proofs.lemmas.Result.{err_from_is_err_and}
use Rattle.everyday_tabs.specs.Words.{with_word, settings_of}
use Rattle.everyday_tabs.proofs.Reading.{one_more, refused_at}
use Rattle.everyday_tabs.proofs.settings.read_words.Goals as goal

pub loop-word-preserved : goal.loop-word-preserved
loop-word-preserved c =
    let text : c.as_bytes.result.now ≡ string_bytes c.word-item.result = search rules in
    one_more string_bytes _ c.args.words.now c.loop-word.word-index c.word-item.result _ _ c.loop-word-test.true c.word-item.is
    (sym (ap (with_word (settings_of c.loop-word.settings)) text) ∙ c.in_ok-take.ensures) c.loop-word.invariant

pub returns-in_err-take : goal.returns-in_err-take
returns-in_err-take c =
    let text : c.as_bytes.result.now ≡ string_bytes c.word-item.result = search rules in
    let e = err_from_is_err_and c.from_residual.result c.from_residual.ensures.1 in
    rw (e.1, e.2)
    (refused_at string_bytes _ c.args.words.now c.loop-word.word-index c.word-item.result _ _ c.loop-word-test.true c.word-item.is
    (ap (with_word (settings_of c.loop-word.settings)) text) _ c.in_err-take.ensures c.loop-word.invariant)

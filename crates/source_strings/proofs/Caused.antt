-- A text that spells nothing.
use Rattle.std.proofs.Common.{◌≡◌, ◌≢◌, ℕ, List, refl}
use Rattle.std.specs.Prelude.{Err}
use Rattle.ti_spelling.specs.declared.spelling.UnescapeError.{UnescapeError}
use Rattle.ti_spelling.specs.declared.spelling.UnescapeError.TheVariants.{BadOctal, BadControl, BadByte, Memory}
use Rattle.ti_spelling.specs.Spelling.{IsCauseOf}
use Rattle.ti_spelling.specs.inside.Spelling.{unescape_result}
use Rattle.ti_spelling.proofs.SpellingLaws.{fails_unescaped}

pub caused : (raw : List ℕ) (cause : UnescapeError) → cause ≢ Memory → IsCauseOf cause raw → unescape_result raw ≡ Err cause
caused raw BadOctal some fails = fails_unescaped fails
caused raw BadControl some fails = fails_unescaped fails
caused raw BadByte some fails = fails_unescaped fails
caused raw Memory some can = absurd (some refl)

use Rattle.std.proofs.Common.{◌≡◌, ap}
use Rattle.std.specs.Prelude.{Err}
use Rattle.ti_param.specs.declared.errors.ParamError.TheVariants.{BadFormat}
use Rattle.ti_param.proofs.expansion.expand.Goals as goal

pub returns-in-Err-clause-bad_format : goal.returns-in-Err-clause-bad_format
returns-in-Err-clause-bad_format c = λ place. (
  λ is. let same : c.in-Err.error ≡ BadFormat place = cc is in (c.in-Err.ensures.bad_format place).0 (ap (λ e. Err e) same),
  λ stuck.
      let is = (c.in-Err.ensures.bad_format place).1 stuck in
      let same : c.in-Err.error ≡ BadFormat place = cc is in
      ap (λ e. Err e) same,
)

pub returns-in-Err-in_memory-clause-bad_format : goal.returns-in-Err-in_memory-clause-bad_format
returns-in-Err-in_memory-clause-bad_format c = λ place.
    (λ is. absurd (cc is), λ stuck. let is = (c.in-Ok.ensures.bad_format place).1 stuck in absurd (cc is))

pub returns-in-Ok-in_memory-clause-bad_format : goal.returns-in-Ok-in_memory-clause-bad_format
returns-in-Ok-in_memory-clause-bad_format c = λ place.
    (λ is. absurd (cc is), λ stuck. let is = (c.in-Ok.ensures.bad_format place).1 stuck in absurd (cc is))

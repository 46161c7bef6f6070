use Rattle.std.proofs.Common.{◌≡◌, ◌+◌, ◌≤◌, subst, arith, rules, vec_len, vec_capacity, Result, Err}
use Rattle.std.specs.Result.{IsErrAnd}
use Rattle.ti_layout.specs.declared.writing.WriteError.{WriteError}
use Rattle.ti_layout.specs.declared.writing.WriteError.TheVariants.{TooLarge, Memory}
use Rattle.ti_layout.specs.Image.{format_of}
use Rattle.ti_layout.proofs.Assembling.{over_limit, within_limit, size_counted}
use Rattle.ti_layout.proofs.Sizes.{limit-le}
use Rattle.ti_compiled.proofs.header.make_room.Goals as goal

memory_only : (r : Result (Unit {0}) WriteError) → r ≡ Err TooLarge → IsErrAnd r (λ e. e ≡ Memory) → ⊥
memory_only r e f = let never : TooLarge ≡ Memory = subst (λ r. IsErrAnd r (λ e. e ≡ Memory)) e f in cc

pub returns-then-size-limit-clause-too_large : goal.returns-then-size-limit-clause-too_large
returns-then-size-limit-clause-too_large c = λ names d has.
    let over = over_limit names d c.args.header.now has _ _ c.size-size.ensures c.limit.ensures c.if-size-limit.true in
    ((λ e. over), (λ p. search rules))

pub returns-in_err-reserve-clause-too_large : goal.returns-in_err-reserve-clause-too_large
returns-in_err-reserve-clause-too_large c = λ names d has.
    let within = within_limit names d c.args.header.now has _ _ c.size-size.ensures c.limit.ensures c.if-size-limit.false in
    ((λ e. absurd (memory_only _ e c.from_residual.ensures.1)), (λ p. absurd (omega arith)))

pub returns-in_err-reserve-clause-memory : goal.returns-in_err-reserve-clause-memory
returns-in_err-reserve-clause-memory c =
    λ names d has e. within_limit names d c.args.header.now has _ _ c.size-size.ensures c.limit.ensures c.if-size-limit.false

pub returns-clause-room : goal.returns-clause-room
returns-clause-room c = λ names d has.
    let within = within_limit names d c.args.header.now has _ _ c.size-size.ensures c.limit.ensures c.if-size-limit.false in
    let counted = size_counted names d c.args.header.now has _ c.size-size.ensures in
    let most = limit-le (format_of d) in
    let missing = c.saturating_sub-missing.ensures in
    let room : vec_len c.reserve.new.self + c.saturating_sub-missing.result ≤ vec_capacity c.reserve.new.self = c.in_ok-reserve.ensures.ok in
    let same = c.reserve.ensures.len in
    omega arith

pub returns-clause-within : goal.returns-clause-within
returns-clause-within c = λ names d has. within_limit names d c.args.header.now has _ _ c.size-size.ensures c.limit.ensures c.if-size-limit.false

pub returns-clause-too_large : goal.returns-clause-too_large
returns-clause-too_large c = λ names d has.
    let within = within_limit names d c.args.header.now has _ _ c.size-size.ensures c.limit.ensures c.if-size-limit.false in
    ((λ e. absurd cc), (λ p. absurd (omega arith)))

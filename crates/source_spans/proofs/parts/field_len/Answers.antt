use Rattle.std.proofs.Common.{arith, length, take, drop, ◌+◌}
use Rattle.source_spans.proofs.Itemizing.{field_is, rest_is}
use Rattle.source_spans.proofs.Parting.{field_all, field_found}
use Rattle.source_spans.proofs.parts.field_len.Goals as goal

pub returns-then-text-at-eq44-clause-begins : goal.returns-then-text-at-eq44-clause-begins
returns-then-text-at-eq44-clause-begins c =
    let none = c.loop-at.invariant in
    field_found c.args.text.now c.loop-at.at (0, 0) (omega arith) (λ k below. none k (0, 0) below) c.if-text-at-eq44.true

pub returns-then-text-at-eq44-clause-field : goal.returns-then-text-at-eq44-clause-field
returns-then-text-at-eq44-clause-field c =
    let none = c.loop-at.invariant in
    let text = c.args.text.now in
    let n = c.loop-at.at in
    field_is text (take n text) (drop (n + 1) text) (field_found text n (0, 0) (omega arith) (λ k below. none k (0, 0) below) c.if-text-at-eq44.true)

pub returns-then-text-at-eq44-clause-rest : goal.returns-then-text-at-eq44-clause-rest
returns-then-text-at-eq44-clause-rest c =
    let none = c.loop-at.invariant in
    let text = c.args.text.now in
    let n = c.loop-at.at in
    rest_is text (take n text) (drop (n + 1) text) (field_found text n (0, 0) (omega arith) (λ k below. none k (0, 0) below) c.if-text-at-eq44.true)

pub returns-clause-begins : goal.returns-clause-begins
returns-clause-begins c = let none = c.loop-at.invariant in field_all c.args.text.now (0, 0) (λ k below. none k (0, 0) (omega (arith, below)))

pub returns-clause-field : goal.returns-clause-field
returns-clause-field c =
    let none = c.loop-at.invariant in
    let text = c.args.text.now in
    field_is text (take (length text) text) (drop (length text + 1) text) (field_all text (0, 0) (λ k below. none k (0, 0) (omega (arith, below))))

pub returns-clause-rest : goal.returns-clause-rest
returns-clause-rest c =
    let none = c.loop-at.invariant in
    let text = c.args.text.now in
    rest_is text (take (length text) text) (drop (length text + 1) text) (field_all text (0, 0) (λ k below. none k (0, 0) (omega (arith, below))))

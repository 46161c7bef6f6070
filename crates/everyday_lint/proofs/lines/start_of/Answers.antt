use Rattle.std.proofs.Common.{◌≡◌, ◌+◌, ◌-◌, List, ℕ, None, Some, suc, drop, ap, subst, ◌∙◌, arith}
use Rattle.std.proofs.lemmas.List.{drop-drop, length-drop, take_rest}
use Rattle.memchr.specs.Find.{IsFirstByte, is_byte}
use Rattle.source_places.specs.Position as spec
use Rattle.source_places.proofs.LineStarts.{start-found, start-none}
use Rattle.source_places.proofs.Places.{line_start-zero}
use Rattle.everyday_lint.proofs.lines.start_of.Goals as goal

pub returns-in-None-clause-start : goal.returns-in-None-clause-start
returns-in-None-clause-start c =
    let text = c.args.text.now in
    let start = c.loop-passed.start in
    let rest = drop start text in
    let n = c.args.number - (c.loop-passed._passed + 1) in
    let none = subst (λ (s : List ℕ). IsFirstByte (is_byte 10) s None) (take_rest text start) c.in-None.ensures in
    let left : c.args.number - c.loop-passed._passed ≡ suc n = omega arith in
    let step = ap (spec.line_start rest) left ∙ start-none rest n none in
    omega (arith, c.loop-passed.invariant.left, c.loop-passed.invariant.within, step, length-drop start text)

pub loop-passed-preserved : goal.loop-passed-preserved
loop-passed-preserved c =
    let text = c.args.text.now in
    let start = c.loop-passed.start in
    let rest = drop start text in
    let at = c.in-Some.at in
    let n = c.args.number - (c.loop-passed._passed + 1) in
    let first = subst (λ (s : List ℕ). IsFirstByte (is_byte 10) s (Some at)) (take_rest text start) c.in-Some.ensures in
    let left : c.args.number - c.loop-passed._passed ≡ suc n = omega arith in
    let step = ap (spec.line_start rest) left ∙ start-found rest at n first in
    let place : start + suc at ≡ start + (at + 1) = omega arith in
    let later = ap (λ (t : List ℕ). spec.line_start t n) (drop-drop (suc at) start text ∙ ap (λ (k : ℕ). drop k text) place) in
    record {
      within = omega (arith, first.0.high, c.loop-passed.invariant.within, length-drop start text);
      left = omega (arith, c.loop-passed.invariant.left, step, later);
    }

pub returns-clause-start : goal.returns-clause-start
returns-clause-start c =
    let rest = drop c.loop-passed.start c.args.text.now in
    let none : c.args.number - c.loop-passed._passed ≡ 0 = omega arith in
    let last = ap (spec.line_start rest) none ∙ line_start-zero rest in
    omega (arith, c.loop-passed.invariant.left, last)

use Rattle.std.proofs.Common.{◌≡◌, ◌+◌, List, ℕ, None, Some, suc, drop, length, ap, subst, ◌∙◌, arith}
use Rattle.std.proofs.lemmas.List.{drop-drop, drop_all, length-drop, take_rest}
use Rattle.memchr.specs.Find.{IsFirstByte, is_byte}
use Rattle.source_places.specs.Position.{line_start}
use Rattle.source_places.proofs.LineStarts.{start-found, start-none}
use Rattle.source_settings.proofs.walking.next_line.Goals as goal

pub returns-in-Some-clause-next : goal.returns-in-Some-clause-next
returns-in-Some-clause-next c more =
    let text = c.args.text.now in
    let start = c.args.start in
    let rest = drop start text in
    let at = c.in-Some.at in
    let first = subst (λ (s : List ℕ). IsFirstByte (is_byte 10) s (Some at)) (take_rest text start) c.in-Some.ensures in
    let step = start-found rest at more first in
    let place : start + suc at ≡ start + at + 1 = omega arith in
    let later = ap (λ (t : List ℕ). line_start t more) (drop-drop (suc at) start text ∙ ap (λ (k : ℕ). drop k text) place) in
    omega (arith, step, later)

pub returns-in-None-clause-next : goal.returns-in-None-clause-next
returns-in-None-clause-next c more =
    let text = c.args.text.now in
    let start = c.args.start in
    let rest = drop start text in
    let none = subst (λ (s : List ℕ). IsFirstByte (is_byte 10) s None) (take_rest text start) c.in-None.ensures in
    let step = start-none rest more none in
    let left : line_start (drop (length text) text) more ≡ 0 = ap (λ (t : List ℕ). line_start t more) (drop_all (length text) text (omega arith)) in
    omega (arith, step, left, length-drop start text)

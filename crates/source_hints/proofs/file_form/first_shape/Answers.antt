use Rattle.std.proofs.Common.{◌≡◌, ◌+◌, List, ℕ, None, Option, Some, false, true, drop, ap, subst, sym, ◌∙◌, arith}
use Rattle.std.proofs.lemmas.List.{drop-drop, length-drop, take_rest}
use Rattle.memchr.specs.Find.{IsFirstByte, is_byte}
use Rattle.source_hints.specs.FileForms.{first_byte, first_shape, is_shape}
use Rattle.source_hints.proofs.Shapes.{here, moved, next_shape, shape_found, shape_none}
use Rattle.source_hints.proofs.file_form.first_shape.Goals as goal

pub loop-passed-preserved : goal.loop-passed-preserved
loop-passed-preserved c =
    let text = c.args.text.now in
    let shape = c.args.shape in
    let from = c.loop-passed.from in
    let passed = c.in-Some.passed in
    let found = subst (λ (s : List ℕ). IsFirstByte (is_byte c.first_byte-byte.result) s (Some passed)) (take_rest text from) c.in-Some.ensures in
    let first = subst (λ (b : ℕ). IsFirstByte (is_byte b) (drop from text) (Some passed)) c.first_byte-byte.ensures found in
    let other : is_shape shape (drop (from + passed) text) ≡ false =
    ap (is_shape shape) (sym (take_rest text (from + passed))) ∙ sym c.is_shape.ensures ∙ c.if-is_shape.false in
    record {
      within = omega (arith, first.0.high, c.loop-passed.invariant.within, length-drop from text);
      left = c.loop-passed.invariant.left ∙ next_shape shape text from passed first other;
    }

pub returns-then-is_shape-clause-shape : goal.returns-then-is_shape-clause-shape
returns-then-is_shape-clause-shape c =
    let text = c.args.text.now in
    let shape = c.args.shape in
    let from = c.loop-passed.from in
    let passed = c.in-Some.passed in
    let found = subst (λ (s : List ℕ). IsFirstByte (is_byte c.first_byte-byte.result) s (Some passed)) (take_rest text from) c.in-Some.ensures in
    let first = subst (λ (b : ℕ). IsFirstByte (is_byte b) (drop from text) (Some passed)) c.first_byte-byte.ensures found in
    let is : is_shape shape (drop (from + passed) text) ≡ true =
    ap (is_shape shape) (sym (take_rest text (from + passed))) ∙ sym c.is_shape.ensures ∙ c.if-is_shape.true in
    let there : first_shape shape (drop passed (drop from text)) ≡ Some 0 = ap (first_shape shape) (drop-drop passed from text) ∙ here shape (drop (from + passed) text) is in
    let place : from + (passed + 0) ≡ from + passed = omega arith in
    let all : first_shape shape text ≡ Some (from + passed) =
    c.loop-passed.invariant.left ∙ ap (moved from) (shape_found shape (drop from text) passed first ∙ ap (moved passed) there) ∙ ap (λ (n : ℕ). Some n) place in
    sym all

pub returns-clause-shape : goal.returns-clause-shape
returns-clause-shape c =
    let text = c.args.text.now in
    let shape = c.args.shape in
    let from = c.loop-passed.from in
    let found = subst (λ (s : List ℕ). IsFirstByte (is_byte c.first_byte-byte.result) s None) (take_rest text from) c.in_default.ensures in
    let none = subst (λ (b : ℕ). IsFirstByte (is_byte b) (drop from text) None) c.first_byte-byte.ensures found in
    let all : first_shape shape text ≡ None = c.loop-passed.invariant.left ∙ ap (moved from) (shape_none shape (drop from text) none) in
    sym all

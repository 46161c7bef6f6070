use Rattle.std.proofs.Common.{ap, sym, ◌∙◌, arith, inl, inr}
use Rattle.std.proofs.lemmas.List.{nil_from_length}
use Rattle.ti_formats.specs.inside.Codes.{token_after}
use Rattle.ti_formats.specs.inside.Formats.{front_of}
use Rattle.ti_formats.proofs.Lexing.{front-percent, front-mark, if-read, then-read, else-read, end-read, code-none, left-nothing}
use Rattle.ti_formats.proofs.lexer.Lexer.next_token.Goals as goal

pub returns-in_err-byte-clause-token : goal.returns-in_err-byte-clause-token
returns-in_err-byte-clause-token c =
    rw c.from_residual.ensures (left-nothing c.args.self.now
    (ap front_of (ap (λ u. u.text) (sym c.self.view_is) ∙ nil_from_length _ c.in_err-byte.ensures.cases)))

pub returns-in_err-letter-clause-token : goal.returns-in_err-letter-clause-token
unfolding token_after
returns-in_err-letter-clause-token c =
    rw c.from_residual-in_err-letter.ensures (left-nothing c.args.self.now
    (ap (λ u. front_of u.text) (sym c.self.view_is) ∙ front-percent _ _ _ c.in_ok-byte.ensures.cases.0 c.if-byte-ne37.false
    ∙ ap token_after (nil_from_length _ c.in_err-letter.ensures.cases)))

pub take-requires-in-63 : goal.take-requires-in-63
take-requires-in-63 c =
    ap (λ u. front_of u.text) (sym c.self.view_is)
    ∙ front-mark _ _ _ _ _ 63 _ c.in_ok-byte.ensures.cases.0 c.if-byte-ne37.false c.in_ok-letter.ensures.cases.0 c.in-63.is (if-read _)

pub take-requires-in-116 : goal.take-requires-in-116
take-requires-in-116 c =
    ap (λ u. front_of u.text) (sym c.self.view_is)
    ∙ front-mark _ _ _ _ _ 116 _ c.in_ok-byte.ensures.cases.0 c.if-byte-ne37.false c.in_ok-letter.ensures.cases.0 c.in-116.is (then-read _)

pub take-requires-in-101 : goal.take-requires-in-101
take-requires-in-101 c =
    ap (λ u. front_of u.text) (sym c.self.view_is)
    ∙ front-mark _ _ _ _ _ 101 _ c.in_ok-byte.ensures.cases.0 c.if-byte-ne37.false c.in_ok-letter.ensures.cases.0 c.in-101.is (else-read _)

pub take-requires-in-59 : goal.take-requires-in-59
take-requires-in-59 c =
    ap (λ u. front_of u.text) (sym c.self.view_is)
    ∙ front-mark _ _ _ _ _ 59 _ c.in_ok-byte.ensures.cases.0 c.if-byte-ne37.false c.in_ok-letter.ensures.cases.0 c.in-59.is (end-read _)

pub returns-in-None-clause-token : goal.returns-in-None-clause-token
returns-in-None-clause-token c =
    left-nothing c.args.self.now
    (ap (λ u. front_of u.text) (sym c.self.view_is) ∙ front-percent _ _ _ c.in_ok-byte.ensures.cases.0 c.if-byte-ne37.false
    ∙ code-none _ _ _ c.in_ok-letter.ensures.cases.0 c.in-None.ensures (λ marked. elim marked [
      | inl mark ↦ omega (arith, mark)
      | inr later ↦ elim later [ inl mark ↦ omega (arith, mark) | inr last ↦ elim last [ inl mark ↦ omega (arith, mark) | inr mark ↦ omega (arith, mark) ] ]
    ]))

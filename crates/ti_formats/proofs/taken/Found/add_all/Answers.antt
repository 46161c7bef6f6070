use Rattle.std.proofs.Common.{ap, sym, ◌∙◌, arith, length}
use Rattle.ti_formats.specs.Left.{left_of}
use Rattle.ti_formats.specs.inside.Parameters.{named_with, string_with, popped_with}
use Rattle.ti_formats.proofs.Taking.{named-end, string-end, popped-end}
use Rattle.ti_formats.proofs.taken.Found.add_all.Goals as goal

pub loop-token-preserved : goal.loop-token-preserved
loop-token-preserved c = record {
  named = c.add.ensures.named c.in-Some.field-0.place (left_of c.next_token.new.self).tokens ∙ ap (named_with c.loop-token.self) (sym c.in-Some.ensures.token)
      ∙ c.loop-token.invariant.named;
  strings = λ i few. c.add.ensures.strings i c.in-Some.field-0.place (left_of c.next_token.new.self).tokens few
      ∙ ap (string_with c.loop-token.self i) (sym c.in-Some.ensures.token) ∙ c.loop-token.invariant.strings i few;
  popped = c.add.ensures.popped c.in-Some.field-0.place (left_of c.next_token.new.self).tokens ∙ ap (popped_with c.loop-token.self) (sym c.in-Some.ensures.token)
      ∙ c.loop-token.invariant.popped;
  stop = c.in-Some.ensures.stop ∙ c.loop-token.invariant.stop;
  height = omega (arith, c.add.ensures.height, ap length c.in-Some.ensures.token, c.loop-token.invariant.height);
  last = c.add.ensures.last;
  few = c.add.ensures.few;
}

pub returns-clause-named : goal.returns-clause-named
returns-clause-named c =
    named-end c.loop-token.self ∙ ap (named_with c.loop-token.self) (sym c.in_default.ensures.token) ∙ c.loop-token.invariant.named

pub returns-clause-strings : goal.returns-clause-strings
returns-clause-strings c = λ i few.
    string-end c.loop-token.self i ∙ ap (string_with c.loop-token.self i) (sym c.in_default.ensures.token) ∙ c.loop-token.invariant.strings i few

pub returns-clause-popped : goal.returns-clause-popped
returns-clause-popped c =
    popped-end c.loop-token.self c.loop-token.invariant.few ∙ ap (popped_with c.loop-token.self) (sym c.in_default.ensures.token)
    ∙ c.loop-token.invariant.popped

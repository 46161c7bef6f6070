-- the text is on one line, or as it is
use Rattle.std.proofs.Common.{◌∙◌, sym}
use Rattle.everyday_words.specs.Requests.{infocmp_seen}
use Rattle.everyday_infocmp.proofs.Breaks.{as_it_is, on_one_line}
use Rattle.everyday_infocmp.proofs.tool.print_lines.Goals as goal

pub returns-then-is_joined : goal.returns-then-is_joined
returns-then-is_joined c = (
  c.in_ok-text.text,
  c.in_ok-text.ensures,
  on_one_line (infocmp_seen c.args.request.now) c.in_ok-text.text.items c.in_ok-line.line.items
      (sym c.is_joined.ensures ∙ c.if-is_joined.true) (rw (← c.as_slice.ensures.value) c.in_ok-line.ensures.ok),
)

pub returns : goal.returns
returns c =
    (c.in_ok-text.text, c.in_ok-text.ensures, as_it_is (infocmp_seen c.args.request.now) c.in_ok-text.text.items (sym c.is_joined.ensures ∙ c.if-is_joined.false))

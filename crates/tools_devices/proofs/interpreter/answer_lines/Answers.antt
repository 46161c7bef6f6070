use Rattle.std.proofs.Common.{◌∙◌, ap, ◌+◌, ℕ}
use Rattle.std.proofs.lemmas.Result.{err_from_is_err_and}
use Rattle.tools_devices.proofs.Answering.{LinesEnd-end, LinesEnd-fault, LinesEnd-last, LinesEnd-line, Progress-line, Progress-start}
use Rattle.tools_devices.specs.Counted.{observation, reads_of}
use Rattle.tools_devices.proofs.interpreter.answer_lines.Goals as goal

pub loop-lines-init : goal.loop-lines-init
loop-lines-init g c = (
  λ start holds. Progress-start g.I.Interpreter.leads g.I.Interpreter.may_run_out _ start _ _ _ _ holds c.in_ok-lines.ensures.ahead,
  c.in_ok-lines.ensures.limit,
  ap (λ (n : ℕ). n + reads_of c.args.reader.now) c.in_ok-lines.ensures.reads,
)

pub returns-in_err-read_line-clause-ends : goal.returns-in_err-read_line-clause-ends
returns-in_err-read_line-clause-ends g c =
    λ start holds. let i = c.loop-lines.invariant in
    let e = err_from_is_err_and c.from_residual-in_err-read_line.result c.from_residual-in_err-read_line.ensures.1 in
    rw (e.1, e.2) (LinesEnd-fault g.I.Interpreter.leads g.I.Interpreter.may_run_out _ start _ _ _ c.loop-lines.lines _ _ i.1 (i.0 start holds)
    c.read_line.new.self (observation g.R.Read.remaining c.read_line.new.reader) (g.I.Interpreter.holds c.loop-lines.interpreter) _
    c.in_err-read_line.ensures.next
    (c.in_err-read_line.ensures.spends.reads ∙ i.2))

pub loop-lines-preserved : goal.loop-lines-preserved
loop-lines-preserved g c =
    let i = c.loop-lines.invariant in (
      λ start holds. let p = i.0 start holds in
          Progress-line g.I.Interpreter.leads g.I.Interpreter.may_run_out _ start _ _ _ c.loop-lines.lines _ _ i.1 p
          c.read_line.new.self (observation g.R.Read.remaining c.read_line.new.reader) _ _ (rw c.in-Line.is at c.in_ok-read_line.ensures.next)
          (rw c.line.ensures at (c.in_ok-take_line-in-Line.ensures p.end p.holds)),
      c.in_ok-read_line.ensures.spends.limit ∙ i.1,
      c.in_ok-read_line.ensures.spends.reads ∙ i.2,
    )

pub returns-in_err-take_line-in-Line-clause-ends : goal.returns-in_err-take_line-in-Line-clause-ends
returns-in_err-take_line-in-Line-clause-ends g c =
    λ start holds. let i = c.loop-lines.invariant in
    let p = i.0 start holds in
    let e = err_from_is_err_and c.from_residual-in_err-take_line-in-Line.result c.from_residual-in_err-take_line-in-Line.ensures.1 in
    rw (e.1, e.2) (LinesEnd-line g.I.Interpreter.leads g.I.Interpreter.may_run_out _ start _ _ _ c.loop-lines.lines _ _ i.1 p
    c.read_line.new.self (observation g.R.Read.remaining c.read_line.new.reader) _ _ (rw c.in-Line.is at c.in_ok-read_line.ensures.next) _
    (rw c.line.ensures at (c.in_err-take_line-in-Line.ensures p.end p.holds)))

pub returns-in-LastLine-clause-ends : goal.returns-in-LastLine-clause-ends
returns-in-LastLine-clause-ends g c =
    λ start holds. let i = c.loop-lines.invariant in
    let p = i.0 start holds in
    LinesEnd-last g.I.Interpreter.leads g.I.Interpreter.may_run_out _ start _ _ _ c.loop-lines.lines _ _ i.1 p
    c.read_line.new.self (observation g.R.Read.remaining c.read_line.new.reader) _ _ (rw c.in-LastLine.is at c.in_ok-read_line.ensures.next) _
    (rw c.line-in-LastLine.ensures at (c.take_line-in-LastLine.ensures p.end p.holds))

pub returns-in-End-clause-ends : goal.returns-in-End-clause-ends
returns-in-End-clause-ends g c =
    λ start holds. let i = c.loop-lines.invariant in
    LinesEnd-end g.I.Interpreter.leads g.I.Interpreter.may_run_out _ start _ _ _ c.loop-lines.lines _ _ i.1 (i.0 start holds)
    c.read_line.new.self (observation g.R.Read.remaining c.read_line.new.reader) (rw c.in-End.is at c.in_ok-read_line.ensures.next)

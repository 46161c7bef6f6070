use Rattle.std.proofs.Common.{◌<◌, length, refl, rules}
use Rattle.std.proofs.lemmas.Result.{err_from_is_err_and}
use Rattle.tools_devices.specs.Counted.{observation}
use Rattle.tools_devices.proofs.LineSteps.{Filled-end, Filled-fault, Filled-line, Filled-more, Filled-over, Filled-same}
use Rattle.tools_devices.proofs.line_reader.LineReader.read_line.Goals as goal

pub returns-in_err-take_line-clause-next : goal.returns-in_err-take_line-clause-next
returns-in_err-take_line-clause-next g c =
    let p = err_from_is_err_and c.from_residual.result c.from_residual.ensures.1 in
    let f = Filled-same c.args.self.now _ c.loop-self.self (observation g.R.Read.remaining c.args.reader.now)
    (observation g.R.Read.remaining c.loop-self.reader) refl refl c.clear.ensures.limit c.loop-self.invariant in
    rw (p.1, p.2) (Filled-over _ _ _ _ f c.take_line.new.self _ c.in_err-take_line.ensures.taken)

pub returns-then-branch-clause-next : goal.returns-then-branch-clause-next
returns-then-branch-clause-next g c =
    let f = Filled-same c.args.self.now _ c.loop-self.self (observation g.R.Read.remaining c.args.reader.now)
    (observation g.R.Read.remaining c.loop-self.reader) refl refl c.clear.ensures.limit c.loop-self.invariant in
    Filled-line _ _ _ _ f c.take_line.new.self (rw c.if-branch.true at c.in_ok-take_line.ensures.taken)

pub returns-in_err-refill-clause-next : goal.returns-in_err-refill-clause-next
returns-in_err-refill-clause-next g c =
    let p = err_from_is_err_and c.from_residual-in_err-refill.result c.from_residual-in_err-refill.ensures.1 in
    let f = Filled-same c.args.self.now _ c.loop-self.self (observation g.R.Read.remaining c.args.reader.now)
    (observation g.R.Read.remaining c.loop-self.reader) refl refl c.clear.ensures.limit c.loop-self.invariant in
    rw (p.1, p.2) (Filled-fault _ _ _ _ f c.take_line.new.self (rw c.if-branch.false at c.in_ok-take_line.ensures.taken)
    c.in_ok-take_line.ensures.limit c.in_ok-take_line.ensures.reads c.refill.new.self
    (observation g.R.Read.remaining c.refill.new.reader) _ c.in_err-refill.ensures.came)

pub loop-self-smaller : goal.loop-self-smaller
loop-self-smaller g c =
    let came = rw c.if-not-branch.false at c.in_ok-refill.ensures.came in
    let fewer : c.refill.new.self.reads_left < c.take_line.new.self.reads_left = rw (← came.1) (search rules) in
    rw c.in_ok-take_line.ensures.reads at fewer

pub loop-self-preserved : goal.loop-self-preserved
loop-self-preserved g c =
    Filled-more _ c.loop-self.self _ (observation g.R.Read.remaining c.loop-self.reader) c.loop-self.invariant c.take_line.new.self
    (rw c.if-branch.false at c.in_ok-take_line.ensures.taken) c.in_ok-take_line.ensures.limit c.in_ok-take_line.ensures.reads
    c.refill.new.self (observation g.R.Read.remaining c.refill.new.reader) (rw c.if-not-branch.false at c.in_ok-refill.ensures.came)
    c.in_ok-refill.ensures.line c.in_ok-refill.ensures.spends

pub returns-else-is_empty-clause-next : goal.returns-else-is_empty-clause-next
returns-else-is_empty-clause-next g c =
    let f = Filled-same c.args.self.now _ c.loop-self.self (observation g.R.Read.remaining c.args.reader.now)
    (observation g.R.Read.remaining c.loop-self.reader) refl refl c.clear.ensures.limit c.loop-self.invariant in
    let e = Filled-end _ _ _ _ f c.take_line.new.self (rw c.if-branch.false at c.in_ok-take_line.ensures.taken)
    c.in_ok-take_line.ensures.limit c.in_ok-take_line.ensures.reads c.refill.new.self (observation g.R.Read.remaining c.refill.new.reader)
    (rw c.if-not-branch.true at c.in_ok-refill.ensures.came) c.in_ok-refill.ensures.line in
    let some : 0 < length c.refill.new.self.line.bytes = rw (← c.as_slice.ensures.bytes) (search rules) in
    (e.0, e.1, e.2, e.3, e.4, e.5, some)

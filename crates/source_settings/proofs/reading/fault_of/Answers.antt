use Rattle.std.proofs.Common.{arith, inl}
use Rattle.source_settings.proofs.reading.fault_of.Goals as goal

pub returns-in-Ok : goal.returns-in-Ok
returns-in-Ok c =
    inl (
      c.requires.refused (λ memory. let none = rw c.in-Some.is at (c.span.ensures.none.1 memory) in absurd (cc)),
      (c.in-Some.span.start, omega (arith, c.count_lines-line.ensures.lines)),
    )

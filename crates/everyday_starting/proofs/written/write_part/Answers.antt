use Rattle.everyday_starting.specs.Starting.{of_blanks, of_stops, too_much_each}
use Rattle.everyday_starting.proofs.Writing.{fault_refused, format_written, text_written}
use Rattle.everyday_starting.proofs.written.write_part.Goals as goal

pub returns-in-Plain : goal.returns-in-Plain
returns-in-Plain c = rw c.in-Plain.is (text_written c.args.line.now c.in-Plain.text.now c.pad_once.result c.pad_once.ensures)

pub returns-in-Some : goal.returns-in-Some
returns-in-Some c =
    rw c.in-ByNumbers.is
    (format_written c.args.line.now c.in-ByNumbers.format.now c.in-ByNumbers.first c.in-ByNumbers.second c.in-Some.output.items c.pad_output.result
    (rw c.in-Some.is at c.in_ok-output-in-ByNumbers.ensures) c.pad_output.ensures)

pub returns-in-None : goal.returns-in-None
returns-in-None c =
    rw c.in-ByNumbers.is
    (fault_refused c.args.line.now c.in-ByNumbers.format.now c.in-ByNumbers.first c.in-ByNumbers.second
    (rw c.in-None.is at c.in_ok-output-in-ByNumbers.ensures))

pub returns-in_ok-blanks-in-Blanks : goal.returns-in_ok-blanks-in-Blanks
returns-in_ok-blanks-in-Blanks c = rw (c.in-Blanks.is, c.in_ok-blanks-in-Blanks.ensures) of_blanks

pub returns-in_ok-stops-in-Some-2 : goal.returns-in_ok-stops-in-Some-2
returns-in_ok-stops-in-Some-2 c =
    rw (c.in-Stops.is, c.in_ok-stops-in-Some-2.ensures, c.as_slice.ensures.value) (of_stops (rw c.in-Some-2.is at c.in_ok-bytes-in-Stops.ensures))

pub returns-in-None-2 : goal.returns-in-None-2
returns-in-None-2 c = rw c.in-Stops.is (too_much_each (rw c.in-None-2.is at c.in_ok-bytes-in-Stops.ensures))

use Rattle.std.proofs.Common.{◌≡◌, ◌==◌, false, get_or, refl, sym, ◌∙◌, arith}
use Rattle.std.proofs.lemmas.Bool.{ne_eqb}
use Rattle.std.proofs.lemmas.List.{take_more}
use Rattle.ti_source.specs.inside.Items.{cuts, takes_no_byte, takes_byte}
use Rattle.ti_source.proofs.items.front_run.Goals as goal

pub loop-byte-init : goal.loop-byte-init
loop-byte-init c = record { counted = refl; passes_run = takes_no_byte }

pub loop-byte-preserved : goal.loop-byte-preserved
loop-byte-preserved c =
    let text = c.args.text.now in
    let at = c.loop-byte.byte-index in
    let byte = get_or text at 0 in
    let plain : (byte == 10) ≡ false = ne_eqb byte 10 c.if-byte-eq10.false in
    let inner : cuts c.loop-byte.next byte ≡ false = sym c.cuts.ensures ∙ c.if-cuts.false in
    record {
      counted = omega (arith, c.loop-byte.invariant.counted);
      passes_run = rw (take_more text at 0 c.loop-byte-test.true, c.next_escape-next.ensures) (takes_byte byte c.loop-byte.invariant.passes_run plain inner);
    }

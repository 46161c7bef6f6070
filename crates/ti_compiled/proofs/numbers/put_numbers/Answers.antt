use Rattle.std.proofs.Common.{refl, ◌∙◌}
use Rattle.ti_compiled.proofs.NumbersPut.{put_start, put_more}
use Rattle.ti_compiled.proofs.numbers.put_numbers.Goals as goal

pub loop-at-init : goal.loop-at-init
loop-at-init c = record {
  len = refl;
  so_far = put_start c.args.bytes.now.items c.args.begin c.args.format c.args.values.now c.args.count;
}

pub loop-at-preserved : goal.loop-at-preserved
loop-at-preserved c =
    let a = c.args in
    record {
      len = c.put_number.ensures.len ∙ c.loop-at.invariant.len;
      so_far = put_more a.bytes.now.items a.begin a.format a.values.now a.count c.loop-at.bytes.items c.put_number.new.bytes.items c.width-width.result
          c.loop-at.at _ c.width-width.ensures.value c.loop-at-test.true c.requires.count refl c.loop-at.invariant.so_far c.put_number.ensures.part;
    }

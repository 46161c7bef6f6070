use Rattle.std.proofs.Common.{◌≡◌, ℕ, ◌+◌, ◌-◌, ◌/◌, length, sym, ap, ◌∙◌, arith}
use Rattle.std.specs.Ordering.{nat_cmp}
use Rattle.std.specs.declared.cmp.Ordering.TheVariants.{Less, Greater}
use Rattle.std.specs.Cmp.Lexicographic.{slice_cmp}
use Rattle.ti_caps.proofs.Order.{text_from_equal}
use Rattle.ti_layout.specs.Reading.{count_in}
use Rattle.user_extension.specs.Reading.{name_in}
use Rattle.user_extension.specs.View.{parts_of}
use Rattle.user_extension.proofs.Named.{Rises, not_after, not_before}
use Rattle.user_extension.proofs.Between.{rises}
use Rattle.user_extension.proofs.view.Extension.find_between.Goals as goal

pub loop-first-preserved-in-Less : goal.loop-first-preserved-in-Less
loop-first-preserved-in-Less c =
    let e = c.args.self.now in
    let i = c.loop-first.invariant in
    let f = name_in e.names.now e.tail.now in
    let m : ℕ = c.loop-first.first + (c.loop-first.end - c.loop-first.first) / 2 in
    let low = i.low_end in
    let high = i.high_end in
    let test = c.loop-first-test.true in
    let all : Rises f c.args.low c.args.high =
    rises e.format (parts_of e) e.tail.now e.rest c.args.low c.args.high c.requires.within (length e.flags.now)
    (length e.flags.now + count_in e.format e.numbers.now) e.rise c.requires.kind in
    let less : slice_cmp nat_cmp (f m) c.args.name.now ≡ Less =
    ap (λ n. slice_cmp nat_cmp n c.args.name.now) (sym c.name_at.ensures) ∙ sym c.cmp.ensures ∙ c.in-Less.is in
    record {
      low_end = omega arith;
      high_end = high;
      before = λ k a b. not_before f c.args.low c.args.high m k c.args.name.now all (omega arith) less a b;
      after = i.after;
    }

pub loop-first-preserved : goal.loop-first-preserved
loop-first-preserved c =
    let e = c.args.self.now in
    let i = c.loop-first.invariant in
    let f = name_in e.names.now e.tail.now in
    let m : ℕ = c.loop-first.first + (c.loop-first.end - c.loop-first.first) / 2 in
    let low = i.low_end in
    let high = i.high_end in
    let test = c.loop-first-test.true in
    let all : Rises f c.args.low c.args.high =
    rises e.format (parts_of e) e.tail.now e.rest c.args.low c.args.high c.requires.within (length e.flags.now)
    (length e.flags.now + count_in e.format e.numbers.now) e.rise c.requires.kind in
    let greater : slice_cmp nat_cmp (f m) c.args.name.now ≡ Greater =
    ap (λ n. slice_cmp nat_cmp n c.args.name.now) (sym c.name_at.ensures) ∙ sym c.cmp.ensures ∙ c.in-Greater.is in
    record {
      low_end = low;
      high_end = omega arith;
      before = i.before;
      after = λ k a b. not_after f c.args.low c.args.high m k c.args.name.now all (omega arith) greater a b;
    }

pub returns-in-Equal-clause-found : goal.returns-in-Equal-clause-found
returns-in-Equal-clause-found c =
    let low = c.loop-first.invariant.low_end in
    let high = c.loop-first.invariant.high_end in
    let test = c.loop-first-test.true in (
      omega arith,
      omega arith,
      sym c.name_at.ensures ∙ text_from_equal c.name_at.result.now c.args.name.now (sym c.cmp.ensures ∙ c.in-Equal.is),
    )

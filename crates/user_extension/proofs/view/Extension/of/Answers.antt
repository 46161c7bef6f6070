use Rattle.std.proofs.Common.{◌≡◌, true, false, ◌+◌, ◌/◌, ◌-◌, length, take, drop, ℕ, refl, ap, sym, subst, ◌∙◌, arith}
use Rattle.ti_layout.specs.Reading.{count_in}
use Rattle.ti_layout.proofs.Whole.{offsets_end}
use Rattle.user_extension.specs.Reading.{AreNames}
use Rattle.user_extension.specs.inside.Sections.{parts_cut}
use Rattle.user_extension.specs.inside.View.{RiseByKind}
use Rattle.user_extension.proofs.Whole.{bad_flag, counts, is_extension, leads, lengths_cut, names_of, tail_is}
use Rattle.user_extension.proofs.view.Extension.of.Goals as goal

pub returns-then-not-are_flags-clause-none : goal.returns-then-not-are_flags-clause-none
returns-then-not-are_flags-clause-none c = λ e. bad_flag c.args.format _ _ c.in_ok-sections.ensures.found _ _ refl refl e c.if-not-are_flags.ensures

pub returns-then-not-are_names-clause-none : goal.returns-then-not-are_names-clause-none
returns-then-not-are_names-clause-none c =
    let s = c.in_ok-sections.sections in
    let tail = tail_is s.table.now _ c.in_ok-size.size c.in_ok-size.ensures.size in
    λ e.
    let names = names_of c.args.format _ s c.in_ok-sections.ensures.found _ _ refl
    (ap (λ (n : ℕ). length s.flags.now + length s.numbers.now / n) c.width.ensures.value) e in
    let never : false ≡ true = c.if-not-are_names.ensures.1
    (subst (λ t. AreNames (length s.flags.now) (length s.flags.now + length s.numbers.now / c.width.result) s.names.now t) (sym tail) names) in
    absurd cc

pub invariant_of-result : goal.invariant_of-result
invariant_of-result c =
    let s = c.in_ok-sections.sections in
    let tail = tail_is s.table.now _ c.in_ok-size.size c.in_ok-size.ensures.size in
    let names = c.if-not-are_names.ensures.0 refl in
    let cut = c.in_ok-sections.ensures.found in
    let n = counts c.args.format _ (parts_cut s) (lengths_cut c.args.format _ s cut) in
    let third : length s.flags.now + length s.numbers.now / c.width.result ≡ length s.flags.now + count_in c.args.format s.numbers.now =
    ap (λ (n : ℕ). length s.flags.now + length s.numbers.now / n) c.width.ensures.value in
    record {
      ends = offsets_end _ _ c.in_ok-size.ensures.sound;
      rest = tail;
      lead = λ k lt. leads _ _ (names.ended k lt);
      user_defined = names.user_defined;
      rise = subst (λ (k : ℕ). RiseByKind (length s.flags.now) k s.names.now (take (length s.table.now - c.in_ok-size.size) (drop c.in_ok-size.size s.table.now)))
          third names.rise;
      few = omega (arith, n.names_are, cut.few_names);
      named = omega (arith, n.names_are, n.flags_are, n.numbers_are, n.values_are);
    }

pub returns-clause-found : goal.returns-clause-found
returns-clause-found c =
    let s = c.in_ok-sections.sections in
    let tail = tail_is s.table.now _ c.in_ok-size.size c.in_ok-size.ensures.size in
    is_extension c.args.format _ s c.in_ok-sections.ensures.found _ _ refl (ap (λ (n : ℕ). length s.flags.now + length s.numbers.now / n) c.width.ensures.value)
    c.if-not-are_flags.ensures c.if-not-are_numbers.ensures c.in_ok-size.ensures.sound
    (subst (λ t. AreNames (length s.flags.now) (length s.flags.now + length s.numbers.now / c.width.result) s.names.now t) tail
    (c.if-not-are_names.ensures.0 refl))

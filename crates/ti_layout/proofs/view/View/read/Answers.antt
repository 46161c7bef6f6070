use Rattle.std.proofs.Common.{ℕ, ◌-◌, ◌≤◌, arith, length, sym}
use Rattle.std.proofs.lemmas.List.{length-take-le}
use Rattle.ti_layout.proofs.Refusing.{refused_names, refused_flags, refused_numbers, refused_offsets}
use Rattle.ti_layout.proofs.Whole.{is_read, reads, few_strings, offsets_end}
use Rattle.ti_layout.proofs.view.View.read.Goals as goal

at_least_one : (n : ℕ) → 2 ≤ n → 1 ≤ n
at_least_one n two = omega arith

one_less : (n : ℕ) → n - 1 ≤ n
one_less n = omega arith

pub returns-clause-found : goal.returns-clause-found
returns-clause-found c =
    let cut = c.in_ok-sections.ensures.found in
    let h = cut.header in
    let s = c.in_ok-sections.sections in
    let r = is_read c.args.bytes.now s.format s.names.now s.flags.now s.numbers.now s.offsets.now s.strings.now (λ i. omega (arith, c.type_inv.bytes i))
    h.long h.known h.names_fit h.flags_fit h.numbers_fit h.texts_fit h.strings_fit cut.whole cut.format cut.names cut.flags cut.numbers cut.offsets cut.strings
    c.if-not-are_names.ensures c.if-not-are_flags.ensures c.if-not-are_numbers.ensures c.if-not-are_offsets.ensures in
    reads c.args.bytes.now s.format s.names.now s.flags.now s.numbers.now s.offsets.now s.strings.now r cut.format cut.names cut.flags cut.numbers
    cut.offsets cut.strings

pub returns-then-not-are_offsets-clause-refused : goal.returns-then-not-are_offsets-clause-refused
returns-then-not-are_offsets-clause-refused c =
    refused_offsets _ _ c.in_ok-sections.ensures.found c.if-not-are_names.ensures c.if-not-are_flags.ensures c.if-not-are_numbers.ensures
    c.if-not-are_offsets.ensures

pub returns-then-not-are_names-clause-refused : goal.returns-then-not-are_names-clause-refused
returns-then-not-are_names-clause-refused c = refused_names _ _ c.in_ok-sections.ensures.found c.if-not-are_names.ensures

pub returns-then-not-are_flags-clause-refused : goal.returns-then-not-are_flags-clause-refused
returns-then-not-are_flags-clause-refused c = refused_flags _ _ c.in_ok-sections.ensures.found c.if-not-are_names.ensures c.if-not-are_flags.ensures

pub returns-then-not-are_numbers-clause-refused : goal.returns-then-not-are_numbers-clause-refused
returns-then-not-are_numbers-clause-refused c =
    refused_numbers _ _ c.in_ok-sections.ensures.found c.if-not-are_names.ensures c.if-not-are_flags.ensures c.if-not-are_numbers.ensures

pub are_offsets-requires : goal.are_offsets-requires
are_offsets-requires c = let cut = c.in_ok-sections.ensures.found in few_strings c.args.bytes.now _ cut.header.strings_fit cut.strings

pub slice_bounds-result-count : goal.slice_bounds-result-count
slice_bounds-result-count c = let some = c.if-not-are_names.ensures.some in at_least_one _ some

pub slice_bounds-result-length : goal.slice_bounds-result-length
slice_bounds-result-length c =
    let names = c.in_ok-sections.sections.names.now in
    sym (length-take-le (length names - 1) names (one_less (length names)))

pub invariant_of-result : goal.invariant_of-result
invariant_of-result c =
    let cut = c.in_ok-sections.ensures.found in
    record {
      ends = offsets_end _ _ c.if-not-are_offsets.ensures;
      short = few_strings c.args.bytes.now _ cut.header.strings_fit cut.strings;
    }

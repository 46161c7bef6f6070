use Rattle.std.proofs.Common.{◌≡◌, ◌-◌, map, refl, take, ap, ◌∙◌, arith}
use Rattle.source_spans.specs.Faulty.{first_of}
use Rattle.source_spans.specs.Folding.{folded_of}
use Rattle.source_spans.specs.Parts.{field_of, names_of, part_of, spanned}
use Rattle.source_spans.specs.Subjects.{items_of, lookup_parts}
use Rattle.source_spans.proofs.faulty.FaultFinder.before_first.Goals as goal

pub returns : goal.returns
returns c =
    let text = c.in_ok-text.text.items in
    let is : text ≡ folded_of c.args.block.now = c.in_ok-text.ensures.computed in
    let all : c.field_len.result - 0 ≡ c.field_len.result = omega arith in
    let field : take (c.field_len.result - 0) text ≡ field_of text = rw all (rw c.deref-3.ensures.value at c.field_len.ensures.field) in
    let head : c.span_of.result ≡ spanned (field_of text) = c.span_of.ensures ∙ rw c.deref-4.ensures.value (ap spanned field) in
    let names : map (part_of text) c.in_ok-names.names.items ≡ lookup_parts (names_of (field_of text)) =
    rw c.deref.ensures.value at c.in_ok-names.ensures.parts in
    let items : map (part_of text) c.in_ok-items.items.items ≡ items_of text = rw c.deref-2.ensures.value at c.in_ok-items.ensures.items in
    let first : c.first_of.result ≡ first_of (lookup_parts (names_of (field_of text))) =
    c.first_of.ensures ∙ rw (c.deref-5.ensures.value, c.deref-6.ensures.value) (ap first_of names) in
    rw (head, first, names, items, c.requires.items, c.requires.faults, is) refl

use Rattle.std.proofs.Common.{List, sym, ap, subst, ◌∙◌}
use Rattle.ti_layout.specs.Laws.{without_cancel}
use Rattle.ti_layout.specs.Values.{Mention, contents}
use Rattle.ti_compiled.specs.inside.Changes.{IsLeft}
use Rattle.ti_compiled.specs.Image.{NamedTable, held_by}
use Rattle.ti_compiled.proofs.patching.changed_copy.Goals as goal

pub take_all_changed_away-requires-clause-held : goal.take_all_changed_away-requires-clause-held
take_all_changed_away-requires-clause-held c = λ d valid.
    ap (λ (i : NamedTable). held_by i d) c.in_ok-copy.ensures ∙ c.requires.held d valid
    ∙ ap (λ (es : List Mention). without_cancel (contents es d)) (sym c.entries.ensures.entries)

pub give_all_changed-requires-clause-left : goal.give_all_changed-requires-clause-left
give_all_changed-requires-clause-left c = λ d valid.
    let held = held_by c.take_all_changed_away.new.image d in
    subst (λ (es : List Mention). IsLeft (contents c.args.old.now d) (contents es d) held) (sym c.entries-2.ensures.entries)
    (subst (λ (es : List Mention). IsLeft (contents es d) (contents c.args.new.now d) held) c.entries.ensures.entries
    (c.in_ok-take_all_changed_away.ensures.left d valid))

pub returns-clause-names : goal.returns-clause-names
returns-clause-names c =
    c.in_ok-give_all_changed.ensures.names ∙ c.in_ok-take_all_changed_away.ensures.names ∙ ap (λ (i : NamedTable). i.names) c.in_ok-copy.ensures

pub returns-clause-narrow : goal.returns-clause-narrow
returns-clause-narrow c = (
  λ e. let t = c.if-has_wide_number.ensures.1 e in let f = c.if-has_wide_number.false in absurd cc,
  λ e. let t = c.if-has_wide_number-2.ensures.1 e in let f = c.if-has_wide_number-2.false in absurd cc,
)

pub returns-clause-contents : goal.returns-clause-contents
returns-clause-contents c =
    λ d valid. c.in_ok-give_all_changed.ensures.contents d valid ∙ ap (λ (es : List Mention). without_cancel (contents es d)) c.entries-2.ensures.entries

pub take_all_changed_away-requires-clause-sorted : goal.take_all_changed_away-requires-clause-sorted
take_all_changed_away-requires-clause-sorted c = c.entries.ensures.sorted

pub give_all_changed-requires-clause-sorted : goal.give_all_changed-requires-clause-sorted
give_all_changed-requires-clause-sorted c = c.entries-2.ensures.sorted

pub returns-in_err-copy-clause-narrow : goal.returns-in_err-copy-clause-narrow
returns-in_err-copy-clause-narrow c = rw c.from_residual.ensures tt

pub returns-in_err-copy-clause-names : goal.returns-in_err-copy-clause-names
returns-in_err-copy-clause-names c = rw c.from_residual.ensures tt

pub returns-in_err-copy-clause-contents : goal.returns-in_err-copy-clause-contents
returns-in_err-copy-clause-contents c = rw c.from_residual.ensures tt

pub returns-in_err-take_all_changed_away-clause-narrow : goal.returns-in_err-take_all_changed_away-clause-narrow
returns-in_err-take_all_changed_away-clause-narrow c = rw c.from_residual-in_err-take_all_changed_away.ensures tt

pub returns-in_err-take_all_changed_away-clause-names : goal.returns-in_err-take_all_changed_away-clause-names
returns-in_err-take_all_changed_away-clause-names c = rw c.from_residual-in_err-take_all_changed_away.ensures tt

pub returns-in_err-take_all_changed_away-clause-contents : goal.returns-in_err-take_all_changed_away-clause-contents
returns-in_err-take_all_changed_away-clause-contents c = rw c.from_residual-in_err-take_all_changed_away.ensures tt

pub returns-in_err-give_all_changed-clause-narrow : goal.returns-in_err-give_all_changed-clause-narrow
returns-in_err-give_all_changed-clause-narrow c = rw c.from_residual-in_err-give_all_changed.ensures tt

pub returns-in_err-give_all_changed-clause-names : goal.returns-in_err-give_all_changed-clause-names
returns-in_err-give_all_changed-clause-names c = rw c.from_residual-in_err-give_all_changed.ensures tt

pub returns-in_err-give_all_changed-clause-contents : goal.returns-in_err-give_all_changed-clause-contents
returns-in_err-give_all_changed-clause-contents c = rw c.from_residual-in_err-give_all_changed.ensures tt

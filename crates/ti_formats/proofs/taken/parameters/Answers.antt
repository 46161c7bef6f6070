use Rattle.std.proofs.Common.{◌≡◌, ap, sym, ◌∙◌, refl}
use Rattle.std.specs.Prelude.{Some, None, false, min, slice_index_or}
use Rattle.ti_text.specs.Limits.{parameters_max}
use Rattle.ti_formats.specs.Formats.{IsTree}
use Rattle.ti_formats.specs.Parameters.{named_in, is_string_in, popped_in}
use Rattle.ti_formats.specs.inside.Formats.{stuck_place, tree_of}
use Rattle.ti_formats.proofs.OneTree.{is_computed, reading_stop}
use Rattle.ti_formats.proofs.taken.parameters.Goals as goal

pub returns-in-Some-clause-none : goal.returns-in-Some-clause-none
returns-in-Some-clause-none c =
    let stuck : stuck_place c.args.format.now ≡ Some c.in-Some.field-0 =
    sym (reading_stop _ _ c.new-lexer.ensures.reading) ∙ sym c.add_all.ensures.stop ∙ sym c.in-Some.ensures.place in
    (λ none. (c.in-Some.field-0, ((is_computed c.args.format.now).stuck c.in-Some.field-0).1 stuck), λ any. refl)

whole : (c : goal.After-parameters) → stuck_place c.args.format.now ≡ None
whole c = sym (reading_stop _ _ c.new-lexer.ensures.reading) ∙ sym c.add_all.ensures.stop ∙ sym c.in-None.ensures.place

tree : (c : goal.After-parameters) → IsTree c.args.format.now (tree_of c.args.format.now)
tree c = ((is_computed c.args.format.now).tree (tree_of c.args.format.now)).1 (whole c, refl)

pub returns-in-None-clause-some : goal.returns-in-None-clause-some
returns-in-None-clause-some c =
    let read = (c.new-lexer.ensures.reading.whole _ (tree c)).1 in
    record {
      tree = tree_of c.args.format.now;
      is_tree = tree c;
      named = c.parameters.ensures.named ∙ c.add_all.ensures.named ∙ c.new-found.ensures.named _ ∙ ap named_in read;
      strings = λ i few.
          ap (λ xs. slice_index_or xs i false) c.parameters.ensures.strings ∙ c.add_all.ensures.strings i few ∙ c.new-found.ensures.strings i _
          ∙ ap (is_string_in i) read;
      popped = c.parameters.ensures.popped ∙ c.add_all.ensures.popped ∙ c.new-found.ensures.popped _ ∙ ap (λ ts. min (popped_in ts) parameters_max) read;
    }

pub returns-in-None-clause-none : goal.returns-in-None-clause-none
returns-in-None-clause-none c = (
  λ is. absurd (cc is),
  λ stuck. absurd (cc (sym (whole c) ∙ ((is_computed c.args.format.now).stuck stuck.0).0 stuck.1)),
)

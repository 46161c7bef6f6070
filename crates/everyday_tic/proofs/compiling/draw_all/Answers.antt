use Rattle.std.proofs.Common.{◌≡◌, ◌∙◌, Bool, List, ap, map, option_map, subst, sym}
use Rattle.std.proofs.lemmas.Result.{IfOk-weaker}
use Rattle.base_meaning.specs.Compiled.{EntryState}
use Rattle.everyday_graphics.specs.Entries.{AreWrittenStates}
use Rattle.everyday_tic.specs.Entries.{BecomeThese}
use Rattle.everyday_names.specs.Fields.{fields_seen}
use Rattle.everyday_sources.specs.Used.{problem_seen}
use Rattle.everyday_tic.specs.Outcomes.{asked_of, compilation, written_of}
use Rattle.everyday_tic.specs.inside.States.{others_seen, over, states_of}
use Rattle.everyday_tic.proofs.compiling.draw_all.Goals as goal

pub drawn_entries-requires-clause-states : goal.drawn_entries-requires-clause-states
drawn_entries-requires-clause-states c =
    let rule = c.args.database.now.rule in
    let texts = c.args.database.now.texts in
    let states = states_of rule texts (option_map (λ c. c.now) c.args.compiled) in
    subst (λ (u : Bool). BecomeThese rule u texts states) c.requires.kept c.requires.states

pub entries_with_characters-requires : goal.entries_with_characters-requires
entries_with_characters-requires c = record { as_many = c.requires.as_many }

pub written_entries-requires : goal.written_entries-requires
written_entries-requires c = record { as_many = c.requires.as_many }

pub returns : goal.returns
returns c =
    let rule = c.args.database.now.rule in
    let texts = c.args.database.now.texts in
    let draws = c.args.options.now.draws in
    let states = states_of rule texts (option_map (λ c. c.now) c.args.compiled) in
    let drawn = over states (others_seen c.in_ok-drawn.drawn.items) in
    let spelled = over states (others_seen c.in_ok-others.others.items) in
    let are : AreWrittenStates rule c.args.options.now.user_defined draws texts drawn =
    subst (λ (u : Bool). AreWrittenStates rule u draws texts drawn) (sym c.requires.kept) c.in_ok-drawn.ensures in
    let written : over states (others_seen c.deref.result.now) ≡ written_of (asked_of c.args.options.now) (fields_seen c.args.fields.now) spelled =
    ap (λ os. over states (others_seen os)) c.deref.ensures.value ∙ c.in_ok-written.ensures in
    IfOk-weaker c.outcome.result _ _
    (λ outcome is. (
      drawn,
      are,
      spelled,
      c.in_ok-others.ensures,
      is ∙ ap (λ (ss : List EntryState). compilation rule (asked_of c.args.options.now) c.args.file.now c.args.first_line texts c.args.count states ss
          (map problem_seen c.args.used.problems.items)) written,
    ))
    c.outcome.ensures

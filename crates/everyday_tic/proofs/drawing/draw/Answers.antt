use Rattle.std.proofs.Common.{Bool, ap, option_map, sym, subst, true, unwrap_or, ◌∙◌, refl}
use Rattle.std.specs.Option.{is_some}
use Rattle.std.proofs.lemmas.Result.{IfOk-weaker}
use Rattle.base_meaning.specs.Compiled.{compiled_by, written}
use Rattle.everyday_graphics.specs.Entries.{IsWrittenState}
use Rattle.everyday_tic.specs.Entries.{BecomeThese, entry_at}
use Rattle.everyday_tic.specs.inside.States.{states_of}
use Rattle.everyday_tic.proofs.Drawn.{compiled-there, has-written, put-there, undrawn, unwritten}
use Rattle.everyday_tic.proofs.Filing.{profile_entry}
use Rattle.everyday_tic.proofs.drawing.draw.Goals as goal

pub returns-then-not-draws : goal.returns-then-not-draws
returns-then-not-draws c text state stands becomes =
    let rule = c.args.database.now.rule in
    let texts = c.args.database.now.texts in
    let states = states_of rule texts (option_map (λ c. c.now) c.args.compiled) in
    let user = is_some c.args.compiled in
    subst (λ (d : Bool). IsWrittenState rule user d texts text state) (sym c.if-not-draws.true)
    (undrawn rule texts states c.args.at text state stands becomes user c.requires.states)

pub returns-in_default : goal.returns-in_default
returns-in_default c text state stands becomes =
    let rule = c.args.database.now.rule in
    let texts = c.args.database.now.texts in
    let states = states_of rule texts (option_map (λ c. c.now) c.args.compiled) in
    let user = is_some c.args.compiled in
    subst (λ (d : Bool). IsWrittenState rule user d texts text state) (sym c.if-not-draws.false)
    (unwritten rule texts states c.args.at text state stands becomes user c.requires.states (sym c.in_default.ensures))

pub drawn_entry-requires-clause-state : goal.drawn_entry-requires-clause-state
drawn_entry-requires-clause-state c text stands =
    let rule = c.args.database.now.rule in
    let texts = c.args.database.now.texts in
    let states = states_of rule texts (option_map (λ c. c.now) c.args.compiled) in
    compiled-there rule texts states c.args.at text c.in-Some.bytes.now
    (subst (λ (u : Bool). BecomeThese rule u texts states) (ap is_some c.in-Some-compiled.is) c.requires.states) stands (sym c.in-Some.ensures)

pub drawn_image-requires-clause-compiled : goal.drawn_image-requires-clause-compiled
drawn_image-requires-clause-compiled c =
    let rule = c.args.database.now.rule in
    let texts = c.args.database.now.texts in
    profile_entry c.plain_sources_are_as_in_the_profile.ensures rule texts c.args.at (compiled_by rule texts c.args.at) c.requires.within refl
    ∙ ap (λ x. entry_at (states_of rule texts (option_map (λ c. c.now) x)) c.args.at) (sym c.in-None.is) ∙ sym c.in-Some.ensures

pub returns-in-Some-compiled : goal.returns-in-Some-compiled
returns-in-Some-compiled c =
    let rule = c.args.database.now.rule in
    let texts = c.args.database.now.texts in
    let states = states_of rule texts (option_map (λ c. c.now) c.args.compiled) in
    let user = is_some c.args.compiled in
    let bytes = c.in-Some.bytes.now in
    IfOk-weaker c.drawn_entry.result _ _
    (λ other is text state stands becomes.
    let made = written (unwrap_or (option_map (λ v. v.items) other) bytes) in
    put-there (λ s. IsWrittenState rule user c.args.draws texts text s) state bytes (option_map (λ v. v.items) other)
    (has-written rule texts states c.args.at text state stands becomes bytes (sym c.in-Some.ensures))
    (subst (λ (u : Bool). IsWrittenState rule u c.args.draws texts text made) (sym (ap is_some c.in-Some-compiled.is))
    (subst (λ (d : Bool). IsWrittenState rule true d texts text made) (sym c.if-not-draws.false) (is text stands))))
    c.drawn_entry.ensures

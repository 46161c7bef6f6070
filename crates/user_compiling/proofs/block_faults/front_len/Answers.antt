use Rattle.std.proofs.Common.{◌∙◌, arith}
use Rattle.ti_source.specs.Parsing.{reading_of_text}
use Rattle.base_meaning.specs.Readings.{reading_by, readings_by}
use Rattle.base_meaning.specs.Compiled.{state_of}
use Rattle.base_meaning.specs.Faults.{fault_seen as profile_fault_seen, entry_faults}
use Rattle.user_compiling.specs.inside.Pairs.{front_faults}
use Rattle.user_compiling.proofs.SourceFaults.{in_two_by, front_but_one, front_taken}
use Rattle.user_compiling.proofs.block_faults.front_len.Goals as goal

pub returns-then-is_oversized-clause-front : goal.returns-then-is_oversized-clause-front
returns-then-is_oversized-clause-front c = λ text stands.
    let rule = c.args.database.now.rule in
    let blocks = readings_by rule c.args.database.now.texts in
    let block = reading_of_text text in
    let ruled = reading_by rule text in
    front_but_one profile_fault_seen c.args.profile.now (front_faults blocks c.args.at block) (entry_faults c.args.at block.names (state_of blocks ruled)) _
    (c.requires.profile text stands ∙ in_two_by rule blocks c.args.at text) (c.if-is_oversized.ensures text stands) (omega arith)

pub returns-else-is_oversized-clause-front : goal.returns-else-is_oversized-clause-front
returns-else-is_oversized-clause-front c = λ text stands.
    let rule = c.args.database.now.rule in
    let blocks = readings_by rule c.args.database.now.texts in
    let block = reading_of_text text in
    let ruled = reading_by rule text in
    front_taken profile_fault_seen c.args.profile.now (front_faults blocks c.args.at block) (entry_faults c.args.at block.names (state_of blocks ruled)) _
    (c.requires.profile text stands ∙ in_two_by rule blocks c.args.at text)
    (let none = c.if-is_oversized.ensures text stands in omega (arith, none))

use Rattle.std.proofs.Common.{◌≡◌, ◌∙◌, ◌<◌, Err, Some, ap, arith, length, map, slice_get, sym}
use Rattle.std.proofs.lemmas.List.{length-map}
use Rattle.std.proofs.lemmas.Option.{slice_get-get_or, slice_get-map}
use Rattle.std.proofs.lemmas.Slice.Zip.{AllZip-long}
use Rattle.std.specs.Option.{option_map}
use Rattle.user_values.specs.declared.fault.ValuesError.TheVariants.{TooManyNames}
use Rattle.user_compiling.specs.Entries.{IsStateOf, state_seen}
use Rattle.user_compiling.specs.declared.compiled.Compiled.{Compiled}
use Rattle.user_kept.proofs.Keeping.{zip_at}
use Rattle.user_kept.proofs.entry.state_among.Goals as goal

pub swap_remove-state-requires : goal.swap_remove-state-requires
swap_remove-state-requires c =
    let texts = c.args.database.now in
    let states = c.in-Ok.states.items in
    let n : length states ≡ length texts =
    sym (length-map states state_seen) ∙ AllZip-long (IsStateOf texts) texts (map state_seen states) c.in-Ok.ensures.states in
    omega (arith, n, c.requires, c.in-Ok.states.ok.0)

pub returns-in-Ok-clause-state : goal.returns-in-Ok-clause-state
returns-in-Ok-clause-state c = λ text stands.
    let texts = c.args.database.now in
    let states = c.in-Ok.states.items in
    let state = c.swap_remove-state.result in
    let n : length states ≡ length texts =
    sym (length-map states state_seen) ∙ AllZip-long (IsStateOf texts) texts (map state_seen states) c.in-Ok.ensures.states in
    let l : c.args.at < length states = omega (arith, n, c.requires) in
    let there : slice_get states c.args.at ≡ Some state =
    slice_get-get_or states c.args.at state l ∙ ap (λ (s : Compiled). Some s) (sym c.swap_remove-state.ensures.value) in
    zip_at (IsStateOf texts) texts (map state_seen states) c.args.at text (state_seen state) c.in-Ok.ensures.states stands
    (slice_get-map state_seen states c.args.at ∙ ap (option_map state_seen) there)

pub returns-in-Err-clause-too_many : goal.returns-in-Err-clause-too_many
returns-in-Err-clause-too_many c = λ at e.
    let same : c.in-Err.error ≡ TooManyNames at = cc in
    c.in-Err.ensures.too_many at (ap (λ x. Err x) same)
